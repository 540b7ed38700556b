-- The table of the latches' next literals.
use Rattle.std.proofs.Common.{◌≡◌, ◌≢◌, ℕ, zero, suc, ◌+◌, ◌<◌, List, [], ◌∷◌, ◌++◌, map, set, take, length, get_or, Contains, Option, None, Some, inl, inr, refl, sym, ◌∙◌, ap, subst, arith, get_or-set_same, get_or-set_other, get_or-take, length-take}
use Rattle.std.proofs.lemmas.Bool.{cases_eq, eq-eqb, ne_eqb}
use Rattle.std.proofs.lemmas.List.{take_more, get_or-map, length-map}
use Rattle.std.proofs.lemmas.List.Elements.{Contains-append_right, Contains-append_left, Contains-append_cases}
use Rattle.graph.specs.declared.circuit.Lit.{Lit}
use Rattle.graph.specs.declared.circuit.Latch.{Latch}
use Rattle.graph.specs.declared.parts.Parts.{Parts}
use Rattle.graph.specs.Circuits.{variable}
use Rattle.graph.specs.WellFormed.{IsWellFormed}
use Rattle.graph.proofs.Evaluation.{held, IsOnce, once-left, once-right}
use Rattle.graph.proofs.Gates.{apart_at, left}
use Rattle.cnf.specs.Clauses.{is_negated, along, next_of}
use Rattle.cnf.specs.Tables.{entry, along_or, IsTableOf}

abbrev pub blank_latch : Latch
blank_latch = record { lit = record { 0 = 0 }; next = record { 0 = 0 }; reset = record { 0 = 0 } }

-- one more latch at the end, of another variable or of the literal's
next_of-other : (ls : List Latch) (l : Latch) (a : Lit) → held l ≢ variable a → next_of (ls ++ l ∷ []) a ≡ next_of ls a
next_of-other [] l a apart = rw (ne_eqb (held l) (variable a) apart) refl
next_of-other (x ∷ ls) l a apart = elim (cases_eq (held x) (variable a)) [
  | inl same ↦ rw (eq-eqb (held x) (variable a) same) refl
  | inr other ↦ rw (ne_eqb (held x) (variable a) other) (next_of-other ls l a apart)
]

next_of-last : (ls : List Latch) (l : Latch) (a : Lit) → held l ≡ variable a → (Contains (map held ls) (variable a) → ⊥) → next_of (ls ++ l ∷ []) a ≡ along (is_negated a) l.next
next_of-last [] l a same none = rw (eq-eqb (held l) (variable a) same) refl
next_of-last (x ∷ ls) l a same none = elim (cases_eq (held x) (variable a)) [
  | inl here ↦ absurd (none (0, omega arith, here))
  | inr other ↦ rw (ne_eqb (held x) (variable a) other)
      (next_of-last ls l a same (λ found. none (Contains-append_right (held x ∷ []) (map held ls) (variable a) found)))
]

held-push : (ls : List Latch) (l : Latch) → map held (ls ++ l ∷ []) ≡ map held ls ++ held l ∷ []
held-push [] l = refl
held-push (x ∷ ls) l = ap (λ vs. held x ∷ vs) (held-push ls l)

only_one : (u v : ℕ) → Contains (u ∷ []) v → u ≢ v → ⊥
only_one u v (zero, lt, at) apart = apart at
only_one u v (suc k, lt, at) apart = omega arith

tabled_push : (ls : List Latch) (l : Latch) (t : List (Option Lit)) → (Contains (map held ls) (held l) → ⊥) → held l < length t → IsTableOf ls t →
    IsTableOf (ls ++ l ∷ []) (set t (held l) (Some l.next))
tabled_push ls l t none inside h = record {
  nexts = λ a. elim (cases_eq (held l) (variable a)) [
    | inl same ↦
        let at : entry (set t (held l) (Some l.next)) (variable a) ≡ Some l.next = ap (entry (set t (held l) (Some l.next))) (sym same) ∙ get_or-set_same t (held l) (Some l.next) None inside in
        ap (λ e. along_or e a) at ∙ sym (next_of-last ls l a same (λ found. none (subst (Contains (map held ls)) (sym same) found)))
    | inr apart ↦
        ap (λ e. along_or e a) (get_or-set_other t (held l) (variable a) (Some l.next) None (λ e. apart (sym e))) ∙ h.nexts a ∙ sym (next_of-other ls l a apart)
  ];
  latches = λ v. elim (cases_eq (held l) v) [
    | inl same ↦
        let at : entry (set t (held l) (Some l.next)) v ≡ Some l.next = ap (entry (set t (held l) (Some l.next))) (sym same) ∙ get_or-set_same t (held l) (Some l.next) None inside in
        let last : Contains (map held (ls ++ l ∷ [])) v = rw (held-push ls l) (Contains-append_right (map held ls) (held l ∷ []) v (0, omega arith, same)) in
        rw at (λ _. last, λ _. refl)
    | inr apart ↦
        rw (get_or-set_other t (held l) v (Some l.next) None (λ e. apart (sym e)), held-push ls l) (
          λ marked. Contains-append_left (map held ls) (held l ∷ []) v ((h.latches v).0 marked),
          λ found. (h.latches v).1 (elim (Contains-append_cases (map held ls) (held l ∷ []) v found) [
            | inl earlier ↦ earlier
            | inr last ↦ absurd (only_one (held l) v last apart)
          ]),
        )
  ];
}

-- no earlier latch has the variable
before_other : (ls : List Latch) (i : ℕ) (d : Latch) → IsOnce (map held ls) → i < length ls → Contains (map held (take i ls)) (held (get_or ls i d)) → ⊥
before_other ls i d once i_in found =
    let k_in : found.0 < length (take i ls) = omega (arith, found.1, length-map (take i ls) held) in
    let k_i : found.0 < i = omega (arith, k_in, length-take i ls) in
    let same : held (get_or ls found.0 d) ≡ held (get_or ls i d) =
    ap held (sym (get_or-take i ls found.0 d k_i)) ∙ sym (get_or-map held (take i ls) found.0 d (held (get_or ls i d)) k_in) ∙ found.2 in
    apart_at held ls found.0 i d once (omega arith) i_in (λ e. omega arith) same

pub latches_once : (m : Parts) → IsWellFormed m → IsOnce (map held m.latches)
latches_once m well =
    once-right (map variable m.inputs) (map held m.latches) (once-left (map variable m.inputs ++ map held m.latches) (map left m.gates) well.defined_once)

pub tabled_more : (ls : List Latch) (i : ℕ) (d : Latch) (t : List (Option Lit)) → IsOnce (map held ls) → i < length ls → held (get_or ls i d) < length t →
    IsTableOf (take i ls) t → IsTableOf (take (i + 1) ls) (set t (held (get_or ls i d)) (Some (get_or ls i d).next))
tabled_more ls i d t once i_in inside h =
    rw (take_more ls i d i_in) (tabled_push (take i ls) (get_or ls i d) t (before_other ls i d once i_in) inside h)

pub tabled_none : (t : List (Option Lit)) → ((v : ℕ) → entry t v ≡ None) → IsTableOf [] t
tabled_none t none = record {
  nexts = λ a. ap (λ e. along_or e a) (none (variable a));
  latches = λ v. rw (none v) (λ wrong. (cc), λ found. absurd (omega (arith, found.1)));
}
