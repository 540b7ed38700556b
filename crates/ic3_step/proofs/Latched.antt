-- Literals of clauses for latches, and clauses under guards.
use Rattle.std.proofs.Common.{◌≡◌, ◌≢◌, ℕ, zero, suc, ◌+◌, ◌<◌, Bool, true, false, not, if◌then◌else◌, inl, inr, List, [], ◌∷◌, map, length, get_or, Contains, ℤ, pos, neg_ℤ, refl, sym, ◌∙◌, ap, subst, arith}
use Rattle.std.proofs.lemmas.Bool.{cases_lt, false≢true}
use Rattle.std.proofs.lemmas.List.{get_or-map, get_or_past, length-map}
use Rattle.std.proofs.lemmas.List.Elements.{Contains-get_or, Contains-append_right, Contains-append_cases}
use Rattle.graph.specs.declared.circuit.Lit.{Lit}
use Rattle.graph.specs.declared.circuit.Latch.{Latch}
use Rattle.graph.specs.declared.parts.Parts.{Parts}
use Rattle.graph.specs.Circuits.{place, value_of, state_of}
use Rattle.lrat.specs.Literals.{is_true, IsSatisfied}
use Rattle.cnf.specs.Clauses.{literal, denial}
use Rattle.cnf.proofs.Formed.{IsKnown, latches_known}
use Rattle.states.specs.declared.state_lit.StateLit.{StateLit}
use Rattle.states.specs.States.{latch_at, IsSet, Holds}
use Rattle.ic3_step.specs.States.{Guarded}
use Rattle.ic3_step.specs.Contents.{guard_literal, latch_literal, state_literal, guarded_clause}
use Rattle.states.proofs.Valued.{pos_true}
use Rattle.states.proofs.Defaults.{no_latch, no_lit, no_state_lit}

-- a latch's literal, at any position
pub latch_literal_known : (m : Parts) (i : ℕ) → IsKnown m (latch_literal m i)
latch_literal_known m i = elim (cases_lt i (length m.latches)) [
  | inl inside ↦ subst (IsKnown m) (sym (get_or-map (λ (l : Latch). l.lit) m.latches i no_latch no_lit inside)) (latches_known m i no_latch inside)
  | inr past ↦ subst (IsKnown m) (sym (get_or_past (map (λ (l : Latch). l.lit) m.latches) i no_lit (omega (arith, past, length-map m.latches (λ (l : Latch). l.lit))))) (inl refl)
]

pub value_latch : (m : Parts) (w : List Bool) (i : ℕ) → place w 0 ≡ false → value_of w (latch_literal m i) ≡ latch_at (state_of m w) i
value_latch m w i constant = elim (cases_lt i (length m.latches)) [
  | inl inside ↦
      ap (value_of w) (get_or-map (λ (l : Latch). l.lit) m.latches i no_latch no_lit inside)
      ∙ sym (get_or-map (λ (l : Latch). value_of w l.lit) m.latches i no_latch false inside)
  | inr past ↦
      ap (value_of w) (get_or_past (map (λ (l : Latch). l.lit) m.latches) i no_lit (omega (arith, past, length-map m.latches (λ (l : Latch). l.lit))))
      ∙ constant ∙ sym (get_or_past (state_of m w) i false (omega (arith, past, length-map m.latches (λ (l : Latch). value_of w l.lit))))
]

-- the assignment has the values of a state
pub record HasState (m : Parts) (v : ℕ → Bool) (s : List Bool) : Type 0 where
  pub on : (i : ℕ) → is_true v (literal m.max_var 0 (latch_literal m i)) ≡ latch_at s i
  pub off : (i : ℕ) → is_true v (denial m.max_var 0 (latch_literal m i)) ≡ not (latch_at s i)

chosen_set : (v : ℕ → Bool) (k l : ℤ) (x b : Bool) → is_true v k ≡ x → is_true v l ≡ not x → is_true v (if b then k else l) ≡ true → x ≡ b
chosen_set v k l x true on off e = sym on ∙ e
chosen_set v k l true false on off e = sym (sym off ∙ e)
chosen_set v k l false false on off e = refl

set_chosen : (v : ℕ → Bool) (k l : ℤ) (x b : Bool) → is_true v k ≡ x → is_true v l ≡ not x → x ≡ b → is_true v (if b then k else l) ≡ true
set_chosen v k l x true on off e = on ∙ e
set_chosen v k l true false on off e = absurd (false≢true (sym e))
set_chosen v k l false false on off e = off

pub literal_set : (m : Parts) (v : ℕ → Bool) (s : List Bool) (a : StateLit) → HasState m v s → is_true v (state_literal m a) ≡ true → IsSet s a
literal_set m v s a has e =
    chosen_set v (literal m.max_var 0 (latch_literal m a.latch)) (denial m.max_var 0 (latch_literal m a.latch)) (latch_at s a.latch) a.value (has.on a.latch) (has.off a.latch) e

pub set_literal : (m : Parts) (v : ℕ → Bool) (s : List Bool) (a : StateLit) → HasState m v s → IsSet s a → is_true v (state_literal m a) ≡ true
set_literal m v s a has e =
    set_chosen v (literal m.max_var 0 (latch_literal m a.latch)) (denial m.max_var 0 (latch_literal m a.latch)) (latch_at s a.latch) a.value (has.on a.latch) (has.off a.latch) e

-- an element of a mapped list comes from one of the list
pub from_map : {X Y : Type 0} (f : X → Y) (xs : List X) (d : X) (y : Y) → Contains (map f xs) y → (x : X) × Contains xs x × (f x ≡ y)
from_map f xs d y h =
    let k_in : h.0 < length xs = omega (arith, h.1, length-map xs f) in
    (get_or xs h.0 d, Contains-get_or xs h.0 d k_in, sym (get_or-map f xs h.0 d y k_in) ∙ h.2)

pub to_map : {X Y : Type 0} (f : X → Y) (xs : List X) (x : X) → Contains xs x → Contains (map f xs) (f x)
to_map f xs x h = (h.0, omega (arith, h.1, length-map xs f), get_or-map f xs h.0 x (f x) h.1 ∙ ap f h.2)

-- a guard's literal and its negation
pub guard_true : (m : Parts) (v : ℕ → Bool) (g : ℕ) → is_true v (guard_literal m g) ≡ v (m.max_var + 2 + g)
guard_true m v g = pos_true v (m.max_var + 2 + g) (λ e. omega (arith, e))

negated_true : (v : ℕ → Bool) (k : ℕ) → k ≢ 0 → is_true v (neg_ℤ (pos k)) ≡ not (v k)
negated_true v zero ne = absurd (ne refl)
negated_true v (suc k) ne = refl

pub guard_false : (m : Parts) (v : ℕ → Bool) (g : ℕ) → is_true v (neg_ℤ (guard_literal m g)) ≡ not (v (m.max_var + 2 + g))
guard_false m v g = negated_true v (m.max_var + 2 + g) (λ e. omega (arith, e))

not_both : (b : Bool) → b ≡ true → not b ≡ true → ⊥
not_both true e f = false≢true f
not_both false e f = false≢true e

-- where the guard is true, so is the clause
pub clause_holds : (m : Parts) (v : ℕ → Bool) (s : List Bool) (g : Guarded) → HasState m v s → v (m.max_var + 2 + g.guard) ≡ true → IsSatisfied v (guarded_clause m g) → Holds s g.clause
clause_holds m v s g has on (l, found, set) = elim (Contains-append_cases (neg_ℤ (guard_literal m g.guard) ∷ []) (map (state_literal m) g.clause) l found) [
  | inl (k, lt, at) ↦
      let first : k ≡ 0 = omega (arith, lt) in
      let is : neg_ℤ (guard_literal m g.guard) ≡ l = rw first at at in
      absurd (not_both (v (m.max_var + 2 + g.guard)) on (sym (guard_false m v g.guard) ∙ ap (is_true v) is ∙ set))
  | inr later ↦
      let a = from_map (state_literal m) g.clause no_state_lit l later in
      (a.0, a.1, literal_set m v s a.0 has (ap (is_true v) a.2 ∙ set))
]

pub holds_clause : (m : Parts) (v : ℕ → Bool) (s : List Bool) (g : Guarded) → HasState m v s → Holds s g.clause → IsSatisfied v (guarded_clause m g)
holds_clause m v s g has (a, found, set) =
    (state_literal m a, Contains-append_right (neg_ℤ (guard_literal m g.guard) ∷ []) (map (state_literal m) g.clause) (state_literal m a) (to_map (state_literal m) g.clause a found), set_literal m v s a has set)

pub unguarded_clause : (m : Parts) (v : ℕ → Bool) (g : Guarded) → v (m.max_var + 2 + g.guard) ≡ false → IsSatisfied v (guarded_clause m g)
unguarded_clause m v g off = (neg_ℤ (guard_literal m g.guard), (0, omega arith, refl), guard_false m v g.guard ∙ ap not off)
