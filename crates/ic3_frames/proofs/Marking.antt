-- Marks of a clause's literals, set one after the other.
use Rattle.std.proofs.Common.{◌≡◌, ◌≢◌, ◌∙◌, ℕ, Option, Some, None, IfSome, ◌+◌, ◌*◌, ◌/◌, ◌%◌, ◌^◌, ◌<◌, Bool, true, false, if◌then◌else◌, List, length, get_or, set, replicate, w64, bit_or, inl, inr, arith, refl, sym, ap, subst, ◌≤◌, All, Any}
use Rattle.std.specs.Int.{bit_at}
use Rattle.std.specs.Option.{is_some}
use Rattle.std.proofs.lemmas.Bool.{cases_eq, cases_lt, false≢true}
use Rattle.std.proofs.lemmas.List.{get_or-set_same, get_or-set_other, get_or-replicate, get_or_past, get_or_default, length-replicate}
use Rattle.std.proofs.lemmas.Nat.Bits.{bit_at_set_same, bit_at_set_other, bit_at-zero}
use Rattle.states.specs.declared.state_lit.StateLit.{StateLit}
use Rattle.std.proofs.lemmas.List.Elements.{All-contains, Contains-get_or}
use Rattle.states.specs.States.{Holds, IsPartOf}
use Rattle.ic3_frames.specs.declared.frames.Entry.{Entry}
use Rattle.ic3_frames.specs.Frames.{InFrame}
use Rattle.ic3_frames.specs.Marks.{mark_of, mark_at, IsMarked, AreMarks}

-- the word with one bit more
abbrev pub with_bit : List ℕ → ℕ → List ℕ
with_bit words p = set words (p / 64) (bit_or (get_or words (p / 64) 0) (1 * 2 ^ (p % 64) % 18446744073709551616))

pub bit_set : (words : List ℕ) (p : ℕ) → p / 64 < length words → mark_at (with_bit words p) p ≡ 1
bit_set words p inside =
    ap (λ x. bit_at x (p % 64)) (get_or-set_same words (p / 64) _ 0 inside) ∙ bit_at_set_same w64 (get_or words (p / 64) 0) (p % 64) (omega arith)

pub bit_other : (words : List ℕ) (p q : ℕ) → p / 64 < length words → q ≢ p → mark_at (with_bit words p) q ≡ mark_at words q
bit_other words p q inside differ = elim (cases_eq (q / 64) (p / 64)) [
  | inl same ↦
      ap (λ i. bit_at (get_or (with_bit words p) i 0) (q % 64)) same ∙ ap (λ x. bit_at x (q % 64)) (get_or-set_same words (p / 64) _ 0 inside)
      ∙ bit_at_set_other w64 (get_or words (p / 64) 0) (p % 64) (omega arith) (q % 64) (λ e. differ (omega (arith, e, same)))
      ∙ ap (λ i. bit_at (get_or words i 0) (q % 64)) (sym same)
  | inr other ↦ ap (λ x. bit_at x (q % 64)) (get_or-set_other words (p / 64) (q / 64) _ 0 other)
]

-- no bit is set yet
pub unmarked : (n p : ℕ) → mark_at (replicate n 0) p ≡ 0
unmarked n p = elim (cases_lt (p / 64) n) [
  | inl inside ↦ ap (λ x. bit_at x (p % 64)) (get_or-replicate n (p / 64) 0 0 inside) ∙ bit_at-zero (p % 64)
  | inr past ↦ ap (λ x. bit_at x (p % 64)) (get_or_past (replicate n 0) (p / 64) 0 (subst (λ m. m ≤ p / 64) (sym (length-replicate n 0)) past)) ∙ bit_at-zero (p % 64)
]

-- a place is of one literal
one_place : (m n : ℕ) (v w : Bool) → 2 * m + (if v then 1 else 0) ≡ 2 * n + (if w then 1 else 0) → (m ≡ n) × (v ≡ w)
one_place m n true true e = (omega (arith, e), refl)
one_place m n true false e = absurd (omega (arith, e))
one_place m n false true e = absurd (omega (arith, e))
one_place m n false false e = (omega (arith, e), refl)

pub one_literal : (a b : StateLit) → mark_of a ≡ mark_of b → a ≡ b
one_literal a b e =
    let h = one_place a.latch b.latch a.value b.value e in
    let first : a ≡ record { latch = b.latch; value = a.value } = ap (λ m. record { latch = m; value = a.value }) h.0 in
    first ∙ ap (λ v. record { latch = b.latch; value = v }) h.1

-- where a clause of marked literals alone holds, the marked one does
pub implied : (clause : List StateLit) (words : List ℕ) (entries : List Entry) (level : ℕ) → AreMarks clause words → Any (λ (e : Entry). (level ≤ e.level) × All (IsMarked words) e.clause) entries →
    (s : List Bool) → InFrame entries level s → Holds s clause
implied clause words entries level marks any s frame =
    let e : Entry = get_or entries any.0 any.1 in
    let h = subst (λ (x : Entry). (level ≤ x.level) × All (IsMarked words) x.clause) (sym any.3) any.4 in
    let holds : Holds s e.clause = frame any.0 any.1 any.2 h.0 in
    (holds.0, marks.only holds.0 (All-contains (IsMarked words) e.clause holds.0 h.1 holds.1), holds.2)

-- a clause that is part of the marked one has marked literals alone
pub part_marked : (clause part : List StateLit) (words : List ℕ) → AreMarks clause words → IsPartOf part clause → All (IsMarked words) part
part_marked clause part words marks within j a j_in = All-contains (IsMarked words) clause (get_or part j a) marks.each (within (get_or part j a) (Contains-get_or part j a j_in))

-- where no clause of the frame has marked literals alone, none is part of the marked one
pub not_implied : (clause : List StateLit) (words : List ℕ) (entries : List Entry) (level : ℕ) → AreMarks clause words → (Any (λ (e : Entry). (level ≤ e.level) × All (IsMarked words) e.clause) entries → ⊥) →
    All (λ (e : Entry). level ≤ e.level → IsPartOf e.clause clause → ⊥) entries
not_implied clause words entries level marks none k d k_in above part =
    let e : Entry = get_or entries k d in
    none (k, e, k_in, get_or_default entries k e d k_in, (above, part_marked clause e.clause words marks part))

-- a clause of marked literals alone is part of the marked one
pub marked_part : (clause part : List StateLit) (words : List ℕ) → AreMarks clause words → All (IsMarked words) part → IsPartOf part clause
marked_part clause part words marks marked = λ a has. marks.only a (All-contains (IsMarked words) part a marked has)

-- where the longest is of the first i entries with a property, the first of several; a clause of this many literals would be longer
pub record IsLongest (P : Entry → Type 0) (es : List Entry) (longest : Option ℕ) (least i : ℕ) : Type 0 where
  pub best : (d : Entry) → IfSome longest (λ p. (p < i) × P (get_or es p d))
  pub size : (d : Entry) → IfSome longest (λ p. least ≡ length (get_or es p d).clause + 1)
  pub none : longest ≡ None → least ≡ 0

-- each of them has fewer literals
abbrev pub AreShorter : (Entry → Type 0) → List Entry → ℕ → ℕ → Type 0
AreShorter P es least i = (k : ℕ) (d : Entry) → k < i → P (get_or es k d) → length (get_or es k d).clause < least

pub if_some_weaker : {T : Type 0} (P Q : T → Type 0) (o : Option T) → ((x : T) → P x → Q x) → IfSome o P → IfSome o Q
if_some_weaker P Q None weaker h = h
if_some_weaker P Q (Some x) weaker h = weaker x h

not_none : {T : Type 0} (x : T) → Some x ≡ None → ⊥
not_none x e = false≢true (sym (ap is_some e))

pub longest_more : (P : Entry → Type 0) (es : List Entry) (i : ℕ) (x : Entry) → i < length es → x ≡ get_or es i x → P x → IsLongest P es (Some i) (length x.clause + 1) (i + 1)
longest_more P es i x i_in at h =
    let here : (d : Entry) → x ≡ get_or es i d = λ d. at ∙ get_or_default es i x d i_in in
    record {
      best = λ d. (omega arith, subst P (here d) h);
      size = λ d. ap (λ (e : Entry). length e.clause + 1) (here d);
      none = λ e. absurd (not_none i e);
    }

pub shorter_more : (P : Entry → Type 0) (es : List Entry) (least i : ℕ) (x : Entry) → i < length es → x ≡ get_or es i x → least ≤ length x.clause → AreShorter P es least i →
    AreShorter P es (length x.clause + 1) (i + 1)
shorter_more P es least i x i_in at long h k d k_in p = elim (cases_lt k i) [
  | inl below ↦ let before = h k d below p in omega (arith, before, long)
  | inr past ↦
      let here : k ≡ i = omega arith in
      let size : length (get_or es k d).clause ≡ length x.clause = ap (λ n. length (get_or es n d).clause) here ∙ sym (ap (λ (e : Entry). length e.clause) (at ∙ get_or_default es i x d i_in)) in
      omega (arith, size)
]

pub longest_same : (P : Entry → Type 0) (es : List Entry) (longest : Option ℕ) (least i : ℕ) → IsLongest P es longest least i → IsLongest P es longest least (i + 1)
longest_same P es longest least i h = record {
  best = λ d. if_some_weaker (λ p. (p < i) × P (get_or es p d)) (λ p. (p < i + 1) × P (get_or es p d)) longest (λ p both. let below : p < i = both.0 in (omega (arith, below), both.1)) (h.best d);
  size = h.size;
  none = h.none;
}

pub shorter_same : (P : Entry → Type 0) (es : List Entry) (least i : ℕ) (x : Entry) → i < length es → x ≡ get_or es i x → (least ≤ length x.clause → P x → ⊥) → AreShorter P es least i →
    AreShorter P es least (i + 1)
shorter_same P es least i x i_in at other h k d k_in p = elim (cases_lt k i) [
  | inl below ↦ h k d below p
  | inr past ↦
      let here : k ≡ i = omega arith in
      let is : get_or es k d ≡ x = ap (λ n. get_or es n d) here ∙ sym (at ∙ get_or_default es i x d i_in) in
      elim (cases_lt (length (get_or es k d).clause) least) [
        | inl short ↦ short
        | inr long ↦ absurd (other (subst (λ (e : Entry). least ≤ length e.clause) is long) (subst P is p))
      ]
]
