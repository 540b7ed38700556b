-- Tables of literals that have the same value.
use Rattle.std.proofs.Common.{◌≡◌, ◌∙◌, ℕ, zero, suc, ◌+◌, ◌-◌, ◌/◌, ◌%◌, ◌<◌, Bool, true, false, not, inl, inr, List, length, get_or, set, replicate, Option, None, Some, refl, sym, ap, subst, arith}
use Rattle.std.proofs.lemmas.Bool.{cases_eq, eq-eqb, ne_eqb}
use Rattle.std.proofs.lemmas.List.{get_or-set_same, get_or-set_other}
use Rattle.std.proofs.lemmas.Option.{same_Some, none-some}
use Rattle.graph.specs.declared.circuit.Lit.{Lit}
use Rattle.graph.specs.Circuits.{Valuation, variable, place, value_of}
use Rattle.cnf.specs.Clauses.{along, is_negated}
use Rattle.cnf.proofs.Values.{turned}
use Rattle.latch_map.specs.Equal.{entry, AreValues}

twice : (b : Bool) → b ≡ not (not b)
twice true = refl
twice false = refl

-- the value of a literal that is negated where another one is
pub value_along : (w : Valuation) (b : Bool) (a : Lit) → value_of w (along b a) ≡ turned b (value_of w a)
value_along w false a = refl
value_along w true a = elim (cases_eq (a.0 % 2) 1) [
  | inl odd ↦
      let half : (a.0 - 1) / 2 ≡ a.0 / 2 = omega arith in
      let even : (a.0 - 1) % 2 ≡ 0 = omega arith in
      rw (eq-eqb (a.0 % 2) 1 odd, even, half) (twice (place w (a.0 / 2)))
  | inr not_odd ↦
      let half : (a.0 + 1) / 2 ≡ a.0 / 2 = omega arith in
      let odd : (a.0 + 1) % 2 ≡ 1 = omega arith in
      rw (ne_eqb (a.0 % 2) 1 not_odd, odd, half) refl
]

abbrev no_lit : Option Lit
no_lit = None

none_there : (n v : ℕ) → entry (replicate n no_lit) v ≡ no_lit
none_there zero v = refl
none_there (suc n) zero = refl
none_there (suc n) (suc v) = none_there n v

-- nothing is noted yet
pub none_read : (w : Valuation) (n : ℕ) → AreValues w (replicate n None)
none_read w n v b is = absurd (none-some b (sym (none_there n v) ∙ is))

turned_twice : (b p : Bool) → turned b (turned b p) ≡ p
turned_twice true true = refl
turned_twice true false = refl
turned_twice false p = refl

-- a literal's variable has the value of what the literal is equal to, negated where the literal is
pub variable_is : (w : Valuation) (a b : Lit) → value_of w a ≡ value_of w b → place w (variable a) ≡ value_of w (along (is_negated a) b)
variable_is w a b e =
    sym (turned_twice (is_negated a) (place w (variable a))) ∙ ap (turned (is_negated a)) e ∙ sym (value_along w (is_negated a) b)

-- and the other way round
pub along_is : (w : Valuation) (a b : Lit) → place w (variable a) ≡ value_of w b → value_of w (along (is_negated a) b) ≡ value_of w a
along_is w a b e = value_along w (is_negated a) b ∙ ap (turned (is_negated a)) (sym e)

-- one entry more
pub set_read : (w : Valuation) (t : List (Option Lit)) (v : ℕ) (b : Lit) → v < length t → place w v ≡ value_of w b → AreValues w t → AreValues w (set t v (Some b))
set_read w t v b inside e reads u d is = elim (cases_eq u v) [
  | inl same ↦
      let at : Some b ≡ Some d = sym (get_or-set_same t v (Some b) None inside) ∙ ap (λ i. get_or (set t v (Some b)) i None) (sym same) ∙ is in
      ap (place w) same ∙ e ∙ ap (value_of w) (same_Some b d at)
  | inr other ↦ reads u d (sym (get_or-set_other t v u (Some b) None other) ∙ is)
]

-- where a literal leads to one that leads on
pub rooted : (t : List (Option Lit)) (x r b s : Lit) (v : ℕ) (o : Option Lit) → v ≡ variable r → o ≡ entry t v → o ≡ Some b → s ≡ along (is_negated r) b →
    ((w : Valuation) → AreValues w t → value_of w r ≡ value_of w x) → (w : Valuation) → AreValues w t → value_of w s ≡ value_of w x
rooted t x r b s v o at is there made before w reads =
    ap (value_of w) made ∙ along_is w r b (reads (variable r) b (ap (entry t) (sym at) ∙ sym is ∙ there)) ∙ before w reads

-- one root leads to the other
pub joined : (t u : List (Option Lit)) (x y p q : Lit) → ((w : Valuation) → AreValues w t → value_of w p ≡ value_of w x) → ((w : Valuation) → AreValues w t → value_of w q ≡ value_of w y) →
    ((w : Valuation) → value_of w q ≡ value_of w p → AreValues w t → AreValues w u) → (w : Valuation) → value_of w x ≡ value_of w y → AreValues w t → AreValues w u
joined t u x y p q first second lead w same reads = lead w (second w reads ∙ sym same ∙ sym (first w reads)) reads

pub joined_back : (t u : List (Option Lit)) (x y p q : Lit) → ((w : Valuation) → AreValues w t → value_of w p ≡ value_of w x) → ((w : Valuation) → AreValues w t → value_of w q ≡ value_of w y) →
    ((w : Valuation) → value_of w p ≡ value_of w q → AreValues w t → AreValues w u) → (w : Valuation) → value_of w x ≡ value_of w y → AreValues w t → AreValues w u
joined_back t u x y p q first second lead w same reads = lead w (first w reads ∙ same ∙ sym (second w reads)) reads

-- a root leads back to a latch
pub led : (t s u : List (Option Lit)) (r x : Lit) → ((w : Valuation) → AreValues w t → value_of w r ≡ value_of w x) → ((w : Valuation) → value_of w r ≡ value_of w x → AreValues w s → AreValues w u) →
    (w : Valuation) → AreValues w t → AreValues w s → AreValues w u
led t s u r x root lead w reads before = lead w (root w reads) before

pub led_more : (t p s u : List (Option Lit)) → ((w : Valuation) → AreValues w t → AreValues w p → AreValues w s) → ((w : Valuation) → AreValues w t → AreValues w s → AreValues w u) →
    (w : Valuation) → AreValues w t → AreValues w p → AreValues w u
led_more t p s u before more w reads start = more w reads (before w reads start)

-- all of them do
pub first_values : (t s u v : List (Option Lit)) (n : ℕ) → s ≡ replicate n None → v ≡ u → ((w : Valuation) → AreValues w t → AreValues w s → AreValues w u) → (w : Valuation) → AreValues w t → AreValues w v
first_values t s u v n none same led w reads = subst (AreValues w) (sym same) (led w reads (subst (AreValues w) (sym none) (none_read w n)))

-- what a latch is equal to
pub root_partner : (t s : List (Option Lit)) (x r : Lit) → ((w : Valuation) → AreValues w t → value_of w r ≡ value_of w x) → (w : Valuation) → AreValues w t → AreValues w s → value_of w x ≡ value_of w r
root_partner t s x r root w reads others = sym (root w reads)

pub other_partner : (t s : List (Option Lit)) (x r b c : Lit) (v : ℕ) (o : Option Lit) → v ≡ variable r → o ≡ entry s v → o ≡ Some b → c ≡ along (is_negated r) b →
    ((w : Valuation) → AreValues w t → value_of w r ≡ value_of w x) → (w : Valuation) → AreValues w t → AreValues w s → value_of w x ≡ value_of w c
other_partner t s x r b c v o at is there made root w reads others =
    sym (root w reads) ∙ sym (along_is w r b (others (variable r) b (ap (entry s) (sym at) ∙ sym is ∙ there))) ∙ ap (value_of w) (sym made)
