-- Which runs set literals.
use Rattle.std.proofs.Common.{◌≡◌, ◌↔◌, ℕ, ◌+◌, ◌<◌, Bool, true, false, ◌&&◌, List, get_or, refl, sym, subst, ◌∙◌, arith, below_more, length, Option, Some, None, IsSome, IfSome}
use Rattle.graph.specs.declared.circuit.Lit.{Lit}
use Rattle.graph.specs.Circuits.{Valuation, value_of}
use Rattle.simulate.specs.Lanes.{value_in, row_of}
use Rattle.simulate.specs.Wides.{WideReplayed, AllStep, valuation_of}
use Rattle.engine_random.specs.Batches.{Marks}

-- of these runs those are marked that set the first n literals
abbrev pub MarksUpTo : List Lit → List (List ℕ) → List ℕ → List ℕ → ℕ → Type 0
MarksUpTo lits values before after n = (r : ℕ) → r < 256 →
    (value_in after r ≡ true) ↔ ((value_in before r ≡ true) × ((k : ℕ) → k < n → (d : Lit) → value_of (row_of r values) (get_or lits k d) ≡ true))

both_true : (a b : Bool) → (a && b) ≡ true → (a ≡ true) × (b ≡ true)
both_true true true h = (refl, refl)
both_true true false h = absurd cc
both_true false b h = absurd cc

and_true : (a b : Bool) → a ≡ true → b ≡ true → (a && b) ≡ true
and_true a b h k = rw (h, k) refl

pub marks_more : (lits : List Lit) (values : List (List ℕ)) (before now after x : List ℕ) (n : ℕ) (a : Lit) →
    ((d : Lit) → a ≡ get_or lits n d) →
    ((r : ℕ) → r < 256 → value_in x r ≡ value_of (row_of r values) a) →
    ((r : ℕ) → r < 256 → value_in after r ≡ (value_in now r && value_in x r)) →
    MarksUpTo lits values before now n → MarksUpTo lits values before after (n + 1)
marks_more lits values before now after x n a is_a is_x is_after h r r_in = (
  λ on. let parts = both_true (value_in now r) (value_in x r) (sym (is_after r r_in) ∙ on) in
      let old = (h r r_in).0 parts.0 in
      (old.0, below_more (λ k. (d : Lit) → value_of (row_of r values) (get_or lits k d) ≡ true) n old.1 (λ d. rw (← is_a d) (sym (is_x r r_in) ∙ parts.1))),
  λ told. is_after r r_in ∙ and_true (value_in now r) (value_in x r) ((h r r_in).1 (told.0, λ k k_in. told.1 k (omega (arith, k_in))))
      (is_x r r_in ∙ rw (is_a a) (told.1 n (omega arith) a)),
)

pub marks_begin : (o : Option (List (List ℕ))) (lits : List Lit) (before : List ℕ) → IfSome o (λ v. MarksUpTo lits v before before 0)
marks_begin None lits before = tt
marks_begin (Some v) lits before = λ r r_in. (λ on. (on, λ k k_in d. absurd (omega (arith, k_in))), λ told. told.0)

pub marks_step : (o : Option (List (List ℕ))) (lits : List Lit) (before now after x : List ℕ) (n : ℕ) (a : Lit) → ((d : Lit) → a ≡ get_or lits n d) →
    IfSome o (λ v. (r : ℕ) → r < 256 → value_in x r ≡ value_of (row_of r v) a) →
    ((r : ℕ) → r < 256 → value_in after r ≡ (value_in now r && value_in x r)) →
    IfSome o (λ v. MarksUpTo lits v before now n) → IfSome o (λ v. MarksUpTo lits v before after (n + 1))
marks_step None lits before now after x n a is_a is_x is_after h = tt
marks_step (Some v) lits before now after x n a is_a is_x is_after h = marks_more lits v before now after x n a is_a is_x is_after h

pub marks_end : (o : Option (List (List ℕ))) (lits : List Lit) (before after : List ℕ) (n : ℕ) → n ≡ length lits →
    IfSome o (λ v. MarksUpTo lits v before after n) → IfSome o (λ v. Marks lits v before after)
marks_end None lits before after n is_n h = tt
marks_end (Some v) lits before after n is_n h = λ r r_in. (
  λ on. let t = (h r r_in).0 on in (t.0, λ k d k_in. t.1 k (omega (arith, k_in, is_n)) d),
  λ told. (h r r_in).1 (told.0, λ k k_in d. told.1 k d (omega (arith, k_in, is_n))),
)

some_of : (o : Option (List (List ℕ))) (w : Valuation) → valuation_of 0 o ≡ Some w → (v : List (List ℕ)) × (o ≡ Some v)
some_of None w e = absurd cc
some_of (Some v) w e = (v, refl)

-- after a step there are values
pub stepped_values : (before after : WideReplayed) (row : List (List ℕ)) → AllStep before after row → (v : List (List ℕ)) × (after.now ≡ Some v)
stepped_values before after row h = let s = h 0 (omega arith) in some_of after.now s.now s.is_now

pub if_some_at : {A : Type 0} (P : A → Type 0) (o : Option A) (v : A) → o ≡ Some v → IfSome o P → P v
if_some_at P o v e h = subst (λ q. IfSome q P) e h

pub some_is : (o : Option (List (List ℕ))) → IsSome o → (v : List (List ℕ)) × (o ≡ Some v)
some_is None h = absurd (let no : false ≡ true = h in cc no)
some_is (Some v) h = (v, refl)
