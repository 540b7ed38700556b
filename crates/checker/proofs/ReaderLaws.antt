-- What is said of whatever two readers gave is said of the bytes that they gave.
use Rattle.std.proofs.Common.{◌≡◌, ℕ, Bool, List, ◌++◌, Option, Result, Ok, Err, IfOk, IsTrue, sym, subst, ◌∙◌, ap, append-nil}
use Rattle.base.specs.Devices.{IsAtEnd, Reads, IsLeft}
use Rattle.base.specs.Left.{some_left}
use Rattle.graph.specs.declared.circuit.Property.{Property}
use Rattle.checker.specs.declared.run_error.RunError.{RunError}

-- at the end, what was to come is what was given since
given_since : (old new : List ℕ) (was is : Bool) (before after : Option (List ℕ)) (Q : List ℕ → Type 0) → IsAtEnd (IsLeft new is after) → Reads (IsLeft old was before) (IsLeft new is after) (λ xs _. Q xs) → (xs : List ℕ) × (new ≡ old ++ xs) × Q xs
given_since old new was is before after Q end reads =
    let (text, later, at) = some_left new is after in
    let (xs, left, q) = reads text later at in
    (xs, sym (append-nil new) ∙ ap (λ (w : List ℕ). new ++ w) (sym (end text later at)) ∙ sym at.0 ∙ left.0, q)

-- a yes is about what both gave
pub both_given : (a b c d : List ℕ) (was is were are : Bool) (e f g h : Option (List ℕ)) (Q : List ℕ → List ℕ → Type 0) (r : Result Bool RunError) → IfOk r (λ yes. IsTrue yes → IsAtEnd (IsLeft b is f) × IsAtEnd (IsLeft d are h)) →
    Reads (IsLeft a was e) (IsLeft b is f) (λ xs _. Reads (IsLeft c were g) (IsLeft d are h) (λ ys _. IfOk r (λ yes. IsTrue yes → Q xs ys))) → IfOk r (λ yes. IsTrue yes → (xs : List ℕ) × (ys : List ℕ) × (b ≡ a ++ xs) × (d ≡ c ++ ys) × Q xs ys)
both_given a b c d was is were are e f g h Q (Err x) ends reads = tt
both_given a b c d was is were are e f g h Q (Ok said) ends reads = λ holds.
    let (one, two) = ends holds in
    let (xs, first, rest) = given_since a b was is e f (λ xs. Reads (IsLeft c were g) (IsLeft d are h) (λ ys _. IsTrue said → Q xs ys)) one reads in
    let (ys, second, q) = given_since c d were are g h (λ ys. IsTrue said → Q xs ys) two rest in
    (xs, ys, first, second, q holds)

-- a fact about the property that is wanted, and about what two readers gave
abbrev pub OfBoth : (a b c d : List ℕ) (was is were are : Bool) (e f g h : Option (List ℕ)) → (List ℕ → List ℕ → Type 0) → Type 0
OfBoth a b c d was is were are e f g h Q = Reads (IsLeft a was e) (IsLeft b is f) (λ xs _. Reads (IsLeft c were g) (IsLeft d are h) (λ ys _. Q xs ys))

-- what is said where this is wanted is said of whatever equals it
pub wanted_so : (w v : Option Property) → w ≡ v → (a b c d : List ℕ) (was is were are : Bool) (e f g h : Option (List ℕ)) (Q : Option Property → List ℕ → List ℕ → Type 0) →
    OfBoth a b c d was is were are e f g h (Q v) → OfBoth a b c d was is were are e f g h (Q w)
wanted_so w v same a b c d was is were are e f g h Q of = subst (λ u. OfBoth a b c d was is were are e f g h (Q u)) (sym same) of
