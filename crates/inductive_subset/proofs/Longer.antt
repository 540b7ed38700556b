-- Lists of places that grow at their end.
use Rattle.std.proofs.Common.{◌≡◌, ℕ, List, [], ◌∷◌, ◌++◌, length-append, refl, sym, ◌∙◌, subst, arith}
use Rattle.std.proofs.Math.ListN.{get_or-append}
use Rattle.inductive_subset.specs.Guards.{IsLonger}

pub longer_same : (xs : List ℕ) → IsLonger xs xs
longer_same xs = record { more = omega arith; same = λ k k_in. refl }

pub longer_then : (xs ys zs : List ℕ) → IsLonger xs ys → IsLonger ys zs → IsLonger xs zs
longer_then xs ys zs a b =
    let first = a.more in
    let second = b.more in
    record { more = omega (arith, first, second); same = λ k k_in. b.same k (omega (arith, k_in, first)) ∙ a.same k k_in }

pub longer_pushed : (xs ys : List ℕ) (x : ℕ) → ys ≡ xs ++ x ∷ [] → IsLonger xs ys
longer_pushed xs ys x made = subst (IsLonger xs) (sym made) (record {
  more = omega (arith, length-append xs (x ∷ []));
  same = λ k k_in. get_or-append xs (x ∷ []) 0 k k_in;
})
