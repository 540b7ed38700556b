-- Those that were added are among all.
use Rattle.std.proofs.Common.{◌≤◌, List, [], ◌∷◌, length, arith, ℤ, ℕ, suc}
use Rattle.cdcl_kernel.specs.Kept.{Kept, added, added_if}
use Rattle.cdcl_kernel.specs.declared.origin.Origin.{Origin}
use Rattle.cdcl_kernel.specs.declared.origin.Origin.TheVariants.{Added, Learned, Removed}

length-added_if : (o : Origin) (c : List ℤ) (cs : List (List ℤ)) (n : ℕ) → length cs ≤ n → length (added_if o c cs) ≤ suc n
length-added_if Added c cs n h = omega arith
length-added_if Learned c cs n h = omega arith
length-added_if Removed c cs n h = omega arith

pub length-added : (ks : List Kept) → length (added ks) ≤ length ks
length-added [] = omega arith
length-added (k ∷ ks) = length-added_if k.origin k.clause (added ks) (length ks) (length-added ks)
