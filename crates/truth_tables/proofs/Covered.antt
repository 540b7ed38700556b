-- Covers: what holds where one of the cubes holds, and cubes by their sides.
use Rattle.std.proofs.Common.{◌∙◌, ℕ, zero, suc, ◌<◌, Bool, true, false, ◌&&◌, if◌then◌else◌, IsTrue, List, [], ◌∷◌, length, get_or, All, arith, refl, sym}
use Rattle.truth_tables.specs.declared.cube.Cube.{Cube}
use Rattle.truth_tables.specs.Tables.{value}
use Rattle.truth_tables.specs.Cubes.{holds, is_in, in_some, IsCover}
use Rattle.truth_tables.proofs.Cubed.{left_of, right_of, both_of}

-- a cube holds where each input is as it wants it
pub sides_hold : (k : Cube) (a b c d : Bool) → IsTrue (is_in k a b c d) → IsTrue (holds k.first a) × IsTrue (holds k.second b) × IsTrue (holds k.third c) × IsTrue (holds k.fourth d)
unfolding is_in
sides_hold k a b c d h =
    let tail = right_of (holds k.first a) (holds k.second b && (holds k.third c && holds k.fourth d)) h in
    let end = right_of (holds k.second b) (holds k.third c && holds k.fourth d) tail in (
      left_of (holds k.first a) (holds k.second b && (holds k.third c && holds k.fourth d)) h,
      left_of (holds k.second b) (holds k.third c && holds k.fourth d) tail,
      left_of (holds k.third c) (holds k.fourth d) end,
      right_of (holds k.third c) (holds k.fourth d) end,
    )

pub holds_by_sides : (k : Cube) (a b c d : Bool) → IsTrue (holds k.first a) → IsTrue (holds k.second b) → IsTrue (holds k.third c) → IsTrue (holds k.fourth d) → IsTrue (is_in k a b c d)
unfolding is_in
holds_by_sides k a b c d first second third fourth =
    both_of (holds k.first a) (holds k.second b && (holds k.third c && holds k.fourth d)) first
    (both_of (holds k.second b) (holds k.third c && holds k.fourth d) second
    (both_of (holds k.third c) (holds k.fourth d) third fourth))

or_right : (x y : Bool) → IsTrue y → IsTrue (if x then true else y)
or_right true y h = refl
or_right false y h = h

by_first : (P : Type 0) (x y : Bool) → (IsTrue x → P) → (IsTrue y → P) → IsTrue (if x then true else y) → P
by_first P true y first rest h = first refl
by_first P false y first rest h = rest h

-- one of the cubes holds where this one does
pub in_some_at : (ks : List Cube) (i : ℕ) (k : Cube) → i < length ks → (a b c d : Bool) → IsTrue (is_in (get_or ks i k) a b c d) → IsTrue (in_some ks a b c d)
unfolding in_some
in_some_at [] i k i_in a b c d h = absurd (omega (arith, i_in))
in_some_at (j ∷ ks) zero k i_in a b c d h = rw h refl
in_some_at (j ∷ ks) (suc i) k i_in a b c d h = or_right (is_in j a b c d) (in_some ks a b c d) (in_some_at ks i k (omega (arith, i_in)) a b c d h)

-- what each of the cubes leads to holds where one of them does
pub in_some_leads : (P : Type 0) (ks : List Cube) (a b c d : Bool) → All (λ k. IsTrue (is_in k a b c d) → P) ks → IsTrue (in_some ks a b c d) → P
unfolding in_some
in_some_leads P [] a b c d each h = absurd cc
in_some_leads P (k ∷ ks) a b c d each h =
    by_first P (is_in k a b c d) (in_some ks a b c d) (each 0 k (omega arith)) (in_some_leads P ks a b c d (λ i e i_in. each (suc i) e (omega (arith, i_in)))) h

-- the same of a function and its cover
pub cover_at : (t : ℕ) (ks : List Cube) → IsCover t ks → (i : ℕ) (k : Cube) → i < length ks → (a b c d : Bool) → IsTrue (is_in (get_or ks i k) a b c d) → IsTrue (value t a b c d)
cover_at t ks cover i k i_in a b c d h = cover a b c d ∙ in_some_at ks i k i_in a b c d h

pub cover_leads : (P : Type 0) (t : ℕ) (ks : List Cube) → IsCover t ks → (a b c d : Bool) → All (λ k. IsTrue (is_in k a b c d) → P) ks → IsTrue (value t a b c d) → P
cover_leads P t ks cover a b c d each h = in_some_leads P ks a b c d each (sym (cover a b c d) ∙ h)
