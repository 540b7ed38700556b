-- Cubes: their values by the inputs, the cube of a row, cubes inside of a function, and covers.
use Rattle.std.proofs.Common.{◌≡◌, ◌≢◌, ◌↔◌, ◌∙◌, ℕ, ◌/◌, ◌^◌, ◌<◌, Bool, true, false, not, ◌&&◌, if◌then◌else◌, IsTrue, List, [], ◌∷◌, ◌++◌, w16, arith, refl, sym, ap}
use Rattle.std.specs.Int.{bit_at, bit_not}
use Rattle.std.specs.Int.Bits.{bit_and}
use Rattle.std.proofs.lemmas.Nat.Bits.{bit_at-lt, shr_and_one}
use Rattle.truth_tables.specs.declared.cube.Side.{Side}
use Rattle.truth_tables.specs.declared.cube.Side.TheVariants.{Free, True, False}
use Rattle.truth_tables.specs.declared.cube.Cube.{Cube}
use Rattle.truth_tables.specs.Tables.{weight, row, value}
use Rattle.truth_tables.specs.Cubes.{holds, is_in, in_some, IsCover, IsInside, IsPart, HoldsInRow, IsPartly}
use Rattle.truth_tables.proofs.Tabled.{value_all, value_none, row_few, row_bits, row_by_bits, implies, implies_none}

pub holds_free : (s : Side) → s ≡ Free → (t : ℕ) → (a b c d : Bool) → value 65535 a b c d ≡ holds s (value t a b c d)
unfolding holds
holds_free s is t a b c d = value_all a b c d ∙ ap (λ (x : Side). holds x (value t a b c d)) (sym is)

pub holds_true : (s : Side) (t : ℕ) → s ≡ True → (a b c d : Bool) → value t a b c d ≡ holds s (value t a b c d)
unfolding holds
holds_true s t is a b c d = ap (λ (x : Side). holds x (value t a b c d)) (sym is)

pub holds_false : (s : Side) (t u : ℕ) → s ≡ False → ((a b c d : Bool) → value u a b c d ≡ not (value t a b c d)) → (a b c d : Bool) → value u a b c d ≡ holds s (value t a b c d)
unfolding holds
holds_false s t u is h a b c d = h a b c d ∙ ap (λ (x : Side). holds x (value t a b c d)) (sym is)

and_grouped : (x y z w : Bool) → ((x && y) && (z && w)) ≡ (x && (y && (z && w)))
and_grouped true y z w = refl
and_grouped false y z w = refl

pub is_in_by : (k : Cube) (a b c d : Bool) → ((holds k.first a && holds k.second b) && (holds k.third c && holds k.fourth d)) ≡ is_in k a b c d
unfolding is_in
is_in_by k a b c d = and_grouped (holds k.first a) (holds k.second b) (holds k.third c) (holds k.fourth d)

-- an input made free
free_second : (x y z : Bool) → IsTrue (x && (y && z)) → IsTrue (x && (true && z))
free_second true true z h = h
free_second true false z h = absurd cc
free_second false y z h = h

free_third : (x y z w : Bool) → IsTrue (x && (y && (z && w))) → IsTrue (x && (y && (true && w)))
free_third true y z w h = free_second y z w h
free_third false y z w h = h

free_fourth : (x y z w : Bool) → IsTrue (x && (y && (z && w))) → IsTrue (x && (y && (z && true)))
free_fourth true true true true h = refl
free_fourth true true true false h = absurd cc
free_fourth true true false w h = h
free_fourth true false z w h = h
free_fourth false y z w h = h

pub right_of : (x y : Bool) → IsTrue (x && y) → IsTrue y
right_of true y h = h
right_of false y h = absurd cc

pub left_of : (x y : Bool) → IsTrue (x && y) → IsTrue x
left_of true y h = refl
left_of false y h = absurd cc

pub both_of : (x y : Bool) → IsTrue x → IsTrue y → IsTrue (x && y)
both_of true y h k = k
both_of false y h k = absurd cc

pub part_first : (k : Cube) → IsPart k (record { first = Free; second = k.second; third = k.third; fourth = k.fourth })
unfolding is_in holds
part_first k a b c d = right_of (holds k.first a) (holds k.second b && (holds k.third c && holds k.fourth d))

pub part_second : (k : Cube) → IsPart k (record { first = k.first; second = Free; third = k.third; fourth = k.fourth })
unfolding is_in holds
part_second k a b c d = free_second (holds k.first a) (holds k.second b) (holds k.third c && holds k.fourth d)

pub part_third : (k : Cube) → IsPart k (record { first = k.first; second = k.second; third = Free; fourth = k.fourth })
unfolding is_in holds
part_third k a b c d = free_third (holds k.first a) (holds k.second b) (holds k.third c) (holds k.fourth d)

pub part_fourth : (k : Cube) → IsPart k (record { first = k.first; second = k.second; third = k.third; fourth = Free })
unfolding is_in holds
part_fourth k a b c d = free_fourth (holds k.first a) (holds k.second b) (holds k.third c) (holds k.fourth d)

-- the side of an input in the cube of a row
pub side_of_set : (r i : ℕ) → bit_and (r / 2 ^ i) 1 ≡ 1 → (b : Bool) → IsTrue (holds True b) ↔ (weight 1 b ≡ bit_at r i)
unfolding holds
side_of_set r i set true = (λ h. sym set ∙ shr_and_one r i, λ e. refl)
side_of_set r i set false = (λ h. absurd cc, λ e. absurd (let is = shr_and_one r i in omega (arith, e, set, is)))

pub side_of_clear : (r i : ℕ) → bit_and (r / 2 ^ i) 1 ≢ 1 → (b : Bool) → IsTrue (holds False b) ↔ (weight 1 b ≡ bit_at r i)
unfolding holds
side_of_clear r i clear true = (λ h. absurd cc, λ e. absurd (clear (shr_and_one r i ∙ sym e)))
side_of_clear r i clear false = (λ h. let is = shr_and_one r i in omega (arith, is, clear, bit_at-lt r i), λ e. refl)

-- the cube of one row
abbrev IsSideOf : ℕ → ℕ → Side → Type 0
IsSideOf r i s = (b : Bool) → IsTrue (holds s b) ↔ (weight 1 b ≡ bit_at r i)

pub holds_at_row : (r : ℕ) (s t u v : Side) → IsSideOf r 0 s → IsSideOf r 1 t → IsSideOf r 2 u → IsSideOf r 3 v → HoldsInRow r (record { first = s; second = t; third = u; fourth = v })
unfolding is_in
holds_at_row r s t u v hs ht hu hv a b c d at =
    let bits = row_bits a b c d in
    both_of (holds s a) (holds t b && (holds u c && holds v d)) ((hs a).1 (bits.0 ∙ ap (λ n. bit_at n 0) at))
    (both_of (holds t b) (holds u c && holds v d) ((ht b).1 (bits.1 ∙ ap (λ n. bit_at n 1) at))
    (both_of (holds u c) (holds v d) ((hu c).1 (bits.2 ∙ ap (λ n. bit_at n 2) at)) ((hv d).1 (bits.3 ∙ ap (λ n. bit_at n 3) at))))

pub only_at_row : (r : ℕ) → r < 16 → (s t u v : Side) → IsSideOf r 0 s → IsSideOf r 1 t → IsSideOf r 2 u → IsSideOf r 3 v →
    (a b c d : Bool) → IsTrue (is_in (record { first = s; second = t; third = u; fourth = v }) a b c d) → row a b c d ≡ r
unfolding is_in
only_at_row r few s t u v hs ht hu hv a b c d h =
    let tail = right_of (holds s a) (holds t b && (holds u c && holds v d)) h in
    let end = right_of (holds t b) (holds u c && holds v d) tail in
    row_by_bits r few a b c d
    ((hs a).0 (left_of (holds s a) (holds t b && (holds u c && holds v d)) h))
    ((ht b).0 (left_of (holds t b) (holds u c && holds v d) tail))
    ((hu c).0 (left_of (holds u c) (holds v d) end))
    ((hv d).0 (right_of (holds u c) (holds v d) end))

-- a cube that is inside of a function
pub inside_by : (k : Cube) (u t : ℕ) → t < 65536 → ((a b c d : Bool) → value u a b c d ≡ is_in k a b c d) → (bit_and u (bit_not w16 t) ≡ 0) ↔ IsInside k t
inside_by k u t fits of = (
  λ none a b c d h. implies u t fits none a b c d (of a b c d ∙ h),
  λ within. implies_none u t fits (λ a b c d h. within a b c d (sym (of a b c d) ∙ h)),
)

-- one cube more
or_none : (x : Bool) → (if x then true else false) ≡ x
or_none true = refl
or_none false = refl

or_grouped : (x y z : Bool) → (if x then true else (if y then true else z)) ≡ (if (if x then true else y) then true else z)
or_grouped true y z = refl
or_grouped false y z = refl

pub in_some_push : (ks : List Cube) (k : Cube) (a b c d : Bool) → in_some (ks ++ k ∷ []) a b c d ≡ (if in_some ks a b c d then true else is_in k a b c d)
unfolding in_some
in_some_push [] k a b c d = or_none (is_in k a b c d)
in_some_push (j ∷ ks) k a b c d = ap (λ x. if is_in j a b c d then true else x) (in_some_push ks k a b c d) ∙ or_grouped (is_in j a b c d) (in_some ks a b c d) (is_in k a b c d)

either_of : (x y z w : Bool) → w ≡ (if x then true else y) → (IsTrue x → IsTrue z) → (IsTrue y → IsTrue z) → IsTrue w → IsTrue z
either_of true y z w is left right h = left refl
either_of false y z w is left right h = right (sym is ∙ h)

pub partly_more : (t w v : ℕ) (ks : List Cube) (k : Cube) → IsPartly t w ks → IsInside k t → ((a b c d : Bool) → value v a b c d ≡ (if value w a b c d then true else is_in k a b c d)) → IsPartly t v (ks ++ k ∷ [])
partly_more t w v ks k partly within adds = record {
  same = λ a b c d. adds a b c d ∙ ap (λ x. if x then true else is_in k a b c d) (partly.same a b c d) ∙ sym (in_some_push ks k a b c d);
  inside = λ a b c d. either_of (value w a b c d) (is_in k a b c d) (value t a b c d) (value v a b c d) (adds a b c d) (partly.inside a b c d) (within a b c d);
}

pub partly_none : (t : ℕ) → IsPartly t 0 []
unfolding in_some
partly_none t = record {
  same = value_none;
  inside = λ a b c d h. absurd (let none = value_none a b c d in cc);
}

equal_by : (x y : Bool) → (IsTrue x → IsTrue y) → (IsTrue y → IsTrue x) → x ≡ y
equal_by true y h k = sym (h refl)
equal_by false true h k = k refl
equal_by false false h k = refl

-- where all rows are covered, it is a cover
pub cover_by : (t w : ℕ) (ks : List Cube) → IsPartly t w ks → ((a b c d : Bool) → row a b c d < 16 → IsTrue (value t a b c d) → IsTrue (value w a b c d)) → IsCover t ks
cover_by t w ks partly all = λ a b c d. equal_by (value t a b c d) (value w a b c d) (all a b c d (row_few a b c d)) (partly.inside a b c d) ∙ partly.same a b c d
