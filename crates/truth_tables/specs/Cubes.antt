-- Cubes: conjunctions of some of four inputs, each as it is or denied. Covers are lists of them (sums of products).
use Rattle.std.specs.Prelude.{◌≡◌, ℕ, ◌&&◌, Bool, true, false, not, IsTrue, List, [], ◌∷◌, if◌then◌else◌}
use Rattle.truth_tables.specs.declared.cube.Side.{Side}
use Rattle.truth_tables.specs.declared.cube.Side.TheVariants.{Free, True, False}
use Rattle.truth_tables.specs.declared.cube.Cube.{Cube}
use Rattle.truth_tables.specs.Tables.{row, value}

-- whether the input is as the cube wants it
unfoldable pub holds : Side → Bool → Bool
holds Free b = true
holds True b = b
holds False b = not b

-- whether the inputs are in the cube
unfoldable pub is_in : Cube → Bool → Bool → Bool → Bool → Bool
is_in k a b c d = holds k.first a && (holds k.second b && (holds k.third c && holds k.fourth d))

-- whether the inputs are in one of the cubes
unfoldable pub in_some : List Cube → Bool → Bool → Bool → Bool → Bool
in_some [] a b c d = false
in_some (k ∷ ks) a b c d = if is_in k a b c d then true else in_some ks a b c d

-- the function is true exactly where one of the cubes holds
abbrev pub IsCover : ℕ → List Cube → Type 0
IsCover t cubes = (a b c d : Bool) → value t a b c d ≡ in_some cubes a b c d

-- the function is true wherever the cube holds
abbrev pub IsInside : Cube → ℕ → Type 0
IsInside k t = (a b c d : Bool) → IsTrue (is_in k a b c d) → IsTrue (value t a b c d)

-- the second cube holds wherever the first does
abbrev pub IsPart : Cube → Cube → Type 0
IsPart k l = (a b c d : Bool) → IsTrue (is_in k a b c d) → IsTrue (is_in l a b c d)

-- the cube holds at the row
abbrev pub HoldsInRow : ℕ → Cube → Type 0
HoldsInRow r k = (a b c d : Bool) → row a b c d ≡ r → IsTrue (is_in k a b c d)

-- the function is true at the row
abbrev pub IsTrueInRow : ℕ → ℕ → Type 0
IsTrueInRow r t = (a b c d : Bool) → row a b c d ≡ r → IsTrue (value t a b c d)

-- some cubes of a function, and the rows that they cover
abbrev pub IsPartly : ℕ → ℕ → List Cube → Type 0
IsPartly t covered cubes = record {
  same : (a b c d : Bool) → value covered a b c d ≡ in_some cubes a b c d;
  inside : (a b c d : Bool) → IsTrue (value covered a b c d) → IsTrue (value t a b c d);
}
