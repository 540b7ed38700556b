-- What is known of the times of a replay, to find the first lasso.
use Rattle.std.specs.Prelude.{◌≡◌, ℕ, ◌<◌, ◌≤◌, Bool, true, false, List, [], length, slice_index_or, Option, Some, Vec}
use Rattle.std.specs.BTreeMap.{BTreeMap, get_by}
use Rattle.std.specs.Cmp.Lexicographic.{slice_cmp}
use Rattle.std.specs.Ordering.{bool_cmp}
use Rattle.graph.specs.declared.circuit.Lit.{Lit}
use Rattle.graph.specs.Circuits.{Valuation, value_of}

-- the number of times after which the state was seen
abbrev pub passed_at : {Z : Type 0} → BTreeMap (Vec Bool Z) ℕ → List Bool → Option ℕ
passed_at seen state = get_by (λ key. slice_cmp bool_cmp state key.items) seen

-- each of these states was seen, and where it first stands among them
pub record HasSeen {Z : Type 0} (seen : BTreeMap (Vec Bool Z) ℕ) (states : List (List Bool)) : Type 0 where
  pub found : (state : List Bool) (first : ℕ) → passed_at seen state ≡ Some first → (first < length states) × (slice_index_or states first [] ≡ state)
  pub known : (k : ℕ) → k < length states → (first : ℕ) × (passed_at seen (slice_index_or states k []) ≡ Some first) × (first ≤ k)

-- the state first stands here among these
pub record IsFirstAt (states : List (List Bool)) (state : List Bool) (first : ℕ) : Type 0 where
  pub inside : first < length states
  pub here : slice_index_or states first [] ≡ state
  pub before : (k : ℕ) → k < first → slice_index_or states k [] ≡ state → ⊥

-- each wanted literal that the valuation sets has this number, and each other the number that it had
pub record Notes (wanted : List Lit) (w : Valuation) (passed : ℕ) (before after : List ℕ) : Type 0 where
  pub long : length after ≡ length before
  pub set : (k : ℕ) (d : Lit) → k < length wanted → value_of w (slice_index_or wanted k d) ≡ true → slice_index_or after k 0 ≡ passed
  pub others : (k : ℕ) (d : Lit) → k < length wanted → value_of w (slice_index_or wanted k d) ≡ false → slice_index_or after k 0 ≡ slice_index_or before k 0

-- each number is above this one
abbrev pub AreAbove : List ℕ → ℕ → Type 0
AreAbove last first = (k : ℕ) → k < length last → first < slice_index_or last k 0
