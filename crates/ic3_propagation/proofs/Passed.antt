-- Entries that cannot be propagated from a level, in front of a place.
use Rattle.std.proofs.Common.{◌⊎◌, ◌+◌, ◌<◌, ◌≤◌, ℕ, List, take, length, get_or, All, Contains, inl, inr, arith}
use Rattle.std.proofs.lemmas.List.Elements.{All-contains, All-contains_itself, All-more, All-weaker}
use Rattle.base.specs.Budget.{Steps}
use Rattle.graph.specs.declared.parts.Parts.{Parts}
use Rattle.ic3_frames.specs.declared.frames.Entry.{Entry}
use Rattle.ic3_propagation.specs.Answers.{CannotPropagate}

-- one entry more behind those that were in front
pub passed_one : (P : Entry → Type 0) (es fs : List Entry) (place next : ℕ) (d : Entry) → next < length fs → All (Contains (take place es)) (take next fs) → P (get_or fs next d) →
    All (λ e. Contains (take place es) e ⊎ P e) (take (next + 1) fs)
passed_one P es fs place next d next_in front here =
    let Q : Entry → Type 0 = λ e. Contains (take place es) e ⊎ P e in
    All-more Q fs next d next_in (All-weaker (Contains (take place es)) Q (λ e found. inl found) (take next fs) front) (inr here)

-- where nothing moved
pub passed_here : (P : Entry → Type 0) (es : List Entry) (place : ℕ) (d : Entry) → place < length es → P (get_or es place d) → All (λ e. Contains (take place es) e ⊎ P e) (take (place + 1) es)
passed_here P es place d place_in here = passed_one P es es place place d place_in (All-contains_itself (take place es)) here

-- an entry that cannot be propagated cannot be later
cannot_later : (m : Parts) (level : ℕ) (before after : Steps) (e : Entry) → after.left ≤ before.left → CannotPropagate m level before e → CannotPropagate m level after e
cannot_later m level before after e less h at = elim (h at) [
  | inl never ↦ inl never
  | inr spent ↦ inr (omega (arith, less, spent))
]

-- what was passed before, and what is now
pub passed_later : (m : Parts) (level : ℕ) (before after : Steps) (es fs : List Entry) → after.left ≤ before.left → All (CannotPropagate m level before) es →
    All (λ e. Contains es e ⊎ CannotPropagate m level after e) fs → All (CannotPropagate m level after) fs
passed_later m level before after es fs less old new k d k_in = elim (new k d k_in) [
  | inl found ↦ cannot_later m level before after (get_or fs k d) less (All-contains (CannotPropagate m level before) es (get_or fs k d) old found)
  | inr here ↦ here
]
