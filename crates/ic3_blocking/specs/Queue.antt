-- The queue of proof obligations, by their indices.
use Rattle.std.specs.Prelude.{◌≡◌, ℕ, ◌<◌, List, [], ◌∷◌, ◌++◌, map, length, slice_index_or, slice_set, Option, None, Some, All}
use Rattle.ic3_blocking.specs.declared.obligation_queue.ObligationQueue.{ObligationQueue}

-- each index is below the number of obligations
abbrev pub AreQueued : ℕ → ObligationQueue → Type 0
AreQueued count w = All (λ frame. All (λ i. i < count) frame.items) w.frames.items

-- the indices in each frame, the one that was added last at the end
abbrev pub queued_in : ObligationQueue → List (List ℕ)
queued_in w = map (λ frame. frame.items) w.frames.items

-- one more is in the frame, behind those that were there, and all else is as before
unfoldable pub IsEnqueued : List (List ℕ) → List (List ℕ) → ℕ → ℕ → Type 0
IsEnqueued before after level index = after ≡ slice_set before level (slice_index_or before level [] ++ index ∷ [])

-- the frames below this one have none
abbrev pub IsLowest : List (List ℕ) → ℕ → Type 0
IsLowest queued level = (k : ℕ) → k < level → slice_index_or queued k [] ≡ []

-- what is popped: of the lowest frame that has one the last, which is as if it had been added to the rest; nothing
-- only where the queue is empty
unfoldable pub IsPopped : List (List ℕ) → List (List ℕ) → Option (ℕ × ℕ) → Type 0
IsPopped before after None = All (λ frame. frame ≡ []) before × (after ≡ before)
IsPopped before after (Some (level, index)) = (level < length before) × IsLowest before level × IsEnqueued after before level index
