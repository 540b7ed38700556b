-- What the search's queries are answered (Bradley 2011).
use Rattle.std.specs.Prelude.{◌≡◌, ◌≢◌, ℕ, ◌+◌, ◌<◌, ◌≤◌, ◌⊎◌, Bool, true, List, [], ◌∷◌, filter, length, map, slice_index_or, All, Any, Contains}
use Rattle.base.specs.Budget.{Steps}
use Rattle.graph.specs.declared.parts.Parts.{Parts}
use Rattle.graph.specs.Circuits.{Valuation, value_of, next_state}
use Rattle.cnf.specs.Formulas.{bad_literal}
use Rattle.engine.specs.Findings.{IsSo}
use Rattle.engine.specs.declared.finding.Finding.{Finding}
use Rattle.engine.specs.declared.finding.Finding.TheVariants.{Invariant, Run, Unknown}
use Rattle.engine.specs.declared.finding.Reason.TheVariants.{Budget, Depth, NoEvidence}
use Rattle.states.specs.declared.state_lit.StateLit.{StateLit}
use Rattle.ic3_step.specs.declared.step.Consecution.{Consecution}
use Rattle.ic3_step.specs.declared.step.Consecution.TheVariants.{Held, Broken, Spent}
use Rattle.states.specs.States.{Denies, Holds, IsPartOf, IsSet, IsTime}
use Rattle.ic3_step.specs.States.{IsAt}
use Rattle.ic3_step.specs.Steps.{denials_of}
use Rattle.ic3_frames.specs.declared.frames.Entry.{Entry}
use Rattle.ic3_frames.specs.Clauses.{IsResetLit}
use Rattle.ic3_frames.specs.Frames.{InFrame, IsFalseAfter, IsStateClause, HoldsInitially, HoldsAfter, HoldsToward, HoldsOnward, Excludes, AreFrames, Levels}
use Rattle.ic3_blocking.specs.declared.bad.AtBad.{AtBad}
use Rattle.ic3_blocking.specs.declared.bad.AtBad.TheVariants.{Set, Excluded, Spent}
use Rattle.ic3_blocking.specs.declared.blocking.Blocking.{Blocking}
use Rattle.ic3_blocking.specs.declared.blocking.Blocking.TheVariants.{Blocked, Initial, Predecessor, Spent}
use Rattle.ic3_blocking.specs.declared.obligation.Obligation.{Obligation}
use Rattle.ic3_blocking.specs.Cubes.{HasSuccessor, ReachBad}

-- some of the clause's literals, in their order
abbrev pub IsPicked : List StateLit → List StateLit → Type 0
IsPicked c clause = (p : StateLit → Bool) × (c ≡ filter p clause)

-- the clause may join the frames up to k + 1: it is over the latches, holds at first, and holds after each step from a
-- state of frame k in which it holds
pub record IsInductiveFrom (m : Parts) (entries : List Entry) (k : ℕ) (c : List StateLit) : Type 0 where
  pub clause : IsStateClause m c
  pub initial : HoldsInitially m c
  pub onward : HoldsOnward m entries k c

-- whether the clause holds after each step from frame k
abbrev pub IsAfter : Parts → List Entry → ℕ → List StateLit → Steps → Consecution → Type 0
IsAfter m entries k c after (Held part) = HoldsAfter m entries k c
IsAfter m entries k c after (Broken t) = (w : Valuation) × IsAt m (denials_of m.latches c) w t × Denies (next_state m w) c
IsAfter m entries k c after Spent = after.left ≡ 0

-- whether the clause holds after each step from a state of frame k in which it holds, and then, which part of it does
abbrev pub IsRelative : Parts → List Entry → ℕ → List StateLit → Steps → Consecution → Type 0
IsRelative m entries k c after (Held part) = IsPartOf part c × HoldsToward m entries k c part
IsRelative m entries k c after (Broken t) = (w : Valuation) × IsAt m (denials_of m.latches c) w t × Denies (next_state m w) c
IsRelative m entries k c after Spent = after.left ≡ 0

-- whether the clause is inductive from frame k, and then, which part of it is, no longer than itself
abbrev pub IsInductiveAnswer : Parts → List Entry → ℕ → List StateLit → Steps → Consecution → Type 0
IsInductiveAnswer m entries k c after (Held part) = IsInductiveFrom m entries k part × IsPartOf part c
IsInductiveAnswer m entries k c after (Broken t) = (w : Valuation) × IsAt m (denials_of m.latches c) w t × Denies (next_state m w) c
IsInductiveAnswer m entries k c after Spent = after.left ≡ 0

-- a literal of the clause is this latch's
abbrev pub HasLatch : List StateLit → ℕ → Type 0
HasLatch c i = Any (λ a. a.latch ≡ i) c

-- without this latch the clause is not inductive: none of its other literals is a reset, or a step leads to where all of them are unset
abbrev pub IsNeeded : Parts → List StateLit → ℕ → Type 0
IsNeeded m c i =
    All (λ a. a.latch ≢ i → IsResetLit m.latches a → ⊥) c ⊎ ((w : Valuation) × IsTime m w × All (λ a. a.latch ≢ i → IsSet (next_state m w) a → ⊥) c)

-- the clause lacks this latch, or needs it, or the budget is exhausted
abbrev pub IsTried : Parts → List StateLit → ℕ → Steps → Type 0
IsTried m c i after = (HasLatch c i → ⊥) ⊎ (IsNeeded m c i ⊎ (after.left ≡ 0))

-- each latch of the clause is one of the clause that was needed before, or the clause needs it, or the budget is exhausted
abbrev pub IsShortened : Parts → List StateLit → Steps → List StateLit → Type 0
IsShortened m before after c = All (λ a. HasLatch before a.latch ⊎ (IsNeeded m c a.latch ⊎ (after.left ≡ 0))) c

-- the clause cannot be pushed on from this frame: there is no next one, or a step leads to where it is false, or the budget is exhausted
abbrev pub IsFurthest : Parts → ℕ → List StateLit → Steps → ℕ → Type 0
IsFurthest m top c after k = (top ≤ k + 1) ⊎ (IsFalseAfter m c ⊎ (after.left ≡ 0))

-- the clause is empty, or it ends at the level and is part of the whole one
abbrev pub IsBefore : List Entry → ℕ → List StateLit → List StateLit → Type 0
IsBefore entries level whole c = (c ≡ []) ⊎ (Contains entries (record { clause = c; level = level }) × IsPartOf c whole)

-- a part of the clause, which was made shorter, joined the frames as far on as it can be pushed; it was not tried without the latches of a
-- clause that ends at the level and is part of the same one, if there is one
pub record IsLearned (m : Parts) (old new : Levels) (level : ℕ) (whole : List StateLit) (after : Steps) : Type 0 where
  pub clause : List StateLit
  pub before : List StateLit
  pub last : ℕ
  pub joined : Contains new.entries (record { clause = clause; level = last + 1 })
  pub part : IsPartOf clause whole
  pub ends : IsBefore old.entries level whole before
  pub shortened : IsShortened m before after clause
  pub no_less : level ≤ last
  pub furthest : IsFurthest m old.top clause after last

-- an obligation's clause is over the latches, and false in its state; that and its inputs have the circuit's lengths
pub record IsObligation (m : Parts) (o : Obligation) : Type 0 where
  pub clause : IsStateClause m o.clause
  pub denies : Denies o.state o.clause
  pub latches : length o.state ≡ length m.latches
  pub inputs : length o.inputs ≡ length m.inputs

-- these obligations, each of which leads to one that was found before it, or is bad
pub record AreObligations (m : Parts) (os : List Obligation) : Type 0 where
  pub each : All (IsObligation m) os
  pub successors : (i : ℕ) (d : Obligation) → i < length os → HasSuccessor m os i (slice_index_or os i d) (slice_index_or os i d).next

-- the inputs of this obligation and of others, each of which leads to the next, and the last of which is bad
abbrev pub IsWay : Parts → Obligation → List (List Bool) → Type 0
IsWay m o lines = (os : List Obligation) × (lines ≡ map (λ p. p.inputs) (o ∷ os)) × All (IsObligation m) (o ∷ os) × ReachBad m (o ∷ os)

-- frame k excludes the states in which the clause is false, but the first frame; or no reset excludes all of them, or this time leads to one of them
abbrev pub IsBlocking : Parts → List Entry → ℕ → List StateLit → Steps → Blocking → Type 0
IsBlocking m entries k c after Blocked = 0 < k → (s : List Bool) → InFrame entries k s → Holds s c
IsBlocking m entries k c after Initial = All (λ a. IsResetLit m.latches a → ⊥) c
IsBlocking m entries k c after (Predecessor t) = (w : Valuation) × IsAt m (denials_of m.latches c) w t × Denies (next_state m w) c
IsBlocking m entries k c after Spent = after.left ≡ 0

-- a time in frame k at which the bad literal is true, or that there is none
abbrev pub IsAtBad : Parts → List Entry → ℕ → Steps → AtBad → Type 0
IsAtBad m entries k after (Set t) = (w : Valuation) × IsAt m (bad_literal m 0 ∷ []) w t × (value_of w (bad_literal m 0) ≡ true)
IsAtBad m entries k after Excluded = Excludes m (bad_literal m 0) entries k
IsAtBad m entries k after Spent = after.left ≡ 0

-- no frame is the same as the next, but the first may be: a clause ends at each level between the first and the last
abbrev pub AreApart : Levels → Type 0
AreApart f = (k : ℕ) → 0 < k → k < f.top → All (λ e. e.level ≢ k) f.entries → ⊥

-- a thousand million frames or more that keep their laws, of which none is the same as the next
pub record AreExhausted (m : Parts) (f : Levels) : Type 0 where
  pub laws : AreFrames m (bad_literal m 0) f
  pub apart : AreApart f
  pub many : 1000000000 ≤ f.top

-- what frames come to: a run, an invariant, that the budget is exhausted, or as many steps as there are frames, where no more can be opened
abbrev pub ComesOf : Parts → Levels → Finding → Type 0
ComesOf m f (Run initial inputs) = Unit {0}
ComesOf m f (Invariant inv) = Unit {0}
ComesOf m f (Unknown Budget) = Unit {0}
ComesOf m f (Unknown (Depth steps)) = (steps ≡ f.top) × AreExhausted m f
ComesOf m f (Unknown NoEvidence) = ⊥

-- what is found of frames is so, and no other unknown
pub record IsFound (m : Parts) (f : Levels) (after : Steps) (found : Finding) : Type 0 where
  pub so : IsSo m after found
  pub decided : ComesOf m f found
