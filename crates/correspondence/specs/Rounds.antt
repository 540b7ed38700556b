-- What a round says.
use Rattle.std.specs.Prelude.{◌≡◌, ◌⊎◌, ◌<◌, ◌≤◌, ◌+◌, ◌*◌, ◌/◌, Bool, false, List, ℤ, length}
use Rattle.base.specs.Budget.{Steps}
use Rattle.graph.specs.declared.parts.Parts.{Parts}
use Rattle.solver.specs.Answers.{IsCore}
use Rattle.solver.specs.declared.answer.Answer.{Answer}
use Rattle.solver.specs.declared.answer.Answer.TheVariants.{Model, Core, Spent}
use Rattle.correspondence.specs.Found.{IsCorrespondence}
use Rattle.correspondence.specs.declared.rounds.Round.{Round}
use Rattle.correspondence.specs.declared.rounds.Round.TheVariants.{Fixed, Split, Open, Over}

-- the budget is exhausted, or there may be more clauses of equal latches than an invariant may have
abbrev pub IsExhausted : Parts → Steps → Type 0
IsExhausted m after = (after.left ≡ 0) ⊎ (4194303 < 2 * length m.latches)

-- a quarter of the budget is spent, or there may be more such clauses
abbrev pub IsGivenUp : Parts → Steps → Steps → Type 0
IsGivenUp m before after = (after.left + before.left / 4 ≤ before.left) ⊎ (4194303 < 2 * length m.latches)

-- the classes that stay are inductive, and an invariant where this is said; that they don't exclude the bad literal is said
-- once; and nothing is known where the budget is exhausted or the latches are too many
abbrev pub IsRound : Parts → Bool → Steps → Round → Type 0
IsRound m is_open after (Fixed found) = IsCorrespondence m found
IsRound m is_open after Split = Unit {0}
IsRound m is_open after Open = is_open ≡ false
IsRound m is_open after Over = IsExhausted m after

-- the same of rounds until no class is split
abbrev pub IsEnd : Parts → Bool → Steps → Round → Type 0
IsEnd m is_open after (Fixed found) = IsCorrespondence m found
IsEnd m is_open after Split = ⊥
IsEnd m is_open after Open = is_open ≡ false
IsEnd m is_open after Over = IsExhausted m after

-- classes that stay, or nothing where a quarter of the budget is spent or the latches are too many
abbrev pub IsLast : Parts → Steps → Steps → Round → Type 0
IsLast m before after (Fixed found) = IsCorrespondence m found
IsLast m before after Split = ⊥
IsLast m before after Open = ⊥
IsLast m before after Over = IsGivenUp m before after

-- a core is one of the units; nothing is known where the budget is exhausted
abbrev pub IsCoreOf : List (List ℤ) → List ℤ → Steps → Answer → Type 0
IsCoreOf cs units after (Model values) = Unit {0}
IsCoreOf cs units after (Core core) = IsCore cs units core.items
IsCoreOf cs units after Spent = after.left ≡ 0
