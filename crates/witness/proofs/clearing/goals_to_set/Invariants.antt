use Rattle.std.proofs.Common.{◌≡◌, reverse}
use Rattle.witness.specs.Cleared.{goals_for}
use Rattle.witness.proofs.clearing.goals_to_set.Given as goal

abbrev pub invariant-loop-position : goal.invariant-loop-position
invariant-loop-position l = reverse l.goals.items ≡ goals_for l._position l.fn.lit
