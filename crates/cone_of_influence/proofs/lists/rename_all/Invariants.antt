use Rattle.std.proofs.Common.{◌≡◌, map, take}
use Rattle.cone_of_influence.specs.Numbers.{renamed}
use Rattle.cone_of_influence.proofs.lists.rename_all.Given as goal

abbrev pub invariant-loop-lit : goal.invariant-loop-lit
invariant-loop-lit l = l.all ≡ map (renamed l.table) (take l.lit-index l.lits)
