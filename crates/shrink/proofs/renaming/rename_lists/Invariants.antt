use Rattle.std.proofs.Common.{◌≡◌, map, take}
use Rattle.shrink.specs.Hashed.{renamed as word}
use Rattle.shrink.proofs.renaming.rename_lists.Given as goal

abbrev pub invariant-loop-lits : goal.invariant-loop-lits
invariant-loop-lits l = l.renamed ≡ map (map (word l.image)) (take l.lits-index l.lists)
