use Rattle.std.proofs.Common.{◌≡◌, [], map, take}
use Rattle.witness.specs.Completions.{completion}
use Rattle.witness.proofs.completion.completed_rows.Given as goal

abbrev pub invariant-loop-row : goal.invariant-loop-row
invariant-loop-row l = l.lines ≡ map (completion [] l.other) (take l.row-index l.rows)
