use Rattle.std.proofs.Common.{◌≡◌, length}
use Rattle.merged.specs.Reading.{IsTableTo}
use Rattle.merged.proofs.table.note_all.Given as goal

abbrev pub invariant-loop-place : goal.invariant-loop-place
invariant-loop-place l = record {
  table : IsTableTo l.clauses l.place l.table;
  places : length l.table ≡ length l.initial.table;
}
