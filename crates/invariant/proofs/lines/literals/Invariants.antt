use Rattle.std.proofs.Common.{◌≡◌, ◌-◌, suc, length}
use Rattle.scan.proofs.Loops.{with_front}
use Rattle.invariant.specs.Reading.{literals_at}
use Rattle.invariant.proofs.lines.literals.Given as goal

abbrev pub invariant-loop : goal.invariant-loop
invariant-loop l = with_front l.literals.items (literals_at (suc (length l.text) - l.counter) l.rest) ≡ literals_at (suc (length l.text)) l.text
