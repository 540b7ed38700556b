use Rattle.std.proofs.Common.{◌≡◌, ◌<◌, ℕ, length}
use Rattle.scan.specs.Lists.{until_at, items_at}
use Rattle.scan.proofs.Loops.{with_front}
use Rattle.certificate.specs.Reading.{item_at}
use Rattle.certificate.proofs.sections.section_lines.Given as goal

abbrev pub invariant-reading : goal.invariant-reading
invariant-reading l = (steps : ℕ) × (length l.rest < steps) × (with_front l.proof (until_at item_at steps l.rest) ≡ items_at item_at l.text)

abbrev pub decreases-reading : goal.decreases-reading
decreases-reading l = length l.rest
