use Rattle.std.proofs.Common.{arith}
use Rattle.extension.proofs.RoundsFormed.{rounds_size}
use Rattle.extension.proofs.counter.check.Goals as goal

pub returns-then-parts-wanted-gt-MAX_VAR-clause-refused : goal.returns-then-parts-wanted-gt-MAX_VAR-clause-refused
returns-then-parts-wanted-gt-MAX_VAR-clause-refused c =
    let size = rounds_size c.args.parts.now c.args.position c.args.rounds in
    (omega (arith, c.len.ensures, c.if-position-len.false), omega (arith, size, c.wanted_count-wanted.ensures.count, c.if-parts-wanted-gt-MAX_VAR.true))

pub returns-clause-countable : goal.returns-clause-countable
returns-clause-countable c =
    let size = rounds_size c.args.parts.now c.args.position c.args.rounds in
    record {
      exists = omega (arith, c.len.ensures, c.if-position-len.false);
      within = omega (arith, size, c.wanted_count-wanted.ensures.count, c.if-parts-wanted-gt-MAX_VAR.false);
    }
