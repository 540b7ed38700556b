use Rattle.std.proofs.Common.{arith}
use Rattle.pieces.proofs.PieceLaws.{ready_line}
use Rattle.pieces.proofs.ends.last_end.Goals as goal

pub returns-in-Some-clause-ready : goal.returns-in-Some-clause-ready
returns-in-Some-clause-ready c =
    let found = c.in-Some.ensures in
    (omega arith, ready_line c.args.bytes.now c.in-Some.end found.0.high found.1)
