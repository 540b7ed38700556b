use Rattle.std.proofs.Common.{ap, arith, length}
use Rattle.pieces.proofs.LineLaws.{lies_of, moves_from, of_first, read_given, rest_less, rest_within, stuck_text}
use Rattle.pieces.proofs.lines.Lines.line_into.Goals as goal

pub returns-in-Err-clause-says : goal.returns-in-Err-clause-says
returns-in-Err-clause-says g c text later left =
    let (ys, before, inside) = c.in_ok-n.ensures.reads text later left in
    let p = g.L.BufferKind.at c.args.context in
    let lies = lies_of c.self.inside.pieces c.args.self.now c.next.new.self ys later c.in_ok-n.n c.self.view_is inside in
    (ys, before, stuck_text p c.requires.line c.args.self.now c.next.new.self c.first.result.now ys later c.in_ok-n.n c.saturating_add.result c.in-Err.fault lies c.first.ensures c.in-Err.ensures)

pub overflow_sub-n : goal.overflow_sub-n
overflow_sub-n g c =
    let p = g.L.BufferKind.at c.args.context in
    let less = rest_within c.requires.line c.next.new.self c.in_ok-n.n (g.L.BufferKind.seen c.in-Ok.item c.line_into.new.buffer) c.in-Ok.rest.now c.in_ok-n.ensures.within (of_first p c.next.new.self c.first.result.now c.in-Ok.rest.now c.in_ok-n.n (g.L.BufferKind.seen c.in-Ok.item c.line_into.new.buffer) c.first.ensures c.in-Ok.ensures) in
    omega (arith, less)

pub returns-clause-says : goal.returns-clause-says
returns-clause-says g c text later left =
    let (ys, before, inside) = c.in_ok-n.ensures.reads text later left in
    let p = g.L.BufferKind.at c.args.context in
    let lies = lies_of c.self.inside.pieces c.args.self.now c.next.new.self ys later c.in_ok-n.n c.self.view_is inside in
    (ys, before, moves_from p c.requires.line c.args.self.now c.next.new.self c.skip.new.self ys later c.in_ok-n.n (g.L.BufferKind.seen c.in-Ok.item c.line_into.new.buffer) c.in-Ok.rest.now lies c.in_ok-n.ensures.within (of_first p c.next.new.self c.first.result.now c.in-Ok.rest.now c.in_ok-n.n (g.L.BufferKind.seen c.in-Ok.item c.line_into.new.buffer) c.first.ensures c.in-Ok.ensures) c.skip.ensures)

pub returns-clause-given : goal.returns-clause-given
returns-clause-given g c = read_given c.requires.line c.first.result.now (g.L.BufferKind.seen c.in-Ok.item c.line_into.new.buffer) c.in-Ok.rest.now c.in-Ok.ensures

pub returns-clause-moves : goal.returns-clause-moves
returns-clause-moves g c =
    let p = g.L.BufferKind.at c.args.context in
    let less = rest_less c.requires.line c.next.new.self c.skip.new.self c.in_ok-n.n (g.L.BufferKind.seen c.in-Ok.item c.line_into.new.buffer) c.in-Ok.rest.now c.in_ok-n.ensures.within (of_first p c.next.new.self c.first.result.now c.in-Ok.rest.now c.in_ok-n.n (g.L.BufferKind.seen c.in-Ok.item c.line_into.new.buffer) c.first.ensures c.in-Ok.ensures) c.skip.ensures in
    omega (arith, less, ap length c.self.view_is, c.in_ok-n.ensures.moves)
