use Rattle.std.proofs.Common.{rules, ◌≡◌, ◌<◌}
use Rattle.pieces.proofs.LineLaws.{end_found, end_missed, lies_of}
use Rattle.pieces.proofs.lines.Lines.end.Goals as goal

pub returns-then-n-gt0-clause-says : goal.returns-then-n-gt0-clause-says
returns-then-n-gt0-clause-says g c text later left =
    let (ys, before, inside) = c.in_ok-n.ensures.reads text later left in
    let lies = lies_of c.self.inside.pieces c.args.self.now c.next.new.self ys later c.in_ok-n.n c.self.view_is inside in
    let some : 0 < c.in_ok-n.n = search rules in
    (ys, before, end_missed c.args.self.now c.next.new.self ys later c.in_ok-n.n lies c.in_ok-n.ensures.within some)

pub returns-clause-says : goal.returns-clause-says
returns-clause-says g c text later left =
    let (ys, before, inside) = c.in_ok-n.ensures.reads text later left in
    let lies = lies_of c.self.inside.pieces c.args.self.now c.next.new.self ys later c.in_ok-n.n c.self.view_is inside in
    let none : c.in_ok-n.n ≡ 0 = search rules in
    (ys, before, end_found c.args.self.now c.next.new.self ys later c.in_ok-n.n none lies)
