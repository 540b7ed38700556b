use Rattle.std.proofs.Common.{subst, take, ◌-◌}
use Rattle.pieces.specs.Pieces.{HoldsPiece}
use Rattle.pieces.proofs.PieceLaws.{lies_here, ready_holds}
use Rattle.pieces.proofs.pieces.Pieces.next.Goals as goal

pub returns-then-self-clause-reads : goal.returns-then-self-clause-reads
returns-then-self-clause-reads g c text later after =
    let left = c.self.inside.ready - c.self.inside.start in
    let holds = ready_holds c.self.inside.held.items c.self.inside.start c.self.inside.ready c.if-self.true c.self.invariant.2 in
    (later, after, lies_here c.args.self.now later left (subst (λ w. HoldsPiece (take left w)) c.self.view_is holds))
