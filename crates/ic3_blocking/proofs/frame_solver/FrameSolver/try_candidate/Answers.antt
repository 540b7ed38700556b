use Rattle.std.proofs.Common.{List, Option, IfSome, subst}
use Rattle.states.specs.declared.state_lit.StateLit.{StateLit}
use Rattle.ic3_frames.specs.Frames.{IsStateClause}
use Rattle.ic3_blocking.proofs.frame_solver.FrameSolver.try_candidate.Goals as goal

pub try_clause-requires-clause-clause : goal.try_clause-requires-clause-clause
try_clause-requires-clause-clause g c =
    let m = c.args.circuit.now in
    subst (λ (o : Option (List StateLit)). IfSome o (IsStateClause m)) c.in-Some.is (c.in_ok-clause.ensures m c.requires.positions)
