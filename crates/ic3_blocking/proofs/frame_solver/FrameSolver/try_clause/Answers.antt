use Rattle.std.proofs.Common.{not, ap, subst, ◌∙◌}
use Rattle.ic3_frames.specs.Frames.{HoldsOnward}
use Rattle.ic3_blocking.proofs.Inductions.{first_by}
use Rattle.ic3_blocking.proofs.frame_solver.FrameSolver.try_clause.Goals as goal

pub add_to_frames-requires-clause-inductive : goal.add_to_frames-requires-clause-inductive
add_to_frames-requires-clause-inductive g c =
    let m = c.args.circuit.now in
    let es = c.args.frames.now.entries in
    let clause = c.args.clause in
    record {
      clause = c.requires.clause;
      initial = first_by m clause c.latches.result.now c.as_slice.result.now c.reset_literal.result c.latches.ensures c.as_slice.ensures c.reset_literal.ensures.some (c.is_none.ensures ∙ ap not c.if-is_none.false);
      onward = subst (HoldsOnward m es 0) c.as_slice-2.ensures (c.in_ok-is_onward.ensures.onward c.if-not-branch.false);
    }
