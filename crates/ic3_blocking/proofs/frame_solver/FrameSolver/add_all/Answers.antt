use Rattle.std.proofs.Common.{◌≤◌, ◌<◌, ◌∙◌, arith, sym, subst}
use Rattle.states.specs.States.{Holds}
use Rattle.ic3_frames.specs.declared.frames.Entry.{Entry}
use Rattle.ic3_frames.specs.Frames.{IsStateClause}
use Rattle.ic3_blocking.proofs.Guarding.{item_has}
use Rattle.ic3_blocking.proofs.frame_solver.FrameSolver.add_all.Goals as goal

pub add_clause-requires : goal.add_clause-requires
add_clause-requires g c =
    let m = c.args.circuit.now in
    let es = c.args.entries.now in
    let levels = c.args.self.now.levels in
    let below : c.entry-item.result.level < levels = item_has (λ (e : Entry). e.level < levels) es c.adding.entry-index c.entry-item.result c.adding-test.true c.entry-item.is c.requires.below in
    record {
      has = (es, c.adding.invariant.has);
      level = omega (arith, below, c.adding.invariant.levels);
      clause = subst (IsStateClause m) (sym c.as_slice.ensures)
          (item_has (λ (e : Entry). IsStateClause m e.clause) es c.adding.entry-index c.entry-item.result c.adding-test.true c.entry-item.is c.requires.clauses);
    }

pub adding-preserved : goal.adding-preserved
adding-preserved g c =
    let es = c.args.entries.now in
    let e = c.entry-item.result in
    record {
      levels = c.add_clause.ensures.levels ∙ c.adding.invariant.levels;
      room = c.add_clause.ensures.room ∙ c.adding.invariant.room;
      next = c.add_clause.ensures.next ∙ c.adding.invariant.next;
      has = c.in_ok-add_clause.ensures.has es c.adding.invariant.has
          (λ s inside. subst (Holds s) (sym c.as_slice.ensures)
          (item_has (λ (d : Entry). e.level ≤ d.level → Holds s d.clause) es c.adding.entry-index e c.adding-test.true c.entry-item.is inside (omega arith)));
    }
