use Rattle.std.proofs.Common.{rules, SFits, w32}
use Rattle.window_search.proofs.Literals.{one_more}
use Rattle.window_search.proofs.frames.Frames.add_literals.Goals.{then-lit-gt0+in_ok-push, else-lit-gt0}
use Rattle.window_search.proofs.frames.Frames.add_literals.Goals as goal

pub loop-lit-preserved : goal.loop-lit-preserved
loop-lit-preserved c = elim c.if-lit-gt0.branch [
  | then-lit-gt0+in_ok-push w ↦
      let fits : SFits w32 w.literal.result = search rules in
      rw (w.clause-is, w.in_ok-push.ensures.items) (one_more c.args.self.now c.loop-lit.clause.items w.literal.result fits c.loop-lit.invariant w.literal.ensures)
  | else-lit-gt0 w ↦ rw w.clause-is c.loop-lit.invariant
]
