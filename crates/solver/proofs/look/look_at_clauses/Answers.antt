use Rattle.std.proofs.Common.{rules, ◌∙◌, subst}
use Rattle.std.proofs.lemmas.List.Elements.{All-nil}
use Rattle.solver.specs.Branches.{IsFalse, IsDenied}
use Rattle.solver.proofs.Looks.{all_more, all_whole, not_true}
use Rattle.solver.proofs.look.look_at_clauses.Goals as goal

pub loop-clause-preserved : goal.loop-clause-preserved
loop-clause-preserved c = record {
  spends = search rules;
  open_ = all_more (λ d. IsDenied c.args.values.now d → ⊥) c.args.clauses.now c.loop-clause.clause-index c.clause-item.result c.loop-clause-test.true c.loop-clause.invariant.open_
      (subst (λ d. IsDenied c.args.values.now d → ⊥) (c.as_slice.ensures ∙ c.clause-item.is) (not_true c.is_denied.ensures.1 c.if-is_denied.false));
}

pub returns-clause-finds : goal.returns-clause-finds
returns-clause-finds c = record {
  clauses = all_whole (λ d. IsDenied c.args.values.now d → ⊥) c.args.clauses.now c.loop-clause.clause-index c.loop-clause-test.false c.loop-clause.invariant.open_;
  literals = All-nil (λ l. IsFalse c.args.values.now l → ⊥);
}
