use Rattle.std.proofs.Common.{rules, ◌≡◌, length, drop, [], subst, ◌∙◌}
use Rattle.std.proofs.lemmas.List.{get_or_default, take_all}
use Rattle.std.proofs.lemmas.List.Elements.{All-more}
use Rattle.std.proofs.lemmas.Result.{err_from_is_err_and}
use Rattle.graph.proofs.Tabled.{take_whole}
use Rattle.checker2.specs.Accepted.{IsGood}
use Rattle.checker2.proofs.invariant.check_clauses.Goals as goal

pub returns-in_err-check_clause-clause-refused : goal.returns-in_err-check_clause-clause-refused
returns-in_err-check_clause-clause-refused c =
    let p = err_from_is_err_and c.from_residual-in_err-check_clause.result c.from_residual-in_err-check_clause.ensures.1 in
    rw (p.1, p.2)
    (c.in_err-check_clause.ensures.refused c.args.invariant.now c.loop-k-test.true (c.as_slice.ensures ∙ c.index-invariant-k.is ∙ get_or_default c.args.invariant.now c.loop-k.k c.index-invariant-k.result [] c.loop-k-test.true) c.loop-k.invariant.good)

pub loop-k-preserved : goal.loop-k-preserved
loop-k-preserved c =
    let kept : length c.check_clause.new.seen ≡ c.loop-k.seen.len = search rules in
    rw (take_whole c.loop-k.seen.len c.check_clause.new.seen (drop (length c.check_clause.new.seen) c.loop-k.seen.items) kept) (record {
      good = All-more (IsGood c.args.circuit.now) c.args.invariant.now c.loop-k.k [] c.loop-k-test.true c.loop-k.invariant.good
          (subst (IsGood c.args.circuit.now) (c.as_slice.ensures ∙ c.index-invariant-k.is ∙ get_or_default c.args.invariant.now c.loop-k.k c.index-invariant-k.result [] c.loop-k-test.true) c.in_ok-check_clause.ensures.good);
      below = c.check_clause.ensures.below;
      whole = search rules;
    })

pub returns-clause-good : goal.returns-clause-good
returns-clause-good c = rw (take_all c.loop-k.k c.args.invariant.now c.loop-k-test.false) at c.loop-k.invariant.good
