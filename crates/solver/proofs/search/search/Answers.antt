use Rattle.std.proofs.Common.{◌≡◌, ◌+◌, length, rules, arith, true, false, ◌∙◌, ap}
use Rattle.std.proofs.lemmas.Bool.{false≢true}
use Rattle.std.proofs.lemmas.List.{length_push}
use Rattle.lrat.specs.Literals.{IsLiteral}
use Rattle.solver.specs.Branches.{IsClosed, IsOpen}
use Rattle.solver.proofs.Looks.{among_all}
use Rattle.solver.proofs.Tried.{IsRuledOut, tried_more, tried_next, tried_push, refuted_last}
use Rattle.solver.proofs.Branching.{next_length, next_first, first_push}
use Rattle.solver.proofs.Decided.{closed_out, open_satisfied, open_true, not_zero, not_zeros}
use Rattle.solver.proofs.search.search.Goals as goal

pub returns-then-not-next_branch-clause-lawful : goal.returns-then-not-next_branch-clause-lawful
returns-then-not-next_branch-clause-lawful c =
    let closed : IsClosed c.searching.values.items c.args.clauses.now c.look.new.core.items = rw (c.in-Closed.is, c.as_slice.ensures.value) at c.in_ok-look.ensures.finds in
    let out : IsRuledOut c.args.clauses.now c.look.new.core.items c.searching.values.items = closed_out _ _ _ (not_zeros c.args.vars _ c.requires.clauses) (not_zero c.args.vars _ (among_all (IsLiteral c.args.vars) _ _ c.requires.assumed c.look.ensures.among)) closed in
    record {
      among = c.look.ensures.among;
      refuted = refuted_last _ _ _ c.searching.values.items c.look.ensures.among (tried_more _ _ _ _ c.look.ensures.more c.searching.invariant.tried) out (c.next_branch.ensures.last c.if-not-next_branch.true);
    }

pub searching-preserved-else-not-next_branch : goal.searching-preserved-else-not-next_branch
searching-preserved-else-not-next_branch c =
    let closed : IsClosed c.searching.values.items c.args.clauses.now c.look.new.core.items = rw (c.in-Closed.is, c.as_slice.ensures.value) at c.in_ok-look.ensures.finds in
    let out : IsRuledOut c.args.clauses.now c.look.new.core.items c.searching.values.items = closed_out _ _ _ (not_zeros c.args.vars _ c.requires.clauses) (not_zero c.args.vars _ (among_all (IsLiteral c.args.vars) _ _ c.requires.assumed c.look.ensures.among)) closed in
    let next = c.next_branch.ensures.next c.if-not-next_branch.false in
    record {
      spends = search rules;
      among = c.look.ensures.among;
      few = omega (arith, next_length _ _ _ _ next);
      none = next_first _ _ _ _ true next ∙ c.searching.invariant.none;
      tried = tried_next _ _ _ _ _ c.look.ensures.among (tried_more _ _ _ _ c.look.ensures.more c.searching.invariant.tried) out next;
    }

pub returns-then-len-vars-clause-lawful : goal.returns-then-len-vars-clause-lawful
returns-then-len-vars-clause-lawful c =
    let open_ : IsOpen c.searching.values.items c.args.clauses.now c.args.assume.now = rw (c.in-Open.is, c.as_slice.ensures.value) at c.in_ok-look.ensures.finds in
    let whole : length c.searching.values.items ≡ c.args.vars + 1 = omega arith in
    record {
      places = whole;
      none = c.searching.invariant.none;
      satisfied = open_satisfied _ _ _ _ whole c.requires.clauses open_;
      assumed = open_true _ _ _ _ whole c.requires.assumed open_;
    }

pub searching-preserved : goal.searching-preserved
searching-preserved c =
    let longer : length c.push.new.to.items ≡ length c.searching.values.items + 1 = ap length c.in_ok-push-in-Open.ensures.items ∙ length_push c.searching.values.items false in
    record {
      spends = search rules;
      among = c.look.ensures.among;
      few = omega arith;
      none = rw c.in_ok-push-in-Open.ensures.items (first_push c.searching.values.items false c.searching.invariant.none);
      tried = rw c.in_ok-push-in-Open.ensures.items (tried_push _ _ c.searching.values.items false (tried_more _ _ _ _ c.look.ensures.more c.searching.invariant.tried) (λ e. absurd (false≢true e)));
    }
