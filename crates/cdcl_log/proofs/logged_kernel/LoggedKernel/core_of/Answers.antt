use Rattle.std.proofs.Common.{◌≡◌, inr, true, map, neg_ℤ, Some, All, Contains, ap, subst}
use Rattle.cdcl_kernel.specs.Kept.{added}
use Rattle.cdcl_kernel.specs.Known.{IsLearned}
use Rattle.solver.specs.Answers.{IsCore}
use Rattle.lrat.specs.declared.line.Line.{Line}
use Rattle.cdcl_log.specs.Logged.{IsLog, clause_of, is_wanted}
use Rattle.cdcl_log.proofs.Ended.{room_of}
use Rattle.cdcl_log.proofs.Logged.{core_open}
use Rattle.cdcl_log.proofs.logged_kernel.LoggedKernel.core_of.Goals as goal

pub next_id-requires : goal.next_id-requires
next_id-requires c =
    let wanted : is_wanted c.self.inside.log ≡ true = ap is_wanted c.in-Open.is in
    room_of c.self.inside.log c.self.inside.numbering c.self.inside.kernel.vars c.self.inside.kernel.kept c.self.inside.lines.items c.self.inside.end wanted c.self.invariant

pub invariant_of-self-2 : goal.invariant_of-self-2
invariant_of-self-2 c =
    let log = subst (λ g. IsLog g c.self.inside.numbering c.self.inside.kernel.vars c.self.inside.kernel.kept c.self.inside.lines.items c.self.inside.end) c.in-Open.is c.self.invariant in
    let learned : IsLearned c.self.inside.kernel c.args.clause.now c.args.hints.now = rw c.in-Some.is at c.in_ok-core.ensures.learned in
    rw (c.in-Open.is, c.in_ok-line.ensures)
    (core_open c.self.inside.kernel c.core_of.new.self c.self.inside.numbering c.self.inside.lines.items c.self.inside.end c.args.clause.now c.args.hints.now c.in_ok-id.id c.next_id.ensures.small
    c.in_ok-id.ensures.few c.in_ok-id.ensures.value c.in_ok-core.ensures.same log learned)

pub returns-clause-ends : goal.returns-clause-ends
returns-clause-ends c = λ wanted.
    let core : IsCore (added c.self.inside.kernel.kept) c.args.assume.now c.in-Some.core.items = rw c.in-Some.is at c.in_ok-core.ensures.core in
    let denials : c.in-Some.core.items ≡ map neg_ℤ c.args.clause.now = rw c.in-Some.is at c.in_ok-core.ensures.denials in
    inr (c.args.clause.now, ap (λ (l : Line). Some (clause_of l)) c.in_ok-line.ensures, subst (All (Contains c.args.assume.now)) denials core.among)
