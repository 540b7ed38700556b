use Rattle.std.proofs.Common.{rules, ◌≡◌, ◌∙◌, true, Some, length, sym, ap, subst, arith}
use Rattle.lrat.specs.declared.line.Line.TheVariants.{Add}
use Rattle.cdcl_log.specs.Closings.{IsClosingOf}
use Rattle.cdcl_log.specs.Logged.{Logged, formula_of, is_wanted}
use Rattle.cdcl_log.specs.Refuting.{refuting}
use Rattle.cdcl_log.specs.Units.{AreDeniedAt}
use Rattle.cdcl_log.proofs.Closings.{closing_all, closing_shown, closing_stays, log_shares, reached_by}
use Rattle.cdcl_log.proofs.Ended.{denied_of, ends_of}
use Rattle.cdcl_log.proofs.logged_kernel.LoggedKernel.closing.Goals as goal

pub denied_indices-requires-clause-denied : goal.denied_indices-requires-clause-denied
denied_indices-requires-clause-denied c =
    let is : c.self.inside.end ≡ Some (Add c.in-Some-Add.field-0-0 c.in-Some-Add.clause c.in-Some-Add.hints) = search rules in
    rw c.as_slice.ensures
    (denied_of c.self.inside.end c.requires.denies.0 c.in-Some-Add.clause c.args.units.now c.in-Some-Add.field-0-0 c.in-Some-Add.hints (ap (λ (k : Logged). k.end) c.self.view_is ∙ c.requires.denies.1) is c.requires.denies.2)

pub invariant_of-self : goal.invariant_of-self
invariant_of-self c =
    let all : c.len-self-inside.result ≡ length c.self.inside.lines.items = search rules in
    log_shares c.self.inside.log c.self.inside.numbering c.len-self-inside.result c.self.inside.kernel.vars c.self.inside.kernel.kept c.self.inside.lines.items c.self.inside.end (omega (arith, all)) c.self.invariant

pub returns-clause-stays : goal.returns-clause-stays
returns-clause-stays c = λ us k is.
    let n = c.self.inside.numbering in
    let v = c.self.inside.kernel.vars in
    let ks = c.self.inside.kernel.kept in
    let ls = c.self.inside.lines.items in
    let all : c.len-self-inside.result ≡ length ls = search rules in
    let wanted : is_wanted c.self.inside.log ≡ true = ap (λ (k : Logged). is_wanted k.log) c.self.view_is ∙ c.requires.wanted in
    let lines = (reached_by c.self.inside.log n v ks ls c.self.inside.end wanted c.self.invariant).0 in
    closing_stays (formula_of v ks) n c.len-self-inside.result ls lines all us k (subst (λ (g : Logged). IsClosingOf (refuting g) us k) (sym c.self.view_is) is)

pub returns-clause-shown : goal.returns-clause-shown
returns-clause-shown c =
    let n = c.self.inside.numbering in
    let v = c.self.inside.kernel.vars in
    let ks = c.self.inside.kernel.kept in
    let ls = c.self.inside.lines.items in
    let us = c.args.units.now in
    let id = c.in-Some-Add.field-0-0 in
    let d = c.in-Some-Add.clause in
    let hints = c.in-Some-Add.hints in
    let ps = c.in_ok-denied.denied.items in
    let is : c.self.inside.end ≡ Some (Add id d hints) = search rules in
    let all : c.len-self-inside.result ≡ length ls = search rules in
    let wanted : is_wanted c.self.inside.log ≡ true = ap (λ (k : Logged). is_wanted k.log) c.self.view_is ∙ c.requires.wanted in
    let ends = ends_of c.self.inside.log n v ks ls c.self.inside.end id d hints wanted c.self.invariant is in
    let are : AreDeniedAt us d ps = subst (λ x. AreDeniedAt us x ps) c.as_slice.ensures c.in_ok-denied.ensures in
    rw (c.from_vec.ensures, c.in_ok-hints.ensures, c.as_slice-2.ensures)
    (closing_all (formula_of v ks) n.room c.len-self-inside.result ls us (record { denied = ps; hints = hints }) all (closing_shown (formula_of v ks) n ls d us ps id hints ends.0 ends.1 are))
