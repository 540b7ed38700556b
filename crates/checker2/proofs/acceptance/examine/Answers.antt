use Rattle.std.proofs.Common.{rules, ◌≡◌, length, All, ap, subst, arith}
use Rattle.lrat.proofs.Fit.{if_err}
use Rattle.cnf.specs.Formulas.{IsInvariant}
use Rattle.checker2.specs.Accepted.{IsGood}
use Rattle.checker2.specs.Causes.{HasCauseFor, IsCounted, IsSectionFault}
use Rattle.checker2.proofs.Good.{invariant_from}
use Rattle.checker2.proofs.Accepted.{if_on_ok, section_cause}
use Rattle.checker2.proofs.acceptance.examine.Goals as goal

pub check_sections-requires-clause-invariant : goal.check_sections-requires-clause-invariant
check_sections-requires-clause-invariant c =
    subst (IsInvariant c.args.circuit.now) c.as_slice-invariant.ensures
    (invariant_from c.args.circuit.now c.as_slice-invariant.result.now c.well_formed-2.ensures (let few = c.if-invariant-gt-MOST_CLAUSES.false in omega arith) c.in_ok-check_clauses.ensures.good)

pub returns-clause-accepted : goal.returns-clause-accepted
returns-clause-accepted c =
    let same : length c.as_slice-invariant.result.now ≡ length c.args.certificate.now.invariant = ap length c.as_slice-invariant.ensures in
    if_on_ok c.check_sections.result c.check_sections.ensures.ok
    (λ sections. record {
      few = let few = c.if-invariant-gt-MOST_CLAUSES.false in omega arith;
      count = search rules;
      clauses = subst (All (IsGood c.args.circuit.now)) c.as_slice-invariant.ensures c.in_ok-check_clauses.ensures.good;
      base = sections.0;
      shared = sections.1;
      sections = sections.2;
    })

pub returns-clause-refused : goal.returns-clause-refused
returns-clause-refused c =
    let same : length c.as_slice-invariant.result.now ≡ length c.args.certificate.now.invariant = ap length c.as_slice-invariant.ensures in
    let counted : IsCounted c.args.certificate.now = record {
      few = let few = c.if-invariant-gt-MOST_CLAUSES.false in omega arith;
      count = search rules;
    } in
    let good : All (IsGood c.args.circuit.now) c.args.certificate.now.invariant = subst (All (IsGood c.args.circuit.now)) c.as_slice-invariant.ensures c.in_ok-check_clauses.ensures.good in
    if_err (IsSectionFault c.args.circuit.now c.args.bad c.args.certificate.now) (HasCauseFor c.args.circuit.now c.args.bad c.args.certificate.now) c.check_sections.result
    (λ e fault. section_cause c.args.circuit.now c.args.bad c.args.certificate.now e counted good fault) c.check_sections.ensures.err
