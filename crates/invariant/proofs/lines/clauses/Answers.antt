use Rattle.base.specs.Witness.{witness}
use Rattle.std.proofs.Common.{◌≡◌, ◌<◌, [], length, sym, ◌∙◌, arith}
use Rattle.std.proofs.lemmas.Bool.{eqb-true, eqb-false}
use Rattle.std.proofs.lemmas.List.{nil_from_length}
use Rattle.scan.specs.declared.fault.Fault.TheVariants.{Memory}
use Rattle.lrat.proofs.Fit.{match_gives}
use Rattle.invariant.proofs.LineLoop.{read_more, read_shorter, read_done, read_only, read_fails}
use Rattle.invariant.proofs.lines.clauses.Goals as goal

pub returns-in_err-clause-clause-only : goal.returns-in_err-clause-clause-only
returns-in_err-clause-clause-only c =
    let rest = c.reading.rest.now in
    let some : 0 < length rest = omega (arith, eqb-false (length rest) 0 (sym c.is_empty.ensures ∙ c.reading-test.true)) in
    λ cs s.
    match_gives (λ ds. ds ≡ cs) (λ e. e ≡ Memory witness) c.from_residual.result c.in_err-clause.field-0.0 c.from_residual.ensures.1
    (read_fails c.args.text.now rest c.reading.clauses cs c.in_err-clause.field-0.0 c.reading.invariant some c.in_err-clause.ensures s)

pub reading-smaller : goal.reading-smaller
reading-smaller c = read_shorter c.reading.rest.now c.in_ok-clause.after.now c.in_ok-clause.clause c.in_ok-clause.ensures

pub reading-preserved : goal.reading-preserved
reading-preserved c =
    rw c.in_ok-push.ensures.ok (read_more c.args.text.now c.reading.rest.now c.in_ok-clause.after.now c.reading.clauses c.in_ok-clause.clause c.reading.invariant c.in_ok-clause.ensures)

pub returns-clause-found : goal.returns-clause-found
returns-clause-found c =
    let none : c.reading.rest.now ≡ [] = nil_from_length c.reading.rest.now (eqb-true (length c.reading.rest.now) 0 (sym c.is_empty.ensures ∙ c.reading-test.false)) in
    read_done c.args.text.now c.reading.clauses (rw none at c.reading.invariant)

pub returns-clause-only : goal.returns-clause-only
returns-clause-only c =
    let none : c.reading.rest.now ≡ [] = nil_from_length c.reading.rest.now (eqb-true (length c.reading.rest.now) 0 (sym c.is_empty.ensures ∙ c.reading-test.false)) in
    λ cs s. read_only c.args.text.now c.reading.clauses cs (rw none at c.reading.invariant) s
