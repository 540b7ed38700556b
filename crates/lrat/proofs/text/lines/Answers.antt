use Rattle.base.specs.Witness.{witness}
use Rattle.std.proofs.Common.{◌≡◌, ◌<◌, [], length, sym, ◌∙◌, arith}
use Rattle.std.proofs.lemmas.Bool.{eqb-true, eqb-false}
use Rattle.std.proofs.lemmas.List.{nil_from_length}
use Rattle.scan.specs.declared.fault.Fault.TheVariants.{Memory}
use Rattle.lrat.proofs.Fit.{match_gives}
use Rattle.lrat.proofs.ProofLaws.{read_line, read_more, read_shorter, read_done, read_only, read_fails}
use Rattle.lrat.proofs.text.lines.Goals as goal

pub returns-in_err-line-clause-only : goal.returns-in_err-line-clause-only
returns-in_err-line-clause-only c =
    let rest = c.reading.rest.now in
    let some : 0 < length rest = omega (arith, eqb-false (length rest) 0 (sym c.is_empty.ensures ∙ c.reading-test.true)) in
    λ lines s.
    match_gives (λ proof. proof ≡ lines) (λ e. e ≡ Memory witness) c.from_residual.result c.in_err-line.field-0.0 c.from_residual.ensures.1
    (read_fails c.args.text.now rest c.reading.proof lines c.in_err-line.field-0.0 c.reading.invariant some c.in_err-line.ensures s)

pub push_line-requires : goal.push_line-requires
push_line-requires c = read_line c.reading.rest.now c.in_ok-line.after.now c.in_ok-line.line c.in_ok-line.ensures

pub reading-smaller : goal.reading-smaller
reading-smaller c = read_shorter c.reading.rest.now c.in_ok-line.after.now c.in_ok-line.line c.in_ok-line.ensures

pub reading-preserved : goal.reading-preserved
reading-preserved c =
    rw c.in_ok-push_line.ensures.ok (read_more c.args.text.now c.reading.rest.now c.in_ok-line.after.now c.reading.proof c.in_ok-line.line c.reading.invariant c.in_ok-line.ensures)

pub returns-clause-found : goal.returns-clause-found
returns-clause-found c =
    let none : c.reading.rest.now ≡ [] = nil_from_length c.reading.rest.now (eqb-true (length c.reading.rest.now) 0 (sym c.is_empty.ensures ∙ c.reading-test.false)) in
    read_done c.args.text.now c.reading.proof (rw none at c.reading.invariant)

pub returns-clause-only : goal.returns-clause-only
returns-clause-only c =
    let none : c.reading.rest.now ≡ [] = nil_from_length c.reading.rest.now (eqb-true (length c.reading.rest.now) 0 (sym c.is_empty.ensures ∙ c.reading-test.false)) in
    λ lines s. read_only c.args.text.now c.reading.proof lines (rw none at c.reading.invariant) s
