use Rattle.std.proofs.Common.{◌++◌, ◌∙◌, ℕ, None, Some, ap, sym}
use Rattle.checker2.proofs.Found.{number, parts_found, parts_refused}
use Rattle.checker2.proofs.Good.{invariant_from}
use Rattle.checker2.proofs.certificate_text.check_for.Goals as goal

pub check_parts-requires-clause-invariant : goal.check_parts-requires-clause-invariant
check_parts-requires-clause-invariant g c = invariant_from c.args.circuit.now c.args.invariant.now c.well_formed-2.ensures c.requires.few c.in-Ok.ensures.good

pub returns-in-None-clause-says : goal.returns-in-None-clause-says
returns-in-None-clause-says g c text later left =
    let (ys, before, has) = c.in_ok-found-in-Ok.ensures.says text later left in (
      ys,
      before,
      λ p. parts_found c.args.circuit.now c.args.bad c.args.version p c.args.invariant.now (c.args.reader.now.held ++ ys) c.check_parts.new.reader.held later c.in_ok-found-in-Ok.found None c.requires.few c.in-Ok.ensures.good
          (sym (ap number c.in-None.is)) (has p),
    )

pub returns-in-Ok-clause-says : goal.returns-in-Ok-clause-says
returns-in-Ok-clause-says g c text later left =
    let (ys, before, has) = c.in_ok-found-in-Ok.ensures.says text later left in (
      ys,
      before,
      λ p. parts_found c.args.circuit.now c.args.bad c.args.version p c.args.invariant.now (c.args.reader.now.held ++ ys) c.check_parts.new.reader.held later c.in_ok-found-in-Ok.found (Some c.number.result) c.requires.few c.in-Ok.ensures.good
          (ap (λ (n : ℕ). Some n) c.number.ensures ∙ sym (ap number c.in-Some.is)) (has p),
    )

pub returns-clause-says : goal.returns-clause-says
returns-clause-says g c text later left =
    let (ys, before, skips) = c.skip_parts.ensures.says text later left in (
      ys,
      before,
      λ p. parts_refused c.args.circuit.now c.args.bad c.args.version p c.args.invariant.now (c.args.reader.now.held ++ ys) c.skip_parts.new.reader.held later c.in-Err.error c.skip_parts.result c.requires.few
          (λ k is counts. c.in-Err.ensures.refused c.args.bad k is counts) (rw c.len.ensures at (skips p c.args.invariant.now)),
    )
