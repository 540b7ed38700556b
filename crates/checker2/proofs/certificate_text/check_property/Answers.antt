use Rattle.std.proofs.Common.{rules, ◌≡◌, ◌++◌, length, ap, sym}
use Rattle.graph.specs.Circuits.{HasProperty}
use Rattle.checker2.specs.Accepted.{circuit_of}
use Rattle.checker2.proofs.Accepted.{showable_here}
use Rattle.checker2.proofs.Watched.{bad_is, bad_used, output_is, output_used}
use Rattle.checker2.proofs.TextFound.{found_here, no_such, refused_here}
use Rattle.checker2.proofs.certificate_text.check_property.Goals as goal

pub returns-then-not-has_property-clause-says : goal.returns-then-not-has_property-clause-says
returns-then-not-has_property-clause-says g c text later left =
    let m = c.args.circuit.now in
    let p = c.args.property in
    let inv = c.args.invariant.now in
    let e = c.no_property-error.result in
    let none : HasProperty m p → ⊥ = search rules in
    let (ys, before, skips) = c.skip_parts.ensures.says text later left in (
      ys,
      before,
      refused_here m e c.args.version p (length inv) inv (c.args.reader.now.held ++ ys) c.skip_parts.new.reader.held later c.skip_parts.result
          (no_such m p e c.no_property-error.ensures none) (rw c.len.ensures at (skips p inv)),
    )

-- ---- a bad literal

pub check_for-requires-clause-bad : goal.check_for-requires-clause-bad
check_for-requires-clause-bad g c =
    let there : HasProperty c.args.circuit.now c.args.property = search rules in
    bad_used c.args.circuit.now c.args.property c.in-Bad.n c.bad.result.now c.in-Bad.is c.bad.ensures there

pub returns-in-Bad-clause-says : goal.returns-in-Bad-clause-says
returns-in-Bad-clause-says g c text later left =
    let m = c.args.circuit.now in
    let p = c.args.property in
    let inv = c.args.invariant.now in
    let there : HasProperty m p = search rules in
    let circuit : m ≡ circuit_of m p = ap (circuit_of m) (sym c.in-Bad.is) in
    let (ys, before, found) = c.check_for.ensures.says text later left in (
      ys,
      before,
      found_here m m _ c.args.version p (length inv) inv (c.args.reader.now.held ++ ys) c.check_for.new.reader.held later c.check_for.result
          (showable_here m p c.parts.ensures.well_formed circuit there) circuit (bad_is m p c.in-Bad.n c.bad.result.now c.in-Bad.is c.bad.ensures) (found p),
    )

-- ---- an output

pub check_for-requires-in-Output-clause-bad : goal.check_for-requires-in-Output-clause-bad
check_for-requires-in-Output-clause-bad g c =
    let there : HasProperty c.args.circuit.now c.args.property = search rules in
    output_used c.args.circuit.now c.args.property c.in-Output.n c.outputs.result.now c.in-Output.is c.outputs.ensures there

pub returns-in-Output-clause-says : goal.returns-in-Output-clause-says
returns-in-Output-clause-says g c text later left =
    let m = c.args.circuit.now in
    let p = c.args.property in
    let inv = c.args.invariant.now in
    let there : HasProperty m p = search rules in
    let circuit : m ≡ circuit_of m p = ap (circuit_of m) (sym c.in-Output.is) in
    let (ys, before, found) = c.check_for-in-Output.ensures.says text later left in (
      ys,
      before,
      found_here m m _ c.args.version p (length inv) inv (c.args.reader.now.held ++ ys) c.check_for-in-Output.new.reader.held later c.check_for-in-Output.result
          (showable_here m p c.parts.ensures.well_formed circuit there) circuit (output_is m p c.in-Output.n c.outputs.result.now c.in-Output.is c.outputs.ensures) (found p),
    )
