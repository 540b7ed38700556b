use Rattle.std.proofs.Common.{rules, ◌++◌, ◌<◌, length, refl}
use Rattle.graph.specs.Circuits.{HasProperty}
use Rattle.live_safe.specs.Shadow.{shadow_of}
use Rattle.graph.specs.declared.circuit.Property.TheVariants.{Justice}
use Rattle.checker2.specs.declared.check_error.CheckError.TheVariants.{Limit, NoProperty}
use Rattle.checker2.proofs.Watched.{closing_is, closing_used}
use Rattle.checker2.proofs.TextFound.{found_here, no_such, refused_here, too_many}
use Rattle.checker2.proofs.certificate_text.check_justice.Goals as goal

pub check_for-requires-clause-bad : goal.check_for-requires-clause-bad
check_for-requires-clause-bad g c = closing_used c.args.circuit.now c.in-Ok.shadow c.args.n c.bad.result.now c.in-Ok.ensures.shadow c.bad.ensures

pub returns-in-Ok-clause-says : goal.returns-in-Ok-clause-says
returns-in-Ok-clause-says g c text later left =
    let m = c.args.circuit.now in
    let n = c.args.n in
    let inv = c.args.invariant.now in
    let (ys, before, found) = c.check_for.ensures.says text later left in (
      ys,
      before,
      found_here m c.in-Ok.shadow _ c.args.version (Justice n) (length inv) inv (c.args.reader.now.held ++ ys) c.check_for.new.reader.held later c.check_for.result
          (record { exists = c.in-Ok.ensures.exists; within = c.in-Ok.ensures.within }) c.in-Ok.ensures.shadow (closing_is m c.in-Ok.shadow n c.bad.result.now c.in-Ok.ensures.shadow c.bad.ensures)
          (found (Justice n)),
    )

pub returns-in-Err-NoProperty-clause-says : goal.returns-in-Err-NoProperty-clause-says
returns-in-Err-NoProperty-clause-says g c text later left =
    let m = c.args.circuit.now in
    let n = c.args.n in
    let inv = c.args.invariant.now in
    let none : HasProperty m (Justice n) → ⊥ = search rules in
    let (ys, before, skips) = c.skip_parts.ensures.says text later left in (
      ys,
      before,
      refused_here m (NoProperty n) c.args.version (Justice n) (length inv) inv (c.args.reader.now.held ++ ys) c.skip_parts.new.reader.held later c.skip_parts.result
          (no_such m (Justice n) (NoProperty n) refl none) (rw c.len-count.ensures at (skips (Justice n) inv)),
    )

pub returns-in-Err-Limit-clause-says : goal.returns-in-Err-Limit-clause-says
returns-in-Err-Limit-clause-says g c text later left =
    let m = c.args.circuit.now in
    let n = c.args.n in
    let inv = c.args.invariant.now in
    let there : n < length m.justice = search rules in
    let many : 4194303 < (shadow_of m n).max_var = search rules in
    let (ys, before, skips) = c.skip_parts-in-Err-Limit.ensures.says text later left in (
      ys,
      before,
      refused_here m Limit c.args.version (Justice n) (length inv) inv (c.args.reader.now.held ++ ys) c.skip_parts-in-Err-Limit.new.reader.held later c.skip_parts-in-Err-Limit.result
          (too_many m n there many) (rw c.len-count.ensures at (skips (Justice n) inv)),
    )
