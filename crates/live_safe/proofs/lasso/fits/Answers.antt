use Rattle.std.proofs.Common.{arith, rules, ◌≡◌, ◌+◌, ◌*◌, ◌<◌, length}
use Rattle.graph.specs.Circuits.{wanted_of}
use Rattle.live_safe.proofs.Counts.{fits_where, fits_not}
use Rattle.live_safe.proofs.lasso.fits.Goals.{then-initial-latches-via-then-initial-latches, then-initial-latches-via-else-initial-latches+then-is_empty}
use Rattle.live_safe.proofs.lasso.fits.Goals as goal

pub returns-then-initial-latches : goal.returns-then-initial-latches
returns-then-initial-latches c =
    let no : (length c.args.initial.now ≡ 2 * length c.args.parts.now.latches + 1 + length (wanted_of c.args.parts.now c.args.position) → 0 < length c.args.inputs.now → ⊥) =
    λ long some. elim c.then-initial-latches.branch [
      | then-initial-latches-via-then-initial-latches w ↦ w.if-initial-latches.true (rw (c.len.ensures, c.wanted_count.ensures.count) long)
      | then-initial-latches-via-else-initial-latches+then-is_empty w ↦ let empty = w.is_empty.ensures in let on = w.if-is_empty.true in grind (arith, empty, on, some)
    ] in
    (λ on. search rules, λ h. absurd (fits_not c.args.parts.now c.args.position c.args.initial.now c.args.inputs.now no h))

pub returns : goal.returns
returns c =
    let long = c.if-initial-latches.false in
    let latches = c.len.ensures in
    let wanted = c.wanted_count.ensures.count in
    let full = c.is_empty.ensures in
    let off = c.if-is_empty.false in
    fits_where c.args.parts.now c.args.position c.args.initial.now c.args.inputs.now c.len-2.result c.have_width.result (omega (arith, long, latches, wanted)) (grind (arith, full, off))
    c.len-2.ensures c.have_width.ensures
