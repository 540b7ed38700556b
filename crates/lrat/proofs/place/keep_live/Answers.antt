use Rattle.std.proofs.Common.{arith, List, length, ◌<◌, ◌≤◌}
use Rattle.lrat.specs.declared.place.Place.{Place}
use Rattle.lrat.proofs.Kept.{keeping_none, keeping_live, keeping_dead, keeping_all}
use Rattle.lrat.proofs.place.keep_live.Goals as goal
use Rattle.lrat.proofs.place.keep_live.Goals.{then-place, else-place}

pub loop-index-init : goal.loop-index-init
loop-index-init c = keeping_none c.args.places.now.items c.args.first

pub loop-index-preserved : goal.loop-index-preserved
loop-index-preserved c =
    let ps : List Place = c.args.places.now.items in
    let qs : List Place = c.loop-index.places.items in
    let p : Place = c.index-place.result.now in
    let i = c.loop-index.index in
    let k = c.loop-index.kept in
    let lt : i < length ps = omega (arith, c.loop-index-test.true) in
    elim c.if-place.branch [
      | then-place w ↦ rw (w.places-is, w.kept-is) (keeping_live ps qs c.args.first i k p lt c.index-place.ensures w.if-place.true c.loop-index.invariant)
      | else-place w ↦ rw (w.places-is, w.kept-is) (keeping_dead ps qs c.args.first i k p lt c.index-place.ensures w.if-place.false c.loop-index.invariant)
    ]

pub returns : goal.returns
returns c =
    let ps : List Place = c.args.places.now.items in
    let le : length ps ≤ c.loop-index.index = omega (arith, c.loop-index-test.false) in
    rw c.truncate.ensures.items (keeping_all ps c.loop-index.places.items c.args.first c.loop-index.index c.loop-index.kept le c.loop-index.invariant)
