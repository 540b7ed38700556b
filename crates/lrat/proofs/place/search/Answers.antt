use Rattle.std.proofs.Common.{arith, false}
use Rattle.lrat.specs.declared.place.Place.{Place}
use Rattle.lrat.proofs.Rising.{below_middle, above_middle, nowhere}
use Rattle.lrat.proofs.place.search.Goals as goal

pub halving-preserved-then-here-id-2 : goal.halving-preserved-then-here-id-2
halving-preserved-then-here-id-2 c = record {
  fits = c.halving.invariant.fits;
  low = below_middle c.args.places.now _ c.args.id _ c.requires (omega (arith, c.halving-test.true, c.halving.invariant.fits)) c.if-here-id-2.true;
  high = c.halving.invariant.high;
}

pub halving-preserved : goal.halving-preserved
halving-preserved c =
    let none : Place = record { start = 0; len = 0; id = 0; live = false } in
    record {
      fits = omega (arith, c.halving-test.true, c.halving.invariant.fits);
      low = c.halving.invariant.low;
      high = above_middle c.args.places.now _ c.args.id none c.requires (omega (arith, c.halving-test.true, c.halving.invariant.fits)) (omega (arith, c.if-here-id-2.false, c.if-here-id.false));
    }

pub returns : goal.returns
returns c = nowhere c.args.places.now c.halving.low c.halving.high c.args.id (omega (arith, c.halving-test.false)) c.halving.invariant.low c.halving.invariant.high
