use Rattle.std.proofs.Common.{◌≡◌, false, true, arith, below_more, refl}
use Rattle.simulate.specs.Wides.{AreFineAt}
use Rattle.simulate.proofs.WideLaws.{fine_at, fine_from}
use Rattle.simulate.proofs.initial.first_against_any.Goals as goal

pub returns-then-not-are_fine : goal.returns-then-not-are_fine
returns-then-not-are_fine c = record {
  inside = omega arith;
  against = λ fine. let no : false ≡ true = c.if-not-are_fine.ensures.1 (fine_from c.args.latches.now c.args.values.now c.loop-i.i _ (omega arith) (omega arith) fine) in cc no;
  before = c.loop-i.invariant;
}

pub loop-i-preserved : goal.loop-i-preserved
loop-i-preserved c k = below_more (AreFineAt c.args.latches.now c.args.values.now) c.loop-i.i c.loop-i.invariant
    (fine_at c.args.latches.now c.args.values.now c.loop-i.i _ (omega arith) (omega arith) (c.if-not-are_fine.ensures.0 refl)) k
