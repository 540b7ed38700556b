use Rattle.std.proofs.Common.{◌∙◌, arith, get_or, length-set, sym}
use Rattle.wave_signals.proofs.OpenFillLaws.{open_kept_more}
use Rattle.wave_signals.proofs.OpenLaws.{stand_gate}
use Rattle.wave_signals.proofs.OpenOrderLaws.{open_evaluated_all, open_evaluated_more}
use Rattle.wave_signals.proofs.open_values.fill_gates.Goals as goal

pub loop-place-preserved : goal.loop-place-preserved
loop-place-preserved c =
    let at_in = c.requires.ordered.in_range c.loop-place.place-index 0 (omega arith) in
    let range = c.requires.in_range (get_or c.args.order.now c.loop-place.place-index 0) record { lhs = record { 0 = 0 }; rhs0 = record { 0 = 0 }; rhs1 = record { 0 = 0 } } at_in in
    let even = c.requires.even (get_or c.args.order.now c.loop-place.place-index 0) record { lhs = record { 0 = 0 }; rhs0 = record { 0 = 0 }; rhs1 = record { 0 = 0 } } at_in in
    record {
      places = length-set c.loop-place.out c.variable.result _ ∙ c.loop-place.invariant.places;
      evaluated = open_evaluated_more c.args.gates.now c.args.order.now c.loop-place.out c.loop-place.place-index record { lhs = record { 0 = 0 }; rhs0 = record { 0 = 0 }; rhs1 = record { 0 = 0 } } c.variable.result c.conjunction.result
          c.requires.ordered (omega arith) c.requires.even c.requires.once (omega (arith, range.0, c.variable.ensures, c.loop-place.invariant.places)) (sym c.variable.ensures) c.conjunction.ensures c.loop-place.invariant.evaluated;
      kept = open_kept_more c.args.gates.now (get_or c.args.order.now c.loop-place.place-index 0) record { lhs = record { 0 = 0 }; rhs0 = record { 0 = 0 }; rhs1 = record { 0 = 0 } } c.args.out.now c.loop-place.out c.variable.result c.conjunction.result
          at_in (sym c.variable.ensures) c.loop-place.invariant.kept;
      stand = λ w h fires.
          stand_gate c.loop-place.out w _ c.variable.result _ even c.variable.ensures (omega (arith, range.0, c.variable.ensures, c.loop-place.invariant.places)) c.conjunction.ensures
          (fires (get_or c.args.order.now c.loop-place.place-index 0) record { lhs = record { 0 = 0 }; rhs0 = record { 0 = 0 }; rhs1 = record { 0 = 0 } } at_in) (c.loop-place.invariant.stand w h fires);
    }

pub returns-clause-fires : goal.returns-clause-fires
returns-clause-fires c = open_evaluated_all c.args.gates.now c.args.order.now c.loop-place.out c.loop-place.place-index c.requires.ordered (omega arith) c.loop-place.invariant.evaluated
