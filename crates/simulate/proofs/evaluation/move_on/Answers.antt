use Rattle.std.proofs.Common.{ap, ◌∙◌, arith}
use Rattle.std.proofs.lemmas.List.{get_or_default}
use Rattle.graph.specs.Circuits.{value_of}
use Rattle.simulate.specs.Lanes.{row_of}
use Rattle.simulate.proofs.Taking.{Taken-all}
use Rattle.simulate.proofs.WideLaws.{taken_in}
use Rattle.simulate.proofs.evaluation.move_on.Goals as goal

pub loop-i-preserved : goal.loop-i-preserved
loop-i-preserved c r r_in =
    taken_in (λ x. value_of (row_of r c.args.values.now) x.next) c.args.latches.now c.loop-i.state r c.loop-i.i c.literal_value.result (omega arith)
    (λ d. c.literal_value.ensures r r_in ∙ ap (λ x. value_of (row_of r c.args.values.now) x.next) (get_or_default c.args.latches.now c.loop-i.i _ d (omega arith)))
    (c.loop-i.invariant r r_in)

pub returns : goal.returns
returns c r r_in = Taken-all (λ x. value_of (row_of r c.args.values.now) x.next) c.args.latches.now (row_of r c.loop-i.state) c.loop-i.i
    (record { lit = record { 0 = 0 }; next = record { 0 = 0 }; reset = record { 0 = 0 } }) (omega arith) (c.loop-i.invariant r r_in)
