use Rattle.std.proofs.Common.{arith, sym, subst}
use Rattle.graph.specs.Circuits.{next_state}
use Rattle.witness.specs.Completions.{Completes}
use Rattle.simulate.proofs.Taking.{nexts_in_range}
use Rattle.wave_signals.proofs.OpenReplayLaws.{completes_next}
use Rattle.wave_signals.proofs.open_replay.step.Goals as goal

pub take_over-requires-clause-in_range : goal.take_over-requires-clause-in_range
take_over-requires-clause-in_range c =
    rw c.latches.ensures (λ k d k_in. let h = nexts_in_range c.args.circuit.now c.well_formed-2.ensures k d k_in in omega (arith, h, c.evaluate.ensures.places, c.requires.places))

pub returns-clause-moves : goal.returns-clause-moves
returns-clause-moves c = λ st line w state inputs at.
    let stand = c.evaluate.ensures.stand st line w state inputs at in
    subst (λ xs. Completes xs (next_state c.args.circuit.now w)) (sym c.take_over.ensures) (rw c.latches.ensures (completes_next c.evaluate.new.out w c.args.circuit.now.latches stand))
