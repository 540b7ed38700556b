use Rattle.std.proofs.Common.{◌≡◌, ◌<◌, ◌∙◌, [], length, get_or, refl, sym, arith}
use Rattle.std.proofs.lemmas.List.{get_or_default}
use Rattle.wave_signals.proofs.OpenReplayLaws.{open_all, open_more, open_none}
use Rattle.wave_signals.proofs.open_replay.play_lines.Goals as goal

pub loop-line-init : goal.loop-line-init
loop-line-init c = record { played = rw c.new-rows.ensures.items (open_none c.args.circuit.now c.args.bits.now c.args.state.now c.args.lines.now c.args.state.now refl c.requires.state); places = c.requires.places }

pub loop-line-preserved : goal.loop-line-preserved
loop-line-preserved c =
    let i = c.loop-line.line-index in
    let i_in : c.loop-line.line-index < length c.args.lines.now = omega arith in
    let is_line : get_or c.args.lines.now c.loop-line.line-index [] ≡ c.as_slice.result.now = get_or_default c.args.lines.now c.loop-line.line-index [] c.line-item.result i_in ∙ sym c.line-item.is ∙ sym c.as_slice.ensures in
    record {
      played = open_more c.args.circuit.now c.args.bits.now c.args.state.now c.args.lines.now i c.as_slice.result.now c.loop-line.state c.step.new.state c.step.new.values c.loop-line.rows.items c.push_open.new.rows.items i_in is_line
          c.step.ensures.state_places c.in_ok-push_open.ensures c.step.ensures.stand c.step.ensures.moves c.loop-line.invariant.played;
      places = c.step.ensures.places ∙ c.loop-line.invariant.places;
    }

pub returns-clause-stand : goal.returns-clause-stand
returns-clause-stand c = open_all c.args.circuit.now c.args.bits.now c.args.state.now c.args.lines.now c.loop-line.line-index c.loop-line.state c.loop-line.rows.items (omega arith) c.loop-line.invariant.played
