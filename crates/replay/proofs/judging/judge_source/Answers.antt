use Rattle.std.proofs.Common.{◌≡◌, ◌++◌}
use Rattle.stimulus.specs.declared.value.Stimulus.{Stimulus as AStimulus}
use Rattle.stimulus.specs.Texts.{SpellsStimulus, property_of}
use Rattle.replay.specs.declared.judging.Outcome.{Outcome}
use Rattle.replay.specs.Found.{IsFound, IsOutcome}
use Rattle.replay.specs.Streams.{ForText}
use Rattle.pieces.proofs.LineLaws.{over}
use Rattle.replay.proofs.StreamLaws.{match_err}
use Rattle.replay.proofs.TextFound.{text_goes_on, text_refused, text_whole}
use Rattle.replay.proofs.judging.judge_source.Goals as goal

-- the text is refused before its end, behind it, and it is whole
pub returns-in_err-outcome-clause-says : goal.returns-in_err-outcome-clause-says
returns-in_err-outcome-clause-says g c text later left =
    let (ys, before, refused) = c.in_err-outcome.ensures.says text later left in
    let e = c.in_err-outcome.field-0.0 in (
      ys,
      before,
      match_err (λ (found : Outcome). (s : AStimulus) × SpellsStimulus ys s × (found.property ≡ property_of s) × IsFound c.args.circuit.now s found.refusal) (λ x. ForText x ((s : AStimulus) → SpellsStimulus ys s → ⊥)) c.from_residual-in_err-outcome.result e c.from_residual-in_err-outcome.ensures.1
          (text_refused c.in_ok-reader.reader ys e c.in_ok-reader.ensures refused),
    )

pub returns-in_err-end-clause-says : goal.returns-in_err-end-clause-says
returns-in_err-end-clause-says g c text later left =
    let (zs, between, more) = c.in_err-end.ensures.says text later left in
    let (ys, before, first) = c.in_ok-outcome.ensures.says text zs between in
    let e = c.in_err-end.field-0.0 in (
      ys,
      before,
      match_err (λ (found : Outcome). (s : AStimulus) × SpellsStimulus ys s × (found.property ≡ property_of s) × IsFound c.args.circuit.now s found.refusal) (λ x. ForText x ((s : AStimulus) → SpellsStimulus ys s → ⊥)) c.from_residual-in_err-end.result e c.from_residual-in_err-end.ensures.1
          (text_goes_on (IsOutcome c.args.circuit.now) c.in_ok-reader.reader c.judge_text.new.reader ys zs c.in_ok-outcome.outcome e c.in_ok-reader.ensures first more),
    )

pub returns-clause-says : goal.returns-clause-says
returns-clause-says g c text later left =
    let (zs, between, end) = c.in_ok-end.ensures.says text later left in
    let (ys, before, first) = c.in_ok-outcome.ensures.says text zs between in
    let (s, spelled, both) = text_whole (IsOutcome c.args.circuit.now) c.in_ok-reader.reader c.judge_text.new.reader c.end.new.self ys zs later c.in_ok-outcome.outcome c.in_ok-reader.ensures first end in
    (ys, before, (s, spelled, both.0, both.1))

pub returns-clause-ended : goal.returns-clause-ended
returns-clause-ended g c text later left =
    let (zs, between, end) = c.in_ok-end.ensures.says text later left in
    over (c.judge_text.new.reader ++ zs) c.end.new.self later end
