use Rattle.std.proofs.Common.{Bool, List, Option, subst, sym}
use Rattle.stimulus.proofs.CourseLaws.{course_of}
use Rattle.witness.specs.Completions.{Completes}
use Rattle.wave_signals.proofs.OpenReplayLaws.{if_ok}
use Rattle.wave_signals.proofs.open_replay.open_rows.Goals as goal

pub returns-clause-stand : goal.returns-clause-stand
returns-clause-stand c = if_ok _ _ c.play_open.result
    (λ v h st inputs r starts first all replays.
    let m = c.args.circuit.now in
    let begun = c.in_ok-state.ensures.stand st (rw c.latches.ensures starts) first in
    h st inputs r (subst (λ (xs : List (Option Bool)). Completes xs st) (sym c.deref.ensures.value) begun) all (course_of m st inputs r replays)) c.play_open.ensures.stand
