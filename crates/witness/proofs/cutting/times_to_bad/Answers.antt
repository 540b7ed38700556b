use Rattle.witness.specs.Cutting.{EndsFirst, NeverEnds, NeverShows, SetsLast, ShowsFirst}
use Rattle.witness.proofs.ShownLaws.{time_so, watched_first, watched_never}
use Rattle.witness.proofs.cutting.times_to_bad.Goals as goal

pub returns-clause-first : goal.returns-clause-first
returns-clause-first c = λ p watched.
    let m = c.args.circuit.now in
    let a = c.args.lit in
    let initial = c.args.initial.now in
    let lines = c.args.lines.now in
    let e = c.in_ok-replay.ensures.begun.0 in
    time_so _ (NeverEnds (SetsLast a) m initial lines) (NeverShows m p initial lines) (EndsFirst (SetsLast a) m initial lines) (ShowsFirst m p initial lines)
    (watched_never m p a initial lines watched) (λ t. watched_first m p a initial lines t watched) (rw e at c.times_to_set.ensures)
