use Rattle.std.proofs.Common.{◌++◌}
use Rattle.replay.specs.Found.{IsFound}
use Rattle.replay.specs.Reading.{body_at}
use Rattle.replay.proofs.StreamLaws.{err_finds}
use Rattle.replay.proofs.TextFound.{dot_found, dot_stops}
use Rattle.replay.proofs.judging.refuse_concluded.Goals as goal

pub returns-in_err-dot-clause-says : goal.returns-in_err-dot-clause-says
returns-in_err-dot-clause-says g c text later left =
    let (ys, before, refused) = c.in_err-dot.ensures.says text later left in
    let bytes = c.args.reader.now ++ ys in
    let e = c.in_err-dot.field-0.0 in
    (ys, before, λ m s p concluded. err_finds (IsFound m) (body_at s p bytes) c.from_residual.result e c.dot.new.self later c.from_residual.ensures.1 (dot_stops s p bytes e concluded refused))

pub returns-clause-says : goal.returns-clause-says
returns-clause-says g c text later left =
    let (ys, before, dot) = c.in_ok-dot.ensures.says text later left in
    (ys, before, λ m s p concluded. dot_found m s p (c.args.reader.now ++ ys) c.dot.new.self later concluded dot)
