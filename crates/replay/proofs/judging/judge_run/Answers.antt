use Rattle.std.proofs.Common.{◌++◌, Bool, List, subst}
use Rattle.scan.specs.Lists.{items_at}
use Rattle.stimulus.specs.Reading.{line_at}
use Rattle.replay.specs.Found.{AreFound, IsFound}
use Rattle.replay.specs.Reading.{run_at}
use Rattle.replay.specs.Streams.{FindsWith}
use Rattle.replay.proofs.StreamLaws.{err_finds}
use Rattle.replay.proofs.TextFound.{run_found, run_stops}
use Rattle.replay.proofs.judging.judge_run.Goals as goal

pub returns-in_err-values_into-clause-says : goal.returns-in_err-values_into-clause-says
returns-in_err-values_into-clause-says g c text later left =
    let (ys, before, refused) = c.in_err-values_into.ensures.says text later left in
    let p = c.args.property in
    let bytes = c.args.reader.now ++ ys in
    let e = c.in_err-values_into.field-0.0 in
    (ys, before, err_finds (IsFound c.args.circuit.now) (run_at p bytes) c.from_residual.result e c.values_into.new.self later c.from_residual.ensures.1 (run_stops p bytes e refused))

pub returns-clause-says : goal.returns-clause-says
returns-clause-says g c text later left =
    let (zs, between, second) = c.judge_lines.ensures.says text later left in
    let (ys, before, first) = c.in_ok-values_into.ensures.says text zs between in
    let m = c.args.circuit.now in
    let p = c.args.property in
    let r = c.judge_lines.result in
    let last = c.judge_lines.new.reader in (
      ys,
      before,
      run_found m p c.values_into.new.line.items (c.args.reader.now ++ ys) c.values_into.new.self last zs later r first
          (subst (λ (i : List Bool). FindsWith (AreFound m p i) (items_at line_at (c.values_into.new.self ++ zs)) r last later) c.from_vec.ensures second),
    )
