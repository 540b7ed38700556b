use Rattle.std.proofs.Common.{rules, ◌≢◌, true}
use Rattle.base.specs.Witness.{witness}
use Rattle.stimulus.specs.declared.judge_error.JudgeError.TheVariants.{OutOfMemory}
use Rattle.witness.specs.Strict.{ShowsNeither, ShowsNone}
use Rattle.witness.proofs.DeniedLaws.{denied_so}
use Rattle.witness.proofs.strictness.try_both.Goals as goal

pub returns-in-Err-clause-denied : goal.returns-in-Err-clause-denied
returns-in-Err-clause-denied c =
    let m = c.args.circuit.now in
    let p = c.args.property in
    let state = c.args.state.now in
    let rows = c.args.rows.now in
    let some : c.in-Err.field-0 ≢ OutOfMemory witness = search rules in
    denied_so (ShowsNone m p state rows true) (ShowsNeither m p state rows) c.try_values-in-Err.result (λ second. (c.in-Err.ensures.denied some, second)) c.try_values-in-Err.ensures.denied
