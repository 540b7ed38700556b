use Rattle.std.proofs.Common.{rules, ◌≡◌, ◌≢◌, ◌∙◌, false, sym, subst}
use Rattle.std.proofs.lemmas.Bool.{false≢true}
use Rattle.base.specs.Witness.{witness}
use Rattle.stimulus.specs.declared.judge_error.JudgeError.TheVariants.{OutOfMemory}
use Rattle.witness.specs.Strict.{IsDenied, IsDeniedByInputs, IsDeniedWithState}
use Rattle.witness.proofs.DeniedLaws.{denied_so}
use Rattle.witness.proofs.strictness.try_property.Goals as goal

pub returns-then-not-loose-clause-denied : goal.returns-then-not-loose-clause-denied
returns-then-not-loose-clause-denied c =
    let m = c.args.circuit.now in
    let p = c.args.property in
    let rows = c.as_slice-rows.result.now in
    let off : c.args.loose.now.has_state ≡ false = search rules in
    denied_so (IsDeniedByInputs m p rows) (IsDenied m c.args.loose.now p) c.try_inputs_alone.result
    (λ denied. record {
      with_state = λ on. absurd (false≢true (sym off ∙ on));
      inputs_alone = λ _. subst (IsDeniedByInputs m p) c.as_slice-rows.ensures denied;
    }) c.try_inputs_alone.ensures.denied

pub returns-in-Err-2-clause-denied : goal.returns-in-Err-2-clause-denied
returns-in-Err-2-clause-denied c =
    let m = c.args.circuit.now in
    let p = c.args.property in
    let rows = c.as_slice-rows.result.now in
    let some : c.in-Err-2.field-0 ≢ OutOfMemory witness = search rules in
    denied_so (IsDeniedByInputs m p rows) (IsDenied m c.args.loose.now p) c.try_inputs_alone-in-Err-2.result
    (λ denied. record {
      with_state = λ _. subst (IsDeniedWithState m p) c.as_slice-rows.ensures (c.in-Err-2.ensures.denied some);
      inputs_alone = λ _. subst (IsDeniedByInputs m p) c.as_slice-rows.ensures denied;
    }) c.try_inputs_alone-in-Err-2.ensures.denied
