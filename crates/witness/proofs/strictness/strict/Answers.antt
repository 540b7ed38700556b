use Rattle.std.proofs.Common.{rules, ◌≢◌, All, take, sym, subst}
use Rattle.std.proofs.lemmas.List.{take_all, take_more}
use Rattle.std.proofs.lemmas.List.Elements.{All-push}
use Rattle.base.specs.Witness.{witness}
use Rattle.stimulus.specs.declared.judge_error.JudgeError.TheVariants.{OutOfMemory}
use Rattle.witness.specs.Strict.{IsDenied}
use Rattle.witness.proofs.strictness.strict.Goals as goal

pub loop-property-preserved : goal.loop-property-preserved
loop-property-preserved c =
    let asked = c.args.asked.now in
    let k = c.loop-property.property-index in
    let some : c.in-Err.error ≢ OutOfMemory witness = search rules in
    subst (All (IsDenied c.args.circuit.now c.args.loose.now)) (sym (take_more asked k _ c.loop-property-test.true))
    (All-push (IsDenied c.args.circuit.now c.args.loose.now) (take k asked) _ c.loop-property.invariant (c.in-Err.ensures.denied some))

pub returns-clause-refused : goal.returns-clause-refused
returns-clause-refused c = subst (All (IsDenied c.args.circuit.now c.args.loose.now)) (take_all c.loop-property.property-index c.args.asked.now c.loop-property-test.false) c.loop-property.invariant
