use Rattle.std.proofs.Common.{Bool, List, subst}
use Rattle.stimulus.specs.declared.value.Stimulus.TheVariants.{Violated}
use Rattle.stimulus.specs.Shown.{Shows}
use Rattle.witness.specs.Strict.{ShowsNone}
use Rattle.witness.proofs.DeniedLaws.{denied_so}
use Rattle.witness.proofs.strictness.try_values.Goals as goal

pub returns-clause-denied : goal.returns-clause-denied
returns-clause-denied c =
    let m = c.args.circuit.now in
    let p = c.args.property in
    denied_so (Shows m (Violated p c.in_ok-initial.initial c.in_ok-inputs.inputs) → ⊥) (ShowsNone m p c.args.state.now c.args.rows.now c.args.other) c.judged.result
    (λ denied k s. denied (subst (λ (first : List Bool). Shows m (Violated p first c.in_ok-inputs.inputs)) c.as_slice.ensures
    (c.in_ok-inputs.ensures.shows k (rw (c.as_slice.ensures, c.in_ok-initial.ensures.is, c.latches.ensures, c.in_ok-lines.ensures.is) s)))) c.judged.ensures.denied
