use Rattle.std.proofs.Common.{◌≡◌, ◌∙◌, ℕ, Bool, List, Option, None, length, replicate, ap, subst}
use Rattle.graph.specs.declared.circuit.Latch.{Latch}
use Rattle.witness.specs.Strict.{IsDeniedByInputs, ShowsNeither}
use Rattle.witness.proofs.DeniedLaws.{denied_so}
use Rattle.witness.proofs.strictness.try_inputs_alone.Goals as goal

pub returns-clause-denied : goal.returns-clause-denied
returns-clause-denied c =
    let m = c.args.circuit.now in
    let p = c.args.property in
    let rows = c.args.rows.now in
    let open_state : ℕ → List (Option Bool) = λ n. replicate n None in
    let is : c.deref.result.now ≡ open_state (length m.latches) = c.deref.ensures.value ∙ c.in_ok-state.ensures ∙ ap (λ (xs : List Latch). open_state (length xs)) c.latches.ensures in
    denied_so (ShowsNeither m p c.deref.result.now rows) (IsDeniedByInputs m p rows) c.try_both.result (λ neither. subst (λ (state : List (Option Bool)). ShowsNeither m p state rows) is neither) c.try_both.ensures.denied
