use Rattle.std.proofs.Common.{◌≡◌, ◌+◌, ◌*◌, ◌∙◌, arith}
use Rattle.graph.specs.declared.circuit.Lit.{Lit}
use Rattle.lrat.proofs.Fit.{if_err}
use Rattle.inductive_proofs.specs.ProveErrors.{IsProveError, IsProveErrorAt}
use Rattle.inductive_proofs.specs.declared.showing.Kind.TheVariants.{Step}
use Rattle.inductive_proofs.proofs.Stopped.{step_halt}
use Rattle.inductive_proofs.proofs.proving.prove_step.Goals as goal

pub returns-clause-halted : goal.returns-clause-halted
returns-clause-halted c =
    let m = c.args.circuit.now in
    let inv = c.args.invariant.now in
    let after = c.show.new.budget in
    let once : 1 * (m.max_var + 1) ≡ m.max_var + 1 = omega arith in
    if_err (IsProveErrorAt c.in_ok-formula.formula Step c.after.result inv after) (λ h. (a : Lit) → IsProveError m inv a after h) c.show.result
    (λ h halt a. step_halt m inv a c.in_ok-formula.formula c.after.result after h c.in_ok-formula.ensures.formula c.after.ensures.max_var (c.after.ensures.offset ∙ once) halt) c.show.ensures.halted
