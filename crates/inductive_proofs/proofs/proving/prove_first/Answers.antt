use Rattle.graph.specs.declared.circuit.Lit.{Lit}
use Rattle.lrat.proofs.Fit.{if_err}
use Rattle.inductive_proofs.specs.ProveErrors.{IsProveError, IsProveErrorAt}
use Rattle.inductive_proofs.specs.declared.showing.Kind.TheVariants.{First}
use Rattle.inductive_proofs.proofs.Stopped.{first_halt}
use Rattle.inductive_proofs.proofs.proving.prove_first.Goals as goal

pub returns-clause-halted : goal.returns-clause-halted
returns-clause-halted c =
    let m = c.args.circuit.now in
    let inv = c.args.invariant.now in
    let after = c.show.new.budget in
    if_err (IsProveErrorAt c.in_ok-formula.formula First c.first.result inv after) (λ h. (a : Lit) → IsProveError m inv a after h) c.show.result
    (λ h halt a. first_halt m inv a c.in_ok-formula.formula c.first.result after h c.in_ok-formula.ensures.formula c.first.ensures.max_var c.first.ensures.offset halt) c.show.ensures.halted
