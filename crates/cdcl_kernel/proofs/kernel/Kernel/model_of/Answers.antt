use Rattle.std.proofs.Common.{◌≡◌, ◌∙◌, List, Bool, ℕ, ap, sym, subst, All}
use Rattle.lrat.proofs.Fit.{not_true}
use Rattle.cdcl_kernel.specs.Kept.{added}
use Rattle.cdcl_kernel.specs.Valued.{valued}
use Rattle.solver.specs.Values.{AreTrueBy}
use Rattle.cdcl_kernel.specs.Verdicts.{IsSatisfiedBy}
use Rattle.cdcl_kernel.proofs.Judged.{unsatisfied_open}
use Rattle.cdcl_kernel.proofs.Valued.{model_from}
use Rattle.cdcl_kernel.proofs.kernel.Kernel.model_of.Goals as goal

pub returns-in-Some-clause-model : goal.returns-in-Some-clause-model
returns-in-Some-clause-model c =
    let e : c.as_slice.result.now ≡ valued c.args.self.now.vars c.args.literals.now = c.as_slice.ensures.value ∙ c.in_ok-values.ensures.value ∙ ap (λ (n : ℕ). valued n c.args.literals.now) c.vars.ensures.value in
    λ m. unsatisfied_open c.args.self.now.kept c.as_slice.result.now c.in-Some.field-0 c.in-Some.ensures (subst (λ (b : List Bool). All (IsSatisfiedBy b) (added c.args.self.now.kept)) (sym e) m.satisfied)

pub returns-then-not-are_true-clause-model : goal.returns-then-not-are_true-clause-model
returns-then-not-are_true-clause-model c =
    let e : c.as_slice-2.result.now ≡ valued c.args.self.now.vars c.args.literals.now = c.as_slice-2.ensures.value ∙ c.in_ok-values.ensures.value ∙ ap (λ (n : ℕ). valued n c.args.literals.now) c.vars.ensures.value in
    λ m. not_true c.are_true.ensures.1 c.if-not-are_true.true (subst (λ (b : List Bool). AreTrueBy b c.args.assume.now) (sym e) m.assumed)

pub returns-clause-model : goal.returns-clause-model
returns-clause-model c =
    let e : c.in_ok-values.values.items ≡ valued c.args.self.now.vars c.args.literals.now = c.in_ok-values.ensures.value ∙ ap (λ (n : ℕ). valued n c.args.literals.now) c.vars.ensures.value in
    let satisfied = rw c.as_slice.ensures.value at c.in_default.ensures in
    let assumed = rw c.as_slice-2.ensures.value at (c.are_true.ensures.0 c.if-not-are_true.false) in
    (e, model_from _ _ _ c.args.literals.now _ e satisfied assumed)
