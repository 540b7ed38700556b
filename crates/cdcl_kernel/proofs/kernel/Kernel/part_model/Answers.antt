use Rattle.std.proofs.Common.{◌≡◌, ◌∙◌, List, Bool, ℕ, ap, sym, subst, All, rules}
use Rattle.lrat.proofs.Fit.{not_true}
use Rattle.cdcl_kernel.specs.Valued.{valued}
use Rattle.solver.specs.Values.{AreTrueBy, IsAndBy}
use Rattle.cdcl_kernel.proofs.Valued.{part_model_from}
use Rattle.cdcl_kernel.proofs.kernel.Kernel.part_model.Goals as goal

pub returns-then-not-fits_gates-clause-model : goal.returns-then-not-fits_gates-clause-model
returns-then-not-fits_gates-clause-model c =
    let e : c.as_slice.result.now ≡ valued c.args.self.now.vars c.args.literals.now = c.as_slice.ensures.value ∙ c.in_ok-values.ensures.value ∙ ap (λ (n : ℕ). valued n c.args.literals.now) c.vars.ensures.value in
    let same : c.as_slice-2.result.now ≡ c.args.part.now.gates.items = search rules in
    λ m. not_true c.fits_gates.ensures.1 c.if-not-fits_gates.true (rw same (subst (λ (b : List Bool). All (IsAndBy b) c.args.part.now.gates.items) (sym e) m.gates))

pub returns-then-not-are_true-clause-model : goal.returns-then-not-are_true-clause-model
returns-then-not-are_true-clause-model c =
    let e : c.as_slice-3.result.now ≡ valued c.args.self.now.vars c.args.literals.now = c.as_slice-3.ensures.value ∙ c.in_ok-values.ensures.value ∙ ap (λ (n : ℕ). valued n c.args.literals.now) c.vars.ensures.value in
    let same : c.as_slice-4.result.now ≡ c.args.part.now.literals.items = search rules in
    λ m. not_true c.are_true.ensures.1 c.if-not-are_true.true (rw same (subst (λ (b : List Bool). AreTrueBy b c.args.part.now.literals.items) (sym e) m.wanted))

pub returns-then-not-is_assumed-clause-model : goal.returns-then-not-is_assumed-clause-model
returns-then-not-is_assumed-clause-model c =
    let e : c.as_slice-5.result.now ≡ valued c.args.self.now.vars c.args.literals.now = c.as_slice-5.ensures.value ∙ c.in_ok-values.ensures.value ∙ ap (λ (n : ℕ). valued n c.args.literals.now) c.vars.ensures.value in
    λ m. not_true c.are_true-is_assumed.ensures.1 c.if-not-is_assumed.true (subst (λ (b : List Bool). AreTrueBy b c.args.assume.now) (sym e) m.assumed)

pub returns-clause-model : goal.returns-clause-model
returns-clause-model c =
    let e : c.in_ok-values.values.items ≡ valued c.args.self.now.vars c.args.literals.now = c.in_ok-values.ensures.value ∙ ap (λ (n : ℕ). valued n c.args.literals.now) c.vars.ensures.value in
    let gates : c.as_slice-2.result.now ≡ c.args.part.now.gates.items = search rules in
    let literals : c.as_slice-4.result.now ≡ c.args.part.now.literals.items = search rules in
    let fit = rw (c.as_slice.ensures.value, gates) at (c.fits_gates.ensures.0 c.if-not-fits_gates.false) in
    let wanted = rw (c.as_slice-3.ensures.value, literals) at (c.are_true.ensures.0 c.if-not-are_true.false) in
    let assumed = rw c.as_slice-5.ensures.value at (c.are_true-is_assumed.ensures.0 c.if-not-is_assumed.false) in
    (e, part_model_from _ c.args.part.now _ c.args.literals.now _ e fit wanted assumed)
