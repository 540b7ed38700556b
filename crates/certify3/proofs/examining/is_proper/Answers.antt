use Rattle.std.proofs.Common.{rules, ◌≡◌, ◌⊎◌, ℤ, List, Contains, get_or, neg_ℤ, refl, subst, ◌∙◌, SFits, w32, to_z, of_z}
use Rattle.graph.specs.declared.circuit.Lit.{Lit}
use Rattle.lrat.proofs.Fit.{read32}
use Rattle.cnf.specs.Clauses.{literal}
use Rattle.certify3.proofs.Repeated.{not_proper}
use Rattle.certify3.proofs.examining.is_proper.Goals as goal

pub returns-then-has_value-clause-repeated : goal.returns-then-has_value-clause-repeated
returns-then-has_value-clause-repeated c denied =
    let f : Lit → ℤ = literal c.args.time.max_var c.args.time.offset in
    let cs = c.args.clause.now in
    let i = c.loop-lit.lit-index in
    let blank : Lit = record { 0 = 0 } in
    let x : ℤ = f (get_or cs i blank) in
    let read : c.literal-literal.result ≡ x = search rules in
    let fits : SFits w32 c.literal-literal.result = search rules in
    let is : to_z w32 (of_z w32 c.literal-literal.result) ≡ x = read32 c.literal-literal.result fits ∙ read in
    let found : Contains c.loop-lit.trail.literals x ⊎ Contains c.loop-lit.trail.literals (neg_ℤ x) =
    subst (λ y. Contains c.loop-lit.trail.literals y ⊎ Contains c.loop-lit.trail.literals (neg_ℤ y)) is (c.if-has_value.ensures.0 refl) in
    not_proper f cs i blank c.loop-lit-test.true (subst (λ (ls : List ℤ). Contains ls x ⊎ Contains ls (neg_ℤ x)) c.loop-lit.invariant.held found)
