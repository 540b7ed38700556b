use Rattle.std.proofs.Common.{rules, ◌≡◌, pos, neg_ℤ, not, ◌∙◌, ap, SFits, w32}
use Rattle.lrat.specs.Literals.{is_true}
use Rattle.lrat.proofs.Fit.{read32}
use Rattle.unrolling.proofs.Added.{read_as}
use Rattle.unrolling.proofs.Negated.{negation_true}
use Rattle.unrolling.proofs.encoder.Encoder.literal.Goals as goal

pub shared-requires-clause-leaves : goal.shared-requires-clause-leaves
shared-requires-clause-leaves c = c.in-Same.ensures.leaves c.args.self.now.variables c.requires.encoding.some c.requires.leaves

pub shared-requires-in-Denial-clause-leaves : goal.shared-requires-in-Denial-clause-leaves
shared-requires-in-Denial-clause-leaves c = c.in-Denial.ensures.leaves c.args.self.now.variables c.requires.encoding.some c.requires.leaves

pub returns-in-Literal-clause-literal : goal.returns-in-Literal-clause-literal
returns-in-Literal-clause-literal c =
    let f : SFits w32 c.in-Literal.literal = search rules in
    let is = c.in-Literal.ensures.leaves c.args.self.now.variables c.requires.encoding.some c.requires.leaves in
    rw (read32 _ f) is

pub returns-in_ok-shared-in-Denial-clause-value : goal.returns-in_ok-shared-in-Denial-clause-value
returns-in_ok-shared-in-Denial-clause-value c = λ v all.
    let x = c.in_ok-shared-in-Denial.field-0 in
    let f : SFits w32 c.negated.result = search rules in
    let g : SFits w32 c.positive-in-Denial.result = search rules in
    let is : c.negated.result ≡ neg_ℤ (pos x) = c.negated.ensures ∙ ap neg_ℤ (read_as _ _ g c.positive-in-Denial.ensures) in
    ap (is_true v) (read_as _ _ f is) ∙ negation_true v (pos x) c.in_ok-shared-in-Denial.ensures.literal.0 ∙ ap not (c.in_ok-shared-in-Denial.ensures.value v all) ∙ c.in-Denial.ensures.same v all.truth
