use Rattle.std.proofs.Common.{rules, refl, subst, All, pos}
use Rattle.std.proofs.lemmas.List.{take_all}
use Rattle.lrat.specs.Literals.{IsLiteral}
use Rattle.lrat.proofs.Numbered.{all_next}
use Rattle.circuit_tests.proofs.literals.are_literals.Goals as goal

pub returns : goal.returns
returns c = (λ _. subst (All (IsLiteral c.args.vars)) (take_all _ _ c.loop-literal-test.false) c.loop-literal.invariant, λ _. refl)

pub loop-literal-preserved : goal.loop-literal-preserved
loop-literal-preserved c = all_next (IsLiteral c.args.vars) _ _ (pos 0) c.loop-literal-test.true c.loop-literal.invariant (search rules)
