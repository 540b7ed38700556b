use Rattle.std.proofs.Common.{◌<◌, All, subst}
use Rattle.std.proofs.lemmas.List.{take_all}
use Rattle.graph.specs.declared.circuit.Lit.{Lit}
use Rattle.lrat.proofs.Numbered.{all_next}
use Rattle.certificate.proofs.limits.literals_fit.Goals as goal

abbrev zero_lit : Lit
zero_lit = record { 0 = 0 }

pub loop-literal-preserved : goal.loop-literal-preserved
loop-literal-preserved c =
    all_next (λ (a : Lit). a.0 < 4294967296) c.args.literals.now c.loop-literal.literal-index zero_lit c.loop-literal-test.true c.loop-literal.invariant (rw (← c.number-number.ensures) c.number-number.type_inv)

pub returns : goal.returns
returns c = subst (All (λ (a : Lit). a.0 < 4294967296)) (take_all _ _ c.loop-literal-test.false) c.loop-literal.invariant
