use Rattle.std.proofs.Common.{◌∙◌, ◌<◌, List, length, subst, sym, arith}
use Rattle.graph.specs.declared.circuit.Lit.{Lit}
use Rattle.lrat.specs.Shared.{Base}
use Rattle.lrat.proofs.Fit.{err_gives}
use Rattle.checker2.specs.Accepted.{cases}
use Rattle.checker2.specs.Causes.{IsCaseFault, lemma_sections}
use Rattle.checker2.proofs.InOrder.{clause_over, init_made}
use Rattle.checker2.proofs.sections.check_initial.Goals as goal

pub init_units-requires : goal.init_units-requires
init_units-requires c =
    clause_over c.args.circuit.now c.args.certificate.now.invariant c.as_slice-invariant.result.now c.loop-k.k c.index-invariant-k.result c.as_slice.result.now c.requires.invariant
    c.as_slice-invariant.ensures c.loop-k-test.true c.index-invariant-k.is c.as_slice.ensures

pub returns-in_err-check_case-clause-err : goal.returns-in_err-check_case-clause-err
returns-in_err-check_case-clause-err c =
    let m = c.args.circuit.now in
    let inv = c.args.certificate.now.invariant in
    let ps = c.args.certificate.now.sections in
    let made = init_made m inv c.as_slice-invariant.result.now c.loop-k.k c.index-invariant-k.result c.as_slice.result.now c.loop-k.refuter.base c.as_slice-in-loop-k.result.now
    c.as_slice-invariant.ensures c.loop-k-test.true c.index-invariant-k.is c.as_slice.ensures c.loop-k.invariant.base (c.as_slice-in-loop-k.ensures.value ∙ c.in_ok-units.ensures.units) in
    err_gives (λ e. (b : Base) (a : Lit) → IsCaseFault (lemma_sections c.args.certificate.now.lemmas) (cases m b inv a) ps e) _ c.in_err-check_case.field-0.0 c.from_residual-in_err-check_case.ensures.1
    (λ b a. c.in_err-check_case.ensures.refused (cases m b inv a) (made b a) (c.loop-k.invariant.below b a))

pub loop-k-preserved : goal.loop-k-preserved
loop-k-preserved c =
    let m = c.args.circuit.now in
    let inv = c.args.certificate.now.invariant in
    let made = init_made m inv c.as_slice-invariant.result.now c.loop-k.k c.index-invariant-k.result c.as_slice.result.now c.loop-k.refuter.base c.as_slice-in-loop-k.result.now
    c.as_slice-invariant.ensures c.loop-k-test.true c.index-invariant-k.is c.as_slice.ensures c.loop-k.invariant.base (c.as_slice-in-loop-k.ensures.value ∙ c.in_ok-units.ensures.units) in
    record {
      fresh = c.in_ok-check_case.ensures.fresh;
      base = c.in_ok-check_case.ensures.base ∙ c.loop-k.invariant.base;
      below = λ b a. c.in_ok-check_case.ensures.proved (cases m b inv a) (made b a) (c.loop-k.invariant.below b a);
    }

pub returns-clause-ok : goal.returns-clause-ok
returns-clause-ok c b a k k_in =
    c.loop-k.invariant.below b a k
    (let same : k < length c.as_slice-invariant.result.now = subst (λ (l : List (List Lit)). k < length l) (sym c.as_slice-invariant.ensures) k_in in let last = c.loop-k-test.false in omega arith)
