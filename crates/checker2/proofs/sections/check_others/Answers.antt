use Rattle.std.proofs.Common.{rules, ◌≡◌, ◌∙◌, ◌+◌, ◌∷◌, [], length, ap, refl, arith}
use Rattle.graph.specs.declared.circuit.Lit.{Lit}
use Rattle.lrat.specs.Shared.{Base}
use Rattle.lrat.proofs.Fit.{err_gives, if_err, read32}
use Rattle.checker2.specs.Accepted.{cases, RefuteBelow}
use Rattle.checker2.specs.Causes.{IsCaseFault, lemma_sections}
use Rattle.checker2.proofs.Accepted.{if_on_ok}
use Rattle.checker2.proofs.InOrder.{clause_over, step_made, bad_made}
use Rattle.checker2.proofs.sections.check_others.Goals as goal

pub loop-k-init : goal.loop-k-init
loop-k-init c = record {
  fresh = c.requires.fresh;
  base = refl;
  below = λ k k_in. c.requires.initial k (omega arith);
}

pub step_units-requires-clause-over : goal.step_units-requires-clause-over
step_units-requires-clause-over c =
    clause_over c.args.circuit.now c.args.certificate.now.invariant c.as_slice-invariant.result.now c.loop-k.k c.index-invariant-k.result c.as_slice.result.now c.requires.invariant
    c.as_slice-invariant.ensures c.loop-k-test.true c.index-invariant-k.is c.as_slice.ensures

pub returns-in_err-check_case-clause-err : goal.returns-in_err-check_case-clause-err
returns-in_err-check_case-clause-err c =
    let m = c.args.circuit.now in
    let b : Base = c.args.refuter.now.base in
    let inv = c.args.certificate.now.invariant in
    let ps = c.args.certificate.now.sections in
    let a : Lit = c.args.bad in
    let same : length c.as_slice-invariant.result.now ≡ length inv = ap length c.as_slice-invariant.ensures in
    let made = step_made m inv c.as_slice-invariant.result.now c.loop-k.k c.index-invariant-k.result c.as_slice.result.now c.loop-k.refuter.base c.as_slice-in-loop-k.result.now
    c.as_slice-invariant.ensures c.loop-k-test.true c.index-invariant-k.is c.as_slice.ensures b a c.loop-k.invariant.base (c.as_slice-in-loop-k.ensures.value ∙ c.in_ok-units.ensures.units) in
    err_gives (IsCaseFault (lemma_sections c.args.certificate.now.lemmas) (cases m b inv a) ps) _ c.in_err-check_case.field-0.0 c.from_residual-in_err-check_case.ensures.1
    (c.in_err-check_case.ensures.refused (cases m b inv a) made (λ k k_in. c.loop-k.invariant.below k (omega arith)))

pub loop-k-preserved : goal.loop-k-preserved
loop-k-preserved c =
    let m = c.args.circuit.now in
    let b : Base = c.args.refuter.now.base in
    let inv = c.args.certificate.now.invariant in
    let ps = c.args.certificate.now.sections in
    let a : Lit = c.args.bad in
    let same : length c.as_slice-invariant.result.now ≡ length inv = ap length c.as_slice-invariant.ensures in
    let made = step_made m inv c.as_slice-invariant.result.now c.loop-k.k c.index-invariant-k.result c.as_slice.result.now c.loop-k.refuter.base c.as_slice-in-loop-k.result.now
    c.as_slice-invariant.ensures c.loop-k-test.true c.index-invariant-k.is c.as_slice.ensures b a c.loop-k.invariant.base (c.as_slice-in-loop-k.ensures.value ∙ c.in_ok-units.ensures.units) in
    let more : RefuteBelow (cases m b inv a) ps (length c.as_slice-invariant.result.now + c.loop-k.k + 1) =
    c.in_ok-check_case.ensures.proved (cases m b inv a) made (λ k k_in. c.loop-k.invariant.below k (omega arith)) in
    record {
      fresh = c.in_ok-check_case.ensures.fresh;
      base = c.in_ok-check_case.ensures.base ∙ c.loop-k.invariant.base;
      below = λ k k_in. more k (omega arith);
    }

pub returns-clause-ok : goal.returns-clause-ok
returns-clause-ok c =
    let m = c.args.circuit.now in
    let b : Base = c.args.refuter.now.base in
    let inv = c.args.certificate.now.invariant in
    let ps = c.args.certificate.now.sections in
    let a : Lit = c.args.bad in
    let same : length c.as_slice-invariant.result.now ≡ length inv = ap length c.as_slice-invariant.ensures in
    let made = bad_made m inv c.as_slice-invariant.result.now c.loop-k.refuter.base _ c.as_slice-invariant.ensures b a c.loop-k.invariant.base
    (ap (λ l. l ∷ []) (read32 c.bad_unit-unit.result (search rules) ∙ c.bad_unit-unit.ensures.unit)) in
    if_on_ok c.check_case-2.result c.check_case-2.ensures.proved
    (λ more k k_in. more (cases m b inv a) made (λ i i_in. c.loop-k.invariant.below i (let last = c.loop-k-test.false in omega arith)) k (let count = c.requires.count in omega arith))

pub returns-clause-err : goal.returns-clause-err
returns-clause-err c =
    let m = c.args.circuit.now in
    let b : Base = c.args.refuter.now.base in
    let inv = c.args.certificate.now.invariant in
    let ps = c.args.certificate.now.sections in
    let a : Lit = c.args.bad in
    let same : length c.as_slice-invariant.result.now ≡ length inv = ap length c.as_slice-invariant.ensures in
    let made = bad_made m inv c.as_slice-invariant.result.now c.loop-k.refuter.base _ c.as_slice-invariant.ensures b a c.loop-k.invariant.base
    (ap (λ l. l ∷ []) (read32 c.bad_unit-unit.result (search rules) ∙ c.bad_unit-unit.ensures.unit)) in
    if_err _ (IsCaseFault (lemma_sections c.args.certificate.now.lemmas) (cases m b inv a) ps) c.check_case-2.result
    (λ e refused. refused (cases m b inv a) made (λ i i_in. c.loop-k.invariant.below i (let last = c.loop-k-test.false in omega arith))) c.check_case-2.ensures.refused
