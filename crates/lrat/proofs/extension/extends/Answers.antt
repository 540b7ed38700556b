use Rattle.std.proofs.Common.{◌≡◌, ◌∙◌, [], ap, subst, sym}
use Rattle.std.proofs.lemmas.List.{take_all}
use Rattle.std.specs.FinMap as fin
use Rattle.lrat.specs.Courses.{Course, at_units}
use Rattle.lrat.specs.Lemmas.{AddsEmpty, Extends, IsNoLemma, IsRefusedExtension, base_at}
use Rattle.lrat.specs.Literals.{Satisfies}
use Rattle.lrat.specs.Proofs.{first_stage}
use Rattle.lrat.specs.Stages.{Goes}
use Rattle.lrat.proofs.Extending.{no_lemma_at, extended_true, extends_next, refused_extension_not}
use Rattle.lrat.proofs.extension.extends.Goals as goal

pub loop-i-preserved : goal.loop-i-preserved
loop-i-preserved c =
    let i = c.loop-i.invariant in
    let n : c.loop-i.refuter.base.vars ≡ c.args.formula.now.vars = ap (λ b. b.vars) i.base in
    record {
      base = c.in-Ok-lemma.ensures.base ∙ i.base;
      open_ = c.in-Ok-lemma.ensures.ok.1;
      extends = extends_next _ _ _ _ _ _ _ _ c.loop-i-test.true i.extends c.index-lines-i.is
          (subst (λ k. Goes k c.loop-i.refuter.stage c.index-lines-i.result c.lemma.new.self.stage) n (subst (λ l. Goes c.loop-i.refuter.base.vars c.loop-i.refuter.stage l c.lemma.new.self.stage) c.as_ref.ensures c.in-Ok-lemma.ensures.ok.2))
          (subst (λ l. AddsEmpty l → ⊥) c.as_ref.ensures c.in-Ok-lemma.ensures.not_empty);
    }

pub returns-in-Err-lemma-clause-refused : goal.returns-in-Err-lemma-clause-refused
returns-in-Err-lemma-clause-refused c =
    let i = c.loop-i.invariant in
    let n : c.loop-i.refuter.base.vars ≡ c.args.formula.now.vars = ap (λ b. b.vars) i.base in
    let a = c.at-in-Err-lemma.ensures in
    subst (λ ls. IsRefusedExtension c.args.formula.now ls c.at-in-Err-lemma.result) c.lines-lines.ensures.lines
    (no_lemma_at c.args.formula.now c.lines-lines.result.now c.loop-i.i c.loop-i.refuter.stage c.index-lines-i.result c.in-Err-lemma.fault _ c.loop-i-test.true i.extends c.index-lines-i.is
    (subst (λ k. IsNoLemma k c.loop-i.refuter.stage c.index-lines-i.result c.in-Err-lemma.fault) n (subst (λ l. IsNoLemma c.loop-i.refuter.base.vars c.loop-i.refuter.stage l c.in-Err-lemma.fault) c.as_ref.ensures (c.in-Err-lemma.ensures.refused i.open_))) a.fault a.line a.memory)

pub returns-in-Err-lemma-clause-complete : goal.returns-in-Err-lemma-clause-complete
returns-in-Err-lemma-clause-complete c ne t whole = refused_extension_not _ _ _ (returns-in-Err-lemma-clause-refused c) ne t whole

pub returns-clause-extended : goal.returns-clause-extended
returns-clause-extended c =
    let i = c.loop-i.invariant in
    let n : c.loop-i.refuter.base.vars ≡ c.args.formula.now.vars = ap (λ b. b.vars) i.base in
    let whole = subst (λ ls. Extends c.args.formula.now.vars (first_stage c.args.formula.now) ls c.loop-i.refuter.stage) (take_all _ _ c.loop-i-test.false ∙ c.lines-lines.ensures.lines) i.extends in
    (c.loop-i.refuter.stage, whole, c.in-Ok-share.ensures.ok.1 ∙ ap (λ k. at_units (base_at k c.loop-i.refuter.stage) []) n)

pub returns-clause-sound : goal.returns-clause-sound
returns-clause-sound c =
    let e = returns-clause-extended c in
    λ v solves. subst (λ (r : Course). Satisfies v (fin.get r.base.present)) (sym e.2) (extended_true c.args.formula.now c.args.proof.now e.0 c.lines-lines.ensures.are_lines e.1 v solves)
