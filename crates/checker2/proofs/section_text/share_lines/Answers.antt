use Rattle.std.proofs.Common.{rules, ◌≡◌, ◌≢◌, ◌++◌, ◌∷◌, [], Some, Ok, ap, subst, ◌∙◌}
use Rattle.std.specs.Prelude.{IfSome}
use Rattle.std.proofs.lemmas.List.Elements.{All-push}
use Rattle.base.specs.Witness.{witness}
use Rattle.scan.specs.Lists.{items_at}
use Rattle.lrat.specs.declared.fault.Fault.TheVariants.{OutOfMemory}
use Rattle.lrat.specs.Courses.{Course}
use Rattle.lrat.specs.Lemmas.{AddsEmpty, IsNoLemma, base_at}
use Rattle.lrat.specs.Limits.{IsLine}
use Rattle.lrat.specs.Stages.{Goes}
use Rattle.certificate.specs.Reading.{item_at, line_where}
use Rattle.certificate.specs.Streams.{Finds}
use Rattle.certificate.proofs.StreamLaws.{err_finds, items_go, items_end, items_refused, others_found}
use Rattle.checker2.specs.Streamed.{AreLemmas}
use Rattle.checker2.proofs.Streaming.{extends_more, lemma_halts}
use Rattle.checker2.proofs.section_text.share_lines.Goals as goal

pub returns-in_err-there-clause-says : goal.returns-in_err-there-clause-says
returns-in_err-there-clause-says g c text later left =
    let (zs, between, refused) = c.in_err-there.ensures.says text later left in
    let (ys, before, (front, all, extends, still)) = c.taking.invariant.reads text zs between in
    let read = items_at item_at (c.args.reader.now.held ++ ys) in (
      ys,
      before,
      err_finds (AreLemmas c.args.refuter.now.base.vars c.args.refuter.now.stage c.taking.refuter.base) read c.from_residual.result c.in_err-there.field-0.0 c.line_into.new.self.held later c.from_residual.ensures.1
          (items_refused read front c.in_err-there.field-0.0 c.taking.reader.held zs still refused),
    )

pub returns-then-not-there-clause-says : goal.returns-then-not-there-clause-says
returns-then-not-there-clause-says g c text later left =
    let (zs, between, item) = c.in_ok-there.ensures.says text later left in
    let (ys, before, (front, all, extends, still)) = c.taking.invariant.reads text zs between in
    let read = items_at item_at (c.args.reader.now.held ++ ys) in
    let is = items_end read front c.taking.reader.held c.line_into.new.self.held zs later still
    (subst (λ b. Finds (item_at (c.taking.reader.held ++ zs)) (Ok (line_where b c.line_into.new.line)) c.line_into.new.self.held later) c.if-not-there.true item) in
    let vars : c.taking.refuter.base.vars ≡ c.args.refuter.now.base.vars = ap (λ b. b.vars) c.taking.invariant.base in
    (ys, before, (front, is, (c.taking.refuter.stage, all, extends, ap (λ (r : Course). r.base) c.in-Ok.ensures.ok.1 ∙ ap (λ k. base_at k c.taking.refuter.stage) vars)))

pub returns-in-Err-lemma-clause-says : goal.returns-in-Err-lemma-clause-says
returns-in-Err-lemma-clause-says g c text later left =
    let n = c.args.refuter.now.base.vars in
    let s = c.args.refuter.now.stage in
    let fault = c.in-Err-lemma.fault in
    let line = c.line_into.new.line in
    let (us, here, skipped) = c.skip_refused.ensures.says text later left in
    let (zs, between, item) = c.in_ok-there.ensures.says text us here in
    let (ys, before, (front, all, extends, still)) = c.taking.invariant.reads text zs between in
    let read = items_at item_at (c.args.reader.now.held ++ ys) in
    let vars : c.taking.refuter.base.vars ≡ n = ap (λ b. b.vars) c.taking.invariant.base in
    let none : IsNoLemma n c.taking.refuter.stage line fault = subst (λ k. IsNoLemma k c.taking.refuter.stage line fault) vars (subst (λ l. IsNoLemma c.taking.refuter.base.vars c.taking.refuter.stage l fault) c.as_ref.ensures (c.in-Err-lemma.ensures.refused c.taking.invariant.open_)) in
    let further = items_go read front line c.taking.reader.held c.line_into.new.self.held zs us still
    (subst (λ b. Finds (item_at (c.taking.reader.held ++ zs)) (Ok (line_where b c.line_into.new.line)) c.line_into.new.self.held us) c.if-not-there.false item) in (
      ys,
      before,
      others_found (λ lines found. (found ≡ Some fault) × (fault ≢ OutOfMemory witness)) (AreLemmas n s c.lemma.new.self.base) read (front ++ line ∷ []) (items_at item_at) c.line_into.new.self.held c.skip_refused.new.reader.held us later c.skip_refused.result further
          skipped (λ more x found. lemma_halts n s c.taking.refuter.stage c.lemma.new.self.base front line fault more x extends none found),
    )

pub taking-preserved : goal.taking-preserved
taking-preserved g c = record {
  steady = search rules;
  base = c.in_default.ensures.base ∙ c.taking.invariant.base;
  open_ = c.in_default.ensures.ok.1;
  reads = λ text later left.
      let n = c.args.refuter.now.base.vars in
      let line = c.line_into.new.line in
      let (zs, between, item) = c.in_ok-there.ensures.says text later left in
      let (ys, before, (front, all, extends, still)) = c.taking.invariant.reads text zs between in
      let read = items_at item_at (c.args.reader.now.held ++ ys) in
      let vars : c.taking.refuter.base.vars ≡ n = ap (λ b. b.vars) c.taking.invariant.base in
      let within : IsLine line = subst (λ b. IfSome (line_where b line) IsLine) c.if-not-there.false c.in_ok-there.ensures.line in
      let goes : Goes n c.taking.refuter.stage line c.lemma.new.self.stage = subst (λ k. Goes k c.taking.refuter.stage line c.lemma.new.self.stage) vars (subst (λ l. Goes c.taking.refuter.base.vars c.taking.refuter.stage l c.lemma.new.self.stage) c.as_ref.ensures c.in_default.ensures.ok.2) in (
        ys,
        before,
        (
          front ++ line ∷ [],
          All-push IsLine front line all within,
          extends_more n front c.args.refuter.now.stage c.taking.refuter.stage c.lemma.new.self.stage line extends goes (subst (λ l. AddsEmpty l → ⊥) c.as_ref.ensures c.in_default.ensures.not_empty),
          items_go read front line c.taking.reader.held c.line_into.new.self.held zs later still
              (subst (λ b. Finds (item_at (c.taking.reader.held ++ zs)) (Ok (line_where b c.line_into.new.line)) c.line_into.new.self.held later) c.if-not-there.false item),
        ),
      );
}
