use Rattle.std.proofs.Common.{rules, ◌≡◌, ◌≢◌, ◌++◌, ◌∷◌, [], Some, Ok, length, refl, ap, subst, sym, ◌∙◌, inr}
use Rattle.std.specs.Prelude.{IfSome}
use Rattle.std.proofs.lemmas.List.Elements.{All-push}
use Rattle.base.specs.Witness.{witness}
use Rattle.scan.specs.Lists.{items_at}
use Rattle.lrat.specs.declared.fault.Fault.TheVariants.{OutOfMemory, NoEmptyClause}
use Rattle.lrat.specs.Halts.{Halts}
use Rattle.lrat.specs.Limits.{IsLine}
use Rattle.lrat.specs.Stages.{Goes}
use Rattle.certificate.specs.Reading.{item_at, line_where}
use Rattle.certificate.specs.Streams.{Finds}
use Rattle.certificate.proofs.StreamLaws.{err_finds, items_go, items_end, items_refused, others_found}
use Rattle.checker2.specs.Streamed.{IsFed}
use Rattle.checker2.proofs.Streaming.{along_line, fed_halts}
use Rattle.checker2.proofs.section_text.feed_lines.Goals as goal

pub returns-in_err-there-clause-says : goal.returns-in_err-there-clause-says
returns-in_err-there-clause-says g c text later left =
    let (zs, between, refused) = c.in_err-there.ensures.says text later left in
    let (ys, before, (front, all, along, still)) = c.feeding.invariant.reads text zs between in
    let read = items_at item_at (c.args.reader.now.held ++ ys) in (
      ys,
      before,
      err_finds (IsFed c.args.refuter.now.base.vars c.args.refuter.now.stage) read c.from_residual.result c.in_err-there.field-0.0 c.line_into.new.self.held later c.from_residual.ensures.1
          (items_refused read front c.in_err-there.field-0.0 c.feeding.reader.held zs still refused),
    )

pub returns-in-Ok-clause-says : goal.returns-in-Ok-clause-says
returns-in-Ok-clause-says g c text later left =
    let (zs, between, item) = c.in_ok-there.ensures.says text later left in
    let (ys, before, (front, all, along, still)) = c.feeding.invariant.reads text zs between in
    let read = items_at item_at (c.args.reader.now.held ++ ys) in
    let is = items_end read front c.feeding.reader.held c.line_into.new.self.held zs later still
    (subst (λ b. Finds (item_at (c.feeding.reader.held ++ zs)) (Ok (line_where b c.line_into.new.line)) c.line_into.new.self.held later) c.if-not-there.true item) in
    (ys, before, (front, is, (all, c.feeding.refuter.stage, along, c.in-Ok.ensures.ok.1)))

pub returns-in-Err-clause-says : goal.returns-in-Err-clause-says
returns-in-Err-clause-says g c text later left =
    let (zs, between, item) = c.in_ok-there.ensures.says text later left in
    let (ys, before, (front, all, along, still)) = c.feeding.invariant.reads text zs between in
    let read = items_at item_at (c.args.reader.now.held ++ ys) in
    let is = items_end read front c.feeding.reader.held c.line_into.new.self.held zs later still
    (subst (λ b. Finds (item_at (c.feeding.reader.held ++ zs)) (Ok (line_where b c.line_into.new.line)) c.line_into.new.self.held later) c.if-not-there.true item) in
    let e = c.in-Err.ensures.open_end c.feeding.invariant.open_ in
    let ne : c.in-Err.fault ≢ OutOfMemory witness = λ memory. let same : NoEmptyClause ≡ OutOfMemory witness = sym e.0 ∙ memory in cc in
    (ys, before, (front, is, (ne, length front, inr (e.0, record { reached = c.feeding.refuter.stage; along = along; open_end = e.1; place = refl }))))

pub returns-in-Err-feed-clause-says : goal.returns-in-Err-feed-clause-says
returns-in-Err-feed-clause-says g c text later left =
    let n = c.args.refuter.now.base.vars in
    let s = c.args.refuter.now.stage in
    let fault = c.in-Err-feed.fault in
    let line = c.line_into.new.line in
    let (us, here, skipped) = c.skip_refused.ensures.says text later left in
    let (zs, between, item) = c.in_ok-there.ensures.says text us here in
    let (ys, before, (front, all, along, still)) = c.feeding.invariant.reads text zs between in
    let read = items_at item_at (c.args.reader.now.held ++ ys) in
    let vars : c.feeding.refuter.base.vars ≡ n = ap (λ b. b.vars) c.feeding.invariant.base in
    let halts : Halts n c.feeding.refuter.stage line fault = subst (λ k. Halts k c.feeding.refuter.stage line fault) vars (subst (λ l. Halts c.feeding.refuter.base.vars c.feeding.refuter.stage l fault) c.as_ref.ensures (c.in-Err-feed.ensures.refused c.feeding.invariant.open_)) in
    let further = items_go read front line c.feeding.reader.held c.line_into.new.self.held zs us still
    (subst (λ b. Finds (item_at (c.feeding.reader.held ++ zs)) (Ok (line_where b c.line_into.new.line)) c.line_into.new.self.held us) c.if-not-there.false item) in (
      ys,
      before,
      others_found (λ lines found. (found ≡ Some fault) × (fault ≢ OutOfMemory witness)) (IsFed n s) read (front ++ line ∷ []) (items_at item_at) c.line_into.new.self.held c.skip_refused.new.reader.held us later c.skip_refused.result further
          skipped (λ more x found. fed_halts n s c.feeding.refuter.stage front line fault more x along halts found),
    )

pub feeding-preserved : goal.feeding-preserved
feeding-preserved g c = record {
  steady = search rules;
  base = c.in_default.ensures.base ∙ c.feeding.invariant.base;
  open_ = c.in_default.ensures.ok.1;
  reads = λ text later left.
      let n = c.args.refuter.now.base.vars in
      let line = c.line_into.new.line in
      let (zs, between, item) = c.in_ok-there.ensures.says text later left in
      let (ys, before, (front, all, along, still)) = c.feeding.invariant.reads text zs between in
      let read = items_at item_at (c.args.reader.now.held ++ ys) in
      let vars : c.feeding.refuter.base.vars ≡ n = ap (λ b. b.vars) c.feeding.invariant.base in
      let within : IsLine line = subst (λ b. IfSome (line_where b line) IsLine) c.if-not-there.false c.in_ok-there.ensures.line in
      let goes : Goes n c.feeding.refuter.stage line c.feed.new.self.stage = subst (λ k. Goes k c.feeding.refuter.stage line c.feed.new.self.stage) vars (subst (λ l. Goes c.feeding.refuter.base.vars c.feeding.refuter.stage l c.feed.new.self.stage) c.as_ref.ensures c.in_default.ensures.ok.2) in (
        ys,
        before,
        (
          front ++ line ∷ [],
          All-push IsLine front line all within,
          along_line n front c.args.refuter.now.stage c.feeding.refuter.stage c.feed.new.self.stage line along goes,
          items_go read front line c.feeding.reader.held c.line_into.new.self.held zs later still
              (subst (λ b. Finds (item_at (c.feeding.reader.held ++ zs)) (Ok (line_where b c.line_into.new.line)) c.line_into.new.self.held later) c.if-not-there.false item),
        ),
      );
}
