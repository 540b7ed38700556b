use Rattle.std.proofs.Common.{rules, ◌≡◌, ◌++◌, ◌∷◌, ◌-◌, ◌+◌, [], List, None, Some, Ok, length, map, get_or, subst, sym, ◌∙◌, refl}
use Rattle.std.proofs.lemmas.List.{get_or_default}
use Rattle.std.specs.Prelude.{IfNone}
use Rattle.scan.specs.Lists.{many_at}
use Rattle.lrat.specs.declared.line.Line.{Line}
use Rattle.certificate.specs.Reading.{section_at}
use Rattle.certificate.specs.Streams.{FindsWith}
use Rattle.certificate.proofs.StreamLaws.{err_finds, memory_finds, many_goes_with, many_read, many_refused, others_found}
use Rattle.checker2.specs.Accepted.{Case, init_case}
use Rattle.checker2.specs.Streamed.{AreOfCases, IsOfCase}
use Rattle.checker2.proofs.Streaming.{all_proofs, init_here, next_proof, next_refused, over_here}
use Rattle.checker2.proofs.TextParts.{others_refused}
use Rattle.checker2.proofs.case_text.check_initial.Goals as goal

pub init_units_into-requires : goal.init_units_into-requires
init_units_into-requires g c = over_here c.args.check.circuit.now c.args.check.invariant.now c.loop-k.k c.list-clause.result.now c.list-clause.result.now c.requires.invariant (rw c.len-k-end.ensures at c.loop-k-test.true) (c.list-clause.ensures ∙ get_or_default c.args.check.invariant.now c.loop-k.k [] c.list-clause.result.now (rw c.len-k-end.ensures at c.loop-k-test.true)) refl

pub returns-in_err-init_units_into-clause-says : goal.returns-in_err-init_units_into-clause-says
returns-in_err-init_units_into-clause-says g c text later left =
    let (ys, before, (front, are, still)) = c.loop-k.invariant.reads text later left in
    (ys, before, memory_finds (AreOfCases (map (init_case c.args.check.circuit.now) c.args.check.invariant.now)) (many_at (section_at 105) (length c.args.check.invariant.now) (c.args.reader.now.held ++ ys)) _ c.loop-k.reader.held later c.from_residual.ensures.1)

pub returns-in_err-found-clause-says : goal.returns-in_err-found-clause-says
returns-in_err-found-clause-says g c text later left =
    let (zs, between, refused) = c.in_err-found.ensures.says text later left in
    let (ys, before, (front, are, still)) = c.loop-k.invariant.reads text zs between in
    let read = many_at (section_at 105) (length c.args.check.invariant.now) (c.args.reader.now.held ++ ys) in (
      ys,
      before,
      err_finds (AreOfCases (map (init_case c.args.check.circuit.now) c.args.check.invariant.now)) read _ c.in_err-found.field-0.0 c.check_section.new.reader.held later c.from_residual-in_err-found.ensures.1
          (many_refused (section_at 105) read front (length c.args.check.invariant.now) c.loop-k.k c.in_err-found.field-0.0 c.loop-k.reader.held zs (rw c.len-k-end.ensures at c.loop-k-test.true) still refused),
    )

pub returns-in_err-skip_sections-clause-says : goal.returns-in_err-skip_sections-clause-says
returns-in_err-skip_sections-clause-says g c text later left =
    let (us, here, refused) = c.in_err-skip_sections.ensures.says text later left in
    let (zs, between, section) = c.in_ok-found.ensures.says text us here in
    let (ys, before, (front, are, still)) = c.loop-k.invariant.reads text zs between in
    let m = c.args.check.circuit.now in
    let inv = c.args.check.invariant.now in
    let one = section_at 105 in
    let read = many_at one (length inv) (c.args.reader.now.held ++ ys) in
    let case : Case = record { base = c.loop-k.refuter.base; units = c.as_slice.result.now } in
    let (p, judged, further) = many_goes_with (IsOfCase case) one read front (length inv) c.loop-k.k (Some c.in-Some.fault) c.loop-k.reader.held c.check_section.new.reader.held zs us (rw c.len-k-end.ensures at c.loop-k-test.true) still
    (subst (λ o. FindsWith (IsOfCase case) (one (c.loop-k.reader.held ++ zs)) (Ok o) c.check_section.new.reader.held us) c.in-Some.is section) in (
      ys,
      before,
      err_finds (AreOfCases (map (init_case m) inv)) read _ c.in_err-skip_sections.field-0.0 c.skip_sections.new.reader.held later c.from_residual-in_err-skip_sections.ensures.1
          (others_refused read (front ++ p ∷ []) (many_at one (length inv - (c.loop-k.k + 1))) c.in_err-skip_sections.field-0.0 c.check_section.new.reader.held us further (rw c.len.ensures at refused)),
    )

pub returns-in-Some-clause-says : goal.returns-in-Some-clause-says
returns-in-Some-clause-says g c text later left =
    let (us, here, skipped) = c.in_ok-skip_sections.ensures.says text later left in
    let (zs, between, section) = c.in_ok-found.ensures.says text us here in
    let (ys, before, (front, are, still)) = c.loop-k.invariant.reads text zs between in
    let m = c.args.check.circuit.now in
    let inv = c.args.check.invariant.now in
    let one = section_at 105 in
    let fault = c.in-Some.fault in
    let read = many_at one (length inv) (c.args.reader.now.held ++ ys) in
    let case : Case = record { base = c.loop-k.refuter.base; units = c.as_slice.result.now } in
    let is : case ≡ init_case m (get_or inv c.loop-k.k c.list-clause.result.now) =
    init_here m inv c.loop-k.k c.list-clause.result.now c.list-clause.result.now c.loop-k.refuter.base c.as_slice.result.now (c.list-clause.ensures ∙ get_or_default c.args.check.invariant.now c.loop-k.k [] c.list-clause.result.now (rw c.len-k-end.ensures at c.loop-k-test.true)) refl c.loop-k.invariant.base (c.as_slice.ensures.value ∙ c.in_ok-init_units_into.ensures.units) in
    let (p, judged, further) = many_goes_with (IsOfCase case) one read front (length inv) c.loop-k.k (Some fault) c.loop-k.reader.held c.check_section.new.reader.held zs us (rw c.len-k-end.ensures at c.loop-k-test.true) still
    (subst (λ o. FindsWith (IsOfCase case) (one (c.loop-k.reader.held ++ zs)) (Ok o) c.check_section.new.reader.held us) c.in-Some.is section) in (
      ys,
      before,
      others_found (λ (sections : List (List Line)) found. found ≡ Some fault) (AreOfCases (map (init_case m) inv)) read (front ++ p ∷ []) (many_at one (length inv - (c.loop-k.k + 1))) c.check_section.new.reader.held c.skip_sections.new.reader.held us later (Ok (Some fault)) further
          (let (sections, whole, any) = rw c.len.ensures at skipped in (sections, whole, refl))
          (λ more x same. subst (λ o. AreOfCases (map (init_case m) inv) ((front ++ p ∷ []) ++ more) o) (sym same) (next_refused (init_case m) inv c.loop-k.k c.list-clause.result.now case front more p fault (rw c.len-k-end.ensures at c.loop-k-test.true) is are judged)),
    )

pub loop-k-preserved : goal.loop-k-preserved
loop-k-preserved g c =
    let none : c.in_ok-found.found ≡ None = search rules in
    record {
      steady = search rules;
      fresh = subst (λ o. IfNone o (c.check_section.new.refuter.refusal ≡ None)) none c.in_ok-found.ensures.fresh;
      base = c.in_ok-found.ensures.base ∙ c.loop-k.invariant.base;
      reads = λ text later left.
          let (zs, between, section) = c.in_ok-found.ensures.says text later left in
          let (ys, before, (front, are, still)) = c.loop-k.invariant.reads text zs between in
          let m = c.args.check.circuit.now in
          let inv = c.args.check.invariant.now in
          let one = section_at 105 in
          let read = many_at one (length inv) (c.args.reader.now.held ++ ys) in
          let case : Case = record { base = c.loop-k.refuter.base; units = c.as_slice.result.now } in
          let is : case ≡ init_case m (get_or inv c.loop-k.k c.list-clause.result.now) =
          init_here m inv c.loop-k.k c.list-clause.result.now c.list-clause.result.now c.loop-k.refuter.base c.as_slice.result.now (c.list-clause.ensures ∙ get_or_default c.args.check.invariant.now c.loop-k.k [] c.list-clause.result.now (rw c.len-k-end.ensures at c.loop-k-test.true)) refl c.loop-k.invariant.base (c.as_slice.ensures.value ∙ c.in_ok-init_units_into.ensures.units) in
          let (p, judged, further) = many_goes_with (IsOfCase case) one read front (length inv) c.loop-k.k None c.loop-k.reader.held c.check_section.new.reader.held zs later (rw c.len-k-end.ensures at c.loop-k-test.true) still
          (subst (λ o. FindsWith (IsOfCase case) (one (c.loop-k.reader.held ++ zs)) (Ok o) c.check_section.new.reader.held later) none section) in
          (ys, before, (front ++ p ∷ [], next_proof (init_case m) inv c.loop-k.k c.list-clause.result.now case front p (rw c.len-k-end.ensures at c.loop-k-test.true) is are judged, further));
    }

pub returns-clause-says : goal.returns-clause-says
returns-clause-says g c text later left =
    let (ys, before, (front, are, still)) = c.loop-k.invariant.reads text later left in
    let inv = c.args.check.invariant.now in
    let read = many_at (section_at 105) (length inv) (c.args.reader.now.held ++ ys) in
    let is = many_read (section_at 105) read front (length inv) c.loop-k.k c.loop-k.reader.held later (rw c.len-k-end.ensures at c.loop-k-test.false) still in
    (ys, before, (front, is, all_proofs (init_case c.args.check.circuit.now) inv c.loop-k.k front (rw c.len-k-end.ensures at c.loop-k-test.false) are))
