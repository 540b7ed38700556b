use Rattle.std.proofs.Common.{rules, ◌≡◌, ◌++◌, ◌∷◌, [], List, ℕ, None, Some, Ok, length, map, ap, refl, subst, sym, ◌∙◌}
use Rattle.scan.specs.Lists.{many_at}
use Rattle.lrat.specs.declared.line.Line.{Line}
use Rattle.certificate.specs.Reading.{section_at, sections_at}
use Rattle.certificate.specs.Streams.{FindsWith}
use Rattle.certificate.proofs.StreamLaws.{err_finds}
use Rattle.lrat.proofs.Fit.{read32}
use Rattle.checker2.specs.Accepted.{bad_case, cases, init_case, step_case}
use Rattle.checker2.specs.Streamed.{AreOfCases, IsOfCase}
use Rattle.checker2.proofs.Streaming.{bad_here, bad_last, initial_first, steps_first}
use Rattle.checker2.proofs.TextParts.{bad_found, bad_refused, behind_initial, behind_steps, initial_refused, steps_refused, then_bad, then_steps}
use Rattle.checker2.proofs.case_text.check_cases.Goals as goal

pub returns-in_err-initial-clause-says : goal.returns-in_err-initial-clause-says
returns-in_err-initial-clause-says g c text later left =
    let (ys, before, refused) = c.in_err-initial.ensures.says text later left in
    let n = length c.args.check.invariant.now in
    let bytes : List ℕ = c.args.reader.now.held ++ ys in (
      ys,
      before,
      err_finds (AreOfCases (cases c.args.check.circuit.now c.args.shared.now.base c.args.check.invariant.now c.args.check.bad)) (sections_at n bytes) _ c.in_err-initial.field-0.0 c.check_initial.new.reader.held later c.from_residual.ensures.1
          (initial_refused n bytes c.in_err-initial.field-0.0 refused),
    )

pub returns-in_err-steps-clause-says : goal.returns-in_err-steps-clause-says
returns-in_err-steps-clause-says g c text later left =
    let (zs, between, refused) = c.in_err-steps.ensures.says text later left in
    let (ys, before, initial) = c.in_ok-initial.ensures.says text zs between in
    let m = c.args.check.circuit.now in
    let inv = c.args.check.invariant.now in
    let b = c.args.shared.now.base in
    let n = length inv in
    let bytes : List ℕ = c.args.reader.now.held ++ ys in
    let inits = map (init_case m) inv in
    let steps = map (step_case m b) inv in
    let P = AreOfCases (cases m b inv c.args.check.bad) in
    let none : c.in_ok-initial.initial ≡ None = search rules in
    let first = (subst (λ o. FindsWith (AreOfCases inits) (many_at (section_at 105) n bytes) (Ok o) c.check_initial.new.reader.held zs) none initial) in (
      ys,
      before,
      behind_initial (AreOfCases inits) P n bytes c.check_initial.new.reader.held c.check_steps.new.reader.held zs later None c.from_residual-in_err-steps.result first
          (λ i are. err_finds P (then_steps n i (c.check_initial.new.reader.held ++ zs)) _ c.in_err-steps.field-0.0 c.check_steps.new.reader.held later c.from_residual-in_err-steps.ensures.1 (steps_refused n i (c.check_initial.new.reader.held ++ zs) c.in_err-steps.field-0.0 refused)),
    )

pub returns-in_err-skip_sections-clause-says : goal.returns-in_err-skip_sections-clause-says
returns-in_err-skip_sections-clause-says g c text later left =
    let (zs, between, refused) = c.in_err-skip_sections.ensures.says text later left in
    let (ys, before, initial) = c.in_ok-initial.ensures.says text zs between in
    let m = c.args.check.circuit.now in
    let inv = c.args.check.invariant.now in
    let b = c.args.shared.now.base in
    let n = length inv in
    let bytes : List ℕ = c.args.reader.now.held ++ ys in
    let inits = map (init_case m) inv in
    let steps = map (step_case m b) inv in
    let P = AreOfCases (cases m b inv c.args.check.bad) in
    let first = (subst (λ o. FindsWith (AreOfCases inits) (many_at (section_at 105) n bytes) (Ok o) c.check_initial.new.reader.held zs) c.in-Some.is initial) in (
      ys,
      before,
      behind_initial (AreOfCases inits) P n bytes c.check_initial.new.reader.held c.skip_sections.new.reader.held zs later (Some c.in-Some.fault) c.from_residual-in_err-skip_sections.result first
          (λ i are. err_finds P (then_steps n i (c.check_initial.new.reader.held ++ zs)) _ c.in_err-skip_sections.field-0.0 c.skip_sections.new.reader.held later c.from_residual-in_err-skip_sections.ensures.1 (steps_refused n i (c.check_initial.new.reader.held ++ zs) c.in_err-skip_sections.field-0.0 (rw c.len-count.ensures at refused))),
    )

pub returns-in_err-skip_section-clause-says : goal.returns-in_err-skip_section-clause-says
returns-in_err-skip_section-clause-says g c text later left =
    let (us, here, refused) = c.in_err-skip_section.ensures.says text later left in
    let (zs, between, skipped) = c.in_ok-skip_sections.ensures.says text us here in
    let (ys, before, initial) = c.in_ok-initial.ensures.says text zs between in
    let m = c.args.check.circuit.now in
    let inv = c.args.check.invariant.now in
    let b = c.args.shared.now.base in
    let n = length inv in
    let bytes : List ℕ = c.args.reader.now.held ++ ys in
    let inits = map (init_case m) inv in
    let steps = map (step_case m b) inv in
    let P = AreOfCases (cases m b inv c.args.check.bad) in
    let first = (subst (λ o. FindsWith (AreOfCases inits) (many_at (section_at 105) n bytes) (Ok o) c.check_initial.new.reader.held zs) c.in-Some.is initial) in (
      ys,
      before,
      behind_initial (AreOfCases inits) P n bytes c.check_initial.new.reader.held c.skip_section.new.reader.held zs later (Some c.in-Some.fault) c.from_residual-in_err-skip_section.result first
          (λ i are. behind_steps (λ sections x. Unit {0}) P n i (c.check_initial.new.reader.held ++ zs) c.skip_sections.new.reader.held c.skip_section.new.reader.held us later (tt {0}) c.from_residual-in_err-skip_section.result (rw c.len-count.ensures at skipped)
          (λ s any. err_finds P (then_bad i s (c.skip_sections.new.reader.held ++ us)) _ c.in_err-skip_section.field-0.0 c.skip_section.new.reader.held later c.from_residual-in_err-skip_section.ensures.1 (bad_refused i s (c.skip_sections.new.reader.held ++ us) c.in_err-skip_section.field-0.0 refused))),
    )

pub returns-in-Some-clause-says : goal.returns-in-Some-clause-says
returns-in-Some-clause-says g c text later left =
    let (us, here, last) = c.in_ok-skip_section.ensures.says text later left in
    let (zs, between, skipped) = c.in_ok-skip_sections.ensures.says text us here in
    let (ys, before, initial) = c.in_ok-initial.ensures.says text zs between in
    let m = c.args.check.circuit.now in
    let inv = c.args.check.invariant.now in
    let b = c.args.shared.now.base in
    let n = length inv in
    let bytes : List ℕ = c.args.reader.now.held ++ ys in
    let inits = map (init_case m) inv in
    let steps = map (step_case m b) inv in
    let P = AreOfCases (cases m b inv c.args.check.bad) in
    let first = (subst (λ o. FindsWith (AreOfCases inits) (many_at (section_at 105) n bytes) (Ok o) c.check_initial.new.reader.held zs) c.in-Some.is initial) in (
      ys,
      before,
      behind_initial (AreOfCases inits) P n bytes c.check_initial.new.reader.held c.skip_section.new.reader.held zs later (Some c.in-Some.fault) (Ok (Some c.in-Some.fault)) first
          (λ i are. behind_steps (λ sections x. Unit {0}) P n i (c.check_initial.new.reader.held ++ zs) c.skip_sections.new.reader.held c.skip_section.new.reader.held us later (tt {0}) (Ok (Some c.in-Some.fault)) (rw c.len-count.ensures at skipped)
          (λ s any. bad_found (λ (lines : List Line) x. x ≡ Some c.in-Some.fault) P i s (c.skip_sections.new.reader.held ++ us) c.skip_section.new.reader.held later (Ok (Some c.in-Some.fault)) (λ bad x same. subst (λ o. P (i ++ s ++ bad ∷ []) o) (sym same) (initial_first inits steps (bad_case m b c.args.check.bad) i s bad c.in-Some.fault are))
          (let (bad, is, u) = last in (bad, is, refl)))),
    )

pub returns-in_err-skip_section-2-clause-says : goal.returns-in_err-skip_section-2-clause-says
returns-in_err-skip_section-2-clause-says g c text later left =
    let (us, here, refused) = c.in_err-skip_section-2.ensures.says text later left in
    let (zs, between, stepped) = c.in_ok-steps.ensures.says text us here in
    let (ys, before, initial) = c.in_ok-initial.ensures.says text zs between in
    let m = c.args.check.circuit.now in
    let inv = c.args.check.invariant.now in
    let b = c.args.shared.now.base in
    let n = length inv in
    let bytes : List ℕ = c.args.reader.now.held ++ ys in
    let inits = map (init_case m) inv in
    let steps = map (step_case m b) inv in
    let P = AreOfCases (cases m b inv c.args.check.bad) in
    let none : c.in_ok-initial.initial ≡ None = search rules in
    let first = (subst (λ o. FindsWith (AreOfCases inits) (many_at (section_at 105) n bytes) (Ok o) c.check_initial.new.reader.held zs) none initial) in (
      ys,
      before,
      behind_initial (AreOfCases inits) P n bytes c.check_initial.new.reader.held c.skip_section-in-Some-steps.new.reader.held zs later None c.from_residual-in_err-skip_section-2.result first
          (λ i are. behind_steps (AreOfCases steps) P n i (c.check_initial.new.reader.held ++ zs) c.check_steps.new.reader.held c.skip_section-in-Some-steps.new.reader.held us later c.in_ok-steps.steps c.from_residual-in_err-skip_section-2.result stepped
          (λ s more. err_finds P (then_bad i s (c.check_steps.new.reader.held ++ us)) _ c.in_err-skip_section-2.field-0.0 c.skip_section-in-Some-steps.new.reader.held later c.from_residual-in_err-skip_section-2.ensures.1 (bad_refused i s (c.check_steps.new.reader.held ++ us) c.in_err-skip_section-2.field-0.0 refused))),
    )

pub returns-in-Some-steps-clause-says : goal.returns-in-Some-steps-clause-says
returns-in-Some-steps-clause-says g c text later left =
    let (us, here, last) = c.in_ok-skip_section-2.ensures.says text later left in
    let (zs, between, stepped) = c.in_ok-steps.ensures.says text us here in
    let (ys, before, initial) = c.in_ok-initial.ensures.says text zs between in
    let m = c.args.check.circuit.now in
    let inv = c.args.check.invariant.now in
    let b = c.args.shared.now.base in
    let n = length inv in
    let bytes : List ℕ = c.args.reader.now.held ++ ys in
    let inits = map (init_case m) inv in
    let steps = map (step_case m b) inv in
    let P = AreOfCases (cases m b inv c.args.check.bad) in
    let none : c.in_ok-initial.initial ≡ None = search rules in
    let first = (subst (λ o. FindsWith (AreOfCases inits) (many_at (section_at 105) n bytes) (Ok o) c.check_initial.new.reader.held zs) none initial) in (
      ys,
      before,
      behind_initial (AreOfCases inits) P n bytes c.check_initial.new.reader.held c.skip_section-in-Some-steps.new.reader.held zs later None (Ok (Some c.in-Some-steps.fault)) first
          (λ i are. behind_steps (AreOfCases steps) P n i (c.check_initial.new.reader.held ++ zs) c.check_steps.new.reader.held c.skip_section-in-Some-steps.new.reader.held us later (Some c.in-Some-steps.fault) (Ok (Some c.in-Some-steps.fault))
          (subst (λ o. FindsWith (AreOfCases steps) (many_at (section_at 115) n (c.check_initial.new.reader.held ++ zs)) (Ok o) c.check_steps.new.reader.held us) c.in-Some-steps.is stepped)
          (λ s more. bad_found (λ (lines : List Line) x. x ≡ Some c.in-Some-steps.fault) P i s (c.check_steps.new.reader.held ++ us) c.skip_section-in-Some-steps.new.reader.held later (Ok (Some c.in-Some-steps.fault)) (λ bad x same. subst (λ o. P (i ++ s ++ bad ∷ []) o) (sym same) (steps_first inits steps (bad_case m b c.args.check.bad) i s bad c.in-Some-steps.fault are more))
          (let (bad, is, u) = last in (bad, is, refl)))),
    )

pub returns-clause-says : goal.returns-clause-says
returns-clause-says g c text later left =
    let (us, here, last) = c.check_section.ensures.says text later left in
    let (zs, between, stepped) = c.in_ok-steps.ensures.says text us here in
    let (ys, before, initial) = c.in_ok-initial.ensures.says text zs between in
    let m = c.args.check.circuit.now in
    let inv = c.args.check.invariant.now in
    let b = c.args.shared.now.base in
    let bad = c.args.check.bad in
    let n = length inv in
    let bytes : List ℕ = c.args.reader.now.held ++ ys in
    let inits = map (init_case m) inv in
    let steps = map (step_case m b) inv in
    let P = AreOfCases (cases m b inv bad) in
    let none : c.in_ok-initial.initial ≡ None = search rules in
    let over : c.in_ok-steps.steps ≡ None = search rules in
    let same = bad_here m b bad c.check_steps.new.refuter.base _ c.in_ok-steps.ensures.base (ap (λ l. l ∷ []) (read32 c.bad_unit-unit.result (search rules) ∙ c.bad_unit-unit.ensures.unit)) in (
      ys,
      before,
      behind_initial (AreOfCases inits) P n bytes c.check_initial.new.reader.held c.check_section.new.reader.held zs later None c.check_section.result
          (subst (λ o. FindsWith (AreOfCases inits) (many_at (section_at 105) n bytes) (Ok o) c.check_initial.new.reader.held zs) none initial)
          (λ i are. behind_steps (AreOfCases steps) P n i (c.check_initial.new.reader.held ++ zs) c.check_steps.new.reader.held c.check_section.new.reader.held us later None c.check_section.result
          (subst (λ o. FindsWith (AreOfCases steps) (many_at (section_at 115) n (c.check_initial.new.reader.held ++ zs)) (Ok o) c.check_steps.new.reader.held us) over stepped)
          (λ s more. bad_found (IsOfCase (bad_case m b bad)) P i s (c.check_steps.new.reader.held ++ us) c.check_section.new.reader.held later c.check_section.result
          (λ lines x judged. bad_last inits steps (bad_case m b bad) i s lines x are more judged)
          (subst (λ k. FindsWith (IsOfCase k) (section_at 98 (c.check_steps.new.reader.held ++ us)) c.check_section.result c.check_section.new.reader.held later) same last))),
    )
