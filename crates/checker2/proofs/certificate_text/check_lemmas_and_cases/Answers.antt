use Rattle.std.proofs.Common.{rules, ◌≡◌, ◌++◌, ◌∙◌, List, ℕ, None, Some, Ok, length, ap, refl, subst, sym}
use Rattle.lrat.specs.Courses.{Course}
use Rattle.certificate.specs.Reading.{lemmas_at}
use Rattle.certificate.specs.Streams.{FindsWith, parts_at}
use Rattle.certificate.proofs.StreamLaws.{err_finds}
use Rattle.checker2.specs.Accepted.{cases}
use Rattle.checker2.specs.Streamed.{AreOfCases, AreTaken, HasSections}
use Rattle.checker2.proofs.Found.{has_sections, lemmas_refused}
use Rattle.checker2.proofs.TextParts.{behind_lemmas, lemmas_stop, made, sections_made, sections_stop, then_sections}
use Rattle.checker2.proofs.certificate_text.check_lemmas_and_cases.Goals as goal

pub returns-in_err-found-clause-says : goal.returns-in_err-found-clause-says
returns-in_err-found-clause-says g c text later left =
    let m = c.args.check.circuit.now in
    let inv = c.args.check.invariant.now in
    let e = c.in_err-found.field-0.0 in
    let (ys, before, refused) = c.in_err-found.ensures.says text later left in
    let bytes : List ℕ = c.args.reader.now.held ++ ys in (
      ys,
      before,
      λ p. err_finds (HasSections m c.args.check.bad) (parts_at c.args.check.version p (length inv) inv bytes) _ e c.share_lemmas.new.reader.held later c.from_residual.ensures.1
          (lemmas_stop c.args.check.version p (length inv) inv bytes e (refused m inv c.requires.shared)),
    )

-- ---- the lemmas are refused

pub returns-in_err-skip_cases-clause-says : goal.returns-in_err-skip_cases-clause-says
returns-in_err-skip_cases-clause-says g c text later left =
    let m = c.args.check.circuit.now in
    let inv = c.args.check.invariant.now in
    let n = length inv in
    let b = c.share_lemmas.new.refuter.base in
    let v = c.args.check.version in
    let e = c.in_err-skip_cases.field-0.0 in
    let P = HasSections m c.args.check.bad in
    let (zs, between, refused) = c.in_err-skip_cases.ensures.says text later left in
    let (ys, before, taken) = c.in_ok-found.ensures.says text zs between in
    let bytes : List ℕ = c.args.reader.now.held ++ ys in
    let first = subst (λ o. FindsWith (AreTaken m inv b) (lemmas_at v bytes) (Ok o) c.share_lemmas.new.reader.held zs) c.in-Some.is (taken m inv c.requires.shared) in (
      ys,
      before,
      λ p. behind_lemmas (AreTaken m inv b) P v p n inv bytes c.share_lemmas.new.reader.held c.skip_cases.new.reader.held zs later (Some c.in-Some.fault) c.from_residual-in_err-skip_cases.result first
          (λ l are. err_finds P (then_sections p n inv l (c.share_lemmas.new.reader.held ++ zs)) _ e c.skip_cases.new.reader.held later c.from_residual-in_err-skip_cases.ensures.1
          (sections_stop p n inv l (c.share_lemmas.new.reader.held ++ zs) e (rw c.len.ensures at refused))),
    )

pub returns-in-Some-clause-says : goal.returns-in-Some-clause-says
returns-in-Some-clause-says g c text later left =
    let m = c.args.check.circuit.now in
    let inv = c.args.check.invariant.now in
    let n = length inv in
    let b = c.share_lemmas.new.refuter.base in
    let v = c.args.check.version in
    let fault = c.in-Some.fault in
    let P = HasSections m c.args.check.bad in
    let (zs, between, skips) = rw c.len.ensures at (c.in_ok-skip_cases.ensures.says text later left) in
    let (ss, is, u) = skips in
    let (ys, before, taken) = c.in_ok-found.ensures.says text zs between in
    let bytes : List ℕ = c.args.reader.now.held ++ ys in
    let first = subst (λ o. FindsWith (AreTaken m inv b) (lemmas_at v bytes) (Ok o) c.share_lemmas.new.reader.held zs) c.in-Some.is (taken m inv c.requires.shared) in (
      ys,
      before,
      λ p. behind_lemmas (AreTaken m inv b) P v p n inv bytes c.share_lemmas.new.reader.held c.skip_cases.new.reader.held zs later (Some fault) (Ok (Some fault)) first
          (λ l are. sections_made (λ sections x. x ≡ Some fault) P p n inv l (c.share_lemmas.new.reader.held ++ zs) c.skip_cases.new.reader.held later (Ok (Some fault))
          (λ ss x same. subst (λ o. P (made p inv l ss) o) (sym same) (lemmas_refused m c.args.check.bad (made p inv l ss) b fault are))
          (ss, is, refl)),
    )

-- ---- the lemmas are shared

pub check_cases-requires-clause-vars : goal.check_cases-requires-clause-vars
check_cases-requires-clause-vars g c = c.in_ok-found.ensures.vars ∙ ap (λ (r : Course). r.base.vars) c.requires.shared

pub returns-clause-says : goal.returns-clause-says
returns-clause-says g c text later left =
    let m = c.args.check.circuit.now in
    let inv = c.args.check.invariant.now in
    let n = length inv in
    let b = c.share_lemmas.new.refuter.base in
    let v = c.args.check.version in
    let P = HasSections m c.args.check.bad in
    let none : c.in_ok-found.found ≡ None = search rules in
    let (zs, between, are) = c.check_cases.ensures.says text later left in
    let (ys, before, taken) = c.in_ok-found.ensures.says text zs between in
    let bytes : List ℕ = c.args.reader.now.held ++ ys in
    let first = subst (λ o. FindsWith (AreTaken m inv b) (lemmas_at v bytes) (Ok o) c.share_lemmas.new.reader.held zs) none (taken m inv c.requires.shared) in (
      ys,
      before,
      λ p. behind_lemmas (AreTaken m inv b) P v p n inv bytes c.share_lemmas.new.reader.held c.check_cases.new.reader.held zs later None c.check_cases.result first
          (λ l shared. sections_made (AreOfCases (cases m b inv c.args.check.bad)) P p n inv l (c.share_lemmas.new.reader.held ++ zs) c.check_cases.new.reader.held later c.check_cases.result
          (λ ss x are. has_sections m c.args.check.bad (made p inv l ss) b x shared are) are),
    )
