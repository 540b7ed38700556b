use Rattle.std.proofs.Common.{rules, ◌≡◌, ◌≢◌, ◌++◌, List, ℕ, Option, Some, Ok, ap, refl, ◌∙◌}
use Rattle.base.specs.Witness.{witness}
use Rattle.certificate.specs.Streams.{parts_at}
use Rattle.certificate.specs.declared.certificate.Certificate.{Certificate}
use Rattle.certificate.proofs.StreamLaws.{err_finds}
use Rattle.checker2.specs.Numbers.{number_of}
use Rattle.checker2.specs.declared.check_error.CheckError.TheVariants.{OutOfMemory}
use Rattle.checker2.proofs.TextParts.{behind_lemmas, lemmas_stop, sections_made, sections_stop, then_sections}
use Rattle.checker2.proofs.certificate_text.skip_parts.Goals as goal

pub returns-in_err-skip_lemmas-in_default : goal.returns-in_err-skip_lemmas-in_default
returns-in_err-skip_lemmas-in_default g c = record {
  says = λ text later left.
      let e = c.in_err-skip_lemmas-in_default.field-0.0 in
      let (ys, before, refused) = c.in_err-skip_lemmas-in_default.ensures.says text later left in
      let bytes : List ℕ = c.args.reader.now.held ++ ys in (
        ys,
        before,
        λ p inv. err_finds (λ (k : Certificate) (found : Option ℕ). (found ≡ Some (number_of c.args.error)) × (c.args.error ≢ OutOfMemory witness)) (parts_at c.args.version p c.args.count inv bytes) _ e c.skip_lemmas.new.reader.held later c.from_residual.ensures.1
            (lemmas_stop c.args.version p c.args.count inv bytes e refused),
      );
  device = search rules;
}

pub returns-in_err-skip_cases-in_default : goal.returns-in_err-skip_cases-in_default
returns-in_err-skip_cases-in_default g c = record {
  says = λ text later left.
      let e = c.in_err-skip_cases-in_default.field-0.0 in
      let P = λ (k : Certificate) (found : Option ℕ). (found ≡ Some (number_of c.args.error)) × (c.args.error ≢ OutOfMemory witness) in
      let (zs, between, refused) = c.in_err-skip_cases-in_default.ensures.says text later left in
      let (ys, before, lemmas) = c.in_ok-skip_lemmas-in_default.ensures.says text zs between in
      let bytes : List ℕ = c.args.reader.now.held ++ ys in (
        ys,
        before,
        λ p inv. behind_lemmas (λ lemmas x. Unit {0}) P c.args.version p c.args.count inv bytes c.skip_lemmas.new.reader.held c.skip_cases.new.reader.held zs later (tt {0}) c.from_residual-in_err-skip_cases-in_default.result lemmas
            (λ l any. err_finds P (then_sections p c.args.count inv l (c.skip_lemmas.new.reader.held ++ zs)) _ e c.skip_cases.new.reader.held later c.from_residual-in_err-skip_cases-in_default.ensures.1
            (sections_stop p c.args.count inv l (c.skip_lemmas.new.reader.held ++ zs) e refused)),
      );
  device = search rules;
}

pub returns-in_ok-skip_cases-in_default : goal.returns-in_ok-skip_cases-in_default
returns-in_ok-skip_cases-in_default g c = record {
  says = λ text later left.
      let P = λ (k : Certificate) (found : Option ℕ). (found ≡ Some (number_of c.args.error)) × (c.args.error ≢ OutOfMemory witness) in
      let ne : c.args.error ≢ OutOfMemory witness = search rules in
      let (zs, between, skips) = c.in_ok-skip_cases-in_default.ensures.says text later left in
      let (ss, is, u) = skips in
      let (ys, before, lemmas) = c.in_ok-skip_lemmas-in_default.ensures.says text zs between in
      let bytes : List ℕ = c.args.reader.now.held ++ ys in (
        ys,
        before,
        λ p inv. behind_lemmas (λ lemmas x. Unit {0}) P c.args.version p c.args.count inv bytes c.skip_lemmas.new.reader.held c.skip_cases.new.reader.held zs later (tt {0}) (Ok (Some c.number.result)) lemmas
            (λ l any. sections_made (λ sections x. x ≡ Some c.number.result) P p c.args.count inv l (c.skip_lemmas.new.reader.held ++ zs) c.skip_cases.new.reader.held later (Ok (Some c.number.result)) (λ ss x same. (same ∙ ap (λ (n : ℕ). Some n) c.number.ensures, ne))
            (ss, is, refl)),
      );
  device = search rules;
}
