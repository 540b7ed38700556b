use Rattle.std.proofs.Common.{◌++◌}
use Rattle.certificate.specs.Reading.{sections_at}
use Rattle.certificate.proofs.StreamLaws.{err_finds}
use Rattle.checker2.proofs.TextParts.{bad_found, behind_initial, behind_steps, initial_refused, steps_refused, then_steps}
use Rattle.checker2.proofs.certificate_text.skip_cases.Goals as goal

pub returns-in_err-skip_sections-clause-says : goal.returns-in_err-skip_sections-clause-says
returns-in_err-skip_sections-clause-says g c text later left =
    let (ys, before, refused) = c.in_err-skip_sections.ensures.says text later left in (
      ys,
      before,
      err_finds (λ sections x. Unit {0}) (sections_at c.args.count (c.args.reader.now.held ++ ys)) _ c.in_err-skip_sections.field-0.0 c.skip_sections.new.reader.held later c.from_residual.ensures.1
          (initial_refused c.args.count (c.args.reader.now.held ++ ys) c.in_err-skip_sections.field-0.0 refused),
    )

pub returns-in_err-skip_sections-2-clause-says : goal.returns-in_err-skip_sections-2-clause-says
returns-in_err-skip_sections-2-clause-says g c text later left =
    let (zs, between, refused) = c.in_err-skip_sections-2.ensures.says text later left in
    let (ys, before, initial) = c.in_ok-skip_sections.ensures.says text zs between in (
      ys,
      before,
      behind_initial (λ sections x. Unit {0}) (λ sections x. Unit {0}) c.args.count (c.args.reader.now.held ++ ys) c.skip_sections.new.reader.held c.skip_sections-2.new.reader.held zs later (tt {0}) c.from_residual-in_err-skip_sections-2.result initial
          (λ i any. err_finds (λ sections x. Unit {0}) (then_steps c.args.count i (c.skip_sections.new.reader.held ++ zs)) _ c.in_err-skip_sections-2.field-0.0 c.skip_sections-2.new.reader.held later c.from_residual-in_err-skip_sections-2.ensures.1
          (steps_refused c.args.count i (c.skip_sections.new.reader.held ++ zs) c.in_err-skip_sections-2.field-0.0 refused)),
    )

pub returns-clause-says : goal.returns-clause-says
returns-clause-says g c text later left =
    let (us, there, bad) = c.skip_section.ensures.says text later left in
    let (zs, between, steps) = c.in_ok-skip_sections-2.ensures.says text us there in
    let (ys, before, initial) = c.in_ok-skip_sections.ensures.says text zs between in (
      ys,
      before,
      behind_initial (λ sections x. Unit {0}) (λ sections x. Unit {0}) c.args.count (c.args.reader.now.held ++ ys) c.skip_sections.new.reader.held c.skip_section.new.reader.held zs later (tt {0}) c.skip_section.result initial
          (λ i any. behind_steps (λ sections x. Unit {0}) (λ sections x. Unit {0}) c.args.count i (c.skip_sections.new.reader.held ++ zs) c.skip_sections-2.new.reader.held c.skip_section.new.reader.held us later (tt {0}) c.skip_section.result steps
          (λ s any2. bad_found (λ lines x. Unit {0}) (λ sections x. Unit {0}) i s (c.skip_sections-2.new.reader.held ++ us) c.skip_section.new.reader.held later c.skip_section.result (λ bad x u. tt) bad)),
    )
