use Rattle.scan.specs.Lists.{many_at}
use Rattle.certificate.specs.Reading.{section_at}
use Rattle.certificate.specs.Streams.{letter_of}
use Rattle.certificate3.specs.Reading.{hints_at, shown_at}
use Rattle.certificate3.proofs.PartLaws.{a_shown, shown_is}
use Rattle.certificate3.proofs.SkipLaws.{skips_none, skips_two}
use Rattle.certificate3.proofs.streaming.skip_shown.Goals as goal

pub returns-in_err-skip_section-clause-says : goal.returns-in_err-skip_section-clause-says
returns-in_err-skip_section-clause-says g c =
    skips_none (section_at (letter_of c.args.kind)) (many_at hints_at c.args.count) a_shown (shown_at (letter_of c.args.kind) c.args.count) c.in_err-skip_section.field-0.0 c.from_residual.result (g.S.Source.leaves c.args.from.now) (g.S.Source.leaves c.skip_section.new.from) c.args.reader.now.held c.skip_section.new.reader.held
    (shown_is (letter_of c.args.kind) c.args.count) c.from_residual.ensures.1 c.in_err-skip_section.ensures.says

pub returns-clause-says : goal.returns-clause-says
returns-clause-says g c =
    skips_two (section_at (letter_of c.args.kind)) (many_at hints_at c.args.count) a_shown (shown_at (letter_of c.args.kind) c.args.count) (tt {0}) c.skip_hints.result (g.S.Source.leaves c.args.from.now) (g.S.Source.leaves c.skip_section.new.from) (g.S.Source.leaves c.skip_hints.new.from) c.args.reader.now.held c.skip_section.new.reader.held c.skip_hints.new.reader.held
    (shown_is (letter_of c.args.kind) c.args.count) c.in_ok-skip_section.ensures.says c.skip_hints.ensures.says
