use Rattle.certificate.specs.Reading.{section_at}
use Rattle.certificate3.specs.Reading.{later_at, shown_at}
use Rattle.certificate3.proofs.PartLaws.{a_later, later_is}
use Rattle.certificate3.proofs.SkipLaws.{skips_none, skips_two}
use Rattle.certificate3.proofs.streaming.skip_later.Goals as goal

pub returns-in_err-skip_shown-clause-says : goal.returns-in_err-skip_shown-clause-says
returns-in_err-skip_shown-clause-says g c =
    skips_none (shown_at 115 c.args.count) (section_at 98) a_later (later_at c.args.count) c.in_err-skip_shown.field-0.0 c.from_residual.result (g.S.Source.leaves c.args.from.now) (g.S.Source.leaves c.skip_shown.new.from) c.args.reader.now.held c.skip_shown.new.reader.held
    (later_is c.args.count) c.from_residual.ensures.1 c.in_err-skip_shown.ensures.says

pub returns-clause-says : goal.returns-clause-says
returns-clause-says g c =
    skips_two (shown_at 115 c.args.count) (section_at 98) a_later (later_at c.args.count) (tt {0}) c.skip_section.result (g.S.Source.leaves c.args.from.now) (g.S.Source.leaves c.skip_shown.new.from) (g.S.Source.leaves c.skip_section.new.from) c.args.reader.now.held c.skip_shown.new.reader.held c.skip_section.new.reader.held
    (later_is c.args.count) c.in_ok-skip_shown.ensures.says c.skip_section.ensures.says
