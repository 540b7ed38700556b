use Rattle.certificate3.specs.Reading.{later_at, proofs_at, shown_at}
use Rattle.certificate3.proofs.PartLaws.{a_proofs, proofs_is}
use Rattle.certificate3.proofs.SkipLaws.{skips_none, skips_two}
use Rattle.certificate3.proofs.streaming.skip_proofs.Goals as goal

pub returns-in_err-skip_shown-clause-says : goal.returns-in_err-skip_shown-clause-says
returns-in_err-skip_shown-clause-says g c =
    skips_none (shown_at 105 c.args.count) (later_at c.args.count) a_proofs (proofs_at c.args.count) c.in_err-skip_shown.field-0.0 c.from_residual.result (g.S.Source.leaves c.args.from.now) (g.S.Source.leaves c.skip_shown.new.from) c.args.reader.now.held c.skip_shown.new.reader.held
    (proofs_is c.args.count) c.from_residual.ensures.1 c.in_err-skip_shown.ensures.says

pub returns-clause-says : goal.returns-clause-says
returns-clause-says g c =
    skips_two (shown_at 105 c.args.count) (later_at c.args.count) a_proofs (proofs_at c.args.count) (tt {0}) c.skip_later.result (g.S.Source.leaves c.args.from.now) (g.S.Source.leaves c.skip_shown.new.from) (g.S.Source.leaves c.skip_later.new.from) c.args.reader.now.held c.skip_shown.new.reader.held c.skip_later.new.reader.held
    (proofs_is c.args.count) c.in_ok-skip_shown.ensures.says c.skip_later.ensures.says
