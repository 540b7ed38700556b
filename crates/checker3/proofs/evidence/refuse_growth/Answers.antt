use Rattle.std.proofs.Common.{subst}
use Rattle.certificate3.specs.Reading.{clauses_at}
use Rattle.certificate3.proofs.ChainLaws.{stops_all}
use Rattle.checker3.specs.Judged.{IsJudgedFor, IsNoExtension, IsNoGrowth}
use Rattle.checker3.proofs.Judging.{clauses_skipped}
use Rattle.checker3.proofs.evidence.refuse_growth.Goals as goal

pub returns-in_err-skip_clauses-in-Refused-clause-says : goal.returns-in_err-skip_clauses-in-Refused-clause-says
returns-in_err-skip_clauses-in-Refused-clause-says g c m a ls gs none =
    stops_all (IsJudgedFor m a) (clauses_at ls gs) c.in_err-skip_clauses-in-Refused.field-0.0 _ _ _ _ _ c.from_residual.ensures.1 (c.in_err-skip_clauses-in-Refused.ensures.says ls gs)

pub returns-in_ok-skip_clauses-in-Refused-clause-says : goal.returns-in_ok-skip_clauses-in-Refused-clause-says
returns-in_ok-skip_clauses-in-Refused-clause-says g c m a ls gs none =
    let r = c.in-Refused.refusal in
    let refused : IsNoExtension m ls gs r = subst (IsNoGrowth m ls gs) c.in-Refused.is none in
    clauses_skipped m a ls gs r _ _ c.args.reader.now.held c.skip_clauses.new.reader.held refused (c.in_ok-skip_clauses-in-Refused.ensures.says ls gs)
