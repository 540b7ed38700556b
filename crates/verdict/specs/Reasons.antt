-- Which of two reasons is reported, and the reason of an answer.
use Rattle.std.specs.Prelude.{max, Option, None, Some, Result, Ok, Err}
use Rattle.engine.specs.declared.finding.Reason.{Reason}
use Rattle.engine.specs.declared.finding.Reason.TheVariants.{Budget, Depth, NoEvidence}
use Rattle.verdict.specs.declared.decide_error.DecideError.{DecideError}
use Rattle.verdict.specs.declared.verdict.Verdict.{Verdict}
use Rattle.verdict.specs.declared.verdict.Verdict.TheVariants.{Safe, Unsafe, Unknown}

-- that the budget is exhausted, or else the greater depth, or else that there was no evidence
abbrev pub weightier_of : Reason → Reason → Reason
weightier_of Budget found = Budget
weightier_of (Depth steps) Budget = Budget
weightier_of (Depth steps) (Depth more) = Depth (max steps more)
weightier_of (Depth steps) NoEvidence = Depth steps
weightier_of NoEvidence found = found

-- the reason of a verdict that is unknown
abbrev pub reason_in : Verdict → Option Reason
reason_in (Safe c) = None
reason_in (Unsafe s) = None
reason_in (Unknown reason) = Some reason

-- the reason of an answer that is such a verdict; evidence and a refusal have none
abbrev pub reason_of : Result Verdict DecideError → Option Reason
reason_of (Ok v) = reason_in v
reason_of (Err e) = None
