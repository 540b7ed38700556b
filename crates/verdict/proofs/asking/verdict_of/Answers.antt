use Rattle.verdict.proofs.Answered.{asked_for_bad, asked_there, handed_on}
use Rattle.verdict.proofs.asking.verdict_of.Goals as goal

pub ask-requires : goal.ask-requires
ask-requires g c = asked_for_bad _ _ _ c.requires.asked

pub returns-in_err-finding-clause-refused : goal.returns-in_err-finding-clause-refused
returns-in_err-finding-clause-refused g c = handed_on c.args.circuit.now c.args.property c.in_err-finding.field-0.0 c.from_residual.result c.from_residual.ensures.1 (asked_there _ _ _ c.requires.asked)
