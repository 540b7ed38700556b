use Rattle.strategies.proofs.Parted.{shown_by}
use Rattle.strategies.proofs.shares.ask_with.Goals as goal

pub returns-clause-shown : goal.returns-clause-shown
returns-clause-shown g c honest = shown_by c.args.circuit.now c.find-answer.new.budget c.find-answer.result (c.find-answer.ensures.so honest)
