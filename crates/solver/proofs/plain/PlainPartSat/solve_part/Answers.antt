use Rattle.solver.proofs.plain.PlainPartSat.solve_part.Goals as goal

pub returns-clause-lawful : goal.returns-clause-lawful
returns-clause-lawful c = c.answer_of.ensures.lawful c.args.self.now.vars c.args.self.now.clauses c.args.assume.now c.in_ok-answer.ensures.lawful
