use Rattle.portfolio.proofs.asking.Question.merged.Goals as goal

pub returns-clause-meant : goal.returns-clause-meant
returns-clause-meant c = c.decided_by.ensures.meant tt
