use Rattle.portfolio.proofs.Told.{told_by}
use Rattle.portfolio.proofs.asking.Question.answered.Goals as goal

pub returns-clause-meant : goal.returns-clause-meant
returns-clause-meant c = told_by _ _ _ _ c.args.left _ _ c.requires.few c.saturating_sub.ensures c.requires.meant
