use Rattle.lrat.proofs.Extending.{no_lemma_not}
use Rattle.lrat.proofs.refuter.Refuter.lemma.Goals as goal

pub returns-in-Err-clause-complete : goal.returns-in-Err-clause-complete
returns-in-Err-clause-complete c open_ ne some t goes = no_lemma_not _ _ _ _ c.in-Err.ensures.refused ne some t goes
