use Rattle.lrat.proofs.Halting.{halts_not}
use Rattle.lrat.proofs.refuter.Refuter.feed.Goals as goal

pub returns-in-Err-clause-complete : goal.returns-in-Err-clause-complete
returns-in-Err-clause-complete c open_ ne t goes = halts_not _ _ _ _ c.in-Err.ensures.refused ne t goes
