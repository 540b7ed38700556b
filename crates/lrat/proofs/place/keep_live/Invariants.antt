use Rattle.lrat.proofs.Kept.{IsKeeping}
use Rattle.lrat.proofs.place.keep_live.Given as goal

abbrev pub invariant-loop-index : goal.invariant-loop-index
invariant-loop-index l = IsKeeping l.initial.places.items l.places.items l.first l.index l.kept
