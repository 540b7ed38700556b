use Rattle.cdcl_log.specs.Keeping.{Keeps}
use Rattle.cdcl_search.proofs.units.learn_root_units.Given as goal

abbrev pub invariant-loop-trail_index : goal.invariant-loop-trail_index
invariant-loop-trail_index l = Keeps l.initial.kernel l.kernel
