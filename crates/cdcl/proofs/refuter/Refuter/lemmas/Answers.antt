use Rattle.std.proofs.Common.{List, ℤ, All, sym, subst}
use Rattle.cdcl_log.specs.Closings.{IsClosingOf}
use Rattle.cdcl.proofs.refuter.Refuter.lemmas.Goals as goal

pub lemmas-requires-clause-shown : goal.lemmas-requires-clause-shown
lemmas-requires-clause-shown c = subst (λ r. All (λ k. (us : List ℤ) × IsClosingOf r us k) c.args.closings.now) (sym c.self.view_is) c.requires
