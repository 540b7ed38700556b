use Rattle.std.proofs.Common.{ℤ, List, All, sym, subst}
use Rattle.cdcl_log.specs.Closings.{IsClosingOf}
use Rattle.cdcl_log.specs.declared.shown.Closing.{Closing}
use Rattle.inductive_proofs.proofs.showing.show_by.Goals as goal

pub shown_by-requires-clause-closed : goal.shown_by-requires-clause-closed
shown_by-requires-clause-closed c = subst (All (λ (k : Closing). (us : List ℤ) × IsClosingOf c.close_all.new.refuter us k)) (sym c.as_slice.ensures) c.in_ok-closings.ensures.closed
