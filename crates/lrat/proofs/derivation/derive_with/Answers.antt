use Rattle.base.specs.Witness.{witness}
use Rattle.std.proofs.Common.{ℕ, Bool, ◌≢◌}
use Rattle.std.proofs.lemmas.List.{map-id}
use Rattle.lrat.specs.Literals.{Satisfies, IsSatisfied}
use Rattle.lrat.specs.Lines.{IsAcceptedLine}
use Rattle.lrat.proofs.Fit.{if_ok, if_err}
use Rattle.lrat.proofs.Complete.{refused_not}
use Rattle.lrat.specs.Refusals.{IsRefusedLine}
use Rattle.lrat.specs.declared.fault.Fault.TheVariants.{OutOfMemory}
use Rattle.lrat.proofs.Sound.{shown_true}
use Rattle.lrat.proofs.derivation.derive_with.Goals as goal

pub returns-clause-accepted : goal.returns-clause-accepted
returns-clause-accepted g c = rw (map-id c.args.hints.now) at c.derive_hinted.ensures.accepted

pub returns-clause-refused : goal.returns-clause-refused
returns-clause-refused g c = rw (map-id c.args.hints.now) at c.derive_hinted.ensures.refused

pub returns-clause-sound : goal.returns-clause-sound
returns-clause-sound g c =
    if_ok (λ _. IsAcceptedLine (g.C.Lookup.vars c.args.clauses.now) (g.C.Lookup.find c.args.clauses.now) c.args.clause.now c.args.hints.now)
    (λ _. (v : ℕ → Bool) → Satisfies v (g.C.Lookup.find c.args.clauses.now) → IsSatisfied v c.args.clause.now) _
    (λ _ line v sat. shown_true v _ _ _ c.requires.not_zero sat line.shown) (rw (map-id c.args.hints.now) at c.derive_hinted.ensures.accepted)

pub returns-clause-complete : goal.returns-clause-complete
returns-clause-complete g c =
    if_err (λ e. IsRefusedLine (g.C.Lookup.vars c.args.clauses.now) (g.C.Lookup.find c.args.clauses.now) c.args.clause.now c.args.hints.now e)
    (λ e. e ≢ OutOfMemory witness → IsAcceptedLine (g.C.Lookup.vars c.args.clauses.now) (g.C.Lookup.find c.args.clauses.now) c.args.clause.now c.args.hints.now → ⊥) _
    (λ e why ne line. refused_not _ _ _ _ e why ne line) (rw (map-id c.args.hints.now) at c.derive_hinted.ensures.refused)
