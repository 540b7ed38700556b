use Rattle.std.proofs.Common.{Some, sym, ◌∙◌, ap}
use Rattle.std.specs.FinMap as fin
use Rattle.lrat.proofs.Stored.{get-from_tree}
use Rattle.lrat.proofs.clauses.ClausesLookup.get.Goals as goal

pub returns-in-Some-clause-value : goal.returns-in-Some-clause-value
returns-in-Some-clause-value c =
    ap Some c.as_slice.ensures ∙ c.in-Some.ensures.value ∙ sym (get-from_tree c.self.inside.by_id c.args.id) ∙ ap (λ s. fin.get s.by_id c.args.id) c.self.view_is

pub returns-in-None-clause-value : goal.returns-in-None-clause-value
returns-in-None-clause-value c = c.in-None.ensures.value ∙ sym (get-from_tree c.self.inside.by_id c.args.id) ∙ ap (λ s. fin.get s.by_id c.args.id) c.self.view_is

pub returns-in-Some-clause-in_range : goal.returns-in-Some-clause-in_range
returns-in-Some-clause-in_range c =
    let a = rw (sym c.in-Some.ensures.value) at (c.self.invariant c.args.id) in
    rw (c.as_slice.ensures, ← c.self.view_is) a
