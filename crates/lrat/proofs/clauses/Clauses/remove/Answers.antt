use Rattle.std.proofs.Common.{sym, ◌∙◌, ap, None, is_some}
use Rattle.std.specs.FinMap as fin
use Rattle.lrat.proofs.Stored.{removed, literals_updated, get-from_tree}
use Rattle.lrat.proofs.clauses.Clauses.remove.Goals as goal

pub invariant_of-self : goal.invariant_of-self
invariant_of-self c = literals_updated _ c.self.inside.by_id c.remove.new.self c.args.id None c.self.invariant tt c.remove.ensures.updates

pub returns-clause-removed : goal.returns-clause-removed
returns-clause-removed c = removed c.self.inside.by_id c.remove.new.self c.args.id c.remove.ensures.updates ∙ ap (λ s. fin.remove s.by_id c.args.id) c.self.view_is

pub returns-clause-was : goal.returns-clause-was
returns-clause-was c =
    c.is_some.ensures ∙ ap is_some c.remove.ensures.value ∙ ap is_some (sym (get-from_tree c.self.inside.by_id c.args.id))
    ∙ ap (λ s. fin.contains_key s.by_id c.args.id) c.self.view_is
