use Rattle.std.proofs.Common.{◌∙◌, ap}
use Rattle.std.specs.FinMap as fin
use Rattle.lrat.proofs.Stored.{inserted}
use Rattle.lrat.proofs.clauses.Clauses.add.Goals as goal

pub returns-clause-ok : goal.returns-clause-ok
returns-clause-ok c =
    inserted c.self.inside.by_id c.insert.new.to c.args.id c.in_ok-stored.stored c.in_ok-insert.ensures.updates
    ∙ ap (λ s. fin.insert s.by_id c.args.id c.in_ok-stored.stored) c.self.view_is ∙ ap (fin.insert c.args.self.now.by_id c.args.id) c.in_ok-stored.ensures
