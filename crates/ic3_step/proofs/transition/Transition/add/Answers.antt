use Rattle.std.proofs.Common.{◌≡◌, ◌++◌, ◌∷◌, [], refl, sym, subst}
use Rattle.ic3_step.specs.States.{Guarded}
use Rattle.ic3_step.specs.Contents.{Contents, IsLoaded, guarded_clause}
use Rattle.ic3_step.proofs.Loaded.{on_ok, loaded_more}
use Rattle.ic3_step.proofs.transition.Transition.add.Goals as goal

pub returns-clause-added : goal.returns-clause-added
returns-clause-added g c = λ n gs loaded.
    let m = c.args.circuit.now in
    let guarded : Guarded = record { guard = c.args.guard; clause = c.args.clause.now } in
    let solver = c.self.inside.solver in
    let old : Contents = record { vars = g.S.Sat.vars solver; clauses = g.S.Sat.clauses solver; cone = c.self.inside.cone } in
    let new : Contents = record { vars = g.S.Sat.vars c.add.new.solver; clauses = g.S.Sat.clauses c.add.new.solver; cone = c.self.inside.cone } in
    on_ok (new.clauses ≡ old.clauses ++ guarded_clause m guarded ∷ []) (IsLoaded m n (gs ++ guarded ∷ []) new) c.add.result
    (λ are. loaded_more m n gs guarded old new (subst (IsLoaded m n gs) (sym c.self.view_is) loaded) c.add.ensures.vars refl are) c.add.ensures.added
