use Rattle.std.proofs.Common.{◌++◌, ◌∷◌, [], arith}
use Rattle.ic3_step.specs.States.{Guarded}
use Rattle.ic3_step.specs.Contents.{IsLoaded}
use Rattle.ic3_blocking.proofs.Outcomes.{on_ok}
use Rattle.ic3_blocking.proofs.Guarding.{has_guard, has_more}
use Rattle.ic3_blocking.proofs.frame_solver.FrameSolver.add_clause.Goals as goal

pub add-requires-clause-loaded : goal.add-requires-clause-loaded
add-requires-clause-loaded g c =
    let has = c.requires.has.1 in
    let order = has.order in
    let fits = has.fits in
    has_guard c.args.circuit.now c.requires.has.0 c.args.self.now c.args.level has (omega (arith, order, fits, c.requires.level))

pub returns-clause-has : goal.returns-clause-has
returns-clause-has g c = λ entries has holds.
    let m = c.args.circuit.now in
    let a = c.args.self.now in
    let guarded : Guarded = record { guard = c.args.level; clause = c.args.clause.now } in
    let order = has.order in
    on_ok (IsLoaded m a.room (has.added ++ guarded ∷ []) c.add.new.self) _ c.add.result
    (λ loaded. has_more m entries a c.add.new.self a.next guarded has loaded (omega arith) has.fits (omega (arith, order, c.requires.level)) (λ below. holds))
    (c.add.ensures.added a.room has.added has.loaded)
