use Rattle.std.proofs.Common.{◌+◌, ◌≤◌, ◌<◌, All, arith, sym, subst}
use Rattle.ic3_step.specs.Contents.{IsLoaded}
use Rattle.ic3_step.specs.Steps.{IsConsecution}
use Rattle.ic3_blocking.specs.Answers.{IsAfter}
use Rattle.ic3_blocking.proofs.Outcomes.{if_ok, on_ok}
use Rattle.ic3_blocking.proofs.Guarding.{has_guards, sound_grown, range_within, range_room, after_answer}
use Rattle.ic3_blocking.proofs.frame_solver.FrameSolver.after.Goals as goal

pub holds_after-requires-clause-loaded : goal.holds_after-requires-clause-loaded
holds_after-requires-clause-loaded g c =
    let m = c.args.circuit.now in
    let a = c.args.self.now in
    let sound = c.requires.sound in
    let top = sound.top in
    let order = sound.has.order in
    let fits = sound.has.fits in
    let inside : c.top.result + 1 ≤ a.room = omega (arith, c.top.ensures, top, order, fits) in
    has_guards m c.args.frames.now.entries a c.as_slice.result.now sound.has
    (range_room c.args.level (c.top.result + 1) a.room c.as_slice.result.now inside
    (subst (All (λ n. (c.args.level ≤ n) × (n < c.top.result + 1))) (sym c.as_slice.ensures) c.in_ok-guards.ensures))

pub returns-clause-sound : goal.returns-clause-sound
returns-clause-sound g c =
    let m = c.args.circuit.now in
    let a = c.args.self.now in
    let f = c.args.frames.now in
    let sound = c.requires.sound in
    on_ok (IsLoaded m a.room sound.has.added c.holds_after.new.transition) _ c.holds_after.result
    (λ loaded. sound_grown m a f c.holds_after.new.transition sound loaded)
    (c.holds_after.ensures.loaded a.room sound.has.added sound.has.loaded)

pub returns-clause-lawful : goal.returns-clause-lawful
returns-clause-lawful g c =
    let m = c.args.circuit.now in
    let a = c.args.self.now in
    let es = c.args.frames.now.entries in
    let k = c.args.level in
    let clause = c.args.clause.now in
    let guards = c.as_slice.result.now in
    let after = c.holds_after.new.budget in
    let sound = c.requires.sound in
    let top = sound.top in
    let inside : c.top.result + 1 ≤ a.levels = omega (arith, c.top.ensures, top) in
    let are = range_within k (c.top.result + 1) a.levels guards inside (subst (All (λ n. (k ≤ n) × (n < c.top.result + 1))) (sym c.as_slice.ensures) c.in_ok-guards.ensures) in
    if_ok (IsConsecution m sound.has.added guards clause after) (IsAfter m es k clause after) c.holds_after.result
    (λ r law. after_answer m es a.levels k sound.has.added guards clause after r sound.has.backs are law)
    (c.holds_after.ensures.lawful a.room sound.has.added sound.has.loaded)
