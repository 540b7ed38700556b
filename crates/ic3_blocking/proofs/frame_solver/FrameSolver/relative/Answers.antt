use Rattle.std.proofs.Common.{◌+◌, ◌≤◌, ◌++◌, ◌∷◌, [], ◌∙◌, arith}
use Rattle.ic3_blocking.proofs.Guarding.{has_guard, has_guards, has_grown, has_asked, has_let_go, guards_more, guards_room, relative_answer}
use Rattle.ic3_blocking.proofs.frame_solver.FrameSolver.relative.Goals as goal

pub add-requires-clause-loaded : goal.add-requires-clause-loaded
add-requires-clause-loaded g c = has_guard c.args.circuit.now c.args.frames.now.entries c.args.self.now c.args.self.now.next c.requires.sound.has c.requires.room

pub holds_after-requires-clause-loaded : goal.holds_after-requires-clause-loaded
holds_after-requires-clause-loaded g c =
    let m = c.args.circuit.now in
    let a = c.args.self.now in
    let has = c.requires.sound.has in
    let top = c.requires.sound.top in
    let order = has.order in
    let fits = has.fits in
    let end : c.top.result + 1 ≤ a.levels = omega (arith, c.top.ensures, top) in
    let inside : a.levels ≤ a.room = omega (arith, order, fits) in
    let asked = has_asked m c.args.frames.now.entries a c.add.new.self c.args.clause.now has c.requires.room (c.in_ok-add.ensures.added a.room has.added has.loaded) in
    let are = guards_more c.args.level (c.top.result + 1) a.levels a.next c.in_ok-guards.guards c.as_slice.result.now end c.in_ok-guards.ensures (c.as_slice.ensures ∙ c.in_ok-push.ensures.ok) in
    has_guards m c.args.frames.now.entries _ c.as_slice.result.now asked (guards_room c.args.level a.levels a.next a.room c.as_slice.result.now inside c.requires.room are)

pub add-requires-2-clause-loaded : goal.add-requires-2-clause-loaded
add-requires-2-clause-loaded g c =
    let m = c.args.circuit.now in
    let a = c.args.self.now in
    let has = c.requires.sound.has in
    let asked = has_asked m c.args.frames.now.entries a c.add.new.self c.args.clause.now has c.requires.room (c.in_ok-add.ensures.added a.room has.added has.loaded) in
    let loaded = c.in_ok-known.ensures.loaded a.room asked.added asked.loaded in
    has_guard m c.args.frames.now.entries _ a.next (has_grown m c.args.frames.now.entries _ c.holds_after.new.transition asked loaded) c.requires.room

pub returns-clause-sound : goal.returns-clause-sound
returns-clause-sound g c =
    let m = c.args.circuit.now in
    let a = c.args.self.now in
    let es = c.args.frames.now.entries in
    let has = c.requires.sound.has in
    let asked = has_asked m es a c.add.new.self c.args.clause.now has c.requires.room (c.in_ok-add.ensures.added a.room has.added has.loaded) in
    let loaded = c.in_ok-known.ensures.loaded a.room asked.added asked.loaded in
    record {
      has = has_let_go m es _ c.add-2.new.self a.next [] asked has.order (omega arith) (c.in_ok-add-2.ensures.added a.room asked.added loaded);
      laws = c.requires.sound.laws;
      top = c.requires.sound.top;
      below = c.requires.sound.below;
    }

pub returns-clause-lawful : goal.returns-clause-lawful
returns-clause-lawful g c =
    let m = c.args.circuit.now in
    let a = c.args.self.now in
    let es = c.args.frames.now.entries in
    let k = c.args.level in
    let clause = c.args.clause.now in
    let guards = c.as_slice.result.now in
    let has = c.requires.sound.has in
    let top = c.requires.sound.top in
    let end : c.top.result + 1 ≤ a.levels = omega (arith, c.top.ensures, top) in
    let are = guards_more k (c.top.result + 1) a.levels a.next c.in_ok-guards.guards guards end c.in_ok-guards.ensures (c.as_slice.ensures ∙ c.in_ok-push.ensures.ok) in
    relative_answer m es a.levels k a.next has.added guards clause c.holds_after.new.budget c.in_ok-known.known has.backs has.used are
    (c.in_ok-known.ensures.lawful a.room (has.added ++ record { guard = a.next; clause = clause } ∷ []) (c.in_ok-add.ensures.added a.room has.added has.loaded))
