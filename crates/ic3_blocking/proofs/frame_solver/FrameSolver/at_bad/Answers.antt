use Rattle.std.proofs.Common.{◌+◌, ◌≤◌, ◌<◌, ◌∷◌, [], List, get_or, All, arith, sym, subst}
use Rattle.graph.specs.declared.circuit.Lit.{Lit}
use Rattle.ic3_step.specs.Replies.{IsReply}
use Rattle.ic3_frames.specs.Frames.{Excludes}
use Rattle.cnf.specs.Formulas.{bad_literal}
use Rattle.ic3_blocking.proofs.Guarding.{has_guards, sound_grown, range_within, range_room}
use Rattle.ic3_blocking.proofs.Joining.{bad_usable, set_at, excluded_by}
use Rattle.ic3_blocking.proofs.frame_solver.FrameSolver.at_bad.Goals as goal

pub ask-requires-clause-loaded : goal.ask-requires-clause-loaded
ask-requires-clause-loaded g c =
    let a = c.args.self.now in
    let k = c.top-top.result in
    let guards = c.as_slice.result.now in
    let sound = c.requires.sound in
    let top = sound.top in
    let order = sound.has.order in
    let fits = sound.has.fits in
    let inside : k + 1 ≤ a.room = omega (arith, c.top-top.ensures, top, order, fits) in
    has_guards c.args.circuit.now c.args.frames.now.entries a guards sound.has
    (range_room k (k + 1) a.room guards inside (subst (All (λ n. (k ≤ n) × (n < k + 1))) (sym c.as_slice.ensures) c.in_ok-guards.ensures))

pub ask-requires-clause-lits : goal.ask-requires-clause-lits
ask-requires-clause-lits g c = bad_usable c.args.circuit.now c.bad.result.now c.well_formed-2.ensures c.requires.for_bad c.bad.ensures

pub returns-in-Found-clause-lawful : goal.returns-in-Found-clause-lawful
returns-in-Found-clause-lawful g c =
    let lits : List Lit = get_or c.bad.result.now 0 (record { 0 = 0 }) ∷ [] in
    let m = c.args.circuit.now in
    let has = c.requires.sound.has in
    set_at m has.added c.as_slice.result.now c.bad.result.now c.ask.new.budget c.in-Found.time c.bad.ensures
    (subst (IsReply m has.added c.as_slice.result.now lits c.ask.new.budget) c.in-Found.is (c.in_ok-time.ensures.lawful c.args.self.now.room has.added has.loaded))

pub returns-in-Core-clause-lawful : goal.returns-in-Core-clause-lawful
returns-in-Core-clause-lawful g c =
    let lits : List Lit = get_or c.bad.result.now 0 (record { 0 = 0 }) ∷ [] in
    let m = c.args.circuit.now in
    let a = c.args.self.now in
    let es = c.args.frames.now.entries in
    let k = c.top-top.result in
    let guards = c.as_slice.result.now in
    let sound = c.requires.sound in
    let has = sound.has in
    let top = sound.top in
    let end : k + 1 ≤ a.levels = omega (arith, c.top-top.ensures, top) in
    let range = range_within k (k + 1) a.levels guards end (subst (All (λ n. (k ≤ n) × (n < k + 1))) (sym c.as_slice.ensures) c.in_ok-guards.ensures) in
    subst (Excludes m (bad_literal m 0) es) c.top-top.ensures
    (excluded_by m es a.levels k has.added guards c.bad.result.now c.in-Core.field-0 c.ask.new.budget c.bad.ensures has.backs range
    (subst (IsReply m has.added guards lits c.ask.new.budget) c.in-Core.is (c.in_ok-time.ensures.lawful a.room has.added has.loaded)))

pub returns-clause-lawful : goal.returns-clause-lawful
returns-clause-lawful g c =
    let lits : List Lit = get_or c.bad.result.now 0 (record { 0 = 0 }) ∷ [] in
    let has = c.requires.sound.has in
    subst (IsReply c.args.circuit.now has.added c.as_slice.result.now lits c.ask.new.budget) c.in-Spent.is (c.in_ok-time.ensures.lawful c.args.self.now.room has.added has.loaded)

pub returns-in-Found-clause-sound : goal.returns-in-Found-clause-sound
returns-in-Found-clause-sound g c =
    let has = c.requires.sound.has in
    sound_grown c.args.circuit.now c.args.self.now c.args.frames.now c.ask.new.self c.requires.sound (c.in_ok-time.ensures.loaded c.args.self.now.room has.added has.loaded)

pub returns-in-Core-clause-sound : goal.returns-in-Core-clause-sound
returns-in-Core-clause-sound g c =
    let has = c.requires.sound.has in
    sound_grown c.args.circuit.now c.args.self.now c.args.frames.now c.ask.new.self c.requires.sound (c.in_ok-time.ensures.loaded c.args.self.now.room has.added has.loaded)

pub returns-clause-sound : goal.returns-clause-sound
returns-clause-sound g c =
    let has = c.requires.sound.has in
    sound_grown c.args.circuit.now c.args.self.now c.args.frames.now c.ask.new.self c.requires.sound (c.in_ok-time.ensures.loaded c.args.self.now.room has.added has.loaded)
