use Rattle.std.proofs.Common.{◌+◌, ◌<◌, ◌≤◌, arith}
use Rattle.cnf.specs.Formulas.{bad_literal}
use Rattle.ic3.proofs.Clear.{is_deep}
use Rattle.ic3_blocking.proofs.Joining.{opened_sound}
use Rattle.ic3.proofs.search.open_next.Goals as goal

pub returns-then-top-solver-clause-sound : goal.returns-then-top-solver-clause-sound
returns-then-top-solver-clause-sound g c =
    let m = c.args.circuit.now in
    let sound = c.requires.sound in
    let room : c.args.frames.now.top + 1 < c.args.solver.now.levels = omega (arith, c.top.ensures, c.if-top-solver.true) in
    opened_sound m c.args.solver.now c.args.frames.now c.open.new.self sound c.open.ensures.entries c.open.ensures.top room
    (c.open.ensures.laws m (bad_literal m 0) sound.laws c.requires.excluded)

pub returns-clause-sound : goal.returns-clause-sound
returns-clause-sound g c =
    let m = c.args.circuit.now in
    let sound = c.in_ok-load.ensures.sound in
    let top = c.requires.sound.top in
    let room : c.args.frames.now.top + 1 < c.load.new.self.levels = omega (arith, top, c.in_ok-load.ensures.levels) in
    opened_sound m c.load.new.self c.args.frames.now c.open-2.new.self sound c.open-2.ensures.entries c.open-2.ensures.top room
    (c.open-2.ensures.laws m (bad_literal m 0) sound.laws c.requires.excluded)

pub returns-then-solver-gt-MOST_DOUBLED-clause-deep : goal.returns-then-solver-gt-MOST_DOUBLED-clause-deep
returns-then-solver-gt-MOST_DOUBLED-clause-deep g c = λ none.
    let more : 1000000000 < c.args.solver.now.levels = c.if-solver-gt-MOST_DOUBLED.true in
    let all : c.args.solver.now.levels ≤ c.top.result + 1 = omega (arith, c.if-top-solver.false) in
    is_deep c.args.circuit.now c.args.frames.now c.requires.sound.laws c.requires.excluded (omega (arith, more, all, c.top.ensures))
