use Rattle.std.proofs.Common.{rules, ◌≡◌, ◌≤◌, ◌<◌, ◌+◌, All, sym, subst}
use Rattle.ic3_frames.specs.declared.frames.Entry.{Entry}
use Rattle.ic3_frames.specs.Frames.{IsStateClause}
use Rattle.ic3_blocking.specs.Sound.{HasFrames}
use Rattle.ic3_blocking.proofs.Outcomes.{on_ok}
use Rattle.ic3_blocking.proofs.Guarding.{has_none}
use Rattle.ic3_blocking.proofs.frame_solver.FrameSolver.load.Goals as goal

pub add_all-requires : goal.add_all-requires
add_all-requires g c =
    let m = c.args.circuit.now in
    let levels = c.args.levels in
    let room = levels + c.queries.result in
    let fits : levels ≤ room = search rules in
    let small : room ≤ 4294967295 = search rules in
    record {
      has = has_none m c.entries.result.now c.load.new.self levels room c.in_ok-load.ensures fits c.requires.few small;
      clauses = subst (All (λ (e : Entry). IsStateClause m e.clause)) (sym c.entries.ensures) c.requires.laws.clauses;
      below = subst (All (λ (e : Entry). e.level < levels)) (sym c.entries.ensures) c.requires.below;
    }

pub returns-clause-sound : goal.returns-clause-sound
returns-clause-sound g c =
    let m = c.args.circuit.now in
    let levels = c.args.levels in
    let same : levels ≡ c.add_all.new.self.levels = sym c.add_all.ensures.levels in
    on_ok (HasFrames m c.entries.result.now c.add_all.new.self) _ c.add_all.result
    (λ has. record {
      has = subst (λ es. HasFrames m es c.add_all.new.self) c.entries.ensures has;
      laws = c.requires.laws;
      top = subst (λ n. c.args.frames.now.top < n) same c.requires.top;
      below = subst (λ n. All (λ (e : Entry). e.level < n) c.args.frames.now.entries) same c.requires.below;
    }) c.add_all.ensures.has
