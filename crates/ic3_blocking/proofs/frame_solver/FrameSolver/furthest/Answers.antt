use Rattle.std.proofs.Common.{rules, subst, sym}
use Rattle.ic3_blocking.specs.Answers.{IsRelative}
use Rattle.cnf.specs.Formulas.{bad_literal}
use Rattle.ic3_frames.specs.Frames.{IsFalseAfter}
use Rattle.ic3_blocking.proofs.Inductions.{onward_by}
use Rattle.ic3_blocking.proofs.Joining.{noted_sound}
use Rattle.ic3_blocking.proofs.Tried.{false_after}
use Rattle.ic3_blocking.proofs.frame_solver.FrameSolver.furthest.Goals as goal

pub pushing-preserved : goal.pushing-preserved
pushing-preserved g c =
    let h = c.pushing.invariant in
    let m = c.args.circuit.now in
    let es = c.pushing.frames.entries in
    let clause = c.args.clause.now in
    let after = c.relative.new.budget in
    record {
      entries = h.entries;
      top = h.top;
      spends = search rules;
      sound = c.in_ok-time.ensures.sound;
      no_less = search rules;
      next_is = search rules;
      below = search rules;
      inductive = record { clause = h.inductive.clause; initial = h.inductive.initial; onward = onward_by m es c.pushing.next c.in-Held.field-0 clause after (subst (IsRelative m es c.pushing.next clause after) c.in-Held.is c.in_ok-time.ensures.lawful) };
    }

pub returns-in-Broken-clause-sound : goal.returns-in-Broken-clause-sound
returns-in-Broken-clause-sound g c =
    let m = c.args.circuit.now in
    let es = c.pushing.frames.entries in
    let clause = c.args.clause.now in
    let after = c.relative.new.budget in
    let answer = subst (IsRelative m es c.pushing.next clause after) c.in-Broken.is c.in_ok-time.ensures.lawful in
    let false_there : IsFalseAfter m c.in_ok-pushed-in-Broken.pushed = subst (IsFalseAfter m) (sym c.in_ok-pushed-in-Broken.ensures) (false_after m clause c.in-Broken.time answer) in
    let sound = c.in_ok-time.ensures.sound in
    let noted = c.add_failed_push.ensures in
    noted_sound m c.relative.new.self c.pushing.frames c.add_failed_push.new.self sound noted.entries noted.top (noted.laws m (bad_literal m 0) sound.laws false_there)
