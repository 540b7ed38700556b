use Rattle.std.proofs.Common.{rules, ◌≤◌, ◌+◌, ℕ, Bool, arith, List, Contains, subst}
use Rattle.states.specs.States.{Holds}
use Rattle.states.specs.declared.state_lit.StateLit.{StateLit}
use Rattle.ic3_frames.specs.Frames.{InFrame}
use Rattle.ic3_blocking.proofs.Joining.{frame_from, holds_part}
use Rattle.ic3_blocking.specs.Answers.{IsFurthest, IsLearned}
use Rattle.ic3_blocking.proofs.Outcomes.{on_ok}
use Rattle.ic3_blocking.proofs.Tried.{shortened_later}
use Rattle.ic3_blocking.proofs.frame_solver.FrameSolver.learn.Goals as goal

pub returns-clause-held : goal.returns-clause-held
returns-clause-held g c =
    let es = c.add_to_frames.new.frames.entries in
    let last = c.in_ok-last.last in
    let shorter = c.in_ok-shorter.shorter in
    let whole = c.args.whole.now in
    let far = c.in_ok-last.ensures.no_less in
    on_ok ((s : List Bool) → InFrame es (last + 1) s → Holds s shorter) ((s : List Bool) → InFrame es (c.args.level + 1) s → Holds s whole) c.add_to_frames.result
    (λ held s inside. holds_part s shorter whole (λ a found. c.requires.part a (c.in_ok-shorter.ensures.part a found)) (held s (frame_from es (c.args.level + 1) (last + 1) s (omega (arith, far)) inside)))
    c.add_to_frames.ensures.held

pub returns-clause-learned : goal.returns-clause-learned
returns-clause-learned g c =
    let m = c.args.circuit.now in
    let last = c.in_ok-last.last in
    let shorter = c.in_ok-shorter.shorter in
    let before = c.in_ok-needed.needed.now in
    let after = c.furthest.new.budget in
    let less : after.left ≤ c.generalize.new.budget.left = search rules in
    on_ok (Contains c.add_to_frames.new.frames.entries (record { clause = shorter; level = last + 1 })) (IsLearned m c.args.frames.now c.add_to_frames.new.frames c.args.level c.args.whole.now after) c.add_to_frames.result
    (λ joined. record {
      clause = shorter;
      before = before;
      last = last;
      joined = joined;
      part = λ a found. c.requires.part a (c.in_ok-shorter.ensures.part a found);
      ends = c.in_ok-needed.ensures;
      shortened = shortened_later m before shorter c.generalize.new.budget after less c.in_ok-shorter.ensures.shortened;
      no_less = c.in_ok-last.ensures.no_less;
      furthest = subst (λ (n : ℕ). IsFurthest m n shorter after last) c.in_ok-last.ensures.top
          (subst (λ (x : List StateLit). IsFurthest m c.furthest.new.frames.top x after last) c.as_slice-2.ensures c.in_ok-last.ensures.furthest);
    }) c.add_to_frames.ensures.joined
