use Rattle.std.proofs.Common.{rules, ◌≤◌, List, length, All, inr, take, arith, ap, subst}
use Rattle.std.proofs.lemmas.List.{take_all}
use Rattle.ic3_frames.specs.declared.frames.Entry.{Entry}
use Rattle.ic3_propagation.specs.Answers.{CannotPropagate}
use Rattle.ic3_propagation.proofs.Passed.{passed_later}
use Rattle.ic3_propagation.proofs.propagation.propagate_level.Goals as goal

pub propagating-preserved : goal.propagating-preserved
propagating-preserved g c =
    let m = c.args.circuit.now in
    let before = c.propagating.budget in
    let after = c.propagate_clause.new.budget in
    let less : after.left ≤ before.left = search rules in
    record {
      spends = search rules;
      top = search rules;
      sound = c.in_ok-place.ensures.sound;
      passed = passed_later m c.args.level before after (take c.propagating.place c.propagating.frames.entries) (take c.in_ok-place.place c.propagate_clause.new.frames.entries) less
          c.propagating.invariant.passed c.in_ok-place.ensures.passed;
    }

pub returns-clause-propagated : goal.returns-clause-propagated
returns-clause-propagated g c =
    let es = c.propagating.frames.entries in
    let whole = ap (λ (xs : List Entry). length xs) c.entries.ensures in
    subst (All (CannotPropagate c.args.circuit.now c.args.level c.propagating.budget)) (take_all c.propagating.place es (omega (arith, whole))) c.propagating.invariant.passed

pub returns-then-not-tick-clause-propagated : goal.returns-then-not-tick-clause-propagated
returns-then-not-tick-clause-propagated g c = λ k d k_in at. inr (search rules)
