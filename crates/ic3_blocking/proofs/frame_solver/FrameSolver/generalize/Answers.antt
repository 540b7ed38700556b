use Rattle.std.proofs.Common.{rules, ◌≡◌, ◌≤◌, ◌<◌, ◌∙◌, ℕ, List, Option, IfSome, All, Contains, get_or, ◌⊎◌, inl, inr, arith, sym, subst}
use Rattle.std.proofs.lemmas.Bool.{cases_lt}
use Rattle.std.proofs.lemmas.List.{get_or_default}
use Rattle.std.proofs.lemmas.List.Elements.{All-contains, Contains-get_or}
use Rattle.states.specs.declared.state_lit.StateLit.{StateLit}
use Rattle.states.specs.States.{IsPartOf}
use Rattle.ic3_blocking.specs.Answers.{HasLatch, IsInductiveFrom, IsTried}
use Rattle.ic3_blocking.proofs.Tried.{tried_here, tried_part}
use Rattle.ic3_blocking.proofs.frame_solver.FrameSolver.generalize.Goals as goal
use Rattle.ic3_blocking.proofs.frame_solver.FrameSolver.generalize.Goals.{in-Some, in-None}

pub dropping-preserved : goal.dropping-preserved
dropping-preserved g c =
    let m = c.args.circuit.now in
    let es = c.args.frames.now.entries in
    let k = c.args.level in
    let whole = c.as_slice-whole.result.now in
    let h = c.dropping.invariant in
    let i : ℕ = c.dropping.latch-index in
    let latches : List ℕ = c.as_slice-latch-items.result.now in
    let latch : ℕ = get_or latches i 0 in
    let after = c.drop_literal.new.budget in
    let less : after.left ≤ c.dropping.budget.left = search rules in
    elim c.match-branch-3.branch [
      | in-Some w ↦
          let law = subst (λ (o : Option (List StateLit)). IfSome o (λ part. IsInductiveFrom m es k part × IsPartOf part whole)) w.in-Some.is c.in_ok-shorter.ensures.lawful in
          let lacks : HasLatch w.in-Some.shorter latch → ⊥ = subst (λ (o : Option (List StateLit)). IfSome o (λ part. HasLatch part latch → ⊥)) w.in-Some.is c.in_ok-shorter.ensures.without in
          let inside : IsPartOf w.in-Some.shorter c.dropping.kept = λ a found. subst (λ (xs : List StateLit). Contains xs a) c.as_slice-whole.ensures (law.1 a found) in
          record {
            spends = search rules;
            sound = c.in_ok-shorter.ensures.sound;
            inductive = subst (IsInductiveFrom m es k) (sym w.kept-is) law.0;
            part = subst (λ (q : List StateLit). IsPartOf q c.args.clause) (sym w.kept-is) (λ a found. h.part a (inside a found));
            tried = λ j j_in. subst (λ (q : List StateLit). IsTried m q (get_or latches j 0) after) (sym w.kept-is) (elim (cases_lt j i) [
              | inl lt ↦ tried_part m c.dropping.kept w.in-Some.shorter (get_or latches j 0) c.dropping.budget after inside less (h.tried j lt)
              | inr ge ↦ let here : i ≡ j = omega (arith, j_in, ge) in subst (λ (n : ℕ). IsTried m w.in-Some.shorter (get_or latches n 0) after) here (inl lacks)
            ]);
          }
      | in-None w ↦
          let tried : IsTried m c.dropping.kept latch after = subst (λ (xs : List StateLit). IsTried m xs latch after) c.as_slice-whole.ensures (c.in_ok-shorter.ensures.none w.in-None.is) in
          record {
            spends = search rules;
            sound = c.in_ok-shorter.ensures.sound;
            inductive = subst (IsInductiveFrom m es k) (sym w.kept-is) h.inductive;
            part = subst (λ (q : List StateLit). IsPartOf q c.args.clause) (sym w.kept-is) h.part;
            tried = λ j j_in. subst (λ (q : List StateLit). IsTried m q (get_or latches j 0) after) (sym w.kept-is) (elim (cases_lt j i) [
              | inl lt ↦ tried_part m c.dropping.kept c.dropping.kept (get_or latches j 0) c.dropping.budget after (λ a found. found) less (h.tried j lt)
              | inr ge ↦ let here : i ≡ j = omega (arith, j_in, ge) in subst (λ (n : ℕ). IsTried m c.dropping.kept (get_or latches n 0) after) here tried
            ]);
          }
    ]

pub returns-clause-shortened : goal.returns-clause-shortened
returns-clause-shortened g c = λ k d k_in.
    let m = c.args.circuit.now in
    let kept : List StateLit = c.dropping.kept in
    let a : StateLit = get_or kept k d in
    let h = c.dropping.invariant in
    let latches : List ℕ = c.as_slice-latch-items.result.now in
    let here : Contains kept a = Contains-get_or kept k d k_in in
    let own : Contains c.args.clause a = h.part a here in
    let listed = subst (λ (xs : List StateLit). Contains xs a) (sym c.as_slice.ensures) own in
    let all = subst (λ (xs : List ℕ). All (λ (b : StateLit). HasLatch c.args.needed.now b.latch ⊎ Contains xs b.latch) c.as_slice.result.now) (sym c.as_slice-latch-items.ensures.value) c.in_ok-latches.ensures in
    elim (All-contains (λ (b : StateLit). HasLatch c.args.needed.now b.latch ⊎ Contains latches b.latch) c.as_slice.result.now a all listed) [
      | inl has ↦ inl has
      | inr (j, j_in, is) ↦
          let past : j < c.dropping.latch-index = omega (arith, j_in, c.dropping-test.false) in
          let tried : IsTried m kept a.latch c.dropping.budget = subst (λ (n : ℕ). IsTried m kept n c.dropping.budget) (get_or_default latches j 0 a.latch j_in ∙ is) (h.tried j past) in
          inr (tried_here m kept a c.dropping.budget here tried)
    ]
