use Rattle.std.proofs.Common.{rules, SFits, w32, ◌≡◌, ◌∙◌, ◌<◌, ℕ, ℤ, inl, inr, List, All, Contains, length, get_or, ap, sym, subst, arith}
use Rattle.std.proofs.lemmas.Bool.{cases_lt}
use Rattle.std.proofs.lemmas.List.{get_or_default}
use Rattle.lrat.proofs.Fit.{read32}
use Rattle.inductive_subset.specs.Guards.{guard_of}
use Rattle.inductive_subset.proofs.Excluding.{assumed_pushed}
use Rattle.inductive_subset.proofs.Possible.{contains_before, contains_last}
use Rattle.inductive_subset.proofs.asking.push_needed.Goals as goal

pub pushing-preserved : goal.pushing-preserved
pushing-preserved c =
    let m = c.args.circuit.now in
    let n : ℕ = length c.args.needed.now.marks.items in
    let places : List ℕ = c.as_slice-place-items.result.now in
    let order : List ℕ = c.args.needed.now.order.items in
    let i : ℕ = get_or places c.pushing.place-index 0 in
    let at : i ≡ get_or order c.pushing.place-index 0 = ap (λ (xs : List ℕ). get_or xs c.pushing.place-index 0) c.as_slice-place-items.ensures.value in
    let all : All (λ k. k < n) places = subst (All (λ k. k < n)) (sym c.as_slice-place-items.ensures.value) c.requires.well.below in
    let fits : SFits w32 c.guard.result = search rules in
    let old : List ℤ = c.pushing.literals.items in
    let new : List ℤ = c.push.new.to.items in
    record {
      guards = λ k k_in. elim (cases_lt k c.pushing.place-index) [
        | inl lt ↦ contains_before old new _ (guard_of m (get_or order k 0)) c.in_ok-push.ensures.items (c.pushing.invariant.guards k lt)
        | inr ge ↦
            let here : c.pushing.place-index ≡ k = omega (arith, k_in, ge) in
            contains_last old new _ (guard_of m (get_or order k 0)) c.in_ok-push.ensures.items
            (read32 _ fits ∙ c.guard.ensures ∙ ap (guard_of m) (at ∙ ap (λ (j : ℕ). get_or order j 0) here))
      ];
      assumed = λ units before. assumed_pushed m n i old new _ (all c.pushing.place-index 0 c.pushing-test.true) (read32 _ fits ∙ c.guard.ensures)
          c.in_ok-push.ensures.items units (c.pushing.invariant.assumed units before);
    }

pub returns-clause-guards : goal.returns-clause-guards
returns-clause-guards c = λ i (k, k_in, is).
    let m = c.args.circuit.now in
    let order : List ℕ = c.args.needed.now.order.items in
    let past : k < c.pushing.place-index = let long = ap (λ (xs : List ℕ). length xs) c.as_slice-place-items.ensures.value in omega (arith, k_in, long, c.pushing-test.false) in
    subst (λ (j : ℕ). Contains c.pushing.literals.items (guard_of m j)) (get_or_default order k 0 i k_in ∙ is) (c.pushing.invariant.guards k past)
