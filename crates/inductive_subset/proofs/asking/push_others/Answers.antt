use Rattle.std.proofs.Common.{rules, SFits, w32, ◌≡◌, ◌∙◌, ◌<◌, true, false, inl, inr, ℤ, ℕ, List, All, Contains, length, get_or, ap, sym, subst, arith}
use Rattle.std.proofs.lemmas.Bool.{cases_lt, false≢true}
use Rattle.std.proofs.lemmas.List.{get_or_default}
use Rattle.lrat.proofs.Fit.{read32}
use Rattle.inductive_subset.specs.Guards.{guard_of, IsAssumed}
use Rattle.inductive_subset.proofs.Excluding.{assumed_pushed}
use Rattle.inductive_subset.proofs.Possible.{contains_before, contains_last}
use Rattle.inductive_subset.proofs.asking.push_others.Goals as goal
use Rattle.inductive_subset.proofs.asking.push_others.Goals.{then-not-index+in_ok-push, else-not-index}

pub pushing-preserved : goal.pushing-preserved
pushing-preserved c =
    let m = c.args.circuit.now in
    let n : ℕ = length c.args.needed.now.marks.items in
    let marks = c.args.needed.now.marks.items in
    let before = c.pushing.invariant in
    elim c.if-not-index.branch [
      | then-not-index+in_ok-push w ↦
          let fits : SFits w32 w.guard.result = search rules in
          let below : c.pushing.place < n = search rules in
          let old : List ℤ = c.if-not-index.literals.items in
          let made = ap (λ v. v.items) w.literals-is ∙ w.in_ok-push.ensures.items in
          record {
            kept = λ x found. contains_before c.pushing.literals.items old _ x made (before.kept x found);
            others = λ i i_in off. elim (cases_lt i c.pushing.place) [
              | inl lt ↦ contains_before c.pushing.literals.items old _ (guard_of m i) made (before.others i lt off)
              | inr ge ↦
                  let here : c.pushing.place ≡ i = omega (arith, i_in, ge) in
                  contains_last c.pushing.literals.items old _ (guard_of m i) made (read32 _ fits ∙ w.guard.ensures ∙ ap (guard_of m) here)
            ];
            assumed = λ units all. assumed_pushed m n c.pushing.place c.pushing.literals.items old _ below (read32 _ fits ∙ w.guard.ensures) made units (before.assumed units all);
          }
      | else-not-index w ↦
          let same : c.if-not-index.literals.items ≡ c.pushing.literals.items = ap (λ v. v.items) w.literals-is in
          let below : c.pushing.place < n = search rules in
          let value : get_or marks c.pushing.place c.index.result.now ≡ true = search rules in
          let on : get_or marks c.pushing.place false ≡ true = get_or_default marks c.pushing.place false c.index.result.now below ∙ value in
          record {
            kept = λ x found. subst (λ (v : List ℤ). Contains v x) (sym same) (before.kept x found);
            others = λ i i_in off. elim (cases_lt i c.pushing.place) [
              | inl lt ↦ subst (λ (v : List ℤ). Contains v (guard_of m i)) (sym same) (before.others i lt off)
              | inr ge ↦
                  let here : i ≡ c.pushing.place = omega (arith, i_in, ge) in
                  absurd (false≢true (sym off ∙ ap (λ (j : ℕ). get_or marks j false) here ∙ on))
            ];
            assumed = λ units all. subst (λ (v : List ℤ). All (IsAssumed m n units) v) (sym same) (before.assumed units all);
          }
    ]
