use Rattle.std.proofs.Common.{rules, refl, ◌≡◌, ◌++◌, ◌∷◌, [], ℕ, ℤ, pos, neg_ℤ, SFits, w32, get_or, arith, map, ◌∙◌, ◌≢◌, ap, subst, inl, inr, unsigned_abs, ◌≤◌, ◌⊎◌, ◌↔◌, List, IsTrue}
use Rattle.std.proofs.lemmas.List.{take_all}
use Rattle.std.specs.List.{Contains}
use Rattle.lrat.specs.Literals.{IsProper}
use Rattle.lrat.specs.Marks.{Says}
use Rattle.lrat.proofs.Fit.{read32, not_true}
use Rattle.lrat.proofs.Marked.{marked_push, read_mark, tested_any, valued_mark}
use Rattle.lrat.proofs.Proper.{abs_neg, denials_at, from_denial, neg_neg, neg_not_zero, proper_at}
use Rattle.lrat.proofs.trail.deny_each.Goals as goal

pub returns-then-ne-clause-answer : goal.returns-then-ne-clause-answer
returns-then-ne-clause-answer c =
    let i : ℕ = c.loop-literal.literal-index in
    let t : List ℤ = c.loop-literal.literals.items in
    let x : ℤ = get_or c.args.clause.now i (pos 0) in
    let f : SFits w32 x = search rules in
    let at = rw (read32 x f) at c.unsigned_abs-variable.ensures.value in
    let some : x ≢ pos 0 = c.requires.not_zero i (pos 0) c.loop-literal-test.true in
    let le : unsigned_abs x ≤ c.args._vars = omega (arith, at, c.if-variable-len.false, c.len.ensures, c.loop-literal.invariant.marked.sized) in
    let says : Says t (unsigned_abs x) c.index.result.now = read_mark _ _ _ _ _ _ _ c.loop-literal.invariant.marked (some, le) at c.index.ensures refl in
    let has : Contains t x ⊎ Contains t (neg_ℤ x) = (tested_any _ _ c.ne.ensures (valued_mark _ _ _ some says)).0 c.if-ne.true in (
      i,
      c.loop-literal-test.true,
      c.loop-literal.invariant.proper,
      le,
      elim has [
        | inl held ↦ inr (from_denial _ _ (subst (λ s. Contains s x) c.loop-literal.invariant.supposed held))
        | inr denied ↦ inl (subst (Contains _) (neg_neg x) (from_denial _ _ (subst (λ s. Contains s (neg_ℤ x)) c.loop-literal.invariant.supposed denied)))
      ],
    )

pub loop-literal-preserved : goal.loop-literal-preserved
loop-literal-preserved c =
    let i : ℕ = c.loop-literal.literal-index in
    let t : List ℤ = c.loop-literal.literals.items in
    let x : ℤ = get_or c.args.clause.now i (pos 0) in
    let f : SFits w32 x = search rules in
    let at = rw (read32 x f) at c.unsigned_abs-variable.ensures.value in
    let some : x ≢ pos 0 = c.requires.not_zero i (pos 0) c.loop-literal-test.true in
    let le : unsigned_abs x ≤ c.args._vars = omega (arith, at, c.if-variable-len.false, c.len.ensures, c.loop-literal.invariant.marked.sized) in
    let says : Says t (unsigned_abs x) c.index.result.now = read_mark _ _ _ _ _ _ _ c.loop-literal.invariant.marked (some, le) at c.index.ensures refl in
    let has : IsTrue c.ne.result ↔ (Contains t x ⊎ Contains t (neg_ℤ x)) = tested_any _ _ c.ne.ensures (valued_mark _ _ _ some says) in
    let against = rw (read32 x f) at c.mark_against.ensures in
    let pushed : c.push_reserved.new.self.items ≡ t ++ neg_ℤ x ∷ [] = search rules in
    record {
      marked = rw (pushed, against, at, ← abs_neg x) (marked_push _ _ _ (neg_ℤ x) c.loop-literal.invariant.marked (neg_not_zero x some, rw (abs_neg x) le) (λ h. not_true has.1 c.if-ne.false (inr h)) (λ h. not_true has.1 c.if-ne.false (inl (subst (Contains t) (neg_neg x) h))));
      room = omega (arith, c.loop-literal.invariant.room, c.loop-literal-test.true, c.push_reserved.ensures.len, c.push_reserved.ensures.capacity);
      proper = proper_at _ _ _ _ c.loop-literal-test.true c.loop-literal.invariant.proper c.loop-literal.invariant.supposed le
          (λ h. not_true has.1 c.if-ne.false (inl h)) (λ h. not_true has.1 c.if-ne.false (inr h));
      supposed = pushed ∙ denials_at _ _ _ c.loop-literal-test.true c.loop-literal.invariant.supposed;
    }

pub returns-clause-answer : goal.returns-clause-answer
returns-clause-answer c =
    let e = take_all c.loop-literal.literal-index c.args.clause.now c.loop-literal-test.false in
    (subst (λ u. IsProper c.args._vars u) e c.loop-literal.invariant.proper, c.loop-literal.invariant.supposed ∙ ap (map neg_ℤ) e)
