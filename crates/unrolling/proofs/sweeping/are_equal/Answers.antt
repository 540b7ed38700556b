use Rattle.std.proofs.Common.{rules, ◌≡◌, ◌∷◌, [], true, Bool, ℤ, neg_ℤ, ◌∙◌, ap, subst, SFits, w32, to_z, of_z}
use Rattle.lrat.proofs.Fit.{read32}
use Rattle.solver.specs.Answers.{IsRefuted}
use Rattle.unrolling.specs.Merged.{AreEqualBy}
use Rattle.unrolling.proofs.Added.{read_as, then_if}
use Rattle.unrolling.proofs.Swept.{as_literals, equal_by}
use Rattle.unrolling.proofs.sweeping.are_equal.Goals as goal

pub returns-clause-equal : goal.returns-clause-equal
returns-clause-equal g c =
    let cs = g.S.Sat.clauses c.args.solver.now in
    let cs1 = g.S.Sat.clauses c.is_refuted.new.solver in
    let l : ℤ = c.args.one in
    let k : ℤ = c.args.other in
    let fl : SFits w32 l = search rules in
    let fk : SFits w32 k = search rules in
    let fa : SFits w32 c.negated.result = search rules in
    let fb : SFits w32 c.negated-2.result = search rules in
    let a : ℤ = to_z w32 (of_z w32 c.negated.result) in
    let b : ℤ = to_z w32 (of_z w32 c.negated-2.result) in
    let rl : ℤ = to_z w32 (of_z w32 l) in
    let rk : ℤ = to_z w32 (of_z w32 k) in
    let first : IsRefuted cs (neg_ℤ k ∷ l ∷ []) = as_literals cs a rl (neg_ℤ k) l (read_as _ _ fa (c.negated.ensures ∙ ap neg_ℤ (read32 _ fk))) (read32 _ fl) (c.in_ok-is_refuted.ensures.refuted c.if-not-branch.false) in
    then_if (λ (q : Bool). q ≡ true → IsRefuted cs1 (b ∷ rk ∷ [])) (λ (q : Bool). q ≡ true → AreEqualBy cs l k) c.is_refuted-2.result c.is_refuted-2.ensures.refuted
    (λ q told is. equal_by cs l k c.requires.one.0 c.requires.other.0 first (as_literals cs b rk (neg_ℤ l) k (read_as _ _ fb (c.negated-2.ensures ∙ ap neg_ℤ (read32 _ fl))) (read32 _ fk) (subst (λ q. IsRefuted q (b ∷ rk ∷ [])) c.in_ok-is_refuted.ensures.clauses (told is))))
