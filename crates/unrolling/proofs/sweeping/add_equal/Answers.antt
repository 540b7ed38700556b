use Rattle.std.proofs.Common.{rules, ◌≡◌, ◌++◌, ◌∷◌, [], ℤ, neg_ℤ, ◌∙◌, ap, SFits, w32, to_z, of_z}
use Rattle.lrat.proofs.Fit.{read32}
use Rattle.unrolling.proofs.Added.{read_as}
use Rattle.unrolling.proofs.sweeping.add_equal.Goals as goal

pub returns-clause-clauses : goal.returns-clause-clauses
returns-clause-clauses g c =
    let l : ℤ = c.args.one in
    let k : ℤ = c.args.other in
    let fl : SFits w32 l = search rules in
    let fk : SFits w32 k = search rules in
    let fa : SFits w32 c.negated.result = search rules in
    let fb : SFits w32 c.negated-2.result = search rules in
    let a : to_z w32 (of_z w32 c.negated.result) ≡ neg_ℤ l = read_as _ _ fa (c.negated.ensures ∙ ap neg_ℤ (read32 _ fl)) in
    let b : to_z w32 (of_z w32 c.negated-2.result) ≡ neg_ℤ k = read_as _ _ fb (c.negated-2.ensures ∙ ap neg_ℤ (read32 _ fk)) in
    let first : g.S.Sat.clauses c.add.new.self ≡ g.S.Sat.clauses c.args.solver.now ++ (neg_ℤ l ∷ k ∷ []) ∷ [] = rw (a, read32 _ fk) at c.in_ok-add.ensures.ok in
    let second : g.S.Sat.clauses c.add-2.new.self ≡ g.S.Sat.clauses c.add.new.self ++ (l ∷ neg_ℤ k ∷ []) ∷ [] = rw (read32 _ fl, b) at c.in_ok-add-2.ensures.ok in
    second ∙ ap (λ q. q ++ (l ∷ neg_ℤ k ∷ []) ∷ []) first
