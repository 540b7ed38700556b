use Rattle.std.proofs.Common.{◌<◌, ◌≤◌, length, [], All, take, get_or, refl, sym, subst, arith}
use Rattle.std.proofs.lemmas.Bool.{true≢false}
use Rattle.std.proofs.lemmas.List.{take_all, take_more}
use Rattle.std.proofs.lemmas.List.Elements.{All-push}
use Rattle.certificate3.specs.Texts.{AreLiterals}
use Rattle.certificate3.proofs.limits.are_clauses.Goals as goal

pub returns-then-not-is_clause : goal.returns-then-not-is_clause
returns-then-not-is_clause c =
    let lt : c.loop-k.k < length c.args.clauses.now = omega (arith, c.len-k-end.ensures, c.loop-k-test.true) in
    (λ t. absurd (true≢false (sym t)), λ all. c.if-not-is_clause.ensures.1 (subst AreLiterals (sym c.list.ensures) (all c.loop-k.k [] lt)))

pub loop-k-preserved : goal.loop-k-preserved
loop-k-preserved c =
    let xs = c.args.clauses.now in
    let k = c.loop-k.k in
    let lt : c.loop-k.k < length c.args.clauses.now = omega (arith, c.len-k-end.ensures, c.loop-k-test.true) in
    let here : AreLiterals (get_or xs k []) = subst AreLiterals c.list.ensures (c.if-not-is_clause.ensures.0 refl) in
    subst (All AreLiterals) (sym (take_more xs k [] lt)) (All-push AreLiterals (take k xs) (get_or xs k []) c.loop-k.invariant here)

pub returns : goal.returns
returns c =
    let le : length c.args.clauses.now ≤ c.loop-k.k = omega (arith, c.len-k-end.ensures, c.loop-k-test.false) in
    (λ t. subst (All AreLiterals) (take_all c.loop-k.k c.args.clauses.now le) c.loop-k.invariant, λ all. refl)
