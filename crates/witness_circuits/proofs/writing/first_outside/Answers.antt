use Rattle.std.proofs.Common.{◌<◌, ◌≤◌, length, [], All, take, get_or, refl, sym, subst, arith}
use Rattle.std.proofs.lemmas.Bool.{true≢false}
use Rattle.std.proofs.lemmas.List.{take_all, take_more}
use Rattle.std.proofs.lemmas.List.Elements.{All-push}
use Rattle.cnf.specs.Formulas.{IsInRange}
use Rattle.witness_circuits.proofs.writing.first_outside.Goals as goal

pub returns-then-not-is_over-clause-some : goal.returns-then-not-is_over-clause-some
returns-then-not-is_over-clause-some c =
    let inv = c.args.invariant.now in
    let k = c.loop-k.k in
    let lt : k < length inv = omega (arith, c.len-k-end.ensures, c.loop-k-test.true) in
    (lt, λ over. true≢false (sym (c.if-not-is_over.ensures.1 (subst (All (IsInRange c.args.max_var)) (sym c.list.ensures) over))))

pub loop-k-preserved : goal.loop-k-preserved
loop-k-preserved c =
    let inv = c.args.invariant.now in
    let k = c.loop-k.k in
    let lt : k < length inv = omega (arith, c.len-k-end.ensures, c.loop-k-test.true) in
    let here : All (IsInRange c.args.max_var) (get_or inv k []) = subst (All (IsInRange c.args.max_var)) c.list.ensures (c.if-not-is_over.ensures.0 refl) in
    subst (All (All (IsInRange c.args.max_var))) (sym (take_more inv k [] lt)) (All-push (All (IsInRange c.args.max_var)) (take k inv) (get_or inv k []) c.loop-k.invariant here)

pub returns-clause-none : goal.returns-clause-none
returns-clause-none c =
    let le : length c.args.invariant.now ≤ c.loop-k.k = omega (arith, c.len-k-end.ensures, c.loop-k-test.false) in
    subst (All (All (IsInRange c.args.max_var))) (take_all c.loop-k.k c.args.invariant.now le) c.loop-k.invariant
