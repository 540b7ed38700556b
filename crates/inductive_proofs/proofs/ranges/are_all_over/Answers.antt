use Rattle.std.proofs.Common.{◌+◌, ◌<◌, ◌≤◌, length, [], All, take, get_or, refl, sym, subst, arith}
use Rattle.std.proofs.lemmas.List.{take_all, take_more}
use Rattle.std.proofs.lemmas.List.Elements.{All-push}
use Rattle.extension.specs.Inductive.{IsOverAll}
use Rattle.inductive_proofs.proofs.ranges.are_all_over.Goals as goal

pub loop-k-preserved : goal.loop-k-preserved
loop-k-preserved c =
    let m = c.args.circuit.now in
    let inv = c.args.invariant.now in
    let k = c.loop-k.k in
    let lt : k < length inv = omega (arith, c.len-k-end.ensures, c.loop-k-test.true) in
    let here : IsOverAll m (get_or inv k []) = subst (IsOverAll m) c.list.ensures (c.if-not-is_over.ensures.0 refl) in
    subst (All (IsOverAll m)) (sym (take_more inv k [] lt)) (All-push (IsOverAll m) (take k inv) (get_or inv k []) c.loop-k.invariant here)

pub returns : goal.returns
returns c =
    let le : length c.args.invariant.now ≤ c.loop-k.k = omega (arith, c.len-k-end.ensures, c.loop-k-test.false) in
    λ _. subst (All (IsOverAll c.args.circuit.now)) (take_all c.loop-k.k c.args.invariant.now le) c.loop-k.invariant
