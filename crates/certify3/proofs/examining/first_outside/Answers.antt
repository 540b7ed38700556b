use Rattle.std.proofs.Common.{◌+◌, ◌<◌, ◌≤◌, length, [], All, take, drop, get_or, refl, sym, subst, arith}
use Rattle.std.proofs.lemmas.Bool.{true≢false}
use Rattle.std.proofs.lemmas.List.{length-take-le, take_all, take_more}
use Rattle.std.proofs.lemmas.List.Elements.{All-push}
use Rattle.lrat.proofs.Exact.{parts_at}
use Rattle.extension.specs.Inductive.{IsOverAll}
use Rattle.certify3.proofs.examining.first_outside.Goals as goal

pub returns-then-not-is_over-clause-some : goal.returns-then-not-is_over-clause-some
returns-then-not-is_over-clause-some c =
    let m = c.args.circuit.now in
    let inv = c.args.invariant.now in
    let k = c.loop-k.k in
    let lt : k < length inv = omega (arith, c.len-k-end.ensures, c.loop-k-test.true) in
    record {
      before = take k inv;
      clause = get_or inv k [];
      after = drop (k + 1) inv;
      are = parts_at inv k [] lt;
      place = sym (length-take-le k inv (omega (arith, lt)));
      earlier = c.loop-k.invariant;
      outside = λ over. true≢false (sym (c.if-not-is_over.ensures.1 (subst (IsOverAll m) (sym c.list.ensures) over)));
    }

pub loop-k-preserved : goal.loop-k-preserved
loop-k-preserved c =
    let m = c.args.circuit.now in
    let inv = c.args.invariant.now in
    let k = c.loop-k.k in
    let lt : k < length inv = omega (arith, c.len-k-end.ensures, c.loop-k-test.true) in
    let here : IsOverAll m (get_or inv k []) = subst (IsOverAll m) c.list.ensures (c.if-not-is_over.ensures.0 refl) in
    subst (All (IsOverAll m)) (sym (take_more inv k [] lt)) (All-push (IsOverAll m) (take k inv) (get_or inv k []) c.loop-k.invariant here)

pub returns-clause-none : goal.returns-clause-none
returns-clause-none c =
    let le : length c.args.invariant.now ≤ c.loop-k.k = omega (arith, c.len-k-end.ensures, c.loop-k-test.false) in
    subst (All (IsOverAll c.args.circuit.now)) (take_all c.loop-k.k c.args.invariant.now le) c.loop-k.invariant
