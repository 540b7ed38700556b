use Rattle.std.proofs.Common.{◌<◌, ◌≤◌, length, [], All, take, get_or, refl, sym, subst, arith}
use Rattle.std.proofs.lemmas.Bool.{true≢false}
use Rattle.std.proofs.lemmas.List.{take_all, take_more}
use Rattle.std.proofs.lemmas.List.Elements.{All-push}
use Rattle.certificate3.specs.Texts.{AreHints}
use Rattle.certificate3.proofs.limits.are_hints.Goals as goal

pub returns-then-not-is_hints : goal.returns-then-not-is_hints
returns-then-not-is_hints c =
    let lt : c.loop-k.k < length c.args.hints.now = omega (arith, c.len-k-end.ensures, c.loop-k-test.true) in
    (λ t. absurd (true≢false (sym t)), λ all. c.if-not-is_hints.ensures.1 (subst AreHints (sym c.list.ensures) (all c.loop-k.k [] lt)))

pub loop-k-preserved : goal.loop-k-preserved
loop-k-preserved c =
    let xs = c.args.hints.now in
    let k = c.loop-k.k in
    let lt : c.loop-k.k < length c.args.hints.now = omega (arith, c.len-k-end.ensures, c.loop-k-test.true) in
    let here : AreHints (get_or xs k []) = subst AreHints c.list.ensures (c.if-not-is_hints.ensures.0 refl) in
    subst (All AreHints) (sym (take_more xs k [] lt)) (All-push AreHints (take k xs) (get_or xs k []) c.loop-k.invariant here)

pub returns : goal.returns
returns c =
    let le : length c.args.hints.now ≤ c.loop-k.k = omega (arith, c.len-k-end.ensures, c.loop-k-test.false) in
    (λ t. subst (All AreHints) (take_all c.loop-k.k c.args.hints.now le) c.loop-k.invariant, λ all. refl)
