use Rattle.std.proofs.Common.{rules, ◌≡◌, ◌∙◌, ◌<◌, List, [], ◌∷◌, get_or, All, ap, sym, subst, arith}
use Rattle.std.proofs.lemmas.List.Elements.{All-push, Contains-get_or}
use Rattle.graph.specs.declared.circuit.Lit.{Lit}
use Rattle.graph.specs.declared.circuit.Latch.{Latch}
use Rattle.graph.proofs.Evaluation.{latches_in_range}
use Rattle.correspondence.specs.Equal.{high_of, IsEquality}
use Rattle.correspondence.proofs.Sound.{constant_is}
use Rattle.correspondence.proofs.equalities.push_constant.Goals as goal

pub high-requires : goal.high-requires
high-requires c =
    let m = c.args.circuit.now in
    let blank : Latch = record { lit = record { 0 = 0 }; next = record { 0 = 0 }; reset = record { 0 = 0 } } in
    let range = latches_in_range m c.well_formed-2.ensures c.args.place blank c.requires.place in
    let small = c.well_formed-2.ensures.limits.max_var in
    rw c.latches.ensures (omega (arith, range, small))

pub returns-clause-all : goal.returns-clause-all
returns-clause-all c =
    let m = c.args.circuit.now in
    let blank : Latch = record { lit = record { 0 = 0 }; next = record { 0 = 0 }; reset = record { 0 = 0 } } in
    let old : List (List Lit) = c.args.clauses.now in
    let l : Latch = get_or m.latches c.args.place blank in
    let same : get_or c.latches.result.now c.args.place blank ≡ l = ap (λ (xs : List Latch). get_or xs c.args.place blank) c.latches.ensures in
    let low : (get_or c.latches.result.now c.args.place blank).reset.0 < 2 = search rules in
    let fixed : l.reset.0 < 2 = subst (λ (x : Latch). x.reset.0 < 2) same low in
    let made : c.in_ok-from_slice.field-0 ≡ high_of l ∷ [] = c.in_ok-from_slice.ensures ∙ ap (λ (a : Lit). a ∷ []) (c.high.ensures ∙ ap high_of same) in
    subst (All (IsEquality m)) (sym c.in_ok-push.ensures.ok)
    (All-push (IsEquality m) old c.in_ok-from_slice.field-0 c.requires.all
    (subst (IsEquality m) (sym made) (constant_is m l c.well_formed-2.ensures (Contains-get_or m.latches c.args.place blank c.requires.place) fixed)))
