use Rattle.std.proofs.Common.{rules, ◌≡◌, ◌≢◌, ◌∙◌, ◌<◌, List, [], ◌∷◌, get_or, All, ap, sym, subst, arith}
use Rattle.std.proofs.lemmas.List.Elements.{All-push, Contains-get_or}
use Rattle.graph.specs.declared.circuit.Lit.{Lit}
use Rattle.graph.specs.declared.circuit.Latch.{Latch}
use Rattle.graph.specs.Circuits.{variable}
use Rattle.graph.proofs.Evaluation.{latches_in_range}
use Rattle.correspondence.specs.Equal.{high_of, low_of, IsEquality}
use Rattle.correspondence.proofs.Sound.{implication_is}
use Rattle.correspondence.proofs.equalities.push_implication.Goals as goal

pub high-requires : goal.high-requires
high-requires c =
    let m = c.args.circuit.now in
    let blank : Latch = record { lit = record { 0 = 0 }; next = record { 0 = 0 }; reset = record { 0 = 0 } } in
    let range = latches_in_range m c.well_formed-2.ensures c.args.place blank c.requires.place in
    let small = c.well_formed-2.ensures.limits.max_var in
    rw c.latches.ensures (omega (arith, range, small))

pub low-requires : goal.low-requires
low-requires c =
    let m = c.args.circuit.now in
    let blank : Latch = record { lit = record { 0 = 0 }; next = record { 0 = 0 }; reset = record { 0 = 0 } } in
    let range = latches_in_range m c.well_formed-2.ensures c.args.lead blank c.requires.lead in
    let small = c.well_formed-2.ensures.limits.max_var in
    rw c.latches-2.ensures (omega (arith, range, small))

pub returns-clause-all : goal.returns-clause-all
returns-clause-all c =
    let m = c.args.circuit.now in
    let blank : Latch = record { lit = record { 0 = 0 }; next = record { 0 = 0 }; reset = record { 0 = 0 } } in
    let old : List (List Lit) = c.args.clauses.now in
    let given : Latch = get_or c.latches.result.now c.args.place blank in
    let other : Latch = get_or c.latches-2.result.now c.args.lead blank in
    let l : Latch = get_or m.latches c.args.place blank in
    let k : Latch = get_or m.latches c.args.lead blank in
    let same : given ≡ l = ap (λ (xs : List Latch). get_or xs c.args.place blank) c.latches.ensures in
    let same_other : other ≡ k = ap (λ (xs : List Latch). get_or xs c.args.lead blank) c.latches-2.ensures in
    let low : given.reset.0 < 2 = search rules in
    let fixed : l.reset.0 < 2 = subst (λ (x : Latch). x.reset.0 < 2) same low in
    let differing : c.variable.result ≢ c.variable-else-latch-ge2.result = search rules in
    let left : c.variable.result ≡ variable l.lit = c.variable.ensures ∙ ap (λ (x : Latch). variable x.lit) same in
    let right : c.variable-else-latch-ge2.result ≡ variable k.lit = c.variable-else-latch-ge2.ensures ∙ ap (λ (x : Latch). variable x.lit) same_other in
    let apart : variable l.lit ≢ variable k.lit = λ e. differing (left ∙ e ∙ sym right) in
    let first : c.high.result ≡ high_of l = c.high.ensures ∙ ap high_of same in
    let second : c.low.result ≡ low_of k = c.low.ensures ∙ ap low_of same_other in
    let made : c.in_ok-from_slice.field-0 ≡ high_of l ∷ low_of k ∷ [] =
    c.in_ok-from_slice.ensures ∙ ap (λ (a : Lit). a ∷ c.low.result ∷ []) first ∙ ap (λ (a : Lit). high_of l ∷ a ∷ []) second in
    subst (All (IsEquality m)) (sym c.in_ok-push.ensures.ok)
    (All-push (IsEquality m) old c.in_ok-from_slice.field-0 c.requires.all
    (subst (IsEquality m) (sym made)
    (implication_is m l k c.well_formed-2.ensures (Contains-get_or m.latches c.args.place blank c.requires.place) (Contains-get_or m.latches c.args.lead blank c.requires.lead) fixed apart)))
