use Rattle.std.proofs.Common.{◌≡◌, ◌-◌, ◌<◌, ◌+◌, List, Bool, Option, [], length, map, get_or, All, sym, ◌∙◌, ap, subst, arith}
use Rattle.std.proofs.lemmas.List.{length-map}
use Rattle.graph.specs.declared.circuit.Lit.{Lit}
use Rattle.graph.specs.declared.circuit.Latch.{Latch}
use Rattle.graph.specs.Circuits.{variable}
use Rattle.cones.specs.Marks.{IsKnown}
use Rattle.stimulus.proofs.LassoLaws.{if_some_at}
use Rattle.witness.specs.Completions.{Completes}
use Rattle.witness.specs.Cleared.{AreEnough, CompleteAll}
use Rattle.witness.proofs.EnoughLaws.{goals_long, goals_known, open_completes, watched_known, shown_from, some_long}
use Rattle.witness.proofs.clearing.clear_bad.Goals as goal

pub walk_back-requires-clause-goals : goal.walk_back-requires-clause-goals
walk_back-requires-clause-goals c =
    let some : 0 < length c.args.lines.now = some_long c.args.lines.now c.requires.playable.some in
    let long = goals_long (length c.args.lines.now - 1) c.args.lit in
    let is = ap length (c.deref-3.ensures.value ∙ c.in_ok-goals.ensures) in
    is ∙ (long ∙ omega (arith, some))

pub walk_back-requires-clause-known : goal.walk_back-requires-clause-known
walk_back-requires-clause-known c =
    let m = c.args.circuit.now in
    subst (λ (gs : List (List Lit)). All (λ goal. All (λ a. IsKnown m (variable a)) goal) gs) (sym (c.deref-3.ensures.value ∙ c.in_ok-goals.ensures))
    (goals_known m (length c.args.lines.now - 1) c.args.lit (watched_known m c.args.property c.args.lit c.well_formed-2.ensures c.requires.watched))

pub walk_back-requires-clause-closing : goal.walk_back-requires-clause-closing
walk_back-requires-clause-closing c =
    let m = c.args.circuit.now in
    let n = length c.args.lines.now in
    let count = if_some_at (λ v. length v.items ≡ n + 1) c.in_ok-states.field-0 c.in-Some.states c.in_ok-states.ensures.count c.in-Some.is in
    let fit = if_some_at (λ v. All (λ s. length s ≡ length m.latches) v.items) c.in_ok-states.field-0 c.in-Some.states c.in_ok-states.ensures.fit c.in-Some.is in
    let long = fit n [] (omega (arith, count)) in
    let same : length (map (λ (l : Latch). l.lit) m.latches) ≡ length m.latches = grind (arith, length-map) in
    rw (c.in_ok-closing.ensures, c.deref.ensures.value, c.in_ok-latch_literals.ensures, c.deref-2.ensures.value) (open_completes (get_or c.in-Some.states.items n []) (length (map (λ l. l.lit) m.latches)) (long ∙ sym same))

pub returns-in-Some-2-clause-enough : goal.returns-in-Some-2-clause-enough
returns-in-Some-2-clause-enough c =
    let m = c.args.circuit.now in
    let n = length c.args.lines.now in
    let states = c.deref-2.result.now in
    let found : List (Option Bool) × List (List (Option Bool)) = (c.in-Some-2.initial, c.in-Some-2.inputs) in
    let count = if_some_at (λ v. length v.items ≡ n + 1) c.in_ok-states.field-0 c.in-Some.states c.in_ok-states.ensures.count c.in-Some.is in
    let fit0 = if_some_at (λ v. All (λ s. length s ≡ length m.latches) v.items) c.in_ok-states.field-0 c.in-Some.states c.in_ok-states.ensures.fit c.in-Some.is in
    let long : length (get_or states 0 []) ≡ length m.latches = rw c.deref-2.ensures.value (fit0 0 [] (omega (arith, count))) in
    let enough = subst (λ (gs : List (List Lit)). AreEnough m gs c.in_ok-closing.closing found.0 found.1) (c.deref-3.ensures.value ∙ c.in_ok-goals.ensures) (if_some_at (λ (f : List (Option Bool) × List (List (Option Bool))). AreEnough m c.deref-3.result.now c.in_ok-closing.closing f.0 f.1) c.in_ok-initial.field-0 found c.in_ok-initial.ensures.enough c.in-Some-2.is) in
    let has_own = if_some_at (λ (f : List (Option Bool) × List (List (Option Bool))). Completes f.0 (get_or states 0 [])) c.in_ok-initial.field-0 found c.in_ok-initial.ensures.state c.in-Some-2.is in
    let has_lines = if_some_at (λ (f : List (Option Bool) × List (List (Option Bool))). CompleteAll f.1 c.args.lines.now) c.in_ok-initial.field-0 found c.in_ok-initial.ensures.rows c.in-Some-2.is in
    shown_from m c.args.property c.args.lit (n - 1) c.in_ok-closing.closing found.0 found.1 (get_or states 0 []) c.args.lines.now c.value_laws.ensures.existence c.requires.watched enough has_own has_lines long c.requires.playable.lines.inputs_fit c.requires.playable.some
