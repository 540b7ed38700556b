use Rattle.std.proofs.Common.{◌≤◌, ◌∙◌, ap, subst, sym, arith}
use Rattle.graph.specs.declared.parts.Parts.{Parts}
use Rattle.graph.specs.Circuits.{variable}
use Rattle.stimulus.proofs.Watching.{watched_in_range}
use Rattle.witness_circuits.specs.Witnesses.{IsWitness, witness_parts}
use Rattle.witness_circuits.proofs.Unmade.{over_small}
use Rattle.witness_circuits.proofs.Values.{is_witness}
use Rattle.witness_circuits.proofs.writing.witness_model.Goals as goal

pub returns-clause-exact : goal.returns-clause-exact
returns-clause-exact c =
    let m : Parts = c.args.circuit.now in
    let same = c.in_ok-model.ensures.built.0 ∙ c.in_ok-parts.ensures ∙ ap (λ (p : Parts). witness_parts p c.args.latches.now c.args.gates.now c.args.invariant.now c.args.bad) c.parts.ensures.parts in
    subst (IsWitness m c.args.latches.now c.args.gates.now c.args.invariant.now c.args.bad) (sym same) (is_witness m c.args.latches.now c.args.gates.now c.args.invariant.now c.args.bad)

pub witness_parts-requires-clause-bad : goal.witness_parts-requires-clause-bad
witness_parts-requires-clause-bad c =
    let m : Parts = c.args.circuit.now in
    let inside : variable c.args.bad ≤ m.max_var = watched_in_range m c.requires.watched.0 c.args.bad c.parts.ensures.well_formed c.requires.watched.1 in
    omega (arith, inside, c.requires.limit)

pub witness_parts-requires-clause-small : goal.witness_parts-requires-clause-small
witness_parts-requires-clause-small c = over_small c.args.circuit.now c.args.latches.now c.args.gates.now c.args.invariant.now (omega (arith, c.requires.limit)) c.requires.over
