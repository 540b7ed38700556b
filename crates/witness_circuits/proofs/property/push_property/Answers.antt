use Rattle.std.proofs.Common.{◌+◌, ◌<◌, ◌≤◌, List, length, [], All, refl, sym, subst, arith}
use Rattle.std.proofs.lemmas.List.Elements.{All-get_or}
use Rattle.graph.specs.declared.circuit.Lit.{Lit}
use Rattle.witness_circuits.proofs.Rows.{count_step, gates_last, gates_step, literal_last, literal_step}
use Rattle.witness_circuits.proofs.property.push_property.Goals as goal

abbrev AreSmall : List Lit → Type 0
AreSmall c = All (λ (a : Lit). a.0 + 1 < 4294967296) c

pub push_clause-requires-clause-small : goal.push_clause-requires-clause-small
push_clause-requires-clause-small c =
    let inv = c.args.invariant.now in
    let lt : c.loop-k.k < length inv = omega (arith, c.len-k-end.ensures, c.loop-k-test.true) in
    subst AreSmall (sym c.list-clause.ensures) (All-get_or AreSmall inv c.loop-k.k [] lt c.requires.small)

pub push_clause-requires-clause-fits : goal.push_clause-requires-clause-fits
push_clause-requires-clause-fits c =
    let inv = c.args.invariant.now in
    let lt : c.loop-k.k < length inv = omega (arith, c.len-k-end.ensures, c.loop-k-test.true) in
    let size = count_step inv c.loop-k.k c.loop-k.next (length c.list-clause.result.now) c.list-clause.result.now _ lt c.list-clause.ensures refl c.loop-k.invariant.count in
    omega (arith, size, c.requires.fits)

pub loop-k-preserved : goal.loop-k-preserved
loop-k-preserved c =
    let inv = c.args.invariant.now in
    let k = c.loop-k.k in
    let lt : k < length inv = omega (arith, c.len-k-end.ensures, c.loop-k-test.true) in
    record {
      gates = gates_step inv k _ _ _ _ _ _ _ _ lt c.list-clause.ensures refl c.positive-so_far.ensures c.in_ok-push_clause.ensures c.loop-k.invariant.gates;
      literal = literal_step inv k _ _ _ _ _ _ lt c.list-clause.ensures refl c.positive-so_far.ensures c.loop-k.invariant.literal;
      count = count_step inv k _ _ _ _ lt c.list-clause.ensures refl c.loop-k.invariant.count;
    }

pub returns-clause-gates : goal.returns-clause-gates
returns-clause-gates c =
    let all : length c.args.invariant.now ≤ c.loop-k.k = omega (arith, c.len-k-end.ensures, c.loop-k-test.false) in
    gates_last c.args.invariant.now c.loop-k.k _ _ _ _ all c.loop-k.invariant.gates

pub returns-clause-literal : goal.returns-clause-literal
returns-clause-literal c =
    let all : length c.args.invariant.now ≤ c.loop-k.k = omega (arith, c.len-k-end.ensures, c.loop-k-test.false) in
    literal_last c.args.invariant.now c.loop-k.k _ _ _ all c.loop-k.invariant.literal
