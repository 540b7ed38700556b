use Rattle.std.proofs.Common.{◌<◌, ◌≤◌, ℕ, List, ℤ, Bool, All, map, unsigned_abs, length, arith}
use Rattle.std.proofs.lemmas.List.Elements.{All-weaker}
use Rattle.graph.specs.declared.circuit.Lit.{Lit}
use Rattle.graph.specs.Circuits.{variable}
use Rattle.lrat.specs.Literals.{IsLiteral}
use Rattle.lrat.specs.Shared.{unit_clauses}
use Rattle.cones.specs.Marks.{IsMarked}
use Rattle.cnf.specs.Formulas.{IsInRange}
use Rattle.cnf.proofs.CaseLaws.{bad_in_range, constraints_in_range}
use Rattle.unrolling.specs.declared.encoder.Encoder.{Encoder}
use Rattle.unrolling.specs.Unrollings.{literal_of}
use Rattle.unrolling.proofs.Negated.{literal_up}
use Rattle.unrolling.proofs.Demanded.{over_literals, units_over, given_more}
use Rattle.unrolling.proofs.unrolling.give_frame.Goals as goal

pub give-requires-clause-constraints : goal.give-requires-clause-constraints
give-requires-clause-constraints g c = λ k d k_in.
    let m = c.args.circuit.now in
    let all : All (IsInRange m.max_var) c.constraints.result.now = rw c.constraints.ensures (constraints_in_range m c.well_formed-2.ensures) in
    let p = all k d k_in in
    omega (arith, p, c.requires.whole)

pub give-requires-clause-bad : goal.give-requires-clause-bad
give-requires-clause-bad g c = λ k d k_in.
    let m = c.args.circuit.now in
    let all : All (IsInRange m.max_var) c.bad.result.now = rw c.bad.ensures (bad_in_range m c.well_formed-2.ensures) in
    let p = all k d k_in in
    omega (arith, p, c.requires.whole)

pub add_units-requires-clause-range : goal.add_units-requires-clause-range
add_units-requires-clause-range g c = λ k d k_in.
    let m = c.args.circuit.now in
    let all : All (IsInRange m.max_var) c.constraints-2.result.now = rw c.constraints-2.ensures (constraints_in_range m c.well_formed-2.ensures) in
    let p = all k d k_in in
    omega (arith, p, c.requires.whole)

pub add_units-requires-clause-literals : goal.add_units-requires-clause-literals
add_units-requires-clause-literals g c =
    let n : ℕ = c.args.encoder.now.variables in
    let vars : ℕ = g.S.Sat.vars c.give.new.solver in
    let le : n ≤ vars = omega (arith, c.requires.given.places, c.requires.places, c.in_ok-give.ensures.vars) in
    All-weaker (IsLiteral n) (IsLiteral vars) (λ l is. literal_up n vars l is le) c.args.table.now c.requires.literals

pub returns-clause-given : goal.returns-clause-given
returns-clause-given g c =
    let m = c.args.circuit.now in
    let e : Encoder = c.args.encoder.now in
    let table : List ℤ = c.args.table.now in
    let marks : List Bool = c.give.new.marks in
    let es_is = rw c.constraints-2.ensures at c.in_ok-add_units.ensures.clauses in
    let on : All (λ (a : Lit). IsMarked marks (unsigned_abs (literal_of table a))) m.constraints = rw c.constraints.ensures at c.in_ok-give.ensures.constraints in
    let range : All (λ (a : Lit). variable a < length table) m.constraints = λ k d k_in.
    let p = constraints_in_range m c.well_formed-2.ensures k d k_in in
    omega (arith, p, c.requires.whole) in
    given_more e marks (g.S.Sat.clauses c.give.new.solver) (unit_clauses (map (literal_of table) m.constraints)) (g.S.Sat.clauses c.add_units.new.solver) es_is
    (units_over e.variables marks table m.constraints c.requires.literals range on) c.in_ok-give.ensures.given

pub returns-clause-added : goal.returns-clause-added
returns-clause-added g c =
    let e : Encoder = c.args.encoder.now in
    let ds = g.S.Sat.clauses c.give.new.solver in
    record {
      clauses = ds;
      range = over_literals e.variables c.give.new.marks ds c.in_ok-give.ensures.given.clauses;
      more = c.in_ok-give.ensures.more;
      units = rw c.constraints-2.ensures at c.in_ok-add_units.ensures.clauses;
    }
