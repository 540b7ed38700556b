use Rattle.std.proofs.Common.{rules, ◌≡◌, ◌∙◌, ◌++◌, ap, sym, subst, Bool, ℤ, List, length, drop, All, Contains}
use Rattle.std.specs.Prelude.{flat_map}
use Rattle.graph.specs.declared.circuit.Gate.{Gate}
use Rattle.graph.proofs.Tabled.{take_whole}
use Rattle.cnf.specs.Clauses.{gate_clauses}
use Rattle.cnf.specs.Formulas.{IsGateIn}
use Rattle.cones.specs.Marks.{IsMarked, IsCone}
use Rattle.cones.specs.Partial.{HasGates}
use Rattle.ic3_step.proofs.Loaded.{known_small, listed_in_range, listed_clauses}
use Rattle.ic3_step.proofs.cone.grow.Goals as goal

pub grow_cone-requires-clause-wanted : goal.grow_cone-requires-clause-wanted
grow_cone-requires-clause-wanted g c = known_small c.args.circuit.now c.args.lits.now c.well_formed-2.ensures c.requires.lits

pub add_gates-requires-clause-range : goal.add_gates-requires-clause-range
add_gates-requires-clause-range g c =
    let m = c.args.circuit.now in
    subst (λ n. All (IsGateIn n) c.deref.result.now) (sym c.first.ensures.max_var)
    (listed_in_range m c.deref.result.now c.well_formed-2.ensures (subst (All (Contains m.gates)) (sym c.deref.ensures.value) c.in_ok-gates.ensures.gates))

pub returns-clause-grown : goal.returns-clause-grown
returns-clause-grown g c =
    let m = c.args.circuit.now in
    let old : List (List ℤ) = g.S.Sat.clauses c.args.solver.now in
    let gates : List Gate = c.in_ok-gates.gates.items in
    let is : g.S.Sat.clauses c.add_gates.new.solver ≡ old ++ flat_map (gate_clauses m.max_var 0) gates =
    c.in_ok-add_gates.ensures.clauses ∙ ap (λ n. old ++ flat_map (gate_clauses n 0) c.deref.result.now) c.first.ensures.max_var
    ∙ ap (λ (gs : List Gate). old ++ flat_map (gate_clauses m.max_var 0) gs) c.deref.ensures.value in
    let new : List Bool = c.grow_cone.new.marks in
    let long : length new ≡ c.args.cone.now.marks.len = search rules in
    let before : HasGates m (IsMarked c.deref_mut.result.now) old = subst (λ (t : List Bool). HasGates m (IsMarked t) old) (sym c.deref_mut.ensures.value) c.requires.grown.gates in
    let whole = take_whole c.args.cone.now.marks.len new (drop (length new) c.args.cone.now.marks.items) long in
    record {
      table = c.requires.grown.table;
      places = ap length whole ∙ c.in_ok-gates.ensures.places;
      closed = subst (λ (t : List Bool). IsCone m (IsMarked t)) (sym whole) c.in_ok-gates.ensures.cone;
      gates = subst (λ (t : List Bool). HasGates m (IsMarked t) (g.S.Sat.clauses c.add_gates.new.solver)) (sym whole)
          (subst (HasGates m (IsMarked new)) (sym is) (c.in_ok-gates.ensures.clauses old before));
      unasked = c.requires.grown.unasked;
      part_gates = c.requires.grown.part_gates;
    }

pub returns-clause-added : goal.returns-clause-added
returns-clause-added g c =
    let m = c.args.circuit.now in
    let old : List (List ℤ) = g.S.Sat.clauses c.args.solver.now in
    let gates : List Gate = c.in_ok-gates.gates.items in
    let is : g.S.Sat.clauses c.add_gates.new.solver ≡ old ++ flat_map (gate_clauses m.max_var 0) gates =
    c.in_ok-add_gates.ensures.clauses ∙ ap (λ n. old ++ flat_map (gate_clauses n 0) c.deref.result.now) c.first.ensures.max_var
    ∙ ap (λ (gs : List Gate). old ++ flat_map (gate_clauses m.max_var 0) gs) c.deref.ensures.value in
    record { added = flat_map (gate_clauses m.max_var 0) gates; is = is; among = listed_clauses m gates c.in_ok-gates.ensures.gates }
