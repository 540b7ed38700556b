use Rattle.std.proofs.Common.{◌≡◌, ◌∙◌, ap, sym, subst, List, ◌++◌, All, Contains}
use Rattle.std.specs.Prelude.{flat_map}
use Rattle.graph.specs.declared.circuit.Gate.{Gate}
use Rattle.cnf.specs.Clauses.{gate_clauses}
use Rattle.cones.specs.Marks.{IsMarked}
use Rattle.cones.specs.Partial.{HasGates}
use Rattle.cones.specs.Reach.{gates_in}
use Rattle.cones.proofs.Assigned.{growth_law}
use Rattle.cones.proofs.Grown.{full, full_domain, full_inside, full_all, listed_gates}
use Rattle.cones.proofs.growth.grow_cone.Goals as goal

pub extend-requires-clause-domain : goal.extend-requires-clause-domain
extend-requires-clause-domain c =
    let m = c.args.circuit.now in
    (full m, full_domain m _ c.well_formed-2.ensures, full_inside m c.args.marks.now c.requires.places, full_all m c.args.wanted.now c.requires.wanted)

pub returns-clause-gates : goal.returns-clause-gates
returns-clause-gates c =
    let m = c.args.circuit.now in
    let is : c.in_ok-gates.gates.items ≡ gates_in c.args.table.now c.in_ok-list.list.items = c.in_ok-gates.ensures ∙ ap (gates_in c.args.table.now) c.deref.ensures.value in
    subst (All (Contains m.gates)) (sym is) (listed_gates m c.args.table.now c.in_ok-list.list.items c.requires.table)

pub returns-clause-clauses : goal.returns-clause-clauses
returns-clause-clauses c = λ cs has.
    let m = c.args.circuit.now in
    let is : c.in_ok-gates.gates.items ≡ gates_in c.args.table.now c.in_ok-list.list.items = c.in_ok-gates.ensures ∙ ap (gates_in c.args.table.now) c.deref.ensures.value in
    subst (λ (gs : List Gate). HasGates m (IsMarked c.extend.new.marks) (cs ++ flat_map (gate_clauses m.max_var 0) gs)) (sym is)
    (growth_law m c.args.table.now c.args.marks.now c.extend.new.marks _ c.args.wanted.now c.in_ok-list.list.items cs c.requires.table has c.in_ok-list.ensures)
