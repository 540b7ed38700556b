use Rattle.std.proofs.Common.{◌≡◌, ◌∙◌, map, Contains, ◌+◌, ◌++◌, ◌∷◌, ap, sym, subst, ℤ, List, All, arith, refl}
use Rattle.graph.specs.declared.circuit.Lit.{Lit}
use Rattle.graph.specs.Circuits.{variable}
use Rattle.lrat.specs.Shared.{unit_clauses}
use Rattle.cnf.specs.Clauses.{literal, truth_clause}
use Rattle.cones.specs.Marks.{IsMarked}
use Rattle.cnf.proofs.Formed.{IsKnown}
use Rattle.ic3_step.proofs.Loaded.{constraints_known, none_grown, loaded_first}
use Rattle.ic3_step.proofs.encoding.load.Goals as goal

pub grow-requires-clause-lits : goal.grow-requires-clause-lits
grow-requires-clause-lits g c =
    let m = c.args.circuit.now in
    subst (All (IsKnown m)) (sym c.constraints.ensures) (constraints_known m c.well_formed-2.ensures)

pub grow-requires-clause-grown : goal.grow-requires-clause-grown
grow-requires-clause-grown g c =
    let m = c.args.circuit.now in
    let first : List (List ℤ) = truth_clause m.max_var 0 ∷ unit_clauses (map (literal m.max_var 0) m.constraints) in
    let is : g.S.Sat.clauses c.add_constraints.new.solver ≡ first =
    c.in_ok-add_constraints.ensures.clauses ∙ ap (λ (cs : List (List ℤ)). cs ++ first) c.in_ok-reset.ensures.clauses in
    none_grown m c.in_ok-cone.cone (g.S.Sat.clauses c.add_constraints.new.solver) c.in_ok-cone.ensures.table c.in_ok-cone.ensures.places c.in_ok-cone.ensures.clear c.in_ok-cone.ensures.unasked c.in_ok-cone.ensures.part_gates
    (subst (λ (cs : List (List ℤ)). Contains cs (truth_clause m.max_var 0)) (sym is) (0, omega arith, refl))

pub returns : goal.returns
returns g c =
    let m = c.args.circuit.now in
    let first : List (List ℤ) = truth_clause m.max_var 0 ∷ unit_clauses (map (literal m.max_var 0) m.constraints) in
    let is : g.S.Sat.clauses c.add_constraints.new.solver ≡ first =
    c.in_ok-add_constraints.ensures.clauses ∙ ap (λ (cs : List (List ℤ)). cs ++ first) c.in_ok-reset.ensures.clauses in
    let fits : g.S.Sat.vars c.grow.new.solver ≡ m.max_var + 1 + c.args.guards =
    c.in_ok-grow.ensures.vars ∙ c.in_ok-add_constraints.ensures.vars ∙ c.in_ok-reset.ensures.vars ∙ (omega (arith, c.max_var-variables.ensures)) in
    loaded_first m c.args.guards c.grow.new.cone (g.S.Sat.vars c.grow.new.solver) (g.S.Sat.clauses c.add_constraints.new.solver) (g.S.Sat.clauses c.grow.new.solver) fits is
    c.in_ok-grow.ensures.grown (subst (λ (lits : List Lit). All (λ (a : Lit). IsMarked c.grow.new.cone.marks.items (variable a)) lits) c.constraints.ensures c.in_ok-grow.ensures.marked) c.in_ok-grow.ensures.added
