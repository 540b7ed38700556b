use Rattle.std.proofs.Common.{rules, ◌≡◌, ◌++◌, ℕ, List, map, subst, arith, SFits, w32}
use Rattle.lrat.specs.Literals.{IsLiteral}
use Rattle.lrat.proofs.Fit.{read32}
use Rattle.truth_tables.specs.declared.cube.Cube.{Cube}
use Rattle.unrolling.specs.Demands.{cube_clause}
use Rattle.unrolling.proofs.Demanded.{take_past}
use Rattle.unrolling.proofs.Negated.{negation_literal}
use Rattle.unrolling.proofs.Said.{cube_all}
use Rattle.unrolling.proofs.demand.add_cover.Goals as goal

pub add-requires : goal.add-requires
add-requires g c =
    let n : ℕ = g.S.Sat.vars c.args.solver.now in
    let fl : SFits w32 c.args.literal = search rules in
    let made = rw (read32 _ fl) at c.in_ok-fill_clause.ensures in
    rw (c.deref.ensures.value, made, c.loop-cube.invariant.vars) (cube_all (IsLiteral n) c.args.literal c.args.leaves _ (negation_literal n) c.requires.literal c.requires.leaves)

pub returns-clause-clauses : goal.returns-clause-clauses
returns-clause-clauses g c =
    let fl : SFits w32 c.args.literal = search rules in
    subst (λ (q : List Cube). g.S.Sat.clauses c.loop-cube.solver ≡ g.S.Sat.clauses c.args.solver.now ++ map (cube_clause c.args.literal c.args.leaves) q)
    (take_past c.loop-cube.cube-index c.args.cubes.now (omega arith)) (rw (read32 _ fl) at c.loop-cube.invariant.clauses)
