use Rattle.std.proofs.Common.{rules, SFits, w32, ◌≡◌, ◌∙◌, ◌+◌, ◌≤◌, ◌++◌, arith, subst}
use Rattle.lrat.proofs.Fit.{read32}
use Rattle.cnf.specs.Clauses.{gate_clauses}
use Rattle.ic3_step.proofs.Loaded.{gate_added, literal_at, denial_at, two_are, three_are}
use Rattle.ic3_step.proofs.cone.add_gate.Goals as goal

pub add-requires : goal.add-requires
add-requires g c =
    let n = c.args.time.max_var in
    let o = c.args.time.offset in
    let k = g.S.Sat.vars c.args.solver.now in
    let le : n + 1 ≤ k = c.requires.vars in
    let f1 : SFits w32 c.denial-not_left.result = search rules in
    let f2 : SFits w32 c.literal.result = search rules in
    two_are k _ _ (denial_at n o k c.args.gate.lhs _ c.requires.first c.requires.range.lhs le (read32 _ f1 ∙ c.denial-not_left.ensures))
    (literal_at n o k c.args.gate.rhs0 _ c.requires.first c.requires.range.rhs0 le (read32 _ f2 ∙ c.literal.ensures))

pub add-requires-2 : goal.add-requires-2
add-requires-2 g c =
    let n = c.args.time.max_var in
    let o = c.args.time.offset in
    let k = g.S.Sat.vars c.add.new.self in
    let le : n + 1 ≤ k = omega (arith, c.requires.vars, c.add.ensures.vars) in
    let f1 : SFits w32 c.denial-not_left.result = search rules in
    let f2 : SFits w32 c.literal-2.result = search rules in
    two_are k _ _ (denial_at n o k c.args.gate.lhs _ c.requires.first c.requires.range.lhs le (read32 _ f1 ∙ c.denial-not_left.ensures))
    (literal_at n o k c.args.gate.rhs1 _ c.requires.first c.requires.range.rhs1 le (read32 _ f2 ∙ c.literal-2.ensures))

pub add-requires-3 : goal.add-requires-3
add-requires-3 g c =
    let n = c.args.time.max_var in
    let o = c.args.time.offset in
    let k = g.S.Sat.vars c.add-2.new.self in
    let le : n + 1 ≤ k = omega (arith, c.requires.vars, c.add.ensures.vars, c.add-2.ensures.vars) in
    let f1 : SFits w32 c.literal-left.result = search rules in
    let f2 : SFits w32 c.denial.result = search rules in
    let f3 : SFits w32 c.denial-2.result = search rules in
    three_are k _ _ _ (literal_at n o k c.args.gate.lhs _ c.requires.first c.requires.range.lhs le (read32 _ f1 ∙ c.literal-left.ensures))
    (denial_at n o k c.args.gate.rhs0 _ c.requires.first c.requires.range.rhs0 le (read32 _ f2 ∙ c.denial.ensures))
    (denial_at n o k c.args.gate.rhs1 _ c.requires.first c.requires.range.rhs1 le (read32 _ f3 ∙ c.denial-2.ensures))

pub returns-clause-clauses : goal.returns-clause-clauses
returns-clause-clauses g c =
    let n = c.args.time.max_var in
    let o = c.args.time.offset in
    let old = g.S.Sat.clauses c.args.solver.now in
    let new = g.S.Sat.clauses c.add-3.new.self in
    let f1 : SFits w32 c.denial-not_left.result = search rules in
    let f2 : SFits w32 c.literal.result = search rules in
    let f3 : SFits w32 c.literal-2.result = search rules in
    let f4 : SFits w32 c.literal-left.result = search rules in
    let f5 : SFits w32 c.denial.result = search rules in
    let f6 : SFits w32 c.denial-2.result = search rules in
    subst (λ q. new ≡ old ++ gate_clauses n q c.args.gate) c.requires.first
    (gate_added n o c.args.gate _ _ _ _ _ _ _ _ _ _ _ c.in_ok-add.ensures.ok c.in_ok-add-2.ensures.ok c.in_ok-add-3.ensures.ok
    (read32 _ f1 ∙ c.denial-not_left.ensures) (read32 _ f2 ∙ c.literal.ensures) (read32 _ f1 ∙ c.denial-not_left.ensures) (read32 _ f3 ∙ c.literal-2.ensures)
    (read32 _ f4 ∙ c.literal-left.ensures) (read32 _ f5 ∙ c.denial.ensures) (read32 _ f6 ∙ c.denial-2.ensures))
