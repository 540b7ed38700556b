use Rattle.std.proofs.Common.{rules, ◌≡◌, ◌≢◌, ◌+◌, All, map, pos, sym, subst, arith}
use Rattle.cnf.specs.Clauses.{literal}
use Rattle.cnf.proofs.Counted.{clause_below}
use Rattle.cnf.proofs.rows.clause_into.Goals as goal

pub returns-clause-not_zero : goal.returns-clause-not_zero
returns-clause-not_zero c =
    let n = c.args.time.max_var in
    let o = c.args.time.offset in
    let e : c.push_literals.new.literals.items ≡ map (literal n o) c.args.clause.now = search rules in
    subst (All (λ l. l ≢ pos 0)) (sym e) (λ k d k_in. (clause_below n o (o + n + 1) c.args.clause.now c.requires.in_range (omega arith) k d k_in).0)
