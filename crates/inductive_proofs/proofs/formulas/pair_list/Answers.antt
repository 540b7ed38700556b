use Rattle.std.proofs.Common.{rules, ◌≡◌, ◌++◌, ◌∙◌}
use Rattle.cnf.specs.Clauses.{time_clauses}
use Rattle.inductive_proofs.proofs.Pairs.{pair_is}
use Rattle.inductive_proofs.proofs.formulas.pair_list.Goals as goal

pub returns : goal.returns
returns c =
    let m = c.args.circuit.now in
    let e : c.append.new.to ≡ time_clauses m 0 ++ c.in-Ok.later = search rules in
    e ∙ pair_is m c.in-Ok.later c.in-Ok.ensures.clauses.1
