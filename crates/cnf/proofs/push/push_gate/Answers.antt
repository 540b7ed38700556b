use Rattle.std.proofs.Common.{◌∙◌, ◌++◌, List, ℤ, ap}
use Rattle.lrat.specs.Rows.{and_clauses}
use Rattle.cnf.proofs.Made.{gate_made, gate_small}
use Rattle.cnf.proofs.push.push_gate.Goals as goal

pub add_gate-requires : goal.add_gate-requires
add_gate-requires g c = rw c.gate_literals.ensures (gate_small c.args.time.max_var c.args.time.offset c.args.gate c.requires.fits c.requires.in_range)

pub returns : goal.returns
returns g c =
    c.in_ok-add_gate.ensures
    ∙ ap (λ (cs : List (List ℤ)). g.C.AddClause.clauses c.args.clauses.now ++ cs) (ap and_clauses c.gate_literals.ensures ∙ gate_made c.args.time.max_var c.args.time.offset c.args.gate)
