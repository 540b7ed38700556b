use Rattle.std.proofs.Common.{◌++◌, ◌∙◌, List, ℤ, ap, map}
use Rattle.std.specs.Prelude.{flat_map}
use Rattle.lrat.specs.Rows.{and_clauses, moved_gate}
use Rattle.lrat.specs.declared.gate_literals.GateLiterals.{GateLiterals}
use Rattle.cnf.proofs.Frames.{gates_in_range}
use Rattle.cnf.proofs.Made.{gates_fit, gates_made}
use Rattle.cnf.proofs.rows.add_gates.Goals as goal

pub add_gates-requires : goal.add_gates-requires
add_gates-requires c =
    let m = c.args.circuit.now in
    rw c.requires.gates (gates_fit m.max_var c.args.time.offset m.gates (rw c.requires.max_var at c.requires.fits) (gates_in_range m c.well_formed-2.ensures))

pub returns : goal.returns
returns c =
    let m = c.args.circuit.now in
    let o = c.args.time.offset in
    c.in_ok-add_gates.ensures
    ∙ ap (λ (cs : List (List ℤ)). c.args.clauses.now ++ cs) (ap (λ (gs : List GateLiterals). flat_map and_clauses (map (moved_gate o) gs)) c.requires.gates ∙ gates_made m.max_var o m.gates)
