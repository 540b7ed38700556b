use Rattle.std.proofs.Common.{◌≡◌, ◌≤◌, List, length, get_or, sym, ap, arith, subst}
use Rattle.graph.specs.declared.circuit.Lit.{Lit}
use Rattle.graph.specs.Circuits.{variable}
use Rattle.stimulus.proofs.Ranges.{bad_in_range}
use Rattle.cone_of_influence.proofs.reducing.bad.Goals as goal

pub returns-clause-range : goal.returns-clause-range
returns-clause-range c =
    let m = c.args.circuit.now in
    let one : length m.bad ≡ 1 = ap length c.requires.one in
    let blank : Lit = record { 0 = 0 } in
    subst (λ (bads : List Lit). variable (get_or bads 0 blank) ≤ m.max_var) (sym c.bad.ensures) (bad_in_range m c.well_formed-2.ensures 0 blank (omega (arith, one)))
