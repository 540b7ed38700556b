use Rattle.std.proofs.Common.{◌≡◌, ◌∙◌, ◌+◌, ◌*◌, ◌≤◌, ℕ, List, length, get_or, ap, subst, arith}
use Rattle.graph.specs.declared.circuit.Gate.{Gate}
use Rattle.graph.specs.Circuits.{variable}
use Rattle.graph.specs.WellFormed.{gate_in}
use Rattle.graph.specs.declared.circuit.Lit.{Lit}
use Rattle.graph.proofs.Evaluation.{rights0, rights1, lefts_in_range}
use Rattle.shrink.specs.Hashed.{no_gate, renamed}
use Rattle.shrink.specs.Making.{IsConjunction}
use Rattle.shrink.proofs.Carried.{left_carried, right_carried, renamed_below, carried_more}
use Rattle.shrink.proofs.carrying.carry_gates.Goals as goal

pub rename-left-requires-clause-in_range : goal.rename-left-requires-clause-in_range
rename-left-requires-clause-in_range c =
    let m = c.args.parts.now in
    let n = c.loop-position.position-index in
    let range = rights0 (λ a. a.0 ≤ 2 * m.max_var + 1) m c.requires.model.well_formed.used_in_range (get_or c.args.order.now n 0) no_gate (c.requires.model.ordered.in_range n 0 c.loop-position-test.true) in
    let whole = c.loop-position.invariant.carried.whole in
    rw c.as_slice-gates.ensures (omega (arith, range, whole))

pub rename-left-requires-clause-room : goal.rename-left-requires-clause-room
rename-left-requires-clause-room c =
    let n = c.loop-position.position-index in
    let below = c.loop-position.invariant.carried.below _ (left_carried c.args.parts.now c.args.order.now n c.requires.model c.loop-position-test.true) in
    let few = c.loop-position.invariant.carried.few in
    let room = c.requires.room in
    let n_in = c.loop-position-test.true in
    rw c.as_slice-gates.ensures (omega (arith, below, few, room, n_in))

pub rename-right-requires-clause-in_range : goal.rename-right-requires-clause-in_range
rename-right-requires-clause-in_range c =
    let m = c.args.parts.now in
    let n = c.loop-position.position-index in
    let range = rights1 (λ a. a.0 ≤ 2 * m.max_var + 1) m c.requires.model.well_formed.used_in_range (get_or c.args.order.now n 0) no_gate (c.requires.model.ordered.in_range n 0 c.loop-position-test.true) in
    let whole = c.loop-position.invariant.carried.whole in
    rw c.as_slice-gates.ensures (omega (arith, range, whole))

pub rename-right-requires-clause-room : goal.rename-right-requires-clause-room
rename-right-requires-clause-room c =
    let n = c.loop-position.position-index in
    let below = c.loop-position.invariant.carried.below _ (right_carried c.args.parts.now c.args.order.now n c.requires.model c.loop-position-test.true) in
    let few = c.loop-position.invariant.carried.few in
    let room = c.requires.room in
    let n_in = c.loop-position-test.true in
    rw c.as_slice-gates.ensures (omega (arith, below, few, room, n_in))

pub and-requires-clause-below : goal.and-requires-clause-below
and-requires-clause-below c =
    let m = c.args.parts.now in
    let n = c.loop-position.position-index in
    let top : ℕ = c.args.first + length c.loop-position.making.gates in
    let g : Gate = gate_in m.gates c.args.order.now n no_gate in
    let left : c.rename-left.result ≡ renamed c.loop-position.image g.rhs0 = c.rename-left.ensures ∙ ap (λ gs. renamed c.loop-position.image (gate_in gs c.args.order.now n no_gate).rhs0) c.as_slice-gates.ensures in
    let right : c.rename-right.result ≡ renamed c.loop-position.image g.rhs1 = c.rename-right.ensures ∙ ap (λ gs. renamed c.loop-position.image (gate_in gs c.args.order.now n no_gate).rhs1) c.as_slice-gates.ensures in
    rw (left, right) (
      renamed_below top c.loop-position.image g.rhs0 (c.loop-position.invariant.carried.below (variable g.rhs0) (left_carried m c.args.order.now n c.requires.model c.loop-position-test.true)),
      renamed_below top c.loop-position.image g.rhs1 (c.loop-position.invariant.carried.below (variable g.rhs1) (right_carried m c.args.order.now n c.requires.model c.loop-position-test.true)),
    )

pub bounds-image-variable : goal.bounds-image-variable
bounds-image-variable c =
    let m = c.args.parts.now in
    let n = c.loop-position.position-index in
    let g : Gate = gate_in m.gates c.args.order.now n no_gate in
    let is : c.variable.result ≡ variable g.lhs = c.variable.ensures ∙ ap (λ gs. variable (gate_in gs c.args.order.now n no_gate).lhs) c.as_slice-gates.ensures in
    let range = lefts_in_range m c.requires.model.well_formed (get_or c.args.order.now n 0) no_gate (c.requires.model.ordered.in_range n 0 c.loop-position-test.true) in
    let whole = c.loop-position.invariant.carried.whole in
    omega (arith, is, range, whole)

pub loop-position-preserved : goal.loop-position-preserved
loop-position-preserved c =
    let m = c.args.parts.now in
    let n = c.loop-position.position-index in
    let image : List Lit = c.loop-position.image in
    let g : Gate = gate_in m.gates c.args.order.now n no_gate in
    let is : c.variable.result ≡ variable g.lhs = c.variable.ensures ∙ ap (λ gs. variable (gate_in gs c.args.order.now n no_gate).lhs) c.as_slice-gates.ensures in
    let left : c.rename-left.result ≡ renamed image g.rhs0 = c.rename-left.ensures ∙ ap (λ gs. renamed image (gate_in gs c.args.order.now n no_gate).rhs0) c.as_slice-gates.ensures in
    let right : c.rename-right.result ≡ renamed image g.rhs1 = c.rename-right.ensures ∙ ap (λ gs. renamed image (gate_in gs c.args.order.now n no_gate).rhs1) c.as_slice-gates.ensures in
    let made = c.in_ok-image.ensures in
    record {
      made = made.made;
      table = made.table;
      carried = carried_more m c.args.order.now c.args.first c.args.image.now image c.loop-position.making.gates c.and.new.self.gates n c.variable.result c.in_ok-image.field-0
          c.requires.model c.loop-position-test.true c.loop-position.invariant.carried made.grows is made.below
          (subst (λ a. IsConjunction c.and.new.self.gates a (renamed image g.rhs1) c.in_ok-image.field-0) left (subst (λ b. IsConjunction c.and.new.self.gates c.rename-left.result b c.in_ok-image.field-0) right made.conjunction));
    }
