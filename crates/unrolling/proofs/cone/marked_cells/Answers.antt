use Rattle.std.proofs.Common.{◌≡◌, ◌+◌, ◌≤◌, ◌++◌, ◌∷◌, [], get_or, sym, ◌∙◌, ap, subst, arith}
use Rattle.std.proofs.lemmas.Bool.{false≢true}
use Rattle.graph.specs.Circuits.{variable}
use Rattle.graph.specs.WellFormed.{gate_in}
use Rattle.graph.proofs.Evaluation.{lefts_in_range}
use Rattle.cones.specs.Marks.{IsMarked}
use Rattle.cuts.specs.Cuts.{left_in, no_gate}
use Rattle.unrolling.proofs.Coned.{AreOrderedTo, cell_of, ordered_all, ordered_more, ordered_same}
use Rattle.unrolling.proofs.cone.marked_cells.Goals.{then-marks-variable+in_ok-push, else-marks-variable}
use Rattle.unrolling.proofs.cone.marked_cells.Goals as goal

pub bounds-marks-variable : goal.bounds-marks-variable
bounds-marks-variable c =
    let m = c.args.circuit.now in
    let order = c.order-position-items.result.now in
    let n = c.loop-position.position-index in
    let is : c.variable-variable.result ≡ left_in m order n = c.variable-variable.ensures ∙ ap (λ gs. variable (gate_in gs order n no_gate).lhs) c.gates-gates.ensures in
    let range = lefts_in_range m c.well_formed-2.ensures (get_or order n 0) no_gate (c.order-position-items.ensures.in_range n 0 c.loop-position-test.true) in
    omega (arith, is, range, c.requires.places)

pub loop-position-preserved : goal.loop-position-preserved
loop-position-preserved c =
    let m = c.args.circuit.now in
    let cuts = c.args.cuts.now in
    let marks = c.args.marks.now in
    let order = c.order-position-items.result.now in
    let n = c.loop-position.position-index in
    let old = c.loop-position.cells.items in
    let is : c.variable-variable.result ≡ left_in m order n = c.variable-variable.ensures ∙ ap (λ gs. variable (gate_in gs order n no_gate).lhs) c.gates-gates.ensures in
    let range = lefts_in_range m c.well_formed-2.ensures (get_or order n 0) no_gate (c.order-position-items.ensures.in_range n 0 c.loop-position-test.true) in
    let small : left_in m order n ≤ m.max_var = omega (arith, range) in
    elim c.if-marks-variable.branch [
      | then-marks-variable+in_ok-push w ↦
          let on : IsMarked marks (left_in m order n) = subst (IsMarked marks) is w.if-marks-variable.true in
          let are : c.if-marks-variable.cells.items ≡ old ++ cell_of cuts (left_in m order n) ∷ [] = ap (λ q. q.items) w.cells-is ∙ w.in_ok-push.ensures.items ∙ ap (λ v. old ++ cell_of cuts v ∷ []) is in
          subst (λ q. AreOrderedTo m cuts marks order q (n + 1)) (sym are) (ordered_more m cuts marks order old n c.order-position-items.ensures c.requires.cuts c.loop-position-test.true small c.loop-position.invariant on)
      | else-marks-variable w ↦
          let are : c.if-marks-variable.cells.items ≡ old = ap (λ q. q.items) w.cells-is in
          let off : IsMarked marks (left_in m order n) → ⊥ = λ on. false≢true (sym w.if-marks-variable.false ∙ subst (IsMarked marks) (sym is) on) in
          subst (λ q. AreOrderedTo m cuts marks order q (n + 1)) (sym are) (ordered_same m cuts marks order old n c.loop-position.invariant off)
    ]

pub returns : goal.returns
returns c =
    ordered_all c.args.circuit.now c.args.cuts.now c.args.marks.now c.order-position-items.result.now c.loop-position.cells.items c.loop-position.position-index c.order-position-items.ensures (omega arith) c.loop-position.invariant
