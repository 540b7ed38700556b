use Rattle.std.proofs.Common.{rules, ◌≡◌, ◌∙◌, ◌+◌, ◌++◌, ◌∷◌, [], ℕ, Bool, false, List, get_or, ap, sym, subst}
use Rattle.std.proofs.lemmas.List.{get_or_default}
use Rattle.graph.specs.declared.circuit.Lit.{Lit}
use Rattle.cnf.specs.Formulas.{clause_at}
use Rattle.inductive_subset.specs.Guards.{IsMarked}
use Rattle.inductive_subset.proofs.Kept.{AreMarkedBelow, below_pushed, below_passed}
use Rattle.inductive_subset.proofs.subset.marked.Goals as goal
use Rattle.inductive_subset.proofs.subset.marked.Goals.{then-marks-place+in_ok-copy+in_ok-push, else-marks-place}

pub collecting-preserved : goal.collecting-preserved
collecting-preserved c =
    let inv : List (List Lit) = c.args.invariant.now in
    let marks : List Bool = c.args.marks.now in
    let place : ℕ = c.collecting.place in
    let old : List (List Lit) = c.collecting.clauses in
    elim c.if-marks-place.branch [
      | then-marks-place+in_ok-copy+in_ok-push w ↦
          let on : IsMarked marks place = search rules in
          let clause : w.in_ok-copy.field-0 ≡ clause_at inv place =
          w.in_ok-copy.ensures ∙ w.index-invariant-place.is ∙ get_or_default inv place w.index-invariant-place.result [] c.collecting-test.true in
          subst (AreMarkedBelow inv marks (place + 1)) (sym (w.clauses-is ∙ w.in_ok-push.ensures.ok ∙ ap (λ (x : List Lit). old ++ x ∷ []) clause))
          (below_pushed inv marks place old c.collecting-test.true on c.collecting.invariant)
      | else-marks-place w ↦
          let off : get_or marks place false ≡ false = search rules in
          subst (AreMarkedBelow inv marks (place + 1)) (sym w.clauses-is) (below_passed inv marks place old off c.collecting.invariant)
    ]
