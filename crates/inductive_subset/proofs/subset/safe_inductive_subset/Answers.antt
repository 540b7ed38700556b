use Rattle.std.proofs.Common.{rules, SFits, w32, to_z, of_z, ◌≡◌, ◌∙◌, ◌⊎◌, false, ℤ, List, [], ◌∷◌, IsTrue, subst, ap}
use Rattle.lrat.proofs.Fit.{read32}
use Rattle.cnf.specs.Clauses.{bad_units}
use Rattle.inductive_subset.specs.declared.needed.Needed.{Needed}
use Rattle.inductive_subset.specs.Subsets.{IsExcluded, IsPossible, AreMarked}
use Rattle.inductive_subset.proofs.Excluding.{excluded_more}
use Rattle.inductive_subset.proofs.Kept.{marked_among, marked_inductive}
use Rattle.inductive_subset.proofs.Possible.{unkept_bad, unkept_step}
use Rattle.inductive_subset.proofs.subset.safe_inductive_subset.Goals as goal

pub returns-clause-among : goal.returns-clause-among
returns-clause-among g c = marked_among c.args.invariant.now c.as_slice.result.now c.in_ok-marked.field-0 c.in_ok-marked.ensures

pub returns-clause-shown : goal.returns-clause-shown
returns-clause-shown g c =
    let m = c.args.circuit.now in
    let inv = c.args.invariant.now in
    let needed : Needed = c.close.new.needed in
    let are : AreMarked inv needed.marks.items c.in_ok-marked.field-0 = subst (λ t. AreMarked inv t c.in_ok-marked.field-0) c.as_slice.ensures.value c.in_ok-marked.ensures in
    let asked : IsTrue c.in_ok-ask.field-0 = search rules in
    let closed : IsTrue c.in_ok-close.field-0 = search rules in
    let fits : SFits w32 c.bad_unit.result = search rules in
    let units : to_z w32 (of_z w32 c.bad_unit.result) ∷ [] ≡ bad_units m c.args.bad = ap (λ (l : ℤ). l ∷ []) (read32 _ fits ∙ c.bad_unit.ensures.unit) in
    let excluded : IsExcluded m inv c.ask.new.needed.marks.items (bad_units m c.args.bad) =
    subst (IsExcluded m inv c.ask.new.needed.marks.items) units (c.in_ok-ask.ensures.excluded inv c.requires.over c.in_ok-load.ensures asked) in
    marked_inductive m inv c.args.bad needed c.in_ok-marked.field-0 c.in_ok-close.ensures.well
    (excluded_more m inv c.ask.new.needed.marks.items needed.marks.items (bad_units m c.args.bad) (λ i p. c.in_ok-close.ensures.kept i p) excluded) (c.in_ok-close.ensures.held closed) are

pub returns-clause-inductive : goal.returns-clause-inductive
returns-clause-inductive g c = λ inductive. returns-clause-shown g c inductive.begins

pub returns-then-not-branch-clause-none : goal.returns-then-not-branch-clause-none
returns-then-not-branch-clause-none g c = λ _.
    let m = c.args.circuit.now in
    let inv = c.args.invariant.now in
    let no : c.in_ok-ask.field-0 ≡ false = search rules in
    let fits : SFits w32 c.bad_unit.result = search rules in
    let units : to_z w32 (of_z w32 c.bad_unit.result) ∷ [] ≡ bad_units m c.args.bad = ap (λ (l : ℤ). l ∷ []) (read32 _ fits ∙ c.bad_unit.ensures.unit) in
    unkept_bad m inv c.args.bad c.ask.new.budget
    (subst (λ (us : List ℤ). IsPossible m inv us ⊎ (c.ask.new.budget.left ≡ 0)) units (c.in_ok-ask.ensures.possible inv c.in_ok-load.ensures no))

pub returns-then-not-branch-2-clause-none : goal.returns-then-not-branch-2-clause-none
returns-then-not-branch-2-clause-none g c = λ _.
    let no : c.in_ok-close.field-0 ≡ false = search rules in
    unkept_step c.args.circuit.now c.args.invariant.now c.args.bad c.close.new.budget (c.in_ok-close.ensures.left no)
