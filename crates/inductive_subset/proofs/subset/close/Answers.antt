use Rattle.std.proofs.Common.{rules, ◌≡◌, ◌∙◌, ◌<◌, ℕ, false, inl, inr, IsTrue, List, [], length, get_or, ap, sym, subst, arith}
use Rattle.std.proofs.lemmas.List.{get_or_default}
use Rattle.graph.specs.declared.circuit.Lit.{Lit}
use Rattle.cnf.specs.Clauses.{step_units}
use Rattle.cnf.specs.Formulas.{IsOverLatches, clause_at}
use Rattle.inductive_subset.specs.declared.needed.Needed.{Needed}
use Rattle.inductive_subset.specs.Guards.{IsFor}
use Rattle.inductive_subset.specs.Subsets.{IsExcluded, IsHeld, IsPossible}
use Rattle.inductive_subset.proofs.Excluding.{held_more}
use Rattle.inductive_subset.proofs.subset.close.Goals as goal

pub returns-then-asked-len-clause-held : goal.returns-then-asked-len-clause-held
returns-then-asked-len-clause-held g c = λ yes k d k_in.
    let order : List ℕ = c.closing.needed.order.items in
    let at_end : c.closing.asked ≡ length order = search rules in
    subst (IsHeld c.args.circuit.now c.args.invariant.now c.closing.needed.marks.items) (get_or_default order k 0 d k_in) (c.closing.invariant.held k (omega (arith, k_in, at_end)))

pub step_units-requires-clause-over : goal.step_units-requires-clause-over
step_units-requires-clause-over g c =
    let inv : List (List Lit) = c.args.invariant.now in
    let place : ℕ = c.index.result.now in
    let below : place < length inv = search rules in
    subst (IsOverLatches c.args.circuit.now) (sym (c.as_slice-clause.ensures ∙ c.index-invariant-index.is)) (c.requires.over place c.index-invariant-index.result below)

pub closing-preserved : goal.closing-preserved
closing-preserved g c =
    let m = c.args.circuit.now in
    let inv : List (List Lit) = c.args.invariant.now in
    let before = c.closing.invariant in
    let told = c.in_ok-ask.ensures in
    let old : Needed = c.closing.needed in
    let new : Needed = c.ask.new.needed in
    let place : ℕ = c.index.result.now in
    let below : place < length inv = search rules in
    let inside : c.closing.asked < length old.order.items = search rules in
    let is : place ≡ get_or old.order.items c.closing.asked 0 = c.index.ensures ∙ get_or_default old.order.items c.closing.asked place 0 inside in
    let clause : c.as_slice-clause.result.now ≡ clause_at inv place =
    c.as_slice-clause.ensures ∙ c.index-invariant-index.is ∙ get_or_default inv place c.index-invariant-index.result [] below in
    let units : c.as_slice.result.now ≡ step_units m (clause_at inv place) = c.as_slice.ensures.value ∙ c.in_ok-units.ensures.units ∙ ap (step_units m) clause in
    let yes : IsTrue c.in_ok-ask.field-0 = search rules in
    let here : IsHeld m inv new.marks.items place =
    subst (IsExcluded m inv new.marks.items) units (told.excluded inv c.requires.over before.loaded yes) in
    record {
      spends = search rules;
      loaded = record { room = told.vars ∙ before.loaded.room; only = rw told.clauses before.loaded.only; time = rw told.clauses before.loaded.time; each = rw told.clauses before.loaded.each };
      well = subst (λ n. IsFor n new) before.well.places told.well;
      kept = λ i p. told.kept i (before.kept i p);
      reached = let more = told.longer.more in omega (arith, inside, more);
      held = held_more m inv old new c.closing.asked place inside told.longer (λ i p. told.kept i p) before.held is here;
    }

pub returns-then-not-branch-clause-left : goal.returns-then-not-branch-clause-left
returns-then-not-branch-clause-left g c = λ _.
    let m = c.args.circuit.now in
    let inv : List (List Lit) = c.args.invariant.now in
    let place : ℕ = c.index.result.now in
    let below : place < length inv = search rules in
    let clause : c.as_slice-clause.result.now ≡ clause_at inv place =
    c.as_slice-clause.ensures ∙ c.index-invariant-index.is ∙ get_or_default inv place c.index-invariant-index.result [] below in
    let units : c.as_slice.result.now ≡ step_units m (clause_at inv place) = c.as_slice.ensures.value ∙ c.in_ok-units.ensures.units ∙ ap (step_units m) clause in
    let no : c.in_ok-ask.field-0 ≡ false = search rules in
    elim (c.in_ok-ask.ensures.possible inv c.closing.invariant.loaded no) [
      | inl possible ↦ inl (place, below, subst (IsPossible m inv) units possible)
      | inr spent ↦ inr spent
    ]
