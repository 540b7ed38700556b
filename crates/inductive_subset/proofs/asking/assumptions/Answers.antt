use Rattle.std.proofs.Common.{false, inl, inr, ℕ, ℤ, List, All, Contains, length, get_or, sym, subst}
use Rattle.std.proofs.lemmas.Bool.{cases_Bool}
use Rattle.std.proofs.lemmas.List.Elements.{All-nil, Contains-append_left, Contains-append_right, Contains-get_or}
use Rattle.inductive_subset.specs.Guards.{guard_of, IsAssumed}
use Rattle.inductive_subset.proofs.Excluding.{assumed_units}
use Rattle.inductive_subset.proofs.asking.assumptions.Goals as goal

pub returns-clause-assumed : goal.returns-clause-assumed
returns-clause-assumed c =
    let m = c.args.circuit.now in
    let n : ℕ = length c.args.needed.now.marks.items in
    let units : List ℤ = c.args.units.now in
    let none : All (IsAssumed m n units) c.new-literals.result.items = subst (All (IsAssumed m n units)) (sym c.new-literals.ensures.items) (All-nil (IsAssumed m n units)) in
    assumed_units m n c.push_others.new.literals.items c.extend.new.to.items units c.in_ok-extend.ensures.items
    (c.in_ok-push_others.ensures.assumed units (c.in_ok-push_needed.ensures.assumed units none))

pub returns-clause-guards : goal.returns-clause-guards
returns-clause-guards c = λ i i_in.
    let g : ℤ = guard_of c.args.circuit.now i in
    let before : List ℤ = c.push_others.new.literals.items in
    let found : Contains before g = elim (cases_Bool (get_or c.args.needed.now.marks.items i false)) [
      | inl on ↦ c.in_ok-push_others.ensures.kept g (c.in_ok-push_needed.ensures.guards i (c.requires.well.listed i on))
      | inr off ↦ c.in_ok-push_others.ensures.others i i_in off
    ] in
    subst (λ (v : List ℤ). Contains v g) (sym c.in_ok-extend.ensures.items) (Contains-append_left before c.args.units.now g found)

pub returns-clause-units : goal.returns-clause-units
returns-clause-units c = λ k d k_in.
    let units : List ℤ = c.args.units.now in
    let before : List ℤ = c.push_others.new.literals.items in
    let l : ℤ = get_or units k d in
    let here : Contains units l = Contains-get_or units k d k_in in
    subst (λ (v : List ℤ). Contains v l) (sym c.in_ok-extend.ensures.items) (Contains-append_right before units l here)
