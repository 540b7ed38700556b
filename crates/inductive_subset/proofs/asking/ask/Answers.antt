use Rattle.std.proofs.Common.{◌≡◌, ◌<◌, ℕ, ℤ, inl, List, All, Contains, length, arith, sym, subst}
use Rattle.lrat.specs.Literals.{IsLiteral}
use Rattle.solver.specs.Answers.{IsCore, IsModel}
use Rattle.inductive_subset.specs.Guards.{guard_of, IsAssumed, IsOfCore, IsMarked}
use Rattle.inductive_subset.proofs.Excluding.{core_excludes, core_is, assumed_literals}
use Rattle.inductive_subset.proofs.Possible.{model_possible}
use Rattle.inductive_subset.proofs.asking.ask.Goals as goal

pub solve-requires : goal.solve-requires
solve-requires g c =
    let m = c.args.circuit.now in
    let n : ℕ = length c.args.needed.now.marks.items in
    subst (All (IsLiteral (g.S.Sat.vars c.args.solver.now))) (sym c.as_slice.ensures.value)
    (assumed_literals m n (g.S.Sat.vars c.args.solver.now) c.args.units.now c.in_ok-assumed.assumed.items c.requires.vars c.requires.units c.in_ok-assumed.ensures.assumed)

pub mark_core-requires-clause-guards : goal.mark_core-requires-clause-guards
mark_core-requires-clause-guards g c =
    let m = c.args.circuit.now in
    let n : ℕ = length c.args.needed.now.marks.items in
    let assume : List ℤ = c.as_slice.result.now in
    let core : List ℤ = c.in-Core.core.items in
    let is : IsCore (g.S.Sat.clauses c.args.solver.now) assume core = rw c.in-Core.is at c.in_ok-core.ensures.lawful in
    let assumed : All (IsAssumed m n c.args.units.now) assume = subst (All (IsAssumed m n c.args.units.now)) (sym c.as_slice.ensures.value) c.in_ok-assumed.ensures.assumed in
    subst (All (IsOfCore m n)) (sym c.as_slice-in-Core.ensures.value) (core_is m n c.args.units.now assume core c.requires.units assumed is.among)

pub returns-in-Core-clause-well : goal.returns-in-Core-clause-well
returns-in-Core-clause-well g c = c.in_ok-mark_core-in-Core.ensures.well (length c.args.needed.now.marks.items) c.requires.well

pub returns-in-Core-clause-excluded : goal.returns-in-Core-clause-excluded
returns-in-Core-clause-excluded g c = λ inv over loaded yes.
    let m = c.args.circuit.now in
    let n : ℕ = length c.args.needed.now.marks.items in
    let units : List ℤ = c.args.units.now in
    let assume : List ℤ = c.as_slice.result.now in
    let core : List ℤ = c.in-Core.core.items in
    let vars : ℕ = g.S.Sat.vars c.args.solver.now in
    let cs : List (List ℤ) = g.S.Sat.clauses c.args.solver.now in
    let is : IsCore cs assume core = rw c.in-Core.is at c.in_ok-core.ensures.lawful in
    let assumed : All (IsAssumed m n units) assume = subst (All (IsAssumed m n units)) (sym c.as_slice.ensures.value) c.in_ok-assumed.ensures.assumed in
    let marked : All (λ l. (i : ℕ) → l ≡ guard_of m i → IsMarked c.mark_core.new.needed.marks.items i) core =
    subst (All (λ (l : ℤ). (i : ℕ) → l ≡ guard_of m i → IsMarked c.mark_core.new.needed.marks.items i)) c.as_slice-in-Core.ensures.value c.in_ok-mark_core-in-Core.ensures.marked in
    core_excludes m inv vars cs n c.mark_core.new.needed.marks.items units assume core c.well_formed-2.ensures over loaded c.requires.units assumed is marked

pub returns-in-Model-clause-possible : goal.returns-in-Model-clause-possible
returns-in-Model-clause-possible g c = λ inv loaded no.
    let m = c.args.circuit.now in
    let units : List ℤ = c.args.units.now in
    let assume : List ℤ = c.as_slice.result.now in
    let vars : ℕ = g.S.Sat.vars c.args.solver.now in
    let cs : List (List ℤ) = g.S.Sat.clauses c.args.solver.now in
    let is : IsModel vars cs assume c.in-Model.field-0.items = rw c.in-Model.is at c.in_ok-core.ensures.lawful in
    let room = loaded.room in
    let guards : (i : ℕ) → i < length inv → Contains assume (guard_of m i) =
    λ i i_in. subst (λ (ls : List ℤ). Contains ls (guard_of m i)) (sym c.as_slice.ensures.value) (c.in_ok-assumed.ensures.guards i (omega (arith, i_in, room, c.requires.vars))) in
    let among : All (Contains assume) units = subst (λ (ls : List ℤ). All (Contains ls) units) (sym c.as_slice.ensures.value) c.in_ok-assumed.ensures.units in
    inl (model_possible m inv vars cs units assume c.in-Model.field-0.items loaded is guards among)
