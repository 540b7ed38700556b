use Rattle.std.proofs.Common.{◌≡◌, ◌∙◌, ◌++◌, sym, subst, Bool, List, All}
use Rattle.graph.specs.declared.circuit.Lit.{Lit}
use Rattle.graph.specs.declared.circuit.Latch.{Latch}
use Rattle.graph.specs.Circuits.{variable}
use Rattle.graph.specs.WellFormed.{IsModel}
use Rattle.cones.specs.declared.reach.Reach.TheVariants.{Justification}
use Rattle.cones.specs.Marks.{IsMarked, IsKnown}
use Rattle.cones.specs.Reach.{IsDomain, IsExtended}
use Rattle.cones.proofs.Grown.{known_small}
use Rattle.ic3_blocking.specs.Cubes.{HasMarked}
use Rattle.ic3_blocking.proofs.Lifted.{values_serve, none_inside, wanted_known, cube_justifies}
use Rattle.ic3_blocking.proofs.lift.lifted.Goals as goal

pub extend-requires-clause-wanted : goal.extend-requires-clause-wanted
extend-requires-clause-wanted c =
    let m = c.args.circuit.now in
    let well = c.well_formed-2.ensures in
    let are : c.deref.result.now ≡ c.args.targets.now ++ m.constraints = c.deref.ensures.value ∙ c.in_ok-wanted.ensures in
    known_small m c.deref.result.now well (subst (All (λ (a : Lit). IsKnown m (variable a))) (sym are) (wanted_known m c.args.targets.now well c.requires.known))

pub extend-requires-clause-domain : goal.extend-requires-clause-domain
extend-requires-clause-domain c =
    let m = c.args.circuit.now in
    let well = c.well_formed-2.ensures in
    let at = c.requires.at.1 in
    let cone : List Bool = at.values.cone in
    let are : c.deref.result.now ≡ c.args.targets.now ++ m.constraints = c.deref.ensures.value ∙ c.in_ok-wanted.ensures in (
      cone,
      subst (λ (b : List Bool). IsDomain m Justification b cone) (sym c.as_slice.ensures)
          (values_serve m c.args.targets.now c.requires.at.0 c.args.time.now.values well at.values at.is_time.agrees.gates),
      none_inside c.args.marks.now cone c.requires.clear,
      subst (All (λ (a : Lit). IsMarked cone (variable a))) (sym are) at.values.asked,
    )

pub returns-clause-clause : goal.returns-clause-clause
returns-clause-clause c = c.in_ok-clause.ensures.clause c.args.circuit.now (sym c.latches.ensures)

pub returns-clause-justifies : goal.returns-clause-justifies
returns-clause-justifies c =
    let m = c.args.circuit.now in
    let t = c.args.time.now in
    let u = c.extend.new.marks in
    let are : c.deref.result.now ≡ c.args.targets.now ++ m.constraints = c.deref.ensures.value ∙ c.in_ok-wanted.ensures in
    let model : IsModel m c.order.result.now = record { well_formed = c.well_formed-2.ensures; ordered = c.order.ensures } in
    let ext : IsExtended m Justification t.values c.deref.result.now c.args.marks.now u c.in_ok-list.list.items =
    subst (λ (b : List Bool). IsExtended m Justification b c.deref.result.now c.args.marks.now u c.in_ok-list.list.items) c.as_slice.ensures c.in_ok-list.ensures in
    let has : HasMarked m.latches t.state u c.in_ok-clause.clause =
    subst (λ (ls : List Latch). HasMarked ls t.state u c.in_ok-clause.clause) c.latches.ensures
    (subst (λ (s : List Bool). HasMarked c.latches.result.now s u c.in_ok-clause.clause) c.as_slice-2.ensures c.in_ok-clause.ensures.each) in
    cube_justifies m c.order.result.now c.requires.at.0 t c.args.targets.now c.deref.result.now c.args.marks.now u c.in_ok-list.list.items c.in_ok-clause.clause
    model c.requires.at.1 c.requires.at.2 c.requires.known are c.requires.clear ext has
