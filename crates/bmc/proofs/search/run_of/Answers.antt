use Rattle.std.proofs.Common.{◌≡◌, map, ◌∙◌, ap}
use Rattle.lrat.specs.Literals.{is_true}
use Rattle.solver.specs.Answers.{values}
use Rattle.cones.specs.Marks.{ExistenceLaw}
use Rattle.cones.proofs.Existing.{existence_law}
use Rattle.bmc.specs.Lines.{AreLines}
use Rattle.unrolling.specs.Times.{leaves_of}
use Rattle.bmc.proofs.Found.{model_shows}
use Rattle.bmc.proofs.search.run_of.Goals as goal

pub returns : goal.returns
returns c = λ after.
    let m = c.args.circuit.now in
    let cone = c.args.cone.now in
    let u = c.args.unrolling.now in
    let b = c.args.values.now in
    let model = c.requires.model in
    let initial_is : c.in_ok-initial.initial ≡ map (is_true (values b)) u.initial.items = c.in_ok-initial.ensures ∙ ap (λ q. map (is_true (values b)) q) c.as_slice.ensures.value in
    let are : AreLines m cone b u.firsts.items c.in_ok-inputs.inputs = rw c.as_slice-2.ensures.value at c.in_ok-inputs.ensures in
    let exist : ExistenceLaw m = existence_law m c.order.result.now (record { well_formed = c.well_formed-2.ensures; ordered = c.order.ensures }) in (
      rw initial_is (model_shows m cone (leaves_of u) u.state.items u.encoder u.given.items model.clauses c.args.steps model.vars model.literal b c.in_ok-inputs.inputs c.well_formed-2.ensures c.requires.for_bad exist c.requires.cone
          model.unrolled model.times model.stands model.given model.marked model.model are),
      are.whole ∙ model.times,
    )
