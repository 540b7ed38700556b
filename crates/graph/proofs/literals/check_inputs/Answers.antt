use Rattle.std.proofs.Common.{arith, ◌^◌, ◌+◌, ◌<◌, ◌∷◌, [], length, sym, subst, List, Ok, Err}
use Rattle.std.proofs.lemmas.List.Concat.{flat_map_single}
use Rattle.graph.specs.declared.circuit.Use.{Use}
use Rattle.graph.specs.declared.circuit.Lit.{Lit}
use Rattle.graph.specs.declared.circuit.Use.TheVariants.{Defines}
use Rattle.graph.proofs.Blank.{blank_lit}
use Rattle.graph.proofs.Going.{GoesOn-told, GoesOn-more, GoesOn-stops, GoesOn-room, GoesOn-all, GoesOn-singles}
use Rattle.graph.proofs.literals.check_inputs.Goals as goal

pub check_use-requires-clause-few : goal.check_use-requires-clause-few
check_use-requires-clause-few c =
    let f : Lit → List Use = λ a. Defines a ∷ [] in
    let room = GoesOn-room _ _ _ (2 ^ 60) f c.args.inputs.now c.loop-lit.lit-index blank_lit c.loop-lit-test.true c.loop-lit.invariant
    (subst (λ l. c.args.before + length l < 2 ^ 60) (sym (flat_map_single (λ a. Defines a) c.args.inputs.now)) c.requires.few) in
    omega (arith, room)

pub returns-in_err-count : goal.returns-in_err-count
returns-in_err-count c =
    let f : Lit → List Use = λ a. Defines a ∷ [] in
    GoesOn-told _ _ _ _ _ c.from_residual.ensures.1 (GoesOn-singles c.args.max_var c.args.before (λ a. Defines a) c.args.inputs.now (Err c.in_err-count.field-0.0)
    (GoesOn-stops _ _ _ f c.args.inputs.now c.loop-lit.lit-index blank_lit _ c.loop-lit-test.true c.loop-lit.invariant c.in_err-count.ensures))

pub loop-lit-preserved : goal.loop-lit-preserved
loop-lit-preserved c =
    let f : Lit → List Use = λ a. Defines a ∷ [] in
    GoesOn-more _ _ _ _ f c.args.inputs.now c.loop-lit.lit-index blank_lit c.loop-lit-test.true c.loop-lit.invariant c.in_ok-count.ensures

pub returns : goal.returns
returns c =
    let f : Lit → List Use = λ a. Defines a ∷ [] in
    GoesOn-singles c.args.max_var c.args.before (λ a. Defines a) c.args.inputs.now (Ok c.loop-lit.count) (GoesOn-all _ _ _ f c.args.inputs.now c.loop-lit.lit-index (omega arith) c.loop-lit.invariant)
