use Rattle.std.proofs.Common.{arith, ◌^◌, ◌+◌, ◌<◌, length, map, subst, List, Ok, Err}
use Rattle.graph.specs.declared.circuit.Use.{Use}
use Rattle.graph.specs.declared.circuit.Lit.{Lit}
use Rattle.graph.specs.declared.circuit.Use.TheVariants.{Mentions}
use Rattle.graph.proofs.Going.{GoesOn-told, GoesOn-stops, GoesOn-room, GoesOn-all, GoesOn-lists, map-flat_map}
use Rattle.graph.proofs.literals.check_justice.Goals as goal

pub check_mentions-requires-clause-few : goal.check_mentions-requires-clause-few
check_mentions-requires-clause-few c =
    let f : List Lit → List Use = λ lits. map Mentions lits in
    rw (c.as_slice.ensures, c.lits-item.is) (GoesOn-room _ _ _ (2 ^ 60) f c.args.justice.now c.loop-lits.lits-index c.lits-item.result c.loop-lits-test.true c.loop-lits.invariant
    (subst (λ l. c.args.before + length l < 2 ^ 60) (map-flat_map (λ a. Mentions a) c.args.justice.now) c.requires.few))

pub returns-in_err-count : goal.returns-in_err-count
returns-in_err-count c =
    let f : List Lit → List Use = λ lits. map Mentions lits in
    GoesOn-told _ _ _ _ _ c.from_residual.ensures.1 (GoesOn-lists c.args.max_var c.args.before (λ a. Mentions a) c.args.justice.now (Err c.in_err-count.field-0.0)
    (GoesOn-stops _ _ _ f c.args.justice.now c.loop-lits.lits-index c.lits-item.result _ c.loop-lits-test.true c.loop-lits.invariant (rw (c.as_slice.ensures, c.lits-item.is) at c.in_err-count.ensures)))

pub returns : goal.returns
returns c =
    let f : List Lit → List Use = λ lits. map Mentions lits in
    GoesOn-lists c.args.max_var c.args.before (λ a. Mentions a) c.args.justice.now (Ok c.loop-lits.count) (GoesOn-all _ _ _ f c.args.justice.now c.loop-lits.lits-index (omega arith) c.loop-lits.invariant)
