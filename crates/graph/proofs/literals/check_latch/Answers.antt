use Rattle.std.proofs.Common.{◌∷◌, []}
use Rattle.graph.specs.declared.circuit.Use.TheVariants.{Defines, Mentions, Resets}
use Rattle.graph.proofs.Going.{GoesOn-told, GoesOn-fault, GoesOn-append, GoesOn-append_fault, GoesOn-then}
use Rattle.graph.proofs.literals.check_latch.Goals as goal

pub returns-in_err-count : goal.returns-in_err-count
returns-in_err-count c =
    let l = c.args.latch in
    GoesOn-told _ _ _ _ _ c.from_residual.ensures.1 (GoesOn-fault _ _ (Defines l.lit ∷ []) (Mentions l.next ∷ Resets l ∷ []) _ c.in_err-count.ensures)

pub returns-in_err-count-2 : goal.returns-in_err-count-2
returns-in_err-count-2 c =
    let l = c.args.latch in
    GoesOn-told _ _ _ _ _ c.from_residual-in_err-count-2.ensures.1 (GoesOn-fault _ _ (Defines l.lit ∷ Mentions l.next ∷ []) (Resets l ∷ []) _
    (GoesOn-append_fault _ _ _ (Defines l.lit ∷ []) (Mentions l.next ∷ []) _ c.in_ok-count.ensures c.in_err-count-2.ensures))

pub returns : goal.returns
returns c =
    let l = c.args.latch in
    GoesOn-then _ _ _ (Defines l.lit ∷ Mentions l.next ∷ []) (Resets l ∷ []) _
    (GoesOn-append _ _ _ _ (Defines l.lit ∷ []) (Mentions l.next ∷ []) c.in_ok-count.ensures c.in_ok-count-2.ensures) c.check_use-3.ensures
