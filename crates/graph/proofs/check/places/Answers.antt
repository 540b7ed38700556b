use Rattle.std.proofs.Common.{◌++◌, [], ◌∷◌, ◌∙◌, List, ℕ, ap}
use Rattle.graph.proofs.Ordered.{range_more}
use Rattle.graph.proofs.check.places.Goals as goal

pub loop-place-preserved : goal.loop-place-preserved
loop-place-preserved c =
    let k = c.loop-place.place in
    c.in_ok-push.ensures.items ∙ ap (λ (t : List ℕ). t ++ k ∷ []) c.loop-place.invariant ∙ range_more k
