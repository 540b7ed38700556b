use Rattle.std.proofs.Common.{◌++◌, map, List, [], ◌∷◌, ◌∙◌, ap}
use Rattle.std.specs.List.{range_with_len}
use Rattle.graph.specs.declared.circuit.Property.{Property as AProperty}
use Rattle.properties.specs.Order.{property_at}
use Rattle.properties.proofs.Listed.{added_more}
use Rattle.properties.proofs.listing.push_kind.Goals as goal

pub loop-position-preserved : goal.loop-position-preserved
loop-position-preserved c =
    c.in_ok-push.ensures.items
    ∙ ap (λ (t : List AProperty). t ++ c.at.result ∷ []) c.loop-position.invariant
    ∙ ap (λ (p : AProperty). (c.args.to.now.items ++ map (property_at c.args.kind) (range_with_len 0 c.loop-position.position)) ++ p ∷ []) c.at.ensures
    ∙ added_more c.args.to.now.items c.args.kind c.loop-position.position
