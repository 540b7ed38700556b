use Rattle.std.proofs.Common.{length, inl, inr, refl, ◌∙◌, ap}
use Rattle.graph.specs.Circuits.{variable}
use Rattle.cuts.specs.Cuts.{cut_at}
use Rattle.cuts.specs.Joining.{IsSide, trivial}
use Rattle.cuts.proofs.Chosen.{IsTableFor, inside_joined, inside_some}
use Rattle.cuts.proofs.choosing.cheapest.Goals as goal

pub cheaper-cut-requires-clause-cut : goal.cheaper-cut-requires-clause-cut
cheaper-cut-requires-clause-cut c =
    let cuts = c.args.cuts.now in
    let table : IsTableFor (length c.args.flows.now) cuts c.args.gate = record { places = c.requires.places; first = c.requires.first; second = c.requires.second; inside = c.requires.inside } in
    inside_joined _ cuts c.args.gate _ _ _ table (inl refl) (inl refl) c.plain-cut.ensures

pub cheaper-cut-requires-clause-other : goal.cheaper-cut-requires-clause-other
cheaper-cut-requires-clause-other c =
    let cuts = c.args.cuts.now in
    let table : IsTableFor (length c.args.flows.now) cuts c.args.gate = record { places = c.requires.places; first = c.requires.first; second = c.requires.second; inside = c.requires.inside } in
    let one : IsSide cuts (variable c.args.gate.rhs0) (cut_at cuts c.variable-first.result) = inr (ap (cut_at cuts) c.variable-first.ensures) in
    let other : IsSide cuts (variable c.args.gate.rhs1) c.itself.result = inl (c.itself.ensures ∙ ap trivial c.variable-second.ensures) in
    inside_some _ cuts c.args.gate _ _ _ table one other c.joined.ensures

pub cheaper-cut-requires-2-clause-other : goal.cheaper-cut-requires-2-clause-other
cheaper-cut-requires-2-clause-other c =
    let cuts = c.args.cuts.now in
    let table : IsTableFor (length c.args.flows.now) cuts c.args.gate = record { places = c.requires.places; first = c.requires.first; second = c.requires.second; inside = c.requires.inside } in
    let one : IsSide cuts (variable c.args.gate.rhs0) c.itself-2.result = inl (c.itself-2.ensures ∙ ap trivial c.variable-first.ensures) in
    let other : IsSide cuts (variable c.args.gate.rhs1) (cut_at cuts c.variable-second.result) = inr (ap (cut_at cuts) c.variable-second.ensures) in
    inside_some _ cuts c.args.gate _ _ _ table one other c.joined-2.ensures

pub cheaper-requires-clause-other : goal.cheaper-requires-clause-other
cheaper-requires-clause-other c =
    let cuts = c.args.cuts.now in
    let table : IsTableFor (length c.args.flows.now) cuts c.args.gate = record { places = c.requires.places; first = c.requires.first; second = c.requires.second; inside = c.requires.inside } in
    let one : IsSide cuts (variable c.args.gate.rhs0) (cut_at cuts c.variable-first.result) = inr (ap (cut_at cuts) c.variable-first.ensures) in
    let other : IsSide cuts (variable c.args.gate.rhs1) (cut_at cuts c.variable-second.result) = inr (ap (cut_at cuts) c.variable-second.ensures) in
    inside_some _ cuts c.args.gate _ _ _ table one other c.joined-3.ensures
