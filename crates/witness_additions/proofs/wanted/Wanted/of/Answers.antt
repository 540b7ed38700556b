use Rattle.std.proofs.Common.{◌++◌, ◌∙◌, ap}
use Rattle.witness_additions.proofs.Spread.{wanted_found}
use Rattle.witness_additions.proofs.wanted.Wanted.of.Goals as goal

pub returns : goal.returns
returns c =
    wanted_found c.args.names.now (c.args.model.now.gates ++ c.args.gates.now) c.deref.result.now c.deref-2.result.now c.args.bad c.denial_of.result c.args.constraints.now c.deref-3.result.now
    c.in_ok-property.property c.in_ok-constraints.constraints c.in_ok-wanted.wanted.clauses c.in_ok-wanted.wanted.of_property
    (c.deref.ensures.value ∙ c.in_ok-all.ensures ∙ ap (λ q. q ++ c.args.gates.now) c.gates.ensures)
    (c.deref-2.ensures.value ∙ c.in_ok-all.ensures ∙ ap (λ q. q ++ c.args.gates.now) c.gates.ensures)
    c.denial_of.ensures (c.deref-3.ensures.value ∙ c.in_ok-literals.ensures)
    c.in_ok-wanted.ensures.0 c.in_ok-wanted.ensures.1 c.in_ok-property.ensures c.in_ok-constraints.ensures
