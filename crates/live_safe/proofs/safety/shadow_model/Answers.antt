use Rattle.std.proofs.Common.{◌≡◌, ◌∙◌, sym, subst}
use Rattle.graph.specs.Circuits.{wanted_of}
use Rattle.graph.specs.WellFormed.{IsWellFormed}
use Rattle.live_safe.proofs.Counts.{latches_small, wanted_small}
use Rattle.live_safe.proofs.Shape.{shadow_well_formed}
use Rattle.live_safe.proofs.safety.shadow_model.Goals as goal

pub shadow_parts-requires-clause-literals : goal.shadow_parts-requires-clause-literals
shadow_parts-requires-clause-literals c = latches_small c.args.parts.now c.requires.well_formed

pub shadow_parts-requires-clause-wanted_literals : goal.shadow_parts-requires-clause-wanted_literals
shadow_parts-requires-clause-wanted_literals c =
    let same : c.deref.result.now ≡ wanted_of c.args.parts.now c.args.position = c.deref.ensures.value ∙ c.in_ok-wanted.ensures in
    rw same (wanted_small c.args.parts.now c.args.position c.requires.well_formed)

pub model_of-requires : goal.model_of-requires
model_of-requires c =
    let same = c.in_ok-shadow.ensures c.args.position (c.deref.ensures.value ∙ c.in_ok-wanted.ensures) in
    subst IsWellFormed (sym same) (shadow_well_formed c.args.parts.now c.args.position c.requires.well_formed c.requires.small.within)
