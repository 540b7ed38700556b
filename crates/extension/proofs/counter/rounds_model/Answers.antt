use Rattle.std.proofs.Common.{◌≡◌, ◌∙◌, sym, subst, arith}
use Rattle.graph.specs.Circuits.{wanted_of}
use Rattle.graph.specs.WellFormed.{IsWellFormed}
use Rattle.live_safe.proofs.Counts.{wanted_small}
use Rattle.extension.proofs.RoundsFormed.{rounds_formed}
use Rattle.extension.proofs.counter.rounds_model.Goals as goal

pub rounds_parts-requires-clause-limit : goal.rounds_parts-requires-clause-limit
rounds_parts-requires-clause-limit c =
    let m = c.args.parts.now in
    let same : c.deref.result.now ≡ wanted_of m c.args.position = c.deref.ensures.value ∙ c.in_ok-wanted.ensures in
    let size = (rounds_formed m c.args.position c.args.rounds c.requires.well_formed).size in
    let within = c.requires.countable.within in
    rw same (omega (arith, size, within))

pub rounds_parts-requires-clause-literals : goal.rounds_parts-requires-clause-literals
rounds_parts-requires-clause-literals c =
    let same : c.deref.result.now ≡ wanted_of c.args.parts.now c.args.position = c.deref.ensures.value ∙ c.in_ok-wanted.ensures in
    rw same (wanted_small c.args.parts.now c.args.position c.requires.well_formed)

pub model_of-requires : goal.model_of-requires
model_of-requires c =
    let same = c.in_ok-counting.ensures c.args.position (c.deref.ensures.value ∙ c.in_ok-wanted.ensures) in
    subst IsWellFormed (sym same) ((rounds_formed c.args.parts.now c.args.position c.args.rounds c.requires.well_formed).formed c.requires.countable.within)
