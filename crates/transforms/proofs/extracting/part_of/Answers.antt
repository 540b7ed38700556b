use Rattle.std.proofs.Common.{◌∙◌, ap}
use Rattle.graph.specs.declared.parts.Parts.{Parts}
use Rattle.stimulus.proofs.Watching.{watched_in_range}
use Rattle.transforms.specs.Extracted.{extract}
use Rattle.transforms.proofs.Standing.{stands_for}
use Rattle.transforms.proofs.extracting.part_of.Goals as goal

pub cone_of-requires : goal.cone_of-requires
cone_of-requires c = watched_in_range c.args.circuit.now c.args.property c.args.watched c.well_formed-2.ensures c.requires

pub returns-clause-part : goal.returns-clause-part
returns-clause-part c =
    let m : Parts = c.args.circuit.now in
    record {
      bad = c.args.watched;
      watched = c.requires;
      marks = c.in_ok-marks.marks.items;
      cone = c.in_ok-marks.ensures;
      whole = c.in_ok-part.ensures.built.0 ∙ c.in_ok-parts.ensures ∙ ap (extract m c.args.property c.args.watched) c.deref.ensures.value;
    }

pub returns-clause-stands : goal.returns-clause-stands
returns-clause-stands c =
    let m : Parts = c.args.circuit.now in
    stands_for m _ c.args.property c.args.watched c.in_ok-marks.marks.items c.well_formed-2.ensures c.requires c.in_ok-marks.ensures c.value_laws.ensures.cone c.value_laws.ensures.existence c.value_laws-2.ensures.existence
    (c.in_ok-part.ensures.built.0 ∙ c.in_ok-parts.ensures ∙ ap (extract m c.args.property c.args.watched) c.deref.ensures.value)
