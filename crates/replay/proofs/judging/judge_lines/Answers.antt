use Rattle.std.proofs.Common.{◌≡◌, ◌++◌, Bool, List, Some, subst, sym}
use Rattle.graph.specs.Circuits.{HasProperty}
use Rattle.graph.specs.declared.parts.Parts.{Parts}
use Rattle.scan.specs.Lists.{items_at}
use Rattle.stimulus.specs.Reading.{line_at}
use Rattle.stimulus.proofs.Watching.{watched_in_range, bad_watched, output_watched}
use Rattle.replay.specs.Found.{AreFound}
use Rattle.replay.specs.Streams.{FindsWith}
use Rattle.replay.proofs.StreamLaws.{finds_more}
use Rattle.replay.proofs.Trials.{property_found}
use Rattle.replay.proofs.judging.judge_lines.Goals as goal

pub returns-then-not-has_property-clause-says : goal.returns-then-not-has_property-clause-says
returns-then-not-has_property-clause-says g c text later left =
    let (ys, before, skipped) = c.skip_lines.ensures.says text later left in
    let m = c.args.circuit.now in
    let p = c.args.property in
    let none : HasProperty m p → ⊥ = λ there. let on = c.has_property.ensures.1 (subst (λ (q : Parts). HasProperty q p) (sym c.parts.ensures.parts) there) in absurd cc in (
      ys,
      before,
      finds_more (λ lines found. found ≡ Some 30) (AreFound m p c.args.initial) (items_at line_at (c.args.reader.now ++ ys)) c.skip_lines.result c.skip_lines.new.reader later
          (λ lines x is. subst (AreFound m p c.args.initial lines) (sym is) (property_found m p c.args.initial lines none))
          skipped,
    )

pub judge_bad-requires-clause-in_range : goal.judge_bad-requires-clause-in_range
judge_bad-requires-clause-in_range g c =
    let m = c.args.circuit.now in
    let p = c.args.property in
    let there : HasProperty m p = subst (λ (q : Parts). HasProperty q p) c.parts.ensures.parts (c.has_property.ensures.0 cc) in
    watched_in_range m p _ c.parts.ensures.well_formed (bad_watched m p c.in-Bad.n c.bad.result.now (record { 0 = 0 }) c.in-Bad.is c.bad.ensures there)

pub judge_bad-requires-in-Output-clause-in_range : goal.judge_bad-requires-in-Output-clause-in_range
judge_bad-requires-in-Output-clause-in_range g c =
    let m = c.args.circuit.now in
    let p = c.args.property in
    let there : HasProperty m p = subst (λ (q : Parts). HasProperty q p) c.parts.ensures.parts (c.has_property.ensures.0 cc) in
    watched_in_range m p _ c.parts.ensures.well_formed (output_watched m p c.in-Output.n c.outputs.result.now (record { 0 = 0 }) c.in-Output.is c.outputs.ensures there)

pub returns-in-Bad-clause-says : goal.returns-in-Bad-clause-says
returns-in-Bad-clause-says g c text later left =
    let (ys, before, found) = c.judge_bad.ensures.says text later left in
    let m = c.args.circuit.now in
    let p = c.args.property in
    let there : HasProperty m p = subst (λ (q : Parts). HasProperty q p) c.parts.ensures.parts (c.has_property.ensures.0 cc) in (
      ys,
      before,
      subst (λ (initial : List Bool). FindsWith (AreFound m p initial) (items_at line_at (c.args.reader.now ++ ys)) c.judge_bad.result c.judge_bad.new.reader later) c.as_slice.ensures
          (found p (bad_watched m p c.in-Bad.n c.bad.result.now (record { 0 = 0 }) c.in-Bad.is c.bad.ensures there)),
    )

pub returns-in-Output-clause-says : goal.returns-in-Output-clause-says
returns-in-Output-clause-says g c text later left =
    let (ys, before, found) = c.judge_bad-in-Output.ensures.says text later left in
    let m = c.args.circuit.now in
    let p = c.args.property in
    let there : HasProperty m p = subst (λ (q : Parts). HasProperty q p) c.parts.ensures.parts (c.has_property.ensures.0 cc) in (
      ys,
      before,
      subst (λ (initial : List Bool). FindsWith (AreFound m p initial) (items_at line_at (c.args.reader.now ++ ys)) c.judge_bad-in-Output.result c.judge_bad-in-Output.new.reader later) c.as_slice-in-Output.ensures
          (found p (output_watched m p c.in-Output.n c.outputs.result.now (record { 0 = 0 }) c.in-Output.is c.outputs.ensures there)),
    )
