use Rattle.std.proofs.Common.{rules, ◌≡◌, ◌<◌, get_or, length, map, subst, ◌++◌}
use Rattle.std.proofs.lemmas.List.{take_all}
use Rattle.certify.specs.Sections.{AreProofs, case_with}
use Rattle.certify.proofs.Closed.{one_section, shown_at}
use Rattle.certify.proofs.closed_cases.ClosedCases.write_sections.Goals as goal

pub section-requires : goal.section-requires
section-requires c =
    let s = c.args.self.now in
    let i = c.loop-place.place in
    let us = c.as_slice-units.result.now in
    let k = c.index-as_slice-place-in-loop-place.result in
    let i_in : i < length s.closings = search rules in
    let at_units : us ≡ get_or s.units i us = search rules in
    let at_closing : k ≡ get_or s.closings i k = search rules in
    record { shown = (s.refuter, shown_at s i us k c.requires.closed i_in at_units at_closing); counted = c.requires.counted }

pub loop-place-preserved : goal.loop-place-preserved
loop-place-preserved c = λ b over cs are.
    let s = c.args.self.now in
    let i = c.loop-place.place in
    let us = c.as_slice-units.result.now in
    let k = c.index-as_slice-place-in-loop-place.result in
    let i_in : i < length s.closings = search rules in
    let at_units : us ≡ get_or s.units i us = search rules in
    let at_closing : k ≡ get_or s.closings i k = search rules in
    one_section b c.args.top s cs c.loop-place.sections c.push.new.self i us k c.in_ok-section.section c.requires.closed over i_in at_units at_closing c.in_ok-section.ensures.line c.lines.ensures.are_lines c.in_ok-push.ensures.ok
    (c.loop-place.invariant b over cs are)

pub returns : goal.returns
returns c = record {
  proved = λ b over cs are.
      let s = c.args.self.now in
      subst (λ uss. AreProofs (cs ++ map (case_with b) uss) c.loop-place.sections) (take_all c.loop-place.place s.units (search rules)) (c.loop-place.invariant b over cs are);
}
