use Rattle.std.proofs.Common.{List, ◌++◌, map, take}
use Rattle.lrat.specs.Shared.{Base}
use Rattle.checker2.specs.Accepted.{Case}
use Rattle.certify.specs.Sections.{AreProofs, AreSectionsOver, case_with}
use Rattle.certify.proofs.closed_cases.ClosedCases.write_sections.Given as goal

abbrev pub invariant-loop-place : goal.invariant-loop-place
invariant-loop-place l = (b : Base) → AreSectionsOver b l.top l.self → (cs : List Case) → AreProofs cs l.initial.sections → AreProofs (cs ++ map (case_with b) (take l.place l.self.units)) l.sections
