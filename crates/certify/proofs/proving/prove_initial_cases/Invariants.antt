use Rattle.std.proofs.Common.{◌≡◌, List, ◌++◌, map, take}
use Rattle.base.specs.Budget.{Spends}
use Rattle.checker2.specs.Accepted.{Case, init_case}
use Rattle.certify.specs.Sections.{AreProofs}
use Rattle.certify.proofs.proving.prove_initial_cases.Given as goal

abbrev pub invariant-loop-place : goal.invariant-loop-place
invariant-loop-place l = record {
  same : l.refuter ≡ l.initial.refuter;
  spends : Spends l.initial.budget l.budget;
  proved : (cs : List Case) → AreProofs cs l.initial.sections → AreProofs (cs ++ map (init_case l.circuit) (take l.place l.invariant')) l.sections;
}
