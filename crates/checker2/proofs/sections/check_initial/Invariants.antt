use Rattle.std.proofs.Common.{◌≡◌, None}
use Rattle.graph.specs.declared.circuit.Lit.{Lit}
use Rattle.lrat.specs.Shared.{Base, base_of}
use Rattle.cnf.specs.Formulas.{start_formula}
use Rattle.checker2.specs.Accepted.{cases, RefuteBelow}
use Rattle.checker2.proofs.sections.check_initial.Given as goal

abbrev pub invariant-loop-k : goal.invariant-loop-k
invariant-loop-k l = record {
  fresh : l.refuter.refusal ≡ None;
  base : l.refuter.base ≡ base_of (start_formula l.circuit);
  below : (b : Base) (a : Lit) → RefuteBelow (cases l.circuit b l.certificate.invariant a) l.certificate.sections l.k;
}
