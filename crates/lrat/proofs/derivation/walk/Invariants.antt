use Rattle.std.proofs.Common.{◌≡◌, take, map}
use Rattle.lrat.specs.Lines.{Leads}
use Rattle.lrat.proofs.derivation.walk.Given as goal

abbrev pub invariant-loop-hint : goal.invariant-loop-hint
invariant-loop-hint g l = record {
  vars : l.trail.vars ≡ l.initial.trail.vars;
  leads : Leads (g.C.Lookup.find l.clauses) l.initial.trail.literals (map g.H.Hint.named (take l.hint-index l.hints)) l.trail.literals;
}
