use Rattle.std.proofs.Common.{◌≡◌, ◌+◌, ◌-◌, ◌*◌, ◌++◌}
use Rattle.extension.specs.Rounds.{always, stage_gates}
use Rattle.extension.proofs.counter.push_stages.Given as goal

abbrev pub invariant-loop-i : goal.invariant-loop-i
invariant-loop-i l = l.gates.items ++ stage_gates l.ends (l.stages - l.i) l.before (l.count + l.i) (l.variable + 2 * l.i) ≡ l.initial.gates.items ++ stage_gates l.ends l.stages always l.count l.variable
