use Rattle.std.proofs.Common.{arith, inl, inr}
use Rattle.graph.proofs.Tabled.{StaysCounted-one}
use Rattle.graph.proofs.definitions.define.Goals as goal
use Rattle.graph.proofs.definitions.define.Goals.{in-Never, in-Once}

pub returns : goal.returns
returns c =
    rw (← c.variable.ensures) (StaysCounted-one c.args.table.now c.variable.result c.match-times.times (omega arith) (elim c.match-times.branch [
      | in-Never w ↦ rw w.in-Never.is w.times-is
      | in-Once w ↦ elim w.in-Once.is [ inl once ↦ rw once w.times-is | inr again ↦ rw again w.times-is ]
    ]))
