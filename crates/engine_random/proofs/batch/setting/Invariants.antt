use Rattle.std.proofs.Common.{IfSome}
use Rattle.engine_random.proofs.SettingLaws.{MarksUpTo}
use Rattle.engine_random.proofs.batch.setting.Given as goal

abbrev pub invariant-loop-lit : goal.invariant-loop-lit
invariant-loop-lit l = IfSome l.wide.now (λ values. MarksUpTo l.lits values l.fn.marked l.set l.lit-index)
