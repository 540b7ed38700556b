use Rattle.std.proofs.Common.{sym}
use Rattle.cuts.proofs.Joined.{in_none, in_first, in_second, in_third, in_fourth, last_of}
use Rattle.cuts.proofs.cut.table_in.Goals as goal

pub returns-then-variable-eq0 : goal.returns-then-variable-eq0
returns-then-variable-eq0 c = λ w constant. in_none w c.args.leaves c.args.variable c.if-variable-eq0.true constant

pub returns-then-variable-first : goal.returns-then-variable-first
returns-then-variable-first c = λ w constant. in_first w c.args.leaves c.args.variable (sym c.if-variable-first.true)

pub returns-then-variable-second : goal.returns-then-variable-second
returns-then-variable-second c = λ w constant. in_second w c.args.leaves c.args.variable (sym c.if-variable-second.true)

pub returns-then-variable-third : goal.returns-then-variable-third
returns-then-variable-third c = λ w constant. in_third w c.args.leaves c.args.variable (sym c.if-variable-third.true)

pub returns-else-variable-third : goal.returns-else-variable-third
returns-else-variable-third c = λ w constant. in_fourth w c.args.leaves c.args.variable (last_of c.args.leaves c.args.variable c.requires
    c.if-variable-eq0.false (λ e. c.if-variable-first.false (sym e)) (λ e. c.if-variable-second.false (sym e)) (λ e. c.if-variable-third.false (sym e)))
