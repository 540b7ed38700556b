use Rattle.std.proofs.Common.{None}
use Rattle.reset_functions.specs.declared.latch_lines.LatchText.{LatchText}
use Rattle.reset_functions.proofs.Added.{functions_step, lines_step}
use Rattle.reset_functions.proofs.plain.PlainText.add_all.Goals as goal

abbrev none : LatchText
none = record { own = None; next = record { 0 = 0 }; reset = None }

pub loop-k-preserved : goal.loop-k-preserved
loop-k-preserved c =
    let ls = c.args.lines.now in
    let k = c.loop-k.k in
    record {
      text = lines_step c.args.first k ls none _ _ _ c.loop-k-test.true c.in_ok-add.ensures.text c.loop-k.invariant.text;
      resets = functions_step c.args.first k ls none _ _ _ c.loop-k-test.true c.in_ok-add.ensures.resets c.loop-k.invariant.resets;
    }
