use Rattle.std.proofs.Common.{◌≡◌, ◌+◌, ◌++◌, drop}
use Rattle.reset_functions.specs.Plain.{functions_in, plain_lines}
use Rattle.reset_functions.proofs.plain.PlainText.add_all.Given as goal

abbrev pub invariant-loop-k : goal.invariant-loop-k
invariant-loop-k l = record {
  text : l.self.text.items ++ plain_lines (l.first + l.k) (drop l.k l.lines) ≡ l.fn.self.text.items ++ plain_lines l.first l.lines;
  resets : l.self.resets.items ++ functions_in (l.first + l.k) (drop l.k l.lines) ≡ l.fn.self.resets.items ++ functions_in l.first l.lines;
}
