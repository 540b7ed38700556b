use Rattle.std.proofs.Common.{◌≡◌, ◌-◌, length}
use Rattle.signal_classes.specs.Known.{led}
use Rattle.signal_classes.proofs.reduced.Reduced.root.Given as goal

abbrev pub invariant-loop : goal.invariant-loop
invariant-loop l = led l.self.equal (length l.self.equal - l.counter) l.root ≡ led l.self.equal (length l.self.equal) l.fn.lit
