use Rattle.std.proofs.Common.{◌≡◌}
use Rattle.signal_classes.specs.Classed.{AreLed, AreWithin}
use Rattle.signal_classes.proofs.classes.Classes.part_all.Given as goal

abbrev pub invariant-loop-place : goal.invariant-loop-place
invariant-loop-place l = record {
  signals : l.self.signals ≡ l.fn.self.signals;
  led : AreLed l.fn.self.leads → AreLed l.self.leads;
  within : AreWithin l.before l.fn.self.leads → AreWithin l.before l.self.leads;
}
