use Rattle.std.proofs.Common.{◌≡◌}
use Rattle.signal_classes.specs.Classed.{AreLed, place_at}
use Rattle.signal_classes.proofs.classes.Classes.new.Given as goal

abbrev pub invariant-loop-place : goal.invariant-loop-place
invariant-loop-place l = record {
  led : AreLed l.classes.leads;
  first : place_at l.classes.leads 0 ≡ 0;
}
