use Rattle.std.proofs.Common.{sym, subst}
use Rattle.signal_classes.specs.Classed.{AreLed}
use Rattle.signal_classes.proofs.Led.{led_own}
use Rattle.signal_classes.proofs.classes.Classes.compare.Goals as goal

pub returns-2-clause-led : goal.returns-2-clause-led
returns-2-clause-led c h = subst AreLed (sym c.part.ensures.leads) (led_own c.args.self.now.leads c.args.place h)
