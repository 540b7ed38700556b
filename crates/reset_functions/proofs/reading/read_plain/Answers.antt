use Rattle.reset_functions.proofs.Texts.{none_plain}
use Rattle.reset_functions.proofs.reading.read_plain.Goals as goal

pub returns-in-Ok-clause-refused : goal.returns-in-Ok-clause-refused
returns-in-Ok-clause-refused c =
    none_plain c.args.text.now c.in-Ok.plain.text.items c.in-Ok.plain.resets.items c.args.fault c.begun_of.result c.in-Ok.ensures.value c.begun_of.ensures.refused
