use Rattle.reset_functions.proofs.Texts.{none_by, refused_of}
use Rattle.reset_functions.proofs.reading.read.Goals as goal

pub returns-in-Ok-clause-only : goal.returns-in-Ok-clause-only
returns-in-Ok-clause-only c f spells = (c.in-Ok.ensures.only f spells, c.new.ensures.items)

pub returns-in-Err-2-clause-only : goal.returns-in-Err-2-clause-only
returns-in-Err-2-clause-only c f spells =
    absurd (none_by c.args.text.now c.in-Err.fault c.is_memory.result c.in-Err.ensures.only c.is_memory.ensures.only c.if-is_memory.false f spells)

pub returns-in-Err-2-clause-refused : goal.returns-in-Err-2-clause-refused
returns-in-Err-2-clause-refused c =
    refused_of c.args.text.now c.in-Err.fault c.read_plain.result
    (none_by c.args.text.now c.in-Err.fault c.is_memory.result c.in-Err.ensures.only c.is_memory.ensures.only c.if-is_memory.false)
    c.read_plain.ensures.refused
