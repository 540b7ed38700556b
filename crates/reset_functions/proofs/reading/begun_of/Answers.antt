use Rattle.std.proofs.Common.{inl, refl, subst}
use Rattle.reset_functions.specs.Reading.{SpellsNone}
use Rattle.reset_functions.proofs.Texts.{none_by}
use Rattle.reset_functions.proofs.reading.begun_of.Goals as goal

pub returns-clause-refused : goal.returns-clause-refused
returns-clause-refused c =
    inl (refl, subst SpellsNone c.as_slice.ensures.value (none_by c.as_slice.result.now c.in-Err.found c.is_memory.result c.in-Err.ensures.only c.is_memory.ensures.only c.if-is_memory.false))
