use Rattle.std.proofs.Common.{arith}
use Rattle.std.proofs.lemmas.Result.{err_from_is_err_and}
use Rattle.aig.proofs.ReadLaws.{is_spelled, is_only, only_memory, fault_number, refused_memory, memory_number}
use Rattle.aig.proofs.reading.read.Goals as goal

pub returns-in_err-model-in-Ok-clause-only : goal.returns-in_err-model-in-Ok-clause-only
returns-in_err-model-in-Ok-clause-only c =
    let p = err_from_is_err_and c.from_residual.result c.from_residual.ensures.1 in
    let e = c.in_err-model-in-Ok.ensures in
    let memory = refused_memory c.args.text.now c.in-Ok.parts c.in-Ok.symbols.symbols c.in-Ok.comment c.in_err-model-in-Ok.field-0.0 c.in-Ok.ensures.value.0 c.in-Ok.ensures.value.1 (omega (arith, c.if-text-gt-LONGEST_TEXT.false)) e.refused e.exact in
    rw (p.1, p.2) (λ f spells. memory)

pub returns-in_err-model-in-Ok-clause-refusals : goal.returns-in_err-model-in-Ok-clause-refusals
returns-in_err-model-in-Ok-clause-refusals c =
    let p = err_from_is_err_and c.from_residual.result c.from_residual.ensures.1 in
    let e = c.in_err-model-in-Ok.ensures in
    let memory = refused_memory c.args.text.now c.in-Ok.parts c.in-Ok.symbols.symbols c.in-Ok.comment c.in_err-model-in-Ok.field-0.0 c.in-Ok.ensures.value.0 c.in-Ok.ensures.value.1 (omega (arith, c.if-text-gt-LONGEST_TEXT.false)) e.refused e.exact in
    rw (p.1, p.2) (memory_number c.in_err-model-in-Ok.field-0.0 memory)

pub returns-in_ok-model-in-Ok-clause-found : goal.returns-in_ok-model-in-Ok-clause-found
returns-in_ok-model-in-Ok-clause-found c =
    let built = c.in_ok-model-in-Ok.ensures.built in
    is_spelled c.args.text.now c.from_symbols.result c.in_ok-model-in-Ok.model c.in-Ok.parts c.in-Ok.symbols.symbols c.in-Ok.comment c.from_symbols.ensures built.0 c.in-Ok.ensures.value.0 c.in-Ok.ensures.value.1 (omega (arith, c.if-text-gt-LONGEST_TEXT.false))

pub returns-in_ok-model-in-Ok-clause-only : goal.returns-in_ok-model-in-Ok-clause-only
returns-in_ok-model-in-Ok-clause-only c =
    λ f spells. is_only c.args.text.now c.from_symbols.result f c.in_ok-model-in-Ok.model c.in-Ok.parts c.in-Ok.symbols.symbols c.in-Ok.comment c.from_symbols.ensures c.in_ok-model-in-Ok.ensures.built.0 c.in-Ok.ensures.value.0 spells

pub returns-in-Err-clause-only : goal.returns-in-Err-clause-only
returns-in-Err-clause-only c =
    rw c.told.ensures (only_memory _ _ c.args.text.now c.in-Err.fault c.in-Err.ensures.value)

pub returns-in-Err-clause-refusals : goal.returns-in-Err-clause-refusals
returns-in-Err-clause-refusals c = rw c.told.ensures (fault_number _ c.in-Err.fault)
