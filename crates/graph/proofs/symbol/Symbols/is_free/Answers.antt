use Rattle.std.proofs.Common.{◌<◌, length, arith}
use Rattle.graph.specs.Symbols.{index_of}
use Rattle.graph.specs.Taken.{rows_of}
use Rattle.graph.specs.declared.symbol.Symbol.{Symbol}
use Rattle.graph.proofs.Marking.{index_below, unmarked_free, free_unmarked}
use Rattle.graph.proofs.symbol.Symbols.is_free.Goals as goal

pub returns : goal.returns
returns c = λ name.
    let taken = rows_of c.self.inside.taken.items in
    let symbol : Symbol = record { kind = c.args.kind; position = c.args.position; name = name } in
    let kind_in : index_of c.args.kind < length taken = omega (arith, index_below c.args.kind, c.self.invariant.kinds) in
    let unmarked = rw (c.deref.ensures.value, c.index.ensures) at c.is_free.ensures in
    rw (← c.self.view_is) (λ t. unmarked_free taken c.self.inside.symbols.items symbol c.self.invariant kind_in (unmarked.0 t), λ f. unmarked.1 (free_unmarked taken c.self.inside.symbols.items symbol c.self.invariant kind_in f))
