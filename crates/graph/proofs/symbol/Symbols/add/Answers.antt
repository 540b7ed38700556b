use Rattle.std.proofs.Common.{◌≡◌, ◌<◌, length, arith, refl}
use Rattle.graph.specs.Symbols.{index_of}
use Rattle.graph.specs.Taken.{rows_of, marked_at, IsUnmarked}
use Rattle.graph.proofs.Tabled.{take_whole}
use Rattle.graph.proofs.Marking.{AreTaken-more, index_below, labels-more, unmarked_free}
use Rattle.graph.proofs.symbol.Symbols.add.Goals as goal

pub invariant_of-self-2 : goal.invariant_of-self-2
invariant_of-self-2 c =
    let taken = rows_of c.self.inside.taken.items in
    let marked : rows_of c.mark.new.taken ≡ marked_at taken (index_of c.args.symbol.kind) c.args.symbol.position = rw (c.deref_mut.ensures.value, c.index-kind.ensures) at c.mark.ensures in
    let kept : length c.mark.new.taken ≡ c.self.inside.taken.len = omega arith in
    let kind_in : index_of c.args.symbol.kind < length taken = omega (arith, index_below c.args.symbol.kind, c.self.invariant.kinds) in
    let unmarked : IsUnmarked taken (index_of c.args.symbol.kind) c.args.symbol.position = (rw (c.deref.ensures.value, c.index-kind.ensures) at c.if-not-is_free.ensures).0 refl in
    rw (take_whole _ c.mark.new.taken _ kept, marked, c.in_ok-push.ensures.items)
    (AreTaken-more taken c.self.inside.symbols.items c.args.symbol c.self.invariant kind_in c.requires unmarked)

pub returns-clause-added : goal.returns-clause-added
returns-clause-added c =
    let taken = rows_of c.self.inside.taken.items in
    let marked : rows_of c.mark.new.taken ≡ marked_at taken (index_of c.args.symbol.kind) c.args.symbol.position = rw (c.deref_mut.ensures.value, c.index-kind.ensures) at c.mark.ensures in
    let kept : length c.mark.new.taken ≡ c.self.inside.taken.len = omega arith in
    rw (take_whole _ c.mark.new.taken _ kept, marked, c.in_ok-push.ensures.items, ← c.self.view_is) (labels-more taken c.self.inside.symbols.items c.args.symbol)

pub returns-clause-free : goal.returns-clause-free
returns-clause-free c =
    let taken = rows_of c.self.inside.taken.items in
    let kind_in : index_of c.args.symbol.kind < length taken = omega (arith, index_below c.args.symbol.kind, c.self.invariant.kinds) in
    let unmarked : IsUnmarked taken (index_of c.args.symbol.kind) c.args.symbol.position = (rw (c.deref.ensures.value, c.index-kind.ensures) at c.if-not-is_free.ensures).0 refl in
    rw (← c.self.view_is) (λ t. unmarked_free taken c.self.inside.symbols.items c.args.symbol c.self.invariant kind_in unmarked, λ f. refl)
