use Rattle.std.proofs.Common.{◌≡◌, ◌<◌, ◌∙◌, length, take, arith, refl, subst}
use Rattle.graph.specs.Symbols.{index_of, AreSymbols}
use Rattle.graph.specs.Taken.{rows_of, marked_at, IsUnmarked}
use Rattle.graph.proofs.Tabled.{take_whole}
use Rattle.graph.proofs.Marking.{AreTaken-more, index_below, free_unmarked, marked_counts, with_next, wrong_name, wrong_place}
use Rattle.graph.proofs.symbol.first_wrong.Goals as goal

pub returns-then-not-is_name : goal.returns-then-not-is_name
returns-then-not-is_name c =
    let test = rw c.as_slice.ensures at c.if-not-is_name.ensures in
    wrong_name _ c.args.symbols.now c.loop-i.i c.index-symbols-i.result c.loop-i-test.true c.index-symbols-i.is
    (subst (λ counts. AreSymbols counts (take c.loop-i.i c.args.symbols.now)) c.loop-i.invariant.counts c.loop-i.invariant.taken.symbols_of)
    (λ named. let bad : ⊥ = cc (test.1 named) in bad)

pub returns-then-not-is_free : goal.returns-then-not-is_free
returns-then-not-is_free c =
    let s = c.index-symbols-i.result in
    let taken = rows_of c.loop-i.taken.items in
    let kind_in : index_of s.kind < length taken = omega (arith, index_below s.kind, c.loop-i.invariant.taken.kinds) in
    let test = rw (c.deref.ensures.value, c.index-kind.ensures) at c.if-not-is_free.ensures in
    wrong_place _ c.args.symbols.now c.loop-i.i s c.loop-i-test.true c.index-symbols-i.is
    (subst (λ counts. AreSymbols counts (take c.loop-i.i c.args.symbols.now)) c.loop-i.invariant.counts c.loop-i.invariant.taken.symbols_of)
    (λ free. let bad : ⊥ = cc (test.1 (free_unmarked taken (take c.loop-i.i c.args.symbols.now) s c.loop-i.invariant.taken kind_in (rw c.loop-i.invariant.counts free))) in bad)

pub loop-i-preserved : goal.loop-i-preserved
loop-i-preserved c =
    let s = c.index-symbols-i.result in
    let taken = rows_of c.loop-i.taken.items in
    let kind_in : index_of s.kind < length taken = omega (arith, index_below s.kind, c.loop-i.invariant.taken.kinds) in
    let named = (rw c.as_slice.ensures at c.if-not-is_name.ensures).0 refl in
    let unmarked : IsUnmarked taken (index_of s.kind) s.position = (rw (c.deref.ensures.value, c.index-kind.ensures) at c.if-not-is_free.ensures).0 refl in
    let marked : rows_of c.mark.new.taken ≡ marked_at taken (index_of s.kind) s.position = rw (c.deref_mut.ensures.value, c.index-kind.ensures) at c.mark.ensures in
    let kept : length c.mark.new.taken ≡ c.loop-i.taken.len = omega arith in
    rw (take_whole _ c.mark.new.taken _ kept, marked, with_next c.args.symbols.now c.loop-i.i s c.loop-i-test.true c.index-symbols-i.is) (record {
      taken = AreTaken-more taken (take c.loop-i.i c.args.symbols.now) s c.loop-i.invariant.taken kind_in named unmarked;
      counts = marked_counts taken (index_of s.kind) s.position ∙ c.loop-i.invariant.counts;
    })
