use Rattle.std.proofs.Common.{◌≡◌, ℕ, ◌<◌, length, None, Some, get_or, ◌∙◌, cond, arith}
use Rattle.graph.proofs.Tabled.{take_whole}
use Rattle.invariant.specs.Plas.{symbol_name}
use Rattle.invariant.specs.PlaReading.{is_symbol_of}
use Rattle.invariant.proofs.ColumnLoop.{place_more}
use Rattle.invariant.proofs.columns.places.Goals as goal

pub loop-i-preserved : goal.loop-i-preserved
loop-i-preserved c =
    let s = c.index-symbols-i.result in
    let old = c.loop-i.places.items in
    let new = c.give.new.places in
    let same : length new ≡ length old = rw c.deref_mut.ensures.value at c.give.ensures.length in
    let given : (k : ℕ) → k < length old → get_or new k None ≡ cond (is_symbol_of s.kind s.position k) (Some c.loop-i.i) (get_or old k None) =
    rw c.deref_mut.ensures.value at c.give.ensures.place in
    let kept : length new ≡ c.loop-i.places.len = omega arith in
    rw (take_whole _ new _ kept) (
      same ∙ c.loop-i.invariant.0,
      λ k lt. place_more c.args.symbols.now c.loop-i.i k s (get_or old k None) (get_or new k None) (symbol_name None c.args.symbols.now k) c.loop-i-test.true c.index-symbols-i.is (given k (omega (arith, lt, c.loop-i.invariant.0))) (c.loop-i.invariant.1 k lt),
    )
