use Rattle.std.proofs.Common.{rules, ◌≡◌, ◌≢◌, ◌<◌, ℕ, ℤ, length, map, get_or, negsuc, sym, ◌∙◌, ap, arith, below_more, get_or-set_same, get_or-set_other, length-set, SFits, w32}
use Rattle.std.proofs.lemmas.List.{ext_get_or, get_or-map, length-map}
use Rattle.cnf.specs.Clauses.{next_of}
use Rattle.unrolling.specs.Cones.{latch_at, no_latch}
use Rattle.unrolling.specs.Unrollings.{latch_of, literal_of}
use Rattle.unrolling.proofs.Added.{read_as}
use Rattle.unrolling.proofs.Unrolled.{next_small}
use Rattle.unrolling.proofs.unrolling.next_state.Goals as goal

pub literal-requires-clause-in_range : goal.literal-requires-clause-in_range
literal-requires-clause-in_range c =
    let m = c.args.circuit.now in
    let cone = c.args.cone.now in
    let i = c.loop-index.index in
    let i_in : i < length cone.latches.items = omega (arith, ap length c.deref-position-items.ensures.value) in
    let is : c.next_of.result ≡ next_of m.latches (latch_of m cone i) = c.next_of.ensures ∙ c.requires.nexts.nexts _
    ∙ ap (λ ls. next_of m.latches (get_or ls (get_or c.deref-position-items.result.now i 0) no_latch).lit) c.latches-latches.ensures
    ∙ ap (λ ps. next_of m.latches (get_or m.latches (get_or ps i 0) no_latch).lit) c.deref-position-items.ensures.value in
    let small = next_small m cone i c.well_formed-2.ensures c.requires.cone i_in in
    rw is (omega (arith, small, c.requires.whole))

pub loop-index-preserved : goal.loop-index-preserved
loop-index-preserved c =
    let m = c.args.circuit.now in
    let cone = c.args.cone.now in
    let i = c.loop-index.index in
    let is : c.next_of.result ≡ next_of m.latches (latch_of m cone i) = c.next_of.ensures ∙ c.requires.nexts.nexts _
    ∙ ap (λ ls. next_of m.latches (get_or ls (get_or c.deref-position-items.result.now i 0) no_latch).lit) c.latches-latches.ensures
    ∙ ap (λ ps. next_of m.latches (get_or m.latches (get_or ps i 0) no_latch).lit) c.deref-position-items.ensures.value in
    let fl : SFits w32 c.literal.result = search rules in
    let l_is = read_as _ _ fl (c.literal.ensures ∙ ap (literal_of c.args.table.now) is) in
    let l : ℤ = literal_of c.args.table.now (next_of m.latches (latch_of m cone i)) in
    let lengths = c.loop-index.invariant.lengths in
    let i_in : i < length c.loop-index.state = omega (arith, lengths, c.requires.lengths, ap length c.deref-position-items.ensures.value) in
    rw l_is (record {
      lengths = length-set c.loop-index.state i l ∙ lengths;
      so_far = below_more _ _
          (λ k k_in. let apart : k ≢ i = λ e. omega (arith, e, k_in) in get_or-set_other c.loop-index.state i k l (negsuc 0) apart ∙ c.loop-index.invariant.so_far k k_in)
          (get_or-set_same c.loop-index.state i l (negsuc 0) i_in);
    })

pub returns : goal.returns
returns c =
    let m = c.args.circuit.now in
    let items = c.args.cone.now.latches.items in
    let f : ℕ → ℤ = λ i. literal_of c.args.table.now (next_of m.latches (latch_at m.latches i).lit) in
    let lengths = c.loop-index.invariant.lengths in
    let last : c.loop-index.index ≡ length items = omega (arith, ap length c.deref-position-items.ensures.value) in
    ext_get_or (negsuc 0) c.loop-index.state (map f items) (lengths ∙ c.requires.lengths ∙ sym (length-map items f)) (λ i i_in.
    let i_item : i < length items = omega (arith, i_in, lengths, c.requires.lengths) in
    c.loop-index.invariant.so_far i (omega (arith, i_item, last)) ∙ sym (get_or-map f items i 0 (negsuc 0) i_item))
