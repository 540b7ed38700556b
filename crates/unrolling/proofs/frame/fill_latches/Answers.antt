use Rattle.std.proofs.Common.{rules, ◌≡◌, ◌<◌, length, get_or, pos, negsuc, ◌∙◌, ap, subst, arith, length-set, SFits, w32}
use Rattle.std.proofs.lemmas.List.{get_or_default}
use Rattle.graph.specs.Circuits.{variable}
use Rattle.unrolling.specs.Cones.{no_latch}
use Rattle.unrolling.specs.Unrollings.{IsTable, latch_of, literal_at}
use Rattle.unrolling.proofs.Added.{read_as}
use Rattle.unrolling.proofs.Tabled.{latch_range, literals_set, table_latch}
use Rattle.unrolling.proofs.frame.fill_latches.Goals as goal

pub bounds-table-variable : goal.bounds-table-variable
bounds-table-variable c =
    let m = c.args.circuit.now in
    let cone = c.args.cone.now in
    let i = c.loop-index.index in
    let i_in : i < length cone.latches.items = omega (arith, ap length c.deref-position-items.ensures.value) in
    let x_is : c.variable.result ≡ variable (latch_of m cone i) = c.variable.ensures ∙ ap (λ ls. variable (get_or ls (get_or c.deref-position-items.result.now i 0) no_latch).lit) c.latches-latches.ensures
    ∙ ap (λ ps. variable (get_or m.latches (get_or ps i 0) no_latch).lit) c.deref-position-items.ensures.value in
    let range = latch_range m cone i c.well_formed-2.ensures c.requires.cone i_in in
    let whole = c.loop-index.invariant.whole in
    omega (arith, x_is, range, whole, c.requires.whole)

pub loop-index-preserved : goal.loop-index-preserved
loop-index-preserved c =
    let m = c.args.circuit.now in
    let cone = c.args.cone.now in
    let i = c.loop-index.index in
    let i_in : i < length cone.latches.items = omega (arith, ap length c.deref-position-items.ensures.value) in
    let x_is : c.variable.result ≡ variable (latch_of m cone i) = c.variable.ensures ∙ ap (λ ls. variable (get_or ls (get_or c.deref-position-items.result.now i 0) no_latch).lit) c.latches-latches.ensures
    ∙ ap (λ ps. variable (get_or m.latches (get_or ps i 0) no_latch).lit) c.deref-position-items.ensures.value in
    let fl : SFits w32 (get_or c.args.state.now i (pos 0)) = search rules in
    let same : get_or c.args.state.now i (pos 0) ≡ literal_at c.args.state.now i = get_or_default c.args.state.now i (pos 0) (negsuc 0) (omega (arith, i_in, c.requires.lengths)) in
    let l_is = read_as _ _ fl same in
    record {
      whole = length-set c.loop-index.table c.variable.result _ ∙ c.loop-index.invariant.whole;
      table = λ s cs t n states is. rw (x_is, l_is)
          (table_latch m cone s cs t n (length cone.inputs.items) i c.args.state.now c.loop-index.table (c.loop-index.invariant.table s cs t n states is) (latch_range m cone i c.well_formed-2.ensures c.requires.cone i_in) i_in
          c.requires.lengths states);
      literals = λ n state_all all. rw (x_is, l_is)
          (literals_set n n c.loop-index.table (variable (latch_of m cone i)) (literal_at c.args.state.now i) (c.loop-index.invariant.literals n state_all all) (omega arith)
          (let x_in = latch_range m cone i c.well_formed-2.ensures c.requires.cone i_in in let whole = c.loop-index.invariant.whole in omega (arith, x_in, whole, c.requires.whole))
          (state_all i (negsuc 0) (omega (arith, i_in, c.requires.lengths))));
    }

pub returns-clause-table : goal.returns-clause-table
returns-clause-table c = λ s cs t n states is.
    let cone = c.args.cone.now in
    let last : c.loop-index.index ≡ length cone.latches.items = omega (arith, ap length c.deref-position-items.ensures.value) in
    subst (λ q. IsTable c.args.circuit.now cone s cs t n (length cone.inputs.items) q 0 c.loop-index.table) last (c.loop-index.invariant.table s cs t n states is)
