use Rattle.std.proofs.Common.{rules, ◌≡◌, ◌+◌, ◌<◌, length, get_or, pos, ◌∙◌, ap, subst, arith, length-set, SFits, w32}
use Rattle.graph.specs.declared.circuit.Lit.{Lit}
use Rattle.graph.specs.Circuits.{variable}
use Rattle.unrolling.specs.Unrollings.{IsTable, input_of}
use Rattle.unrolling.proofs.Added.{read_as}
use Rattle.unrolling.proofs.Tabled.{input_range, literals_set, positive_literal, table_input}
use Rattle.unrolling.proofs.frame.fill_inputs.Goals as goal

pub loop-index-preserved : goal.loop-index-preserved
loop-index-preserved c =
    let m = c.args.circuit.now in
    let cone = c.args.cone.now in
    let i = c.loop-index.index in
    let blank : Lit = record { 0 = 0 } in
    let i_in : i < length cone.inputs.items = omega (arith, ap length c.deref-position-items.ensures.value) in
    let x_is : c.variable.result ≡ input_of m cone i = c.variable.ensures ∙ ap (λ ls. variable (get_or ls (get_or c.deref-position-items.result.now i 0) blank)) c.inputs-inputs.ensures
    ∙ ap (λ ps. variable (get_or m.inputs (get_or ps i 0) blank)) c.deref-position-items.ensures.value in
    let fl : SFits w32 c.positive.result = search rules in
    let e : c.args.first + 1 + i ≡ c.args.first + (i + 1) = omega arith in
    let l_is = read_as _ _ fl (c.positive.ensures ∙ ap pos e) in
    record {
      whole = length-set c.loop-index.table c.variable.result _ ∙ c.loop-index.invariant.whole;
      table = λ s cs t n room fresh is. rw (x_is, l_is)
          (table_input m cone s cs t n c.args.first i (pos (c.args.first + (i + 1))) c.loop-index.table (c.loop-index.invariant.table s cs t n room fresh is) (input_range m cone i c.well_formed-2.ensures c.requires.cone i_in)
          i_in room (λ k. pos (c.args.first + (i + 1))) fresh);
      literals = λ n room all. rw (x_is, l_is)
          (literals_set n n c.loop-index.table (input_of m cone i) (pos (c.args.first + (i + 1))) (c.loop-index.invariant.literals n room all) (omega arith)
          (let x_in = input_range m cone i c.well_formed-2.ensures c.requires.cone i_in in let whole = c.loop-index.invariant.whole in omega (arith, x_in, whole, c.requires.whole))
          (positive_literal n (c.args.first + (i + 1)) (omega arith) (omega (arith, i_in, room))));
    }

pub returns-clause-table : goal.returns-clause-table
returns-clause-table c = λ s cs t n room fresh is.
    let cone = c.args.cone.now in
    let last : c.loop-index.index ≡ length cone.inputs.items = omega (arith, ap length c.deref-position-items.ensures.value) in
    subst (λ q. IsTable c.args.circuit.now cone s cs t n q 0 0 c.loop-index.table) last (c.loop-index.invariant.table s cs t n room fresh is)
