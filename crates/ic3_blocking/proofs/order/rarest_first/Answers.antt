use Rattle.std.proofs.Common.{rules, ◌≡◌, inl, inr, length, drop, get_or, Contains, sym, subst}
use Rattle.graph.proofs.Tabled.{take_whole}
use Rattle.states.specs.declared.state_lit.StateLit.{StateLit}
use Rattle.ic3_blocking.proofs.order.rarest_first.Goals as goal

pub returns : goal.returns
returns c = λ k d k_in.
    let a : StateLit = get_or c.args.clause.now k d in
    let sorted = c.sort.new.latches in
    let long : length sorted ≡ c.in_ok-order.order.len = search rules in
    let whole = take_whole c.in_ok-order.order.len sorted (drop (length sorted) c.in_ok-order.order.items) long in
    elim (c.in_ok-order.ensures k d k_in) [
      | inl has ↦ inl has
      | inr found ↦ inr (subst (λ xs. Contains xs a.latch) (sym whole) ((c.sort.ensures.same a.latch).1 (subst (λ xs. Contains xs a.latch) (sym c.as_mut_slice.ensures.value) found)))
    ]
