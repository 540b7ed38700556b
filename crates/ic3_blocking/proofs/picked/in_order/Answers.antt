use Rattle.std.proofs.Common.{rules, ◌≡◌, length, drop, Contains, sym, subst}
use Rattle.graph.proofs.Tabled.{take_whole}
use Rattle.ic3_blocking.proofs.picked.in_order.Goals as goal

pub returns-clause-part : goal.returns-clause-part
returns-clause-part c = λ a found.
    let sorted = c.sort.new.numbers in
    let long : length sorted ≡ c.in_ok-latches.latches.len = search rules in
    let whole = take_whole c.in_ok-latches.latches.len sorted (drop (length sorted) c.in_ok-latches.latches.items) long in
    subst (λ xs. Contains xs a.latch) (sym whole)
    ((c.sort.ensures.same a.latch).1 (subst (λ xs. Contains xs a.latch) (sym c.as_mut_slice.ensures.value) (c.in_ok-latches.ensures.part a found)))

pub returns-clause-more : goal.returns-clause-more
returns-clause-more c =
    let sorted = c.sort.new.numbers in
    let n = c.args.more.latch in
    let long : length sorted ≡ c.in_ok-latches.latches.len = search rules in
    let whole = take_whole c.in_ok-latches.latches.len sorted (drop (length sorted) c.in_ok-latches.latches.items) long in
    subst (λ xs. Contains xs n) (sym whole) ((c.sort.ensures.same n).1 (subst (λ xs. Contains xs n) (sym c.as_mut_slice.ensures.value) c.in_ok-latches.ensures.more))
