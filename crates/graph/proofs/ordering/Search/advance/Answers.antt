use Rattle.std.proofs.Common.{rules, ◌≡◌, length, get_or, arith, ◌-◌, sym, ap, ◌∙◌, refl}
use Rattle.graph.specs.declared.ordering.Mark.TheVariants.{Open, Ordered, Stuck}
use Rattle.std.proofs.lemmas.List.{get_or_read}
use Rattle.graph.proofs.Searching.{is_top, enter_step, finish_step, stick_step, entered_less, left_less, marked_waits, waiting_in}
use Rattle.graph.proofs.ordering.Search.advance.Goals as goal

pub bounds-places-top : goal.bounds-places-top
bounds-places-top c =
    let long = c.requires.long.0 in
    let top = is_top c.args.gates.now c.args.self.now.marks.items c.args.self.now.order.items c.args.places.now c.args.self.now.stack.items c.index-top.result.now (c.len.result - 1)
    c.requires.search c.requires.some c.requires.places long (λ k d k_in. (c.requires.in_range k d k_in).0) (search rules)
    (get_or_read c.args.self.now.stack.items (c.len.result - 1) c.index-top.result.now (search rules) c.index-top.ensures 0) in
    let inside = top.variable_in in omega (arith, inside, long)

pub bounds-gates-place : goal.bounds-gates-place
bounds-gates-place c =
    let top = is_top c.args.gates.now c.args.self.now.marks.items c.args.self.now.order.items c.args.places.now c.args.self.now.stack.items c.index-top.result.now (c.len.result - 1)
    c.requires.search c.requires.some c.requires.places c.requires.long.0 (λ k d k_in. (c.requires.in_range k d k_in).0) (search rules)
    (get_or_read c.args.self.now.stack.items (c.len.result - 1) c.index-top.result.now (search rules) c.index-top.ensures 0) in
    top.place_in

pub returns-in_ok-enter-in-Enter-clause-search : goal.returns-in_ok-enter-in-Enter-clause-search
returns-in_ok-enter-in-Enter-clause-search c =
    let read = get_or_read c.args.self.now.stack.items (c.len.result - 1) c.index-top.result.now (search rules) c.index-top.ensures 0 in
    let top = is_top c.args.gates.now c.args.self.now.marks.items c.args.self.now.order.items c.args.places.now c.args.self.now.stack.items c.index-top.result.now (c.len.result - 1)
    c.requires.search c.requires.some c.requires.places c.requires.long.0 (λ k d k_in. (c.requires.in_range k d k_in).0) (search rules) read in
    let last : c.len.result - 1 ≡ length c.args.self.now.stack.items - 1 = search rules in
    rw (c.enter.ensures.marks, c.enter.ensures.order, c.in_ok-enter-in-Enter.ensures.stack)
    (enter_step c.args.gates.now c.args.self.now.marks.items c.args.self.now.order.items c.args.places.now c.args.self.now.stack.items c.index-top.result.now c.in-Enter.v _
    c.requires.search top c.requires.some (read ∙ ap (λ i. get_or c.args.self.now.stack.items i 0) last) (rw c.deref.ensures.value at c.in-Enter.ensures))

pub returns-in_ok-push-in-Finish-clause-search : goal.returns-in_ok-push-in-Finish-clause-search
returns-in_ok-push-in-Finish-clause-search c =
    let read = get_or_read c.args.self.now.stack.items (c.len.result - 1) c.index-top.result.now (search rules) c.index-top.ensures 0 in
    let top = is_top c.args.gates.now c.args.self.now.marks.items c.args.self.now.order.items c.args.places.now c.args.self.now.stack.items c.index-top.result.now (c.len.result - 1)
    c.requires.search c.requires.some c.requires.places c.requires.long.0 (λ k d k_in. (c.requires.in_range k d k_in).0) (search rules) read in
    let last : c.len.result - 1 ≡ length c.args.self.now.stack.items - 1 = search rules in
    let is_top_variable = read ∙ ap (λ i. get_or c.args.self.now.stack.items i 0) last in
    rw (c.leave.ensures.marks, c.in_ok-push-in-Finish.ensures.items, c.leave.ensures.order, c.leave.ensures.stack, sym is_top_variable)
    (finish_step c.args.gates.now c.args.self.now.marks.items c.args.self.now.order.items c.args.places.now c.args.self.now.stack.items c.index-top.result.now _
    c.requires.search top (rw c.deref.ensures.value at c.in-Finish.ensures))

pub returns-in-Stick-clause-search : goal.returns-in-Stick-clause-search
returns-in-Stick-clause-search c =
    let read = get_or_read c.args.self.now.stack.items (c.len.result - 1) c.index-top.result.now (search rules) c.index-top.ensures 0 in
    let top = is_top c.args.gates.now c.args.self.now.marks.items c.args.self.now.order.items c.args.places.now c.args.self.now.stack.items c.index-top.result.now (c.len.result - 1)
    c.requires.search c.requires.some c.requires.places c.requires.long.0 (λ k d k_in. (c.requires.in_range k d k_in).0) (search rules) read in
    let last : c.len.result - 1 ≡ length c.args.self.now.stack.items - 1 = search rules in
    let is_top_variable = read ∙ ap (λ i. get_or c.args.self.now.stack.items i 0) last in
    rw (c.leave-in-Stick.ensures.marks, c.leave-in-Stick.ensures.order, c.leave-in-Stick.ensures.stack, sym is_top_variable)
    (stick_step c.args.gates.now c.args.self.now.marks.items c.args.self.now.order.items c.args.places.now c.args.self.now.stack.items c.index-top.result.now _
    c.requires.search top (rw c.deref.ensures.value at c.in-Stick.ensures))

pub returns-in_ok-enter-in-Enter-clause-less : goal.returns-in_ok-enter-in-Enter-clause-less
returns-in_ok-enter-in-Enter-clause-less c = rw c.enter.ensures.marks (entered_less c.args.self.now.marks.items c.in-Enter.v (rw c.deref.ensures.value at c.in-Enter.ensures).1)

pub returns-in_ok-enter-in-Enter-clause-waiting : goal.returns-in_ok-enter-in-Enter-clause-waiting
returns-in_ok-enter-in-Enter-clause-waiting c v waits =
    let marks = c.args.self.now.marks.items in
    marked_waits marks c.in-Enter.v v Open (waiting_in marks c.in-Enter.v (rw c.deref.ensures.value at c.in-Enter.ensures).1) (λ e. cc) (rw c.enter.ensures.marks at waits)

pub returns-in_ok-push-in-Finish-clause-less : goal.returns-in_ok-push-in-Finish-clause-less
returns-in_ok-push-in-Finish-clause-less c =
    let read = get_or_read c.args.self.now.stack.items (c.len.result - 1) c.index-top.result.now (search rules) c.index-top.ensures 0 in
    let top = is_top c.args.gates.now c.args.self.now.marks.items c.args.self.now.order.items c.args.places.now c.args.self.now.stack.items c.index-top.result.now (c.len.result - 1)
    c.requires.search c.requires.some c.requires.places c.requires.long.0 (λ k d k_in. (c.requires.in_range k d k_in).0) (search rules) read in
    let last : c.len.result - 1 ≡ length c.args.self.now.stack.items - 1 = search rules in
    let is_u = read ∙ ap (λ i. get_or c.args.self.now.stack.items i 0) last in
    rw (c.leave.ensures.marks, sym is_u)
    (left_less c.args.gates.now c.args.self.now.marks.items c.args.self.now.order.items c.args.places.now c.args.self.now.stack.items c.index-top.result.now Ordered c.requires.search top c.requires.some is_u refl)

pub returns-in-Stick-clause-less : goal.returns-in-Stick-clause-less
returns-in-Stick-clause-less c =
    let read = get_or_read c.args.self.now.stack.items (c.len.result - 1) c.index-top.result.now (search rules) c.index-top.ensures 0 in
    let top = is_top c.args.gates.now c.args.self.now.marks.items c.args.self.now.order.items c.args.places.now c.args.self.now.stack.items c.index-top.result.now (c.len.result - 1)
    c.requires.search c.requires.some c.requires.places c.requires.long.0 (λ k d k_in. (c.requires.in_range k d k_in).0) (search rules) read in
    let last : c.len.result - 1 ≡ length c.args.self.now.stack.items - 1 = search rules in
    let is_u = read ∙ ap (λ i. get_or c.args.self.now.stack.items i 0) last in
    rw (c.leave-in-Stick.ensures.marks, sym is_u)
    (left_less c.args.gates.now c.args.self.now.marks.items c.args.self.now.order.items c.args.places.now c.args.self.now.stack.items c.index-top.result.now Stuck c.requires.search top c.requires.some is_u refl)
