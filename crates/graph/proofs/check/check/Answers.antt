use Rattle.std.proofs.Common.{◌++◌, ◌∙◌, [], map, refl, ap}
use Rattle.std.specs.List.{range_with_len}
use Rattle.std.proofs.lemmas.List.Elements.{All-nil}
use Rattle.graph.specs.Circuits.{variable, defined}
use Rattle.graph.specs.WellFormed.{used}
use Rattle.graph.specs.Uses.{IsFine}
use Rattle.graph.specs.Faults.{HasDefined}
use Rattle.graph.proofs.Evaluation.{held, once-right, IsOnce}
use Rattle.graph.proofs.Gates.{left}
use Rattle.graph.proofs.Ordered.{ordered_model}
use Rattle.graph.proofs.Shape.{defining_small, used_small, gates_small, fine_so_far, literal_cause, cause_told, all_defined, counted_decides, model_found, cycle_told}
use Rattle.graph.proofs.check.check.Goals as goal

pub definitions_of-requires-clause-in_range : goal.definitions_of-requires-clause-in_range
definitions_of-requires-clause-in_range c = defining_small c.args.parts.now c.in_ok-check_literals.ensures.1

pub returns-in_err-check_literals-clause-refused : goal.returns-in_err-check_literals-clause-refused
returns-in_err-check_literals-clause-refused c =
    let m = c.args.parts.now in
    cause_told m _ _ c.from_residual.ensures.1 (literal_cause m _ c.in_default.ensures (c.in_err-check_literals.ensures [] refl (All-nil (IsFine m.max_var))))

pub returns-then-is_ordered-clause-found : goal.returns-then-is_ordered-clause-found
returns-then-is_ordered-clause-found c =
    let m = c.args.parts.now in
    ordered_model m c.in_ok-places.field-0.items (fine_so_far m c.in_default.ensures c.in_ok-check_literals.ensures.1) (c.is_ordered.ensures.0 c.if-is_ordered.true) (c.in_ok-places.ensures ∙ ap (range_with_len 0) c.len.ensures)

pub mentions_of-requires-clause-in_range : goal.mentions_of-requires-clause-in_range
mentions_of-requires-clause-in_range c = used_small c.args.parts.now c.in_ok-check_literals.ensures.1

pub returns-in-Some-first_twice-clause-refused : goal.returns-in-Some-first_twice-clause-refused
returns-in-Some-first_twice-clause-refused c =
    let m = c.args.parts.now in (
      fine_so_far m c.in_default.ensures c.in_ok-check_literals.ensures.1,
      c.in-Some-first_twice.ensures (defined m) (rw c.deref.ensures.value c.in_ok-definitions.ensures.counted),
    )

pub returns-in-Some-first_undefined-clause-refused : goal.returns-in-Some-first_undefined-clause-refused
returns-in-Some-first_undefined-clause-refused c =
    let m = c.args.parts.now in (
      record {
        literals = fine_so_far m c.in_default.ensures c.in_ok-check_literals.ensures.1;
        once = c.in_default-first_twice.ensures (defined m) (rw c.deref.ensures.value c.in_ok-definitions.ensures.counted);
      },
      c.in-Some-first_undefined.ensures (used m) (defined m) (rw c.deref-2.ensures.value c.in_ok-definitions.ensures.counted) (rw c.deref-3.ensures.value c.in_ok-mentions.ensures.marked),
    )

pub find_order-requires-clause-in_range : goal.find_order-requires-clause-in_range
find_order-requires-clause-in_range c = rw c.as_slice.ensures (gates_small c.args.parts.now c.in_ok-check_literals.ensures.1)

pub find_order-requires-clause-once : goal.find_order-requires-clause-once
find_order-requires-clause-once c =
    let m = c.args.parts.now in
    rw c.as_slice.ensures (once-right (map variable m.inputs ++ map held m.latches) (map left m.gates)
    (c.in_default-first_twice.ensures (defined m) (rw c.deref.ensures.value c.in_ok-definitions.ensures.counted)))

pub returns-in-Ok-clause-found : goal.returns-in-Ok-clause-found
returns-in-Ok-clause-found c =
    let m = c.args.parts.now in
    let once : IsOnce (defined m) = c.in_default-first_twice.ensures (defined m) (rw c.deref.ensures.value c.in_ok-definitions.ensures.counted) in
    let known = c.in_default-first_undefined.ensures (used m) (defined m) (rw c.deref-2.ensures.value c.in_ok-definitions.ensures.counted) (rw c.deref-3.ensures.value c.in_ok-mentions.ensures.marked) in
    let checked : HasDefined m = record {
      distinct = record { literals = fine_so_far m c.in_default.ensures c.in_ok-check_literals.ensures.1; once = once };
      used_defined = all_defined m (counted_decides c.in_ok-definitions.definitions.items (defined m) c.in_ok-definitions.ensures.counted) known;
    } in
    model_found (λ order. order.items) m c.in_ok-order.field-0 c.in-Ok.order checked (rw c.as_slice.ensures at c.in_ok-order.ensures.found) c.in-Ok.is

pub returns-clause-refused : goal.returns-clause-refused
returns-clause-refused c =
    let m = c.args.parts.now in
    let once : IsOnce (defined m) = c.in_default-first_twice.ensures (defined m) (rw c.deref.ensures.value c.in_ok-definitions.ensures.counted) in
    let known = c.in_default-first_undefined.ensures (used m) (defined m) (rw c.deref-2.ensures.value c.in_ok-definitions.ensures.counted) (rw c.deref-3.ensures.value c.in_ok-mentions.ensures.marked) in
    let checked : HasDefined m = record {
      distinct = record { literals = fine_so_far m c.in_default.ensures c.in_ok-check_literals.ensures.1; once = once };
      used_defined = all_defined m (counted_decides c.in_ok-definitions.definitions.items (defined m) c.in_ok-definitions.ensures.counted) known;
    } in
    cycle_told (λ order. order.items) m c.in_ok-order.field-0 c.in-Err.variable checked (rw c.as_slice.ensures at c.in_ok-order.ensures.found) c.in-Err.is
