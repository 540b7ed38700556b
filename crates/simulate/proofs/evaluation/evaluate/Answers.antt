use Rattle.std.proofs.Common.{◌≡◌, ◌+◌, ◌<◌, ◌≤◌, ◌*◌, ◌%◌, inl, inr, Bool, List, length, arith, map, ◌++◌, sym, ◌∙◌}
use Rattle.std.proofs.lemmas.List.{length-map}
use Rattle.simulate.specs.Lanes.{value_in, row_of}
use Rattle.graph.specs.Circuits.{variable, Fires}
use Rattle.graph.proofs.Gates.{left}
use Rattle.graph.proofs.Evaluation.{held, once-left, once-right, alike_same, latches_in_range, lefts_in_range, lefts_even, rights0, rights1}
use Rattle.simulate.proofs.Refilled.{Refilled, Refilled-agrees, Refilled-state, Refilled-inputs}
use Rattle.simulate.proofs.Sorted.{sorted_all, unsorted_all, sorted_lefts, sorted_once, sorted_after}
use Rattle.simulate.proofs.evaluation.evaluate.Goals as goal

pub fill_inputs-requires-clause-once : goal.fill_inputs-requires-clause-once
fill_inputs-requires-clause-once c =
    let m = c.args.parts.now in
    rw c.as_slice.ensures (once-left (map variable m.inputs) (map held m.latches) (once-left (map variable m.inputs ++ map held m.latches) (map left m.gates) c.requires.model.defined_once))

pub fill_latches-requires-clause-in_range : goal.fill_latches-requires-clause-in_range
fill_latches-requires-clause-in_range c =
    let m = c.args.parts.now in
    rw c.as_slice-2.ensures (λ k d k_in. let p = latches_in_range m c.requires.model k d k_in in omega (arith, p))

pub fill_latches-requires-clause-once : goal.fill_latches-requires-clause-once
fill_latches-requires-clause-once c =
    let m = c.args.parts.now in
    rw c.as_slice-2.ensures (once-right (map variable m.inputs) (map held m.latches) (once-left (map variable m.inputs ++ map held m.latches) (map left m.gates) c.requires.model.defined_once))

pub fill_gates-requires-clause-in_range : goal.fill_gates-requires-clause-in_range
fill_gates-requires-clause-in_range c =
    let m = c.args.parts.now in
    let well = c.requires.model in
    sorted_all (λ g. (variable g.lhs < length c.fill_latches.new.out) × (variable g.rhs0 < length c.fill_latches.new.out) × (variable g.rhs1 < length c.fill_latches.new.out)) m.gates c.args.gates.now c.requires.gates (λ k d k_in.
    let p = lefts_in_range m well k d k_in in
    let q = rights0 (λ a. a.0 ≤ 2 * m.max_var + 1) m well.used_in_range k d k_in in
    let r = rights1 (λ a. a.0 ≤ 2 * m.max_var + 1) m well.used_in_range k d k_in in
    (omega (arith, p), omega (arith, q), omega (arith, r)))

pub fill_gates-requires-clause-even : goal.fill_gates-requires-clause-even
fill_gates-requires-clause-even c =
    sorted_all (λ g. g.lhs.0 % 2 ≡ 0) c.args.parts.now.gates c.args.gates.now c.requires.gates (λ k d k_in. let p = lefts_even c.args.parts.now c.requires.model k d k_in in p.1)

pub fill_gates-requires-clause-once : goal.fill_gates-requires-clause-once
fill_gates-requires-clause-once c =
    let m = c.args.parts.now in
    sorted_once m.gates c.args.gates.now c.requires.gates (once-right (map variable m.inputs ++ map held m.latches) (map left m.gates) c.requires.model.defined_once)

pub fill_gates-requires-clause-after : goal.fill_gates-requires-clause-after
fill_gates-requires-clause-after c = sorted_after c.args.parts.now.gates c.args.gates.now c.requires.gates

pub returns : goal.returns
returns c r r_in =
    let m = c.args.parts.now in
    let well = c.requires.model in
    let state : List Bool = row_of r c.args.state.now in
    let inputs : List Bool = row_of r c.args.inputs.now in
    let out : List Bool = row_of r c.fill_gates.new.out in
    let state_long : length state ≡ length m.latches = length-map c.args.state.now (λ x. value_in x r) ∙ c.requires.state in
    let inputs_long : length inputs ≡ length m.inputs = length-map c.args.inputs.now (λ x. value_in x r) ∙ c.requires.inputs in
    let filled : Refilled m state inputs (row_of r c.args.out.now) (row_of r c.fill_inputs.new.out) (row_of r c.fill_latches.new.out) out = record {
      places = omega (arith, length-map c.fill_gates.new.out (λ x. value_in x r));
      defined_only = λ v. c.requires.defined_only r v r_in;
      inputs_written = rw (← c.as_slice.ensures) (c.fill_inputs.ensures.written r);
      inputs_kept = rw (← c.as_slice.ensures) (c.fill_inputs.ensures.kept r);
      latches_written = rw (← c.as_slice-2.ensures) (c.fill_latches.ensures.written r);
      latches_kept = rw (← c.as_slice-2.ensures) (c.fill_latches.ensures.kept r);
      gates_fire = unsorted_all (Fires out) m.gates c.args.gates.now c.requires.gates (c.fill_gates.ensures.fires r r_in);
      gates_kept = λ v. elim (c.fill_gates.ensures.kept r v r_in) [ inl found ↦ inl (sorted_lefts m.gates c.args.gates.now v c.requires.gates found) | inr same ↦ inr same ];
    } in
    let agrees = Refilled-agrees m _ _ _ _ _ out well filled in
    let states = Refilled-state m _ _ _ _ _ out well state_long filled in
    let ins = Refilled-inputs m _ _ _ _ _ out well inputs_long filled in
    record {
      agrees = agrees;
      has_state = states;
      has_inputs = ins;
      only = λ w w_agrees w_state w_inputs. alike_same m c.requires.gates.order w out (record { well_formed = well; ordered = c.requires.gates.is_order })
          (record { first = w_agrees; second = agrees; states = w_state ∙ sym states; inputs_same = w_inputs ∙ sym ins });
    }
