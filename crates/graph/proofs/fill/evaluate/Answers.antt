use Rattle.std.proofs.Common.{◌+◌, ◌≤◌, ◌*◌, arith, map, ◌++◌, sym, ◌∙◌}
use Rattle.graph.specs.Circuits.{variable}
use Rattle.graph.proofs.Gates.{left}
use Rattle.graph.proofs.Evaluation.{held, once-left, once-right, alike_same, Filled, Filled-agrees, Filled-state, Filled-inputs, latches_in_range, lefts_in_range, lefts_even, rights0, rights1}
use Rattle.graph.proofs.fill.evaluate.Goals as goal

pub fill_inputs-requires-clause-once : goal.fill_inputs-requires-clause-once
fill_inputs-requires-clause-once c =
    let m = c.args.parts.now in
    rw c.as_slice.ensures (once-left (map variable m.inputs) (map held m.latches) (once-left (map variable m.inputs ++ map held m.latches) (map left m.gates) c.requires.model.well_formed.defined_once))

pub fill_latches-requires-clause-in_range : goal.fill_latches-requires-clause-in_range
fill_latches-requires-clause-in_range c =
    let m = c.args.parts.now in
    rw c.as_slice-2.ensures (λ k d k_in. let p = latches_in_range m c.requires.model.well_formed k d k_in in omega (arith, p))

pub fill_latches-requires-clause-once : goal.fill_latches-requires-clause-once
fill_latches-requires-clause-once c =
    let m = c.args.parts.now in
    rw c.as_slice-2.ensures (once-right (map variable m.inputs) (map held m.latches) (once-left (map variable m.inputs ++ map held m.latches) (map left m.gates) c.requires.model.well_formed.defined_once))

pub fill_gates-requires-clause-in_range : goal.fill_gates-requires-clause-in_range
fill_gates-requires-clause-in_range c =
    let m = c.args.parts.now in
    let well = c.requires.model.well_formed in
    rw c.as_slice-3.ensures (λ k d k_in.
    let p = lefts_in_range m well k d k_in in
    let q = rights0 (λ a. a.0 ≤ 2 * m.max_var + 1) m well.used_in_range k d k_in in
    let r = rights1 (λ a. a.0 ≤ 2 * m.max_var + 1) m well.used_in_range k d k_in in
    (omega (arith, p), omega (arith, q), omega (arith, r)))

pub fill_gates-requires-clause-even : goal.fill_gates-requires-clause-even
fill_gates-requires-clause-even c =
    rw c.as_slice-3.ensures (λ k d k_in. let p = lefts_even c.args.parts.now c.requires.model.well_formed k d k_in in p.1)

pub fill_gates-requires-clause-once : goal.fill_gates-requires-clause-once
fill_gates-requires-clause-once c =
    let m = c.args.parts.now in
    rw c.as_slice-3.ensures (once-right (map variable m.inputs ++ map held m.latches) (map left m.gates) c.requires.model.well_formed.defined_once)

pub returns : goal.returns
returns c =
    let m = c.args.parts.now in
    let well = c.requires.model.well_formed in
    let out = c.fill_gates.new.out in
    let filled : Filled m c.args.state.now c.args.inputs.now c.clear.new.out c.fill_inputs.new.out c.fill_latches.new.out out = record {
      places = omega arith;
      cleared = c.clear.ensures;
      inputs_written = rw (← c.as_slice.ensures) c.fill_inputs.ensures.written;
      inputs_kept = rw (← c.as_slice.ensures) c.fill_inputs.ensures.kept;
      latches_written = rw (← c.as_slice-2.ensures) c.fill_latches.ensures.written;
      latches_kept = rw (← c.as_slice-2.ensures) c.fill_latches.ensures.kept;
      gates_fire = rw (← c.as_slice-3.ensures) c.fill_gates.ensures.fires;
      gates_kept = rw (← c.as_slice-3.ensures) c.fill_gates.ensures.kept;
    } in
    let agrees = Filled-agrees m _ _ _ _ _ out well filled in
    let states = Filled-state m _ _ _ _ _ out well c.requires.state filled in
    let ins = Filled-inputs m _ _ _ _ _ out well c.requires.inputs filled in
    record {
      agrees = agrees;
      state = states;
      inputs = ins;
      only = λ w w_agrees w_state w_inputs. alike_same m c.args.order.now w out c.requires.model
          (record { first = w_agrees; second = agrees; states = w_state ∙ sym states; inputs_same = w_inputs ∙ sym ins });
    }
