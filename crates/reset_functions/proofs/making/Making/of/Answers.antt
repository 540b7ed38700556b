use Rattle.std.proofs.Common.{◌+◌, refl}
use Rattle.graph.specs.declared.circuit.Latch.{Latch}
use Rattle.reset_functions.specs.Made.{end_of}
use Rattle.reset_functions.proofs.Loops.{IsOver, err_at, gates_step, latches_step, next_step, next_within, over_more}
use Rattle.reset_functions.proofs.making.Making.of.Goals as goal

abbrev none : Latch
none = record { lit = record { 0 = 0 }; next = record { 0 = 0 }; reset = record { 0 = 0 } }

pub loop-k-preserved : goal.loop-k-preserved
loop-k-preserved c =
    let ls = c.args.latches.now in
    let rs = c.args.resets.now in
    let k = c.loop-k.k in
    record {
      latches = latches_step ls rs k _ _ _ none _ _ _ _ c.loop-k-test.true refl c.reset_at-reset.ensures c.in_ok-add.ensures.next c.in_ok-add.ensures.latches c.loop-k.invariant.latches;
      gates = gates_step c.args.first ls rs k _ _ _ none _ _ _ _ c.loop-k-test.true refl c.reset_at-reset.ensures c.in_ok-add.ensures.next c.in_ok-add.ensures.gates c.loop-k.invariant.gates;
      next = next_step ls rs k _ _ _ none _ c.loop-k-test.true c.reset_at-reset.ensures c.in_ok-add.ensures.next c.loop-k.invariant.next;
    }

pub returns-in_err-add-clause-refused : goal.returns-in_err-add-clause-refused
returns-in_err-add-clause-refused c =
    let within = next_within c.args.latches.now c.args.resets.now c.loop-k.k _ _ none _ c.loop-k-test.true c.reset_at-reset.ensures c.loop-k.invariant.next in
    err_at _ _ (IsOver (end_of c.args.latches.now c.args.resets.now (c.args.first + 1))) c.from_residual-in_err-add.ensures.1 (over_more _ _ _ within c.in_err-add.ensures.refused)
