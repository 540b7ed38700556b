use Rattle.std.proofs.Common.{◌≡◌, ◌+◌, ◌∙◌, length, ap, arith}
use Rattle.witness_circuits.specs.Witnesses.{gate_count}
use Rattle.witness_circuits.proofs.Rows.{holds_small, length-all}
use Rattle.witness_circuits.proofs.writing.witness_parts.Goals as goal

pub extended_parts-requires : goal.extended_parts-requires
extended_parts-requires c =
    let long : length c.deref.result.now ≡ length c.args.gates.now + gate_count c.args.invariant.now =
    ap length c.deref.ensures.value ∙ length-all c.args.invariant.now _ _ c.args.gates.now _ _ c.in_ok-all.ensures c.in_ok-holds.ensures.gates in
    omega (arith, long, c.requires.limit)

pub negation-requires-2 : goal.negation-requires-2
negation-requires-2 c = holds_small c.args.invariant.now c.args.bad _ _ _ c.requires.bad c.negation.ensures c.in_ok-holds.ensures.literal (omega (arith, c.requires.limit))
