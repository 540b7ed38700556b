use Rattle.std.proofs.Common.{◌<◌, ◌≤◌, length, refl, arith}
use Rattle.witness_circuits.proofs.Rows.{count_last, count_step}
use Rattle.witness_circuits.proofs.sizes.gate_count.Goals as goal

pub loop-k-preserved : goal.loop-k-preserved
loop-k-preserved c =
    let inv = c.args.invariant.now in
    let k = c.loop-k.k in
    let lt : k < length inv = omega (arith, c.len-k-end.ensures, c.loop-k-test.true) in
    let size = count_step inv k c.loop-k.count (length c.list-length.result.now) c.list-length.result.now _ lt c.list-length.ensures refl c.loop-k.invariant.rest in
    record { few = omega arith; rest = omega (arith, size) }

pub returns : goal.returns
returns c =
    let all : length c.args.invariant.now ≤ c.loop-k.k = omega (arith, c.len-k-end.ensures, c.loop-k-test.false) in
    (count_last c.args.invariant.now c.loop-k.k c.loop-k.count _ all c.loop-k.invariant.rest, c.loop-k.invariant.few)
