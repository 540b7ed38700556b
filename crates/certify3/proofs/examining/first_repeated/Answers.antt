use Rattle.std.proofs.Common.{rules, ◌≡◌, ◌<◌, false, length, arith}
use Rattle.certify3.proofs.Repeated.{repeated_at}
use Rattle.certify3.proofs.examining.first_repeated.Goals as goal

pub returns-then-not-branch : goal.returns-then-not-branch
returns-then-not-branch c =
    let inv = c.args.invariant.now in
    let k = c.loop-k.k in
    let lt : k < length inv = omega (arith, c.len-k-end.ensures, c.loop-k-test.true) in
    let improper : c.in_ok-is_proper.field-0 ≡ false = search rules in
    record {
      some = repeated_at c.args.circuit.now inv k c.first-time.result c.list.result.now lt c.first-time.ensures.max_var c.first-time.ensures.offset c.list.ensures
          (c.in_ok-is_proper.ensures.repeated improper);
    }
