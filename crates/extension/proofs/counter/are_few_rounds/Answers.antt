use Rattle.std.proofs.Common.{arith}
use Rattle.std.proofs.Math.Nat.{pow-le-pow_right}
use Rattle.std.proofs.lemmas.Bool.{le-leb}
use Rattle.extension.proofs.counter.are_few_rounds.Goals as goal

pub returns-then-latches-ge32 : goal.returns-then-latches-ge32
returns-then-latches-ge32 c =
    let wide = pow-le-pow_right {n = 2} (omega arith) c.if-latches-ge32.true in
    let small = c.ranges.rounds.fits in
    (λ yes. omega (arith, wide, small), λ few. le-leb 32 c.args.latches c.if-latches-ge32.true)
