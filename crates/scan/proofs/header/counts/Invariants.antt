use Rattle.std.proofs.Common.{◌≡◌, ◌-◌, length, take, drop, replicate, All, ◌≤◌}
use Rattle.scan.specs.Counts.{counts_at}
use Rattle.scan.proofs.Loops.{with_front}
use Rattle.scan.proofs.CountFaults.{IsBehind}
use Rattle.scan.proofs.header.counts.Given as goal

abbrev pub invariant-loop-i : goal.invariant-loop-i
invariant-loop-i g l =
    (with_front (take l.i l.counts) (counts_at l.limit (8 - l.i) l.rest) ≡ counts_at l.limit 8 l.text)
    × (drop l.i l.counts ≡ replicate (8 - l.i) 0)
    × (length l.counts ≡ 8)
    × All (λ n. n ≤ l.limit) l.counts
    × (length l.rest ≤ length l.text)
    × IsBehind l.limit l.i l.text l.rest
