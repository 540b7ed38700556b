use Rattle.std.proofs.Common.{◌≡◌, ℕ, take, true, Contains}
use Rattle.signal_classes.specs.Known.{is_kept_in}
use Rattle.signal_classes.proofs.reduced.mark_all.Given as goal

abbrev pub invariant-loop-place : goal.invariant-loop-place
invariant-loop-place l = record {
  marked : (v : ℕ) → Contains (take l.place-index l.list) v → is_kept_in l.marks v ≡ true;
  more : (v : ℕ) → is_kept_in l.initial.marks v ≡ true → is_kept_in l.marks v ≡ true;
}
