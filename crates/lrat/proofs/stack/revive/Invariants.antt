use Rattle.std.proofs.Common.{◌≡◌, ◌⊎◌, ℕ, true, Contains, take, map}
use Rattle.lrat.specs.Slots.{live_at, revived}
use Rattle.lrat.proofs.stack.revive.Given as goal

abbrev pub invariant-loop-index : goal.invariant-loop-index
invariant-loop-index l = record {
  given : l.shelf.given ≡ l.initial.shelf.given;
  vars : l.shelf.row.vars ≡ l.initial.shelf.row.vars;
  same : map revived l.shelf.row.slots ≡ map revived l.initial.shelf.row.slots;
  live : (i : ℕ) → live_at l.initial.shelf.row.slots i ≡ true ⊎ Contains (take l.index-index l.indices) i → live_at l.shelf.row.slots i ≡ true;
}
