-- The variables of the new parts, as the program counts them.
use Rattle.std.specs.Prelude.{◌≡◌, ℕ, ◌+◌, ◌*◌, ◌≤◌}
use Rattle.graph.specs.declared.parts.Parts.{Parts}
use Rattle.live_safe.specs.declared.numbers.Numbers.{Numbers}
use Rattle.live_safe.specs.Shadow.{save_of, saved_of, shadow_from, seen_from, start_of, idle_of, copies_from, watches_from, chain_from}

-- they are those of the shadow circuit
pub record AreNumbers (m : Parts) (j : ℕ) (n : Numbers) : Type 0 where
  pub save : n.save ≡ save_of m
  pub saved : n.saved ≡ saved_of m
  pub shadow : n.shadow ≡ shadow_from m
  pub seen : n.seen ≡ seen_from m
  pub start : n.start ≡ start_of m j
  pub idle : n.idle ≡ idle_of m j
  pub copies : n.copies ≡ copies_from m j
  pub watches : n.watches ≡ watches_from m j
  pub chain : n.chain ≡ chain_from m j

-- one row ends where the next begins, and the last within the limit
pub record AreSpaced (latches wanted : ℕ) (n : Numbers) : Type 0 where
  pub save : n.save + 1 ≡ n.saved
  pub saved : n.saved + 1 ≡ n.shadow
  pub shadow : n.shadow + latches ≡ n.seen
  pub seen : n.seen + wanted ≡ n.start
  pub start : n.start + 1 ≡ n.idle
  pub idle : n.idle + 1 ≡ n.copies
  pub copies : n.copies + 6 * latches ≡ n.watches
  pub watches : n.watches + 2 * wanted ≡ n.chain
  pub chain : n.chain + latches + wanted ≤ 4194304
