-- The variables of the circuit that counts rounds, as the program counts them.
use Rattle.std.specs.Prelude.{◌≡◌, ℕ, ◌+◌, ◌*◌, ◌<◌, ◌≤◌, length}
use Rattle.graph.specs.declared.parts.Parts.{Parts}
use Rattle.live_safe.specs.declared.error.LiveError.{LiveError}
use Rattle.live_safe.specs.declared.error.LiveError.TheVariants.{NoProperty, Limit, OutOfMemory}
use Rattle.extension.specs.declared.rows.Rows.{Rows}
use Rattle.extension.specs.Rounds.{seen_from, count_from, missing_from, join_from, open_from, stage_from, rounds_of}

-- they are those of that circuit
pub record AreRows (m : Parts) (j k : ℕ) (n : Rows) : Type 0 where
  pub seen : n.seen ≡ seen_from m
  pub count : n.count ≡ count_from m j
  pub missing : n.missing ≡ missing_from m j k
  pub join : n.join ≡ join_from m j k
  pub opened : n.opened ≡ open_from m j k
  pub stage : n.stage ≡ stage_from m j k

-- one row ends where the next begins, and the last within the limit
pub record AreSpaced (wanted rounds : ℕ) (n : Rows) : Type 0 where
  pub seen : n.seen + wanted ≡ n.count
  pub count : n.count + rounds + 1 ≡ n.missing
  pub missing : n.missing + wanted ≡ n.join
  pub join : n.join + wanted ≡ n.opened
  pub opened : n.opened + wanted ≡ n.stage
  pub stage : n.stage + 2 * rounds + 2 ≤ 4194304

-- the property is there, and the circuit that counts its rounds has no variable over the limit
pub record IsCountable (m : Parts) (j k : ℕ) : Type 0 where
  pub exists : j < length m.justice
  pub within : (rounds_of m j k).max_var ≤ 4194303

-- the reason for which rounds are not counted; only where there is none is memory asked for
abbrev pub HasCause : Parts → ℕ → ℕ → LiveError → Type 0
HasCause m j k (NoProperty n) = (n ≡ j) × (length m.justice ≤ j)
HasCause m j k Limit = (j < length m.justice) × (4194303 < (rounds_of m j k).max_var)
HasCause m j k (OutOfMemory refused) = IsCountable m j k
