-- Signals: bits that are shown as one number.
use Rattle.std.specs.Prelude.{◌≡◌, ℕ, ◌+◌, ◌-◌, ◌<◌, ◌≤◌, ◌==◌, List, [], ◌∷◌, ◌++◌, Option, Some, None, length, take, drop, slice_index_or, codes, decimal, All, if◌then◌else◌}
use Rattle.std.specs.List.{flat_map}
use Rattle.wave_signals.specs.declared.bits.Bit.{Bit}
use Rattle.wave_signals.specs.declared.signals.Signal.{Signal}
use Rattle.wave_signals.specs.Bits.{bit_name}

-- two bits of one kind with names `a[l]` and `a[l + k]`
pub record AreApart (first : Bit) (k : ℕ) (bit : Bit) : Type 0 where
  pub low : ℕ
  pub begins : first.index ≡ Some low
  pub goes_on : bit.index ≡ Some (low + k)
  pub same_kind : bit.kind ≡ first.kind
  pub same_base : bit.base.now ≡ first.base.now

-- the bits of a signal: one, or those of a vector, the lowest first
abbrev pub IsVector : List Bit → Type 0
IsVector bits = (k : ℕ) (d : Bit) → 0 < k → k < length bits → AreApart (slice_index_or bits 0 d) k (slice_index_or bits k d)

-- what a signal has of the bits
abbrev pub bits_of : List Bit → Signal → List Bit
bits_of bits s = take (s.end - s.first) (drop s.first bits)

-- each bit is in one signal, each signal has a bit, and its bits are a vector
pub record AreSignals (bits : List Bit) (signals : List Signal) : Type 0 where
  pub inside : All (λ s. (s.first < s.end) × (s.end ≤ length bits)) signals
  pub whole : flat_map (bits_of bits) signals ≡ bits
  pub vectors : All (λ s. IsVector (bits_of bits s)) signals

-- two indices in brackets
abbrev pub range_text : ℕ → ℕ → List ℕ
range_text high low = (codes "[" ++ decimal high) ++ ((codes ":" ++ decimal low) ++ codes "]")

-- the name of a vector of n bits: `a`, or `a[high:low]` where the lowest index is not 0
abbrev pub vector_name : List ℕ → ℕ → ℕ → List ℕ
vector_name base low n = if low == 0 then base else base ++ range_text (low + n - 1) low

-- the name of n bits of which this is the first
abbrev pub first_name : Bit → ℕ → Option ℕ → List ℕ
first_name first n None = bit_name first
first_name first n (Some low) = vector_name first.base.now low n

-- the name of a signal
abbrev pub signal_name : List Bit → List ℕ
signal_name [] = []
signal_name (b ∷ []) = bit_name b
signal_name (b ∷ c ∷ bits) = first_name b (length (b ∷ c ∷ bits)) b.index
