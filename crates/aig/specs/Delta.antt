-- Differences of literals (AIGER 1.9, the binary layout).
use Rattle.std.specs.Prelude.{ℕ, ◌+◌, ◌/◌, ◌%◌, zero, suc, List, [], ◌∷◌, nat_lt, if◌then◌else◌}

-- the groups of a number, at most k and the last
unfoldable pub groups_text : ℕ → ℕ → List ℕ
groups_text zero n = n ∷ []
groups_text (suc k) n = if nat_lt n 128 then n ∷ [] else (128 + n % 128) ∷ groups_text k (n / 128)

-- the groups of a number of at most 32 bits
abbrev pub delta_text : ℕ → List ℕ
delta_text n = groups_text 4 n
