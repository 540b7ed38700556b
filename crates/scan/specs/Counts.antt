-- The counts of a header.
use Rattle.std.specs.Prelude.{◌≡◌, ℕ, ◌-◌, ◌<◌, ◌≤◌, Bool, ◌&&◌, ◌||◌, zero, suc, All, List, [], ◌∷◌, ◌++◌, length, replicate, decimal, Some, None, nat_lt, nat_le, ◌==◌, if◌then◌else◌}
use Rattle.std.specs.List.{flat_map}
use Rattle.scan.specs.Reading.{◌>>=◌, Read}
use Rattle.scan.specs.Words.{any, word_at}
use Rattle.scan.specs.declared.fault.Fault.{Fault}
use Rattle.scan.specs.declared.fault.Kinds.{Kinds}
use Rattle.scan.specs.Refusals.{word_fault}

-- what may end a count that at most k others follow, of which four may be left out
abbrev pub ends_count : ℕ → ℕ → Bool
ends_count k c = ((c == 32) && nat_lt 0 k) || ((c == 10) && nat_le k 4)

-- at most k counts, and 0 for each that is left out
unfoldable pub counts_at : ℕ → ℕ → List ℕ → Read (List ℕ)
counts_at limit zero bytes = Some ([], bytes)
counts_at limit (suc k) bytes = do
  w ← word_at limit any (ends_count k) bytes
  if w.0.1 == 10 then Some (w.0.0 ∷ replicate k 0, w.1) else (counts_at limit k w.1 >>= λ r. Some (w.0.0 ∷ r.0, r.1))

-- the fault is that of the first count that is missing, over its limit, or followed by a byte that may not end it
pub record IsCountsFault {K : Type 0} (kinds : Kinds K) (limit : ℕ) (text : List ℕ) (e : Fault K) : Type 0 where
  pub before : List ℕ
  pub rest : List ℕ
  pub few : length before < 8
  pub within : All (λ n. n ≤ limit) before
  pub begins : text ≡ flat_map (λ n. decimal n ++ 32 ∷ []) before ++ rest
  pub none : word_at limit any (ends_count (7 - length before)) rest ≡ None
  pub fault : e ≡ word_fault kinds limit rest
