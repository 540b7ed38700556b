-- What is forgotten.
use Rattle.std.specs.Prelude.{◌≡◌, ◌⊎◌, ℕ, List, length, Contains}
use Rattle.cdcl_kernel.specs.Kept.{Kept, kept_in, origin_in, gone}
use Rattle.cdcl_kernel.specs.declared.origin.Origin.TheVariants.{Learned}

-- one of the ids, of a learned clause
pub record IsSpent (ks : List Kept) (ids : List ℕ) (id : ℕ) : Type 0 where
  pub among : Contains ids id
  pub learned : origin_in ks id ≡ Learned

-- of these ids, the learned clauses are taken out, and all others stay
pub record Forgets (old new : List Kept) (ids : List ℕ) : Type 0 where
  pub same_ids : length new ≡ length old
  pub each : (id : ℕ) → (IsSpent old ids id × (kept_in new id ≡ gone)) ⊎ ((IsSpent old ids id → ⊥) × (kept_in new id ≡ kept_in old id))
