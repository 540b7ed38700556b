-- What a random engine is set to.
use Rattle.std.specs.Prelude.{ℕ}

-- the seed of what is drawn, and how many steps a run is played at most
pub record Settings : Type 0 where
  pub seed : ℕ
  pub depth : ℕ
