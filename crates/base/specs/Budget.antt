-- What a budget counts.
use Rattle.std.specs.Prelude.{◌≡◌, ℕ, ◌+◌, ◌≤◌}

-- how many steps are spent, and how many are left
pub record Steps : Type 0 where
  pub spent : ℕ
  pub left : ℕ

-- what every call that takes a budget does to it: steps that were left are spent, and none is lost
pub record Spends (before after : Steps) : Type 0 where
  pub together : after.spent + after.left ≡ before.spent + before.left
  pub less : after.left ≤ before.left
