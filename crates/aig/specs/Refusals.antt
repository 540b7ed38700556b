-- What is reported of a text that is refused.
use Rattle.std.specs.Prelude.{ℕ, List, [], ◌∷◌}

-- the numbers of the refusals of a text
abbrev pub refusal_numbers : List ℕ
refusal_numbers = 1 ∷ 2 ∷ 3 ∷ 4 ∷ 5 ∷ 6 ∷ 7 ∷ 12 ∷ 13 ∷ 14 ∷ 16 ∷ 20 ∷ []
