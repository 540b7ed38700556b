-- Proofs without the lines that the empty clause does not rest on.
use Rattle.std.specs.Prelude.{◌≡◌, ℕ, ◌==◌, ◌||◌, ◌⊎◌, Bool, false, cond, List, [], ◌∷◌, unsigned_abs}
use Rattle.std.specs.List.{list_any}
use Rattle.lrat.specs.Stages.{is_nil}
use Rattle.lrat.specs.declared.line.Line.{Line}
use Rattle.lrat.specs.declared.line.Line.TheVariants.{Add, Delete}

-- whether the line hints the clause with this id
abbrev pub hints_id : ℕ → Line → Bool
hints_id q (Add id c hints) = list_any (λ h. unsigned_abs h == q) hints
hints_id q (Delete id ids) = false

-- whether the line adds the empty clause, or a clause that one of these lines hints
abbrev pub is_needed : Line → List Line → Bool
is_needed (Add id c hints) later = is_nil c || list_any (hints_id id) later
is_needed (Delete id ids) later = false

-- the line before these where it is needed
abbrev pub kept_before : Line → List Line → List Line
kept_before l later = cond (is_needed l later) (l ∷ later) later

-- the additions that the empty clause rests on through hints, in their order
abbrev pub trimmed : List Line → List Line
trimmed [] = []
trimmed (l ∷ ls) = kept_before l (trimmed ls)

-- xs is ys without some of them
abbrev pub IsSublist : List Line → List Line → Type 0
IsSublist xs [] = xs ≡ []
IsSublist xs (y ∷ ys) = IsSublist xs ys ⊎ ((zs : List Line) × (xs ≡ y ∷ zs) × IsSublist zs ys)
