-- A walk over lines from the last to the first, which keeps what is needed.
use Rattle.std.proofs.Common.{◌≡◌, List, [], ◌∷◌, ◌++◌, refl, ap}
use Rattle.lrat.specs.Trimming.{kept_before, trimmed}
use Rattle.lrat.specs.declared.line.Line.{Line}

-- what is kept of lines before these
abbrev pub onto : List Line → List Line → List Line
onto [] kept = kept
onto (l ∷ ls) kept = kept_before l (onto ls kept)

pub onto_none : (ls : List Line) → onto ls [] ≡ trimmed ls
onto_none [] = refl
onto_none (l ∷ ls) = ap (kept_before l) (onto_none ls)

pub onto_last : (ls : List Line) (l : Line) (kept : List Line) → onto (ls ++ l ∷ []) kept ≡ onto ls (kept_before l kept)
onto_last [] l kept = refl
onto_last (k ∷ ls) l kept = ap (kept_before k) (onto_last ls l kept)
