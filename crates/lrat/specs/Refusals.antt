-- Why an added clause with its hints is refused.
use Rattle.std.specs.Prelude.{◌≡◌, ℕ, ◌⊎◌, List, [], ◌∷◌, ◌++◌, map, ℤ, neg_ℤ}
use Rattle.lrat.specs.Literals.{Finder, IsProper}
use Rattle.lrat.specs.Lines.{Leads}
use Rattle.lrat.specs.Faults.{IsImproper, StopsWithin, StopsLast}
use Rattle.lrat.specs.declared.fault.Fault.{Fault}
use Rattle.lrat.specs.declared.fault.Fault.TheVariants.{NoHints}

-- the last hint is reached and stops
pub record StopsAtEnd (m : Finder) (s : List ℤ) (hints : List ℕ) (e : Fault) : Type 0 where
  pub first : List ℕ
  pub last : ℕ
  pub are : hints ≡ first ++ last ∷ []
  pub reached : List ℤ
  pub leads : Leads m s first reached
  pub stops : StopsLast m reached last e

-- a hint before the last stops
pub record StopsEarlier (m : Finder) (s : List ℤ) (hints : List ℕ) (e : Fault) : Type 0 where
  pub first : List ℕ
  pub last : ℕ
  pub are : hints ≡ first ++ last ∷ []
  pub stops : StopsWithin m s first e

-- the first fault, in the order literals, want of hints, hints
abbrev pub IsRefusedLine : ℕ → Finder → List ℤ → List ℕ → Fault → Type 0
IsRefusedLine n m c hints e =
    IsImproper n c e ⊎ (IsProper n c × (((hints ≡ []) × (e ≡ NoHints)) ⊎ (StopsEarlier m (map neg_ℤ c) hints e ⊎ StopsAtEnd m (map neg_ℤ c) hints e)))
