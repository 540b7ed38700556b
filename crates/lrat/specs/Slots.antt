-- Clauses in a row by rising ids, each present or taken out.
use Rattle.std.specs.Prelude.{◌≡◌, ◌⊎◌, ℕ, ◌<◌, Bool, true, List, [], ◌∷◌, ◌++◌, map, take, drop, get_or, ℤ, cond, refl}
use Rattle.std.specs.Coded.{Coded, code_by, coded×, coded_ℕ, coded_ℤ, coded_bool, coded_list}
use Rattle.std.specs.List.{filter}
use Rattle.std.specs.FinMap as fin
use Rattle.lrat.specs.Store.{ById}

-- a clause with its id, which is live until it is taken out
pub record Slot : Type 0 where
  pub id : ℕ
  pub live : Bool
  pub clause : List ℤ

-- the slots in a row, over the variables 1 to vars
pub record Row : Type 0 where
  pub vars : ℕ
  pub slots : List Slot

abbrev pub slot_code : Coded Slot
slot_code =
    code_by (ℕ × (Bool × List ℤ)) (coded× coded_ℕ (coded× coded_bool (coded_list coded_ℤ))) (λ s. (s.id, (s.live, s.clause)))
    (λ p. record { id = p.0; live = p.1.0; clause = p.1.1 }) (λ _. refl)

abbrev pub row_code : Coded Row
row_code = code_by (ℕ × List Slot) (coded× coded_ℕ (coded_list slot_code)) (λ r. (r.vars, r.slots)) (λ p. record { vars = p.0; slots = p.1 }) (λ _. refl)

-- the live clauses by their ids
abbrev pub live_of : List Slot → ById
live_of [] = fin.empty
live_of (s ∷ ss) = cond s.live (fin.insert (live_of ss) s.id s.clause) (fin.remove (live_of ss) s.id)

-- the slots of live clauses
abbrev pub live_slots : List Slot → List Slot
live_slots ss = filter (λ s. s.live) ss

-- the first n slots, and the live ones of those behind them
abbrev pub live_slots_from : ℕ → List Slot → List Slot
live_slots_from n ss = take n ss ++ live_slots (drop n ss)

-- s is r, or r without the slots of dead clauses from index n on
abbrev pub IsTidied : ℕ → Row → Row → Type 0
IsTidied n r s = (s ≡ r) ⊎ (s ≡ record { vars = r.vars; slots = live_slots_from n r.slots })

-- the slot with its clause live
abbrev pub revived : Slot → Slot
revived s = record { id = s.id; live = true; clause = s.clause }

-- the ids in order
abbrev pub ids_in : List Slot → List ℕ
ids_in ss = map (λ s. s.id) ss

-- no id is given
abbrev pub blank : Slot
blank = record { id = 0; live = true; clause = [] }

-- whether the slot at index i is live
abbrev pub live_at : List Slot → ℕ → Bool
live_at ss i = (get_or ss i blank).live

-- each is above the one before it, and the first above a
abbrev pub IsRising : ℕ → List ℕ → Type 0
IsRising a [] = Unit {0}
IsRising a (x ∷ xs) = (a < x) × IsRising x xs
