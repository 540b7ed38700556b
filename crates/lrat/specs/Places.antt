-- How places in a flat list are seen.
use Rattle.std.specs.Prelude.{ℕ, ◌+◌, ◌≤◌, List, [], ◌∷◌, ◌++◌, ℤ, map, take, drop, length, All}
use Rattle.std.specs.List.{filter}
use Rattle.lrat.specs.Literals.{IsLiteral}
use Rattle.lrat.specs.Slots.{Slot}
use Rattle.lrat.specs.declared.place.Place.{Place}

abbrev pub kept_of : List ℤ → Place → Slot
kept_of ls p = record { id = p.id; live = p.live; clause = take p.len (drop p.start ls) }

abbrev pub kept_at : List ℤ → List Place → List Slot
kept_at ls ps = map (kept_of ls) ps

abbrev pub ids_of : List Place → List ℕ
ids_of ps = map (λ (p : Place). p.id) ps

-- the places of live clauses
abbrev pub live_places : List Place → List Place
live_places ps = filter (λ (p : Place). p.live) ps

-- the first n places, and those of live clauses behind them
abbrev pub live_places_from : ℕ → List Place → List Place
live_places_from n ps = take n ps ++ live_places (drop n ps)

-- each clause begins where those before it have ended
abbrev pub AreInOrder : ℕ → List Place → Type 0
AreInOrder from [] = Unit {0}
AreInOrder from (p ∷ ps) = (from ≤ p.start) × AreInOrder (p.start + p.len) ps

-- each clause lies inside and behind the earlier ones, and its literals are in range
pub record AreInside (n : ℕ) (ls : List ℤ) (ps : List Place) : Type 0 where
  pub inside : All (λ (p : Place). p.start + p.len ≤ length ls) ps
  pub in_order : AreInOrder 0 ps
  pub in_range : All (IsLiteral n) ls
