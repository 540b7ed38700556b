-- Clauses that several refutations share, under those of the one in progress.
use Rattle.std.specs.Prelude.{◌≡◌, ℕ, ℤ, ◌<◌, ◌≤◌, true, false, List, map, take, length, get_or, Contains, All, Some, refl}
use Rattle.std.specs.FinMap as fin
use Rattle.lrat.specs.Literals.{Finder}
use Rattle.std.specs.Coded.{Coded, code_by, coded×, coded_ℕ}
use Rattle.lrat.specs.Store.{ById, by_id_code}
use Rattle.lrat.specs.Slots.{Row, Slot, blank, ids_in, live_at, live_of, revived, IsRising}
use Rattle.lrat.specs.Proofs.{numbered_from}
use Rattle.lrat.specs.Shared.{Base, base_code}

-- the clauses that are shared, those that are present now, and the greatest id that was ever present
pub record Layers : Type 0 where
  pub base : Base
  pub present : ById
  pub top : ℕ

abbrev pub layers_code : Coded Layers
layers_code =
    code_by (Base × (ById × ℕ)) (coded× base_code (coded× by_id_code coded_ℕ)) (λ s. (s.base, (s.present, s.top)))
    (λ p. record { base = p.0; present = p.1.0; top = p.1.1 }) (λ _. refl)

-- the shared clauses alone
abbrev pub bare : Base → Layers
bare b = record { base = b; present = b.present; top = b.top }

-- which clause that is present has an id
abbrev pub find_present : Layers → Finder
find_present s id = fin.get s.present id

-- how the fields of `Stack` are seen: the first mark slots are shared, also where they are taken out for now, and their ids go up to last
abbrev pub layers_of : Row → ℕ → ℕ → ℕ → Layers
layers_of r mark last top = record {
  base = record { vars = r.vars; present = live_of (map revived (take mark r.slots)); top = last };
  present = live_of r.slots;
  top = top;
}

-- ids rise, those of the first mark slots up to last, and the shared slots that are taken out for now are listed
pub record AreLayered (ss : List Slot) (mark last : ℕ) (hidden : List ℕ) (top : ℕ) : Type 0 where
  pub low : last ≤ top
  pub shared : mark ≤ length ss
  pub rising : IsRising 0 (ids_in ss)
  pub up : All (λ q. q ≤ top) (ids_in ss)
  pub shared_up : All (λ q. q ≤ last) (take mark (ids_in ss))
  pub within : All (λ i. i < mark) hidden
  pub listed : (i : ℕ) → i < mark → live_at ss i ≡ false → Contains hidden i

-- the slots hold these clauses under the ids 1, 2 and so on
pub record AreFresh (ss : List Slot) (cs : List (List ℤ)) : Type 0 where
  pub present : live_of ss ≡ numbered_from 1 cs fin.empty
  pub number : length ss ≡ length cs
  pub rising : IsRising 0 (ids_in ss)
  pub up : All (λ q. q ≤ length cs) (ids_in ss)
  pub live : (i : ℕ) → live_at ss i ≡ true

-- the slot at index i has the id and is live
pub record IsLiveAt (ss : List Slot) (id i : ℕ) : Type 0 where
  pub within : i < length ss
  pub here : get_or (ids_in ss) i 0 ≡ id
  pub found : fin.get (live_of ss) id ≡ Some (get_or ss i blank).clause
