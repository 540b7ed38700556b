-- A circuit, and the same with the literal that a property watches as its one bad literal: their runs are the same.
use Rattle.std.proofs.Common.{◌≡◌, List, [], ◌∷◌, refl, sym, ◌∙◌}
use Rattle.std.proofs.lemmas.Option.{same_Some, slice_get_within}
use Rattle.graph.specs.declared.circuit.Lit.{Lit}
use Rattle.graph.specs.declared.circuit.Property.{Property}
use Rattle.graph.specs.declared.circuit.Property.TheVariants.{Bad, Justice, Output}
use Rattle.graph.specs.declared.parts.Parts.{Parts}
use Rattle.graph.specs.Circuits.{HasProperty, IsWatched, Valuation, Agrees, StartsInitial, Steps, IsRun, IsSafe}
use Rattle.graph.specs.WellFormed.{only_bad}

-- ---- the literal that is watched

-- a property watches one literal
pub watched_one : (m : Parts) (p : Property) (a b : Lit) → IsWatched m p a → IsWatched m p b → a ≡ b
watched_one m (Bad n) a b first second = same_Some a b (sym first ∙ second)
watched_one m (Justice n) a b first second = absurd first
watched_one m (Output n) a b first second = same_Some a b (sym first.1 ∙ second.1)

-- a property that watches a literal is there
pub watched_there : (m : Parts) (p : Property) (a : Lit) → IsWatched m p a → HasProperty m p
watched_there m (Bad n) a watched = slice_get_within m.bad n a watched
watched_there m (Justice n) a watched = absurd watched
watched_there m (Output n) a watched = (watched.0, slice_get_within m.outputs n a watched.1)

-- ---- runs

pub agrees_with : (m : Parts) (a : Lit) (w : Valuation) → Agrees m w → Agrees (only_bad m a) w
agrees_with m a w h = record {
  valuation = let v = h.valuation in record { places = v.places; constant = v.constant; defined_only = v.defined_only };
  gates = h.gates;
}

pub agrees_without : (m : Parts) (a : Lit) (w : Valuation) → Agrees (only_bad m a) w → Agrees m w
agrees_without m a w h = record {
  valuation = let v = h.valuation in record { places = v.places; constant = v.constant; defined_only = v.defined_only };
  gates = h.gates;
}

starts_with : (m : Parts) (a : Lit) (r : List Valuation) → StartsInitial m r → StartsInitial (only_bad m a) r
starts_with m a [] h = h
starts_with m a (w ∷ r) h = h

starts_without : (m : Parts) (a : Lit) (r : List Valuation) → StartsInitial (only_bad m a) r → StartsInitial m r
starts_without m a [] h = h
starts_without m a (w ∷ r) h = h

steps_with : (m : Parts) (a : Lit) (r : List Valuation) → Steps m r → Steps (only_bad m a) r
steps_with m a [] h = h
steps_with m a (w ∷ []) h = h
steps_with m a (w ∷ x ∷ r) h = (h.0, steps_with m a (x ∷ r) h.1)

pub steps_without : (m : Parts) (a : Lit) (r : List Valuation) → Steps (only_bad m a) r → Steps m r
steps_without m a [] h = h
steps_without m a (w ∷ []) h = h
steps_without m a (w ∷ x ∷ r) h = (h.0, steps_without m a (x ∷ r) h.1)

pub run_with : (m : Parts) (a : Lit) (r : List Valuation) → IsRun m r → IsRun (only_bad m a) r
run_with m a r h = record {
  agrees = λ k d k_in. agrees_with m a _ (h.agrees k d k_in);
  starts = starts_with m a r h.starts;
  steps = steps_with m a r h.steps;
}

pub run_without : (m : Parts) (a : Lit) (r : List Valuation) → IsRun (only_bad m a) r → IsRun m r
run_without m a r h = record {
  agrees = λ k d k_in. agrees_without m a _ (h.agrees k d k_in);
  starts = starts_without m a r h.starts;
  steps = steps_without m a r h.steps;
}

-- where no run sets the one bad literal, none sets the one that is watched
pub safe_alone : (m : Parts) (p : Property) (a : Lit) → IsWatched m p a → IsSafe (only_bad m a) (Bad 0) → IsSafe m p
safe_alone m p a watched safe r b run keeps watched_too =
    let same : a ≡ b = watched_one m p a b watched watched_too in
    safe r b (run_with m a r run) keeps (rw same refl)
