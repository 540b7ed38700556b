-- What is said of a circuit with one bad literal alone is said of the property that watches it.
use Rattle.std.proofs.Common.{◌≡◌, ℕ, Bool, true, List, [], ◌∷◌, Some, All, refl, sym, ap, subst}
use Rattle.graph.specs.declared.circuit.Lit.{Lit}
use Rattle.graph.specs.declared.circuit.Property.{Property}
use Rattle.graph.specs.declared.circuit.Property.TheVariants.{Bad}
use Rattle.graph.specs.declared.parts.Parts.{Parts}
use Rattle.graph.specs.Circuits.{IsWatched, Valuation, value_of}
use Rattle.graph.proofs.Alone.{watched_one, agrees_without, steps_without, run_with, run_without}
use Rattle.graph.specs.WellFormed.{only_bad}
use Rattle.stimulus.specs.Shown.{Begins, IsReplay, ShowsBad, last_of}
use Rattle.stimulus.specs.declared.value.Stimulus.TheVariants.{Violated}
use Rattle.cnf.specs.Invariants.{IsInductive, IsInvariant}
use Rattle.checker2.specs.Accepted.{IsGood}
use Rattle.engine.specs.Bounds.{IsClear}

begins_without : (m : Parts) (a : Lit) (initial : List Bool) (r : List Valuation) → Begins (only_bad m a) initial r → Begins m initial r
begins_without m a initial [] h = h
begins_without m a initial (w ∷ r) h = h

replay_without : (m : Parts) (a : Lit) (initial : List Bool) (inputs : List (List Bool)) (r : List Valuation) →
    IsReplay (only_bad m a) initial inputs r → IsReplay m initial inputs r
replay_without m a initial inputs r h = record {
  agrees = λ k d k_in. agrees_without m a _ (h.agrees k d k_in);
  begins = begins_without m a initial r h.begins;
  has_inputs = h.has_inputs;
  steps = steps_without m a r h.steps;
}

-- ---- what is said of the one bad literal is said of the one that is watched

pub shows_named : (m : Parts) (p : Property) (a : Lit) (initial : List Bool) (inputs : List (List Bool)) → IsWatched m p a →
    ShowsBad (only_bad m a) (Violated (Bad 0) initial inputs) → ShowsBad m (Violated p initial inputs)
shows_named m p a initial inputs watched h =
    let same : a ≡ h.bad = watched_one (only_bad m a) (Bad 0) a h.bad refl h.watched in
    record {
      bad = a;
      replay = h.replay;
      watched = watched;
      replays = replay_without m a initial inputs h.replay h.replays;
      runs = run_without m a h.replay h.runs;
      keeps = h.keeps;
      sets = subst (λ (b : Lit). value_of (last_of h.replay) b ≡ true) (sym same) h.sets;
    }

pub clear_named : (m : Parts) (p : Property) (a : Lit) (steps : ℕ) → IsWatched m p a → IsClear (only_bad m a) (Bad 0) steps → IsClear m p steps
clear_named m p a steps watched h r b run keeps short watched_too =
    let same : a ≡ b = watched_one m p a b watched watched_too in
    h r b (run_with m a r run) keeps short (ap (λ (x : Lit). Some x) same)

-- an invariant's cases speak of nothing but the one bad literal
pub good_named : (m : Parts) (a : Lit) (inv : List (List Lit)) → IsInvariant (only_bad m a) inv → All (IsGood m) inv
good_named m a inv h k d k_in = let proper = h.clauses k d k_in in record { over = proper.over; apart = proper.apart }

pub inductive_named : (m : Parts) (a : Lit) (inv : List (List Lit)) → IsInvariant (only_bad m a) inv → IsInductive m inv a
inductive_named m a inv h = let i = h.inductive in record { begins = i.begins; goes_on = i.goes_on; excludes = i.excludes }
