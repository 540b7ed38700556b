-- A valuation in which each variable has the value of what it is read as.
use Rattle.std.proofs.Common.{◌≡◌, ◌∙◌, true, ◌&&◌, List, ◌++◌, map, get_or, Contains, Option, refl, sym, ap, subst}
use Rattle.std.proofs.lemmas.List.Elements.{All-map}
use Rattle.graph.specs.declared.circuit.Lit.{Lit}
use Rattle.graph.specs.declared.circuit.Latch.{Latch}
use Rattle.graph.specs.declared.circuit.Gate.{Gate}
use Rattle.graph.specs.declared.parts.Parts.{Parts}
use Rattle.graph.specs.Circuits.{Valuation, variable, place, value_of, defined, state_of, IsValuation, Fires, Agrees, IsReset, IsInitial, IsStep, next_state}
use Rattle.graph.proofs.Evaluation.{All-unmap}
use Rattle.cnf.specs.Meaning.{KeepsNow}
use Rattle.merged.specs.Reading.{read_as, IsReadIn}
use Rattle.merged.specs.Merged.{merged_latch, merged_gate, merged_parts}
use Rattle.merged.specs.Laws.{ShowsSame}
use Rattle.merged.proofs.Read.{map_same, read_same}

-- what the valuation is read as
abbrev pub IsRead : List (Option Lit) → Valuation → Type 0
IsRead t w = IsReadIn (place w) t

pub same : (t : List (Option Lit)) (w : Valuation) (a : Lit) → IsRead t w → value_of w (read_as t a) ≡ value_of w a
same t w a reads = read_same (place w) t a reads

pub latches_same : (t : List (Option Lit)) (ls : List Latch) → map (λ l. variable l.lit) (map (merged_latch t) ls) ≡ map (λ l. variable l.lit) ls
latches_same t ls = map_same (λ l. variable l.lit) (merged_latch t) (λ l. variable l.lit) ls (λ l. refl)

pub lefts_same : (t : List (Option Lit)) (gs : List Gate) → map (λ g. variable g.lhs) (map (merged_gate t) gs) ≡ map (λ g. variable g.lhs) gs
lefts_same t gs = map_same (λ g. variable g.lhs) (merged_gate t) (λ g. variable g.lhs) gs (λ g. refl)

pub defined_same : (m : Parts) (t : List (Option Lit)) → defined (merged_parts m t) ≡ defined m
defined_same m t =
    ap (λ vs. map variable m.inputs ++ vs ++ map (λ g. variable g.lhs) (map (merged_gate t) m.gates)) (latches_same t m.latches)
    ∙ ap (λ vs. map variable m.inputs ++ map (λ l. variable l.lit) m.latches ++ vs) (lefts_same t m.gates)

pub valuation_to : (m : Parts) (t : List (Option Lit)) (w : Valuation) → IsValuation m w → IsValuation (merged_parts m t) w
valuation_to m t w h = record {
  places = h.places;
  constant = h.constant;
  defined_only = λ v on. subst (λ vs. Contains vs v) (sym (defined_same m t)) (h.defined_only v on);
}

pub valuation_from : (m : Parts) (t : List (Option Lit)) (w : Valuation) → IsValuation (merged_parts m t) w → IsValuation m w
valuation_from m t w h = record {
  places = h.places;
  constant = h.constant;
  defined_only = λ v on. subst (λ vs. Contains vs v) (defined_same m t) (h.defined_only v on);
}

-- both right sides
sides_same : (t : List (Option Lit)) (w : Valuation) (g : Gate) → IsRead t w →
    (value_of w (read_as t g.rhs0) && value_of w (read_as t g.rhs1)) ≡ (value_of w g.rhs0 && value_of w g.rhs1)
sides_same t w g reads = ap (λ b. b && value_of w (read_as t g.rhs1)) (same t w g.rhs0 reads) ∙ ap (λ b. value_of w g.rhs0 && b) (same t w g.rhs1 reads)

pub agrees_to : (m : Parts) (t : List (Option Lit)) (w : Valuation) → IsRead t w → Agrees m w → Agrees (merged_parts m t) w
agrees_to m t w reads h = record {
  valuation = valuation_to m t w h.valuation;
  gates = All-map (Fires w) (merged_gate t) m.gates (λ k d k_in. h.gates k d k_in ∙ sym (sides_same t w (get_or m.gates k d) reads));
}

pub agrees_from : (m : Parts) (t : List (Option Lit)) (w : Valuation) → IsRead t w → Agrees (merged_parts m t) w → Agrees m w
agrees_from m t w reads h = record {
  valuation = valuation_from m t w h.valuation;
  gates = λ k d k_in. All-unmap (Fires w) (merged_gate t) m.gates h.gates k d k_in ∙ sides_same t w (get_or m.gates k d) reads;
}

-- latches have the same values, and begin with the same
pub states_same : (m : Parts) (t : List (Option Lit)) (w : Valuation) → state_of (merged_parts m t) w ≡ state_of m w
states_same m t w = map_same (λ l. value_of w l.lit) (merged_latch t) (λ l. value_of w l.lit) m.latches (λ l. refl)

pub nexts_same : (m : Parts) (t : List (Option Lit)) (w : Valuation) → IsRead t w → next_state (merged_parts m t) w ≡ next_state m w
nexts_same m t w reads = map_same (λ l. value_of w l.next) (merged_latch t) (λ l. value_of w l.next) m.latches (λ l. same t w l.next reads)

pub initial_to : (m : Parts) (t : List (Option Lit)) (w : Valuation) → IsInitial m w → IsInitial (merged_parts m t) w
initial_to m t w h = All-map (IsReset w) (merged_latch t) m.latches (λ k d k_in. let one = h k d k_in in record { low = one.low; high = one.high })

pub initial_from : (m : Parts) (t : List (Option Lit)) (w : Valuation) → IsInitial (merged_parts m t) w → IsInitial m w
initial_from m t w h k d k_in = let one = All-unmap (IsReset w) (merged_latch t) m.latches h k d k_in in record { low = one.low; high = one.high }

pub step_to : (m : Parts) (t : List (Option Lit)) (w x : Valuation) → IsRead t w → IsStep m w x → IsStep (merged_parts m t) w x
step_to m t w x reads h = states_same m t x ∙ h ∙ sym (nexts_same m t w reads)

pub step_from : (m : Parts) (t : List (Option Lit)) (w x : Valuation) → IsRead t w → IsStep (merged_parts m t) w x → IsStep m w x
step_from m t w x reads h = sym (states_same m t x) ∙ h ∙ nexts_same m t w reads

pub keeps_to : (m : Parts) (t : List (Option Lit)) (w : Valuation) → IsRead t w → KeepsNow m w → KeepsNow (merged_parts m t) w
keeps_to m t w reads h = All-map (λ a. value_of w a ≡ true) (read_as t) m.constraints (λ k d k_in. same t w (get_or m.constraints k d) reads ∙ h k d k_in)

pub keeps_from : (m : Parts) (t : List (Option Lit)) (w : Valuation) → IsRead t w → KeepsNow (merged_parts m t) w → KeepsNow m w
keeps_from m t w reads h k d k_in = sym (same t w (get_or m.constraints k d) reads) ∙ All-unmap (λ a. value_of w a ≡ true) (read_as t) m.constraints h k d k_in

values_same : (t : List (Option Lit)) (w : Valuation) (xs : List Lit) → IsRead t w → map (value_of w) (map (read_as t) xs) ≡ map (value_of w) xs
values_same t w xs reads = map_same (value_of w) (read_as t) (value_of w) xs (λ a. same t w a reads)

pub shows_same : (m : Parts) (t : List (Option Lit)) (w : Valuation) → IsRead t w → ShowsSame m (merged_parts m t) w
shows_same m t w reads = record {
  states = states_same m t w;
  inputs = refl;
  nexts = nexts_same m t w reads;
  bad = values_same t w m.bad reads;
  constraints = values_same t w m.constraints reads;
}
