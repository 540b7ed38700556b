-- The circuits have the same runs that keep the constraints.
use Rattle.std.proofs.Common.{◌≡◌, ◌∙◌, true, false, ◌⊎◌, inl, inr, List, [], ◌∷◌, get_or, All, Option, sym}
use Rattle.std.proofs.lemmas.Bool.{cases_Bool}
use Rattle.std.proofs.lemmas.List.Elements.{All-nil, All-cons, All-head, All-tail}
use Rattle.graph.specs.declared.circuit.Lit.{Lit}
use Rattle.graph.specs.declared.parts.Parts.{Parts}
use Rattle.graph.specs.Circuits.{Valuation, place, value_of, IsValuation, Agrees, IsInitial, IsStep, StartsInitial, Steps, IsRun, KeepsConstraints}
use Rattle.graph.specs.WellFormed.{IsWellFormed}
use Rattle.cnf.specs.Formulas.{IsOverLatches}
use Rattle.cnf.specs.Meaning.{extension_of, HoldsClause, Denies, DeniesNext, KeepsNow, IsKept}
use Rattle.cnf.proofs.Listed.{one_or_all}
use Rattle.cnf.proofs.CaseLaws.{init_law, step_law, next_value}
use Rattle.merged.specs.Reading.{IsTable}
use Rattle.merged.specs.Merged.{merged_parts}
use Rattle.merged.specs.Laws.{AreInductive}
use Rattle.merged.proofs.Read.{said_read}
use Rattle.merged.proofs.Valued.{IsRead, valuation_from, agrees_to, agrees_from, initial_to, initial_from, step_to, step_from, keeps_to, keeps_from}

abbrev pub HoldsAll : List (List Lit) → Valuation → Type 0
HoldsAll cs w = All (HoldsClause w) cs

-- what is given of the clauses and the table
pub record IsGiven (m : Parts) (cs : List (List Lit)) (t : List (Option Lit)) : Type 0 where
  pub well : IsWellFormed m
  pub inductive_in : AreInductive m cs
  pub said : IsTable cs t

pub overs : (m : Parts) (cs : List (List Lit)) → AreInductive m cs → All (IsOverLatches m) cs
overs m cs h k d k_in = (h.proper k d k_in).over

-- where the clauses hold, the valuation has the values that are read
pub read_where : (cs : List (List Lit)) (t : List (Option Lit)) (w : Valuation) → IsTable cs t → place w 0 ≡ false → HoldsAll cs w → IsRead t w
read_where cs t w said off holds = said_read (place w) cs t off holds said

holds_or_denies : (w : Valuation) (c : List Lit) → HoldsClause w c ⊎ Denies w c
holds_or_denies w c = one_or_all (λ a. value_of w a ≡ true) (λ a. value_of w a ≡ false) c (λ a. cases_Bool (value_of w a))

-- the clauses hold at first, and after a step
holds_first : (m : Parts) (cs : List (List Lit)) (w : Valuation) → IsWellFormed m → AreInductive m cs → IsValuation m w → IsInitial m w → HoldsAll cs w
holds_first m cs w well h valuation initial k d k_in = elim (holds_or_denies w (get_or cs k d)) [
  | inl holds ↦ holds
  | inr denies ↦ absurd (h.begins k d k_in (extension_of w) ((init_law m (get_or cs k d) well (overs m cs h k d k_in) w valuation).0 (initial, denies)))
]

holds_next : (m : Parts) (cs : List (List Lit)) (w x : Valuation) → IsWellFormed m → AreInductive m cs → Agrees m w → KeepsNow m w → HoldsAll cs w → IsStep m w x → HoldsAll cs x
holds_next m cs w x well h agrees keeps holds step k d k_in = elim (holds_or_denies x (get_or cs k d)) [
  | inl there ↦ there
  | inr denies ↦
      let kept : IsKept m cs w = record { agrees = agrees; keeps = keeps; holds = holds } in
      let next : DeniesNext m w (get_or cs k d) = λ i b i_in. sym (next_value m w x (get_or (get_or cs k d) i b) well step (overs m cs h k d k_in i b i_in)) ∙ denies i b i_in in
      absurd (h.goes_on k d k_in (extension_of w) ((step_law m cs (get_or cs k d) well (overs m cs h) (overs m cs h k d k_in) w agrees.valuation).0 (kept, next)))
]

-- along a run of the circuit that keeps the constraints
read_along : (m : Parts) (cs : List (List Lit)) (t : List (Option Lit)) (w : Valuation) (r : List Valuation) → IsGiven m cs t → All (Agrees m) (w ∷ r) → KeepsConstraints m (w ∷ r) → Steps m (w ∷ r) →
    HoldsAll cs w → All (IsRead t) (w ∷ r)
read_along m cs t w [] given agrees keeps steps holds =
    All-cons (IsRead t) w [] (read_where cs t w given.said (All-head (Agrees m) w [] agrees).valuation.constant holds) (All-nil (IsRead t))
read_along m cs t w (x ∷ r) given agrees keeps steps holds =
    let here : Agrees m w = All-head (Agrees m) w (x ∷ r) agrees in
    All-cons (IsRead t) w (x ∷ r) (read_where cs t w given.said here.valuation.constant holds)
    (read_along m cs t x r given (All-tail (Agrees m) w (x ∷ r) agrees) (All-tail (KeepsNow m) w (x ∷ r) keeps) steps.1
    (holds_next m cs w x given.well given.inductive_in here (All-head (KeepsNow m) w (x ∷ r) keeps) holds steps.0))

pub read_in_run : (m : Parts) (cs : List (List Lit)) (t : List (Option Lit)) (r : List Valuation) → IsGiven m cs t → IsRun m r → KeepsConstraints m r → All (IsRead t) r
read_in_run m cs t [] given run keeps = All-nil (IsRead t)
read_in_run m cs t (w ∷ r) given run keeps =
    read_along m cs t w r given run.agrees keeps run.steps (holds_first m cs w given.well given.inductive_in (All-head (Agrees m) w r run.agrees).valuation run.starts)

-- along a run of the merged circuit that keeps its constraints
read_along_merged : (m : Parts) (cs : List (List Lit)) (t : List (Option Lit)) (w : Valuation) (r : List Valuation) → IsGiven m cs t → All (Agrees (merged_parts m t)) (w ∷ r) →
    KeepsConstraints (merged_parts m t) (w ∷ r) → Steps (merged_parts m t) (w ∷ r) → HoldsAll cs w → All (IsRead t) (w ∷ r)
read_along_merged m cs t w [] given agrees keeps steps holds =
    All-cons (IsRead t) w [] (read_where cs t w given.said (All-head (Agrees (merged_parts m t)) w [] agrees).valuation.constant holds) (All-nil (IsRead t))
read_along_merged m cs t w (x ∷ r) given agrees keeps steps holds =
    let s : Parts = merged_parts m t in
    let there : Agrees s w = All-head (Agrees s) w (x ∷ r) agrees in
    let reads : IsRead t w = read_where cs t w given.said there.valuation.constant holds in
    All-cons (IsRead t) w (x ∷ r) reads
    (read_along_merged m cs t x r given (All-tail (Agrees s) w (x ∷ r) agrees) (All-tail (KeepsNow s) w (x ∷ r) keeps) steps.1
    (holds_next m cs w x given.well given.inductive_in (agrees_from m t w reads there) (keeps_from m t w reads (All-head (KeepsNow s) w (x ∷ r) keeps)) holds
    (step_from m t w x reads steps.0)))

pub read_in_merged : (m : Parts) (cs : List (List Lit)) (t : List (Option Lit)) (r : List Valuation) → IsGiven m cs t → IsRun (merged_parts m t) r → KeepsConstraints (merged_parts m t) r → All (IsRead t) r
read_in_merged m cs t [] given run keeps = All-nil (IsRead t)
read_in_merged m cs t (w ∷ r) given run keeps =
    read_along_merged m cs t w r given run.agrees keeps run.steps
    (holds_first m cs w given.well given.inductive_in (valuation_from m t w (All-head (Agrees (merged_parts m t)) w r run.agrees).valuation) (initial_from m t w run.starts))

-- a run of the one is one of the other
starts_to : (m : Parts) (t : List (Option Lit)) (r : List Valuation) → StartsInitial m r → StartsInitial (merged_parts m t) r
starts_to m t [] h = h
starts_to m t (w ∷ r) h = initial_to m t w h

starts_from : (m : Parts) (t : List (Option Lit)) (r : List Valuation) → StartsInitial (merged_parts m t) r → StartsInitial m r
starts_from m t [] h = h
starts_from m t (w ∷ r) h = initial_from m t w h

steps_to : (m : Parts) (t : List (Option Lit)) (r : List Valuation) → All (IsRead t) r → Steps m r → Steps (merged_parts m t) r
steps_to m t [] reads h = h
steps_to m t (w ∷ []) reads h = h
steps_to m t (w ∷ x ∷ r) reads h = (step_to m t w x (All-head (IsRead t) w (x ∷ r) reads) h.0, steps_to m t (x ∷ r) (All-tail (IsRead t) w (x ∷ r) reads) h.1)

pub steps_from : (m : Parts) (t : List (Option Lit)) (r : List Valuation) → All (IsRead t) r → Steps (merged_parts m t) r → Steps m r
steps_from m t [] reads h = h
steps_from m t (w ∷ []) reads h = h
steps_from m t (w ∷ x ∷ r) reads h = (step_from m t w x (All-head (IsRead t) w (x ∷ r) reads) h.0, steps_from m t (x ∷ r) (All-tail (IsRead t) w (x ∷ r) reads) h.1)

pub run_to : (m : Parts) (t : List (Option Lit)) (r : List Valuation) → All (IsRead t) r → IsRun m r → IsRun (merged_parts m t) r
run_to m t r reads h = record {
  agrees = λ k d k_in. agrees_to m t (get_or r k d) (reads k d k_in) (h.agrees k d k_in);
  starts = starts_to m t r h.starts;
  steps = steps_to m t r reads h.steps;
}

pub run_from : (m : Parts) (t : List (Option Lit)) (r : List Valuation) → All (IsRead t) r → IsRun (merged_parts m t) r → IsRun m r
run_from m t r reads h = record {
  agrees = λ k d k_in. agrees_from m t (get_or r k d) (reads k d k_in) (h.agrees k d k_in);
  starts = starts_from m t r h.starts;
  steps = steps_from m t r reads h.steps;
}

pub kept_to : (m : Parts) (t : List (Option Lit)) (r : List Valuation) → All (IsRead t) r → KeepsConstraints m r → KeepsConstraints (merged_parts m t) r
kept_to m t r reads h k d k_in = keeps_to m t (get_or r k d) (reads k d k_in) (h k d k_in)

pub kept_from : (m : Parts) (t : List (Option Lit)) (r : List Valuation) → All (IsRead t) r → KeepsConstraints (merged_parts m t) r → KeepsConstraints m r
kept_from m t r reads h k d k_in = keeps_from m t (get_or r k d) (reads k d k_in) (h k d k_in)
