-- The laws of a merged circuit.
use Rattle.std.proofs.Common.{◌≡◌, ◌∙◌, ◌-◌, ◌<◌, Bool, false, List, [], ◌∷◌, ◌++◌, map, length, get_or, slice_get, All, Contains, Option, None, Some, refl, sym, ap, subst, arith}
use Rattle.std.proofs.lemmas.Option.{same_Some}
use Rattle.std.proofs.lemmas.List.Elements.{All-append}
use Rattle.graph.specs.declared.circuit.Lit.{Lit}
use Rattle.graph.specs.declared.parts.Parts.{Parts}
use Rattle.graph.specs.Circuits.{Valuation, variable, value_of, StartsInitial, IsRun}
use Rattle.graph.specs.WellFormed.{IsWellFormed}
use Rattle.stimulus.specs.Shown.{Begins, IsReplay, last_of}
use Rattle.cnf.specs.Clauses.{init_clauses, step_clauses}
use Rattle.cnf.specs.Invariants.{AreContradictory, IsProper}
use Rattle.merged.specs.Reading.{read_as, IsTable}
use Rattle.merged.specs.Merged.{merged_parts, IsMerged}
use Rattle.merged.specs.Laws.{AreInductive, SameLaw, RunsLaw, ViolationLaw, ClearLaw, InvariantLaw, AreLaws}
use Rattle.merged.proofs.Valued.{IsRead, same, latches_same, agrees_to, agrees_from, states_same, shows_same}
use Rattle.merged.proofs.Runs.{IsGiven, read_where, read_in_run, read_in_merged, run_to, run_from, kept_to, kept_from}
use Rattle.merged.proofs.Assigned.{step_case, own_step_case, bad_case, init_case}

same_law : (m : Parts) (t : List (Option Lit)) (cs : List (List Lit)) → IsTable cs t → SameLaw m (merged_parts m t) cs
same_law m t cs said w valuation holds =
    let reads : IsRead t w = read_where cs t w said valuation.constant holds in
    ((agrees_to m t w reads, agrees_from m t w reads), shows_same m t w reads)

given : (m : Parts) (t : List (Option Lit)) (cs : List (List Lit)) → IsWellFormed m → IsTable cs t → AreInductive m cs → IsGiven m cs t
given m t cs well said inductive_in = record { well = well; inductive_in = inductive_in; said = said }

runs_law : (m : Parts) (t : List (Option Lit)) (cs : List (List Lit)) → IsWellFormed m → IsTable cs t → RunsLaw m (merged_parts m t) cs
runs_law m t cs well said inductive_in r = (
  λ p. let reads = read_in_run m cs t r (given m t cs well said inductive_in) p.0 p.1 in (run_to m t r reads p.0, kept_to m t r reads p.1),
  λ p. let reads = read_in_merged m cs t r (given m t cs well said inductive_in) p.0 p.1 in (run_from m t r reads p.0, kept_from m t r reads p.1),
)

-- the literal that is watched
watched_to : (t : List (Option Lit)) (bads : List Lit) (a : Lit) → slice_get bads 0 ≡ Some a → slice_get (map (read_as t) bads) 0 ≡ Some (read_as t a)
watched_to t [] a e = let no : None ≡ Some a = e in cc
watched_to t (b ∷ bads) a e = ap (λ x. Some (read_as t x)) (same_Some b a e)

abbrev IsOf : List (Option Lit) → List Lit → Lit → Type 0
IsOf t bads a = (b : Lit) × (slice_get bads 0 ≡ Some b) × (a ≡ read_as t b)

watched_from : (t : List (Option Lit)) (bads : List Lit) (a : Lit) → slice_get (map (read_as t) bads) 0 ≡ Some a → IsOf t bads a
watched_from t [] a e = let no : None ≡ Some a = e in cc
watched_from t (b ∷ bads) a e = (b, refl, sym (same_Some (read_as t b) a e))

begins_from : (m : Parts) (t : List (Option Lit)) (initial : List Bool) (r : List Valuation) → Begins (merged_parts m t) initial r → Begins m initial r
begins_from m t initial [] h = h
begins_from m t initial (w ∷ r) h = sym (states_same m t w) ∙ h

last_in : (m : Parts) (r : List Valuation) → StartsInitial m r → length r - 1 < length r
last_in m [] h = absurd h
last_in m (w ∷ r) h = omega arith

violation_law : (m : Parts) (t : List (Option Lit)) (cs : List (List Lit)) → IsWellFormed m → IsTable cs t → ViolationLaw m (merged_parts m t) cs
violation_law m t cs well said inductive_in initial inputs shown =
    let r : List Valuation = shown.replay in
    let reads = read_in_merged m cs t r (given m t cs well said inductive_in) shown.runs shown.keeps in
    let run : IsRun m r = run_from m t r reads shown.runs in
    let of : IsOf t m.bad shown.bad = watched_from t m.bad shown.bad shown.watched in
    let replay : IsReplay (merged_parts m t) initial inputs r = shown.replays in
    record {
      bad = of.0;
      replay = r;
      watched = of.1;
      replays = record { agrees = run.agrees; begins = begins_from m t initial r replay.begins; has_inputs = replay.has_inputs; steps = run.steps };
      runs = run;
      keeps = kept_from m t r reads shown.keeps;
      sets = sym (same t (last_of r) of.0 (reads (length r - 1) [] (last_in m r run.starts))) ∙ ap (value_of (last_of r)) (sym of.2) ∙ shown.sets;
    }

clear_law : (m : Parts) (t : List (Option Lit)) (cs : List (List Lit)) → IsWellFormed m → IsTable cs t → ClearLaw m (merged_parts m t) cs
clear_law m t cs well said inductive_in steps clear r a run keeps few watched =
    let reads = read_in_run m cs t r (given m t cs well said inductive_in) run keeps in
    let all : All (λ w. value_of w (read_as t a) ≡ false) r = clear r (read_as t a) (run_to m t r reads run) (kept_to m t r reads keeps) few (watched_to t m.bad a watched) in
    λ k d k_in. sym (same t (get_or r k d) a (reads k d k_in)) ∙ all k d k_in

proper_from : (m : Parts) (t : List (Option Lit)) (c : List Lit) → IsProper (merged_parts m t) c → IsProper m c
proper_from m t c h = record {
  over = subst (λ vs. All (λ a. Contains vs (variable a)) c) (latches_same t m.latches) h.over;
  apart = h.apart;
}

invariant_law : (m : Parts) (t : List (Option Lit)) (cs : List (List Lit)) → IsTable cs t → InvariantLaw m (merged_parts m t) cs
invariant_law m t cs said inductive_in inv h =
    record {
      clauses = All-append (IsProper m) cs inv inductive_in.proper (λ k d k_in. proper_from m t (get_or inv k d) (h.clauses k d k_in));
      inductive = record {
        begins = All-append (λ c. AreContradictory (init_clauses m c)) cs inv inductive_in.begins (λ k d k_in. init_case m t (get_or inv k d) (h.inductive.begins k d k_in));
        goes_on = All-append (λ c. AreContradictory (step_clauses m (cs ++ inv) c)) cs inv
            (λ k d k_in. own_step_case m cs inv (get_or cs k d) (inductive_in.goes_on k d k_in))
            (λ k d k_in. step_case m t cs inv (get_or inv k d) said (h.inductive.goes_on k d k_in));
        excludes = bad_case m t cs inv said h.inductive.excludes;
      };
    }

pub laws : (m s : Parts) (cs : List (List Lit)) → IsWellFormed m → IsMerged m s cs → AreLaws m s cs
laws m s cs well h =
    let t : List (Option Lit) = h.table in
    subst (λ x. AreLaws m x cs) (sym h.only) (record {
      same = same_law m t cs h.is_table;
      runs = runs_law m t cs well h.is_table;
      violation = violation_law m t cs well h.is_table;
      clear = clear_law m t cs well h.is_table;
      invariants = invariant_law m t cs h.is_table;
    })
