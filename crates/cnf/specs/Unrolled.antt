-- The clauses of a circuit over several times.
use Rattle.std.specs.Prelude.{◌≡◌, ℕ, zero, suc, ◌+◌, ◌*◌, Bool, true, false, List, [], ◌∷◌, ◌++◌, flat_map, drop, length, All, ℤ, ◌↔◌}
use Rattle.graph.specs.declared.circuit.Latch.{Latch}
use Rattle.graph.specs.declared.parts.Parts.{Parts}
use Rattle.graph.specs.Circuits.{Valuation, place, IsValuation, IsRun, KeepsConstraints}
use Rattle.lrat.specs.declared.formula.Formula.{Formula}
use Rattle.cnf.specs.Clauses.{literal, denial, reset_clauses, time_clauses}
use Rattle.cnf.specs.Meaning.{AreSatisfied}

-- the latch at the next time has the value of its next literal at this one
abbrev pub join_clauses : ℕ → ℕ → Latch → List (List ℤ)
join_clauses n o l =
    (denial n (o + n + 1) l.lit ∷ literal n o l.next ∷ []) ∷ (literal n (o + n + 1) l.lit ∷ denial n o l.next ∷ []) ∷ []

-- this time and k more
abbrev pub times_from : Parts → ℕ → ℕ → List (List ℤ)
times_from m zero o = time_clauses m o
times_from m (suc k) o = time_clauses m o ++ flat_map (join_clauses m.max_var o) m.latches ++ times_from m k (o + m.max_var + 1)

-- runs of k steps
abbrev pub unroll_clauses : Parts → ℕ → List (List ℤ)
unroll_clauses m k = flat_map (reset_clauses m.max_var 0) m.latches ++ times_from m k 0

-- the clauses of the unrolling of k steps beyond those of one step less: of 0 steps, all
abbrev pub IsExtension : Parts → ℕ → List (List ℤ) → Type 0
IsExtension m zero s = unroll_clauses m zero ≡ s
IsExtension m (suc k) s = unroll_clauses m (suc k) ≡ unroll_clauses m k ++ s

abbrev pub unroll_formula : Parts → ℕ → Formula
unroll_formula m k = record { vars = (k + 1) * (m.max_var + 1); clauses = unroll_clauses m k }

-- the valuations' extensions without their place 0, laid end to end after one place 0
abbrev pub laid : List Valuation → List Bool
laid r = false ∷ flat_map (λ w. drop 1 w ++ true ∷ []) r

-- valuations are a run that keeps the constraints exactly where they satisfy the unrolling, laid end to end
abbrev pub UnrollLaw : Parts → ℕ → Type 0
UnrollLaw m k = (r : List Valuation) → length r ≡ k + 1 → All (IsValuation m) r →
    (IsRun m r × KeepsConstraints m r) ↔ AreSatisfied (place (laid r)) (unroll_clauses m k)
