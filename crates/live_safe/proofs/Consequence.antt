-- A shadow circuit whose bad literal is never set bounds the rounds.
use Rattle.std.proofs.Common.{ℕ, ◌+◌, ◌<◌, [], length, inl, inr, refl, arith, ◌∙◌, sym}
use Rattle.std.proofs.lemmas.Bool.{cases_lt, true≢false}
use Rattle.graph.specs.declared.parts.Parts.{Parts}
use Rattle.graph.specs.WellFormed.{IsWellFormed}
use Rattle.live_safe.specs.Laws.{BoundedLaw, ShortestLaw}
use Rattle.live_safe.specs.Shadow.{closing_literal}
use Rattle.live_safe.proofs.Bounded.{bounded_without_lasso}
use Rattle.live_safe.proofs.Carried.{lasso_carried}

pub bounded_if_safe : (m : Parts) (j : ℕ) → IsWellFormed m → j < length m.justice → BoundedLaw m j
bounded_if_safe m j well exists safe = bounded_without_lasso m j exists (λ initial lines h.
    let carried = lasso_carried m j well initial lines h in
    let c = carried.1 in
    let long = c.long in
    true≢false (sym c.sets ∙ safe carried.0 (closing_literal m j) c.runs c.keeps refl (length lines) [] (omega arith)))

pub shortest_lasso : (m : Parts) (j : ℕ) → IsWellFormed m → ShortestLaw m j
shortest_lasso m j well times unset initial lines h = elim (cases_lt (length lines + 1) times) [
  | inl fewer ↦
      let carried = lasso_carried m j well initial lines h in
      let c = carried.1 in
      let long = c.long in
      absurd (true≢false (sym c.sets ∙ unset carried.0 c.runs c.keeps (omega arith) (length lines) [] (omega arith)))
  | inr enough ↦ enough
]
