-- What a refusal denies.
use Rattle.std.proofs.Common.{◌≡◌, ◌≢◌, ◌-◌, ◌≤◌, Bool, List, [], ◌∷◌, length, drop, take, get_or, Option, Result, Ok, Err, IfErr, subst, arith}
use Rattle.std.proofs.lemmas.List.{take_all}
use Rattle.base.specs.Witness.{witness}
use Rattle.graph.specs.declared.circuit.Property.{Property}
use Rattle.graph.specs.declared.parts.Parts.{Parts}
use Rattle.stimulus.specs.declared.judge_error.JudgeError.{JudgeError}
use Rattle.stimulus.specs.declared.judge_error.JudgeError.TheVariants.{OutOfMemory}
use Rattle.witness.specs.Strict.{IsDeniedWithState, ShowsNeither}

-- what follows from what a refusal says
pub denied_so : {T : Type 0} (Denied Follows : Type 0) (result : Result T JudgeError) → (Denied → Follows) → IfErr result (λ e. e ≢ OutOfMemory witness → Denied) → IfErr result (λ e. e ≢ OutOfMemory witness → Follows)
denied_so Denied Follows (Ok x) so denied = tt
denied_so Denied Follows (Err e) so denied = λ some. so (denied some)

-- the first row is the first state
pub denied_first : (m : Parts) (p : Property) (lines : List (List (Option Bool))) (state : List (Option Bool)) → 1 ≤ length lines → state ≡ get_or lines 0 state → ShowsNeither m p state (take (length lines - 1) (drop 1 lines)) → IsDeniedWithState m p lines
denied_first m p [] state some is_first neither = absurd (omega (arith, some))
denied_first m p (row ∷ rows) state some is_first neither =
    let whole : take (length (row ∷ rows) - 1) rows ≡ rows = take_all (length (row ∷ rows) - 1) rows (omega arith) in
    subst (λ (first : List (Option Bool)). ShowsNeither m p first rows) is_first (subst (ShowsNeither m p state) whole neither)
