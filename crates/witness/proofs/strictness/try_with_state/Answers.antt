use Rattle.std.proofs.Common.{Bool, List, Option, ◌-◌, length, drop, take, subst}
use Rattle.witness.specs.Strict.{IsDeniedWithState, ShowsNeither}
use Rattle.witness.proofs.DeniedLaws.{denied_first, denied_so}
use Rattle.witness.proofs.strictness.try_with_state.Goals as goal

pub returns-in-len1-up-clause-denied : goal.returns-in-len1-up-clause-denied
returns-in-len1-up-clause-denied c =
    let m = c.args.circuit.now in
    let p = c.args.property in
    let rows : List (List (Option Bool)) = c.args.rows.now in
    let state : List (Option Bool) = c.state-item.result in
    denied_so (ShowsNeither m p c.as_slice.result.now (take (length rows - 1) (drop 1 rows))) (IsDeniedWithState m p rows) c.try_both.result
    (λ neither. denied_first m p rows state c.in-len1-up.len_at_least c.state-item.is (subst (λ (s : List (Option Bool)). ShowsNeither m p s (take (length rows - 1) (drop 1 rows))) c.as_slice.ensures neither)) c.try_both.ensures.denied
