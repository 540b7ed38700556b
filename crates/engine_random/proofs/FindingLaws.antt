-- What a finding of a batch says.
use Rattle.std.proofs.Common.{◌≡◌, ℕ, Bool, true, false, List, Option, Some, None, Result, Ok, Err, IsSome, IfSome, IfOk, sym, ◌∙◌, arith}
use Rattle.base.specs.Budget.{Steps}
use Rattle.graph.specs.declared.parts.Parts.{Parts}
use Rattle.graph.specs.declared.circuit.Property.TheVariants.{Bad}
use Rattle.stimulus.specs.declared.value.Stimulus.TheVariants.{Violated}
use Rattle.stimulus.specs.Shown.{ShowsBad}
use Rattle.engine.specs.declared.finding.Finding.{Finding}
use Rattle.engine.specs.declared.finding.Finding.TheVariants.{Invariant, Run, Unknown}
use Rattle.engine.specs.Findings.{IsSo}
use Rattle.engine.specs.declared.engine_error.EngineError.{EngineError}
use Rattle.simulate.specs.Lanes.{IsLowest}
use Rattle.engine_random.specs.Batches.{Played, Marks}
use Rattle.engine_random.specs.Findings.{IsJudged, IsLowestOf, IsRunOf, IsRunOrSpent}
use Rattle.engine_random.proofs.SettingLaws.{some_is, if_some_at}

-- a run of the batch is what an engine may answer
pub run_is_so : (m : Parts) (after : Steps) (b : Played) (f : Finding) → b.circuit ≡ m → IsLowestOf b f → IsSo m after f
run_is_so m after b f same h = rw (h.found.is_run, ← same) h.found.shows

pub run_is_run : (b : Played) (f : Finding) → IsLowestOf b f → IsRunOrSpent f
run_is_run b f h = rw h.found.is_run tt

pub ok_some_more : (P Q : Finding → Type 0) → ((f : Finding) → P f → Q f) → (answer : Result (Option Finding) EngineError) →
    IfOk answer (λ x. IfSome x P) → IfOk answer (λ x. IfSome x Q)
ok_some_more P Q more (Ok None) h = h
ok_some_more P Q more (Ok (Some f)) h = more f h
ok_some_more P Q more (Err e) h = h

-- the lowest run that is marked among those that are in and set the bad literal
pub lowest_found : (b : Played) (bad : List ℕ) (r : ℕ) → IsSome b.wide.now → IfSome b.wide.now (λ v. Marks b.circuit.bad v b.running bad) → IsLowest bad r →
    (answer : Result (Option Finding) EngineError) → IfOk answer (λ x. IfSome x (IsRunOf b r)) → IfOk answer (λ x. IfSome x (IsLowestOf b))
lowest_found b bad r some marks low =
    let at = some_is b.wide.now some in
    let marked : Marks b.circuit.bad at.0 b.running bad = if_some_at (λ v. Marks b.circuit.bad v b.running bad) b.wide.now at.0 at.1 marks in
    ok_some_more (IsRunOf b r) (IsLowestOf b) (λ f h. record {
      position = r;
      inside = low.inside;
      values = at.0;
      has_values = at.1;
      sets_bad = (marked r low.inside).0 low.set;
      lowest = λ i i_in sets. let no : false ≡ true = sym (low.before i i_in) ∙ (marked i (omega (arith, i_in, low.inside))).1 sets in cc no;
      found = h;
    })

-- a run that was judged is what an engine may answer
pub judged_is : (m : Parts) (initial : List Bool) (inputs : List (List Bool)) (f : Finding) → (f ≡ Run initial inputs) × ShowsBad m (Violated (Bad 0) initial inputs) → IsJudged m f
judged_is m initial inputs f h = rw h.0 h.1

pub judged_is_so : (m : Parts) (after : Steps) (f : Finding) → IsJudged m f → IsSo m after f
judged_is_so m after (Run initial inputs) h = h
judged_is_so m after (Invariant clauses) h = absurd h
judged_is_so m after (Unknown reason) h = absurd h

pub judged_is_run : (m : Parts) (f : Finding) → IsJudged m f → IsRunOrSpent f
judged_is_run m (Run initial inputs) h = tt
judged_is_run m (Invariant clauses) h = absurd h
judged_is_run m (Unknown reason) h = absurd h
