-- What an engine shows with a part of a budget.
use Rattle.std.proofs.Common.{Result, Ok, Err, IfOk}
use Rattle.base.specs.Budget.{Steps}
use Rattle.graph.specs.declared.parts.Parts.{Parts}
use Rattle.engine.specs.Findings.{IsSo}
use Rattle.engine.specs.declared.engine_error.EngineError.{EngineError}
use Rattle.engine.specs.declared.finding.Finding.{Finding}
use Rattle.engine.specs.declared.finding.Finding.TheVariants.{Invariant, Run, Unknown}
use Rattle.strategies.specs.Shares.{IsShown}

shown_of : (m : Parts) (after : Steps) (f : Finding) → IsSo m after f → IsShown m f
shown_of m after (Run initial inputs) so = so
shown_of m after (Invariant inv) so = so
shown_of m after (Unknown reason) so = tt

-- a run and an invariant stand whatever is left
pub shown_by : (m : Parts) (after : Steps) (r : Result Finding EngineError) → IfOk r (IsSo m after) → IfOk r (IsShown m)
shown_by m after (Ok f) so = shown_of m after f so
shown_by m after (Err e) so = tt

pub then_if : {T E : Type 0} (P Q : T → Type 0) (r : Result T E) → IfOk r P → ((x : T) → P x → Q x) → IfOk r Q
then_if P Q (Ok x) p f = f x p
then_if P Q (Err e) p f = tt
