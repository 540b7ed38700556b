-- Faults of a text that spells something.
use Rattle.base.specs.Witness.{witness}
use Rattle.std.proofs.Common.{◌≡◌, ℕ, Option, Some, refl, sym, ◌∙◌}
use Rattle.std.proofs.lemmas.Option.{none-some}
use Rattle.scan.specs.declared.fault.Fault.{Fault}
use Rattle.scan.specs.declared.fault.Fault.TheVariants.{Memory, Text}
use Rattle.scan.specs.Reading.{Fails}
use Rattle.stimulus.specs.declared.reading.StimFault.{StimFault}
use Rattle.stimulus.specs.declared.stim_error.StimError.TheVariants.{OutOfMemory}
use Rattle.stimulus.specs.Refusals.{error_of}

pub refused_for_memory : {A : Type 0} (n : ℕ) (e : Fault StimFault) (x : A) (r : Option A) → Fails e r → r ≡ Some x → error_of n e ≡ OutOfMemory witness
refused_for_memory n (Memory refused) x r f s = refl
refused_for_memory n (Text kind left) x r f s = absurd (none-some x (sym f ∙ s))
