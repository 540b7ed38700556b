use Rattle.std.proofs.Common.{◌<◌, ℕ, All, take}
use Rattle.certificate3.proofs.limits.ids_fit.Given as goal

abbrev pub invariant-loop-id : goal.invariant-loop-id
invariant-loop-id l = All (λ (n : ℕ). n < 4294967296) (take l.id-index l.ids)
