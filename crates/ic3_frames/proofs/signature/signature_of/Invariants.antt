use Rattle.std.proofs.Common.{◌≡◌, ◌≢◌, ◌<◌, ℕ, All, get_or}
use Rattle.std.specs.Int.{bit_at}
use Rattle.states.specs.declared.state_lit.StateLit.{StateLit}
use Rattle.ic3_frames.specs.Signatures.{signature_bit}
use Rattle.ic3_frames.proofs.signature.signature_of.Given as goal

abbrev pub invariant-signing : goal.invariant-signing
invariant-signing l = record {
  each : (k : ℕ) (d : StateLit) → k < l.lit-index → bit_at l.signature (signature_bit (get_or l.clause k d)) ≡ 1;
  none : (i : ℕ) → All (λ a. signature_bit a ≢ i) l.clause → bit_at l.signature i ≡ 0;
}
