use Rattle.std.proofs.Common.{◌⊎◌}
use Rattle.ic3_frames.specs.Frames.{IsSubsumed, IsNotSubsumed, IsExcepted}
use Rattle.ic3_frames.specs.Signatures.{AreSignatures}
use Rattle.ic3_frames.proofs.Sifting.{Sifted, IsStill}
use Rattle.ic3_frames.proofs.subsumption.remove_subsumed.Given as goal

abbrev pub invariant-sifting : goal.invariant-sifting
invariant-sifting l = record {
  sifted : Sifted (IsSubsumed l.clause l.level) (λ e. IsNotSubsumed l.clause l.level e ⊎ IsExcepted l.initial.entries.items l.except e) l.initial.entries.items l.entries.items l.kept l.i;
  still : IsStill l.initial.entries.items l.entries.items l.except l.place l.kept l.i;
  signed : AreSignatures l.entries.items l.signatures.items;
}
