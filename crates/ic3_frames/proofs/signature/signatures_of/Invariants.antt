use Rattle.std.proofs.Common.{take}
use Rattle.ic3_frames.specs.Signatures.{AreSignatures}
use Rattle.ic3_frames.proofs.signature.signatures_of.Given as goal

abbrev pub invariant-signing : goal.invariant-signing
invariant-signing l = AreSignatures (take l.entry-index l.entries) l.signatures.items
