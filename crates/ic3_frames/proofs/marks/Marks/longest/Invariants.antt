use Rattle.std.proofs.Common.{◌≡◌, List, All}
use Rattle.states.specs.declared.state_lit.StateLit.{StateLit}
use Rattle.ic3_frames.specs.declared.frames.Entry.{Entry}
use Rattle.ic3_frames.specs.Marks.{IsMarked, AreMarks}
use Rattle.ic3_frames.specs.Signatures.{IsSignature}
use Rattle.ic3_frames.proofs.Marking.{IsLongest, AreShorter}
use Rattle.ic3_frames.proofs.marks.Marks.longest.Given as goal

abbrev pub invariant-looking : goal.invariant-looking
invariant-looking l = record {
  longest : IsLongest (λ (e : Entry). (e.level ≡ l.level) × All (IsMarked l.self.words.items) e.clause) l.entries l.longest l.least l.i;
  shorter : (c : List StateLit) → AreMarks c l.self.words.items → IsSignature c l.self.signature →
      AreShorter (λ (e : Entry). (e.level ≡ l.level) × All (IsMarked l.self.words.items) e.clause) l.entries l.least l.i;
}
