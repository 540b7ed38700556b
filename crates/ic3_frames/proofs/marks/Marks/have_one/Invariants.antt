use Rattle.std.proofs.Common.{◌<◌, ◌≤◌, ℕ, List, All, get_or}
use Rattle.states.specs.declared.state_lit.StateLit.{StateLit}
use Rattle.ic3_frames.specs.declared.frames.Entry.{Entry}
use Rattle.ic3_frames.specs.Marks.{IsMarked, AreMarks}
use Rattle.ic3_frames.specs.Signatures.{IsSignature}
use Rattle.ic3_frames.proofs.marks.Marks.have_one.Given as goal

abbrev pub invariant-looking : goal.invariant-looking
invariant-looking l = (c : List StateLit) → AreMarks c l.self.words.items → IsSignature c l.self.signature → (k : ℕ) (d : Entry) → k < l.i →
    (l.level ≤ (get_or l.entries k d).level) × All (IsMarked l.self.words.items) (get_or l.entries k d).clause → ⊥
