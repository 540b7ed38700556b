use Rattle.std.proofs.Common.{◌≡◌, ◌<◌, ℕ, Contains, get_or, length}
use Rattle.states.specs.declared.state_lit.StateLit.{StateLit}
use Rattle.ic3_frames.specs.Marks.{IsMarked}
use Rattle.ic3_frames.proofs.marks.Marks.new.Given as goal

abbrev pub invariant-marking : goal.invariant-marking
invariant-marking l = record {
  places : length l.words.items ≡ length l.initial.words.items;
  each : (k : ℕ) (d : StateLit) → k < l.lit-index → IsMarked l.words.items (get_or l.clause k d);
  only : (a : StateLit) → IsMarked l.words.items a → Contains l.clause a;
}
