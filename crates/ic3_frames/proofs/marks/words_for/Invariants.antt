use Rattle.std.proofs.Common.{◌<◌, ◌/◌, ℕ, get_or}
use Rattle.states.specs.declared.state_lit.StateLit.{StateLit}
use Rattle.ic3_frames.specs.Marks.{mark_of}
use Rattle.ic3_frames.proofs.marks.words_for.Given as goal

abbrev pub invariant-looking : goal.invariant-looking
invariant-looking l = record {
  reach : (k : ℕ) (d : StateLit) → k < l.lit-index → mark_of (get_or l.clause k d) / 64 < l.words;
  few : l.words < 134217729;
}
