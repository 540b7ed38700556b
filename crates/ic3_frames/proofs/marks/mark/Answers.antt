use Rattle.ic3_frames.proofs.Marking.{bit_set, bit_other}
use Rattle.ic3_frames.proofs.marks.mark.Goals as goal

pub returns-clause-set : goal.returns-clause-set
returns-clause-set c = bit_set c.args.words.now c.args.place c.requires

pub returns-clause-others : goal.returns-clause-others
returns-clause-others c = λ p. bit_other c.args.words.now c.args.place p c.requires
