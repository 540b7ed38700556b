use Rattle.std.proofs.lemmas.Bool.{eqb-true, eq-eqb}
use Rattle.ic3_frames.proofs.Signed.{part_bits, nothing_left, nothing_missing}
use Rattle.ic3_frames.proofs.signature.covers.Goals as goal

pub returns-clause-is : goal.returns-clause-is
returns-clause-is c = (
  λ told i. nothing_missing c.args.whole c.args.part i c.ranges.whole.fits c.ranges.part.fits (eqb-true _ 0 told),
  λ has. eq-eqb _ 0 (nothing_left c.args.whole c.args.part c.ranges.whole.fits c.ranges.part.fits has),
)

pub returns-clause-parts : goal.returns-clause-parts
returns-clause-parts c = λ p q of_whole of_part within.
    eq-eqb _ 0 (nothing_left c.args.whole c.args.part c.ranges.whole.fits c.ranges.part.fits (λ i. part_bits p q c.args.whole c.args.part i of_whole of_part within))
