use Rattle.std.proofs.Common.{IsTrue, ◌↔◌, Contains, sym, subst}
use Rattle.ic3_step.proofs.Looked.{found_or_not}
use Rattle.ic3_step.proofs.lookup.contains.Goals as goal

pub returns : goal.returns
returns c = subst (λ b. IsTrue b ↔ Contains c.args.numbers.now c.args.number) (sym c.is_ok.ensures.value)
    (found_or_not c.args.numbers.now c.args.number c.binary_search.result c.binary_search.ensures.position c.requires)
