use Rattle.std.proofs.Common.{◌≡◌, sym, subst}
use Rattle.strategies.proofs.Parted.{then_if}
use Rattle.strategies.proofs.merging.deepening.Goals as goal

pub returns : goal.returns
returns c = then_if _ (λ e. e.second.value.depth ≡ c.args.depth) c.new-2.result c.new-2.ensures (λ e is. subst (λ b. b.depth ≡ c.args.depth) (sym is.1) c.bounded_by-bounded.ensures)
