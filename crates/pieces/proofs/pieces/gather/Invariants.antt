use Rattle.std.proofs.Common.{◌≡◌, ◌++◌, ◌+◌, List, ℕ, length}
use Rattle.base.specs.Devices.{Moves}
use Rattle.pieces.specs.Pieces.{GoesOn}
use Rattle.pieces.proofs.pieces.gather.Given as goal

abbrev pub invariant-gathering : goal.invariant-gathering
invariant-gathering g l = record {
  steady : g.S.Source.failed l.from ≡ g.S.Source.failed l.fn.from;
  goes : GoesOn l.held.items;
  moves : length l.held.items + g.S.Source.most l.from ≡ length l.fn.held.items + g.S.Source.most l.fn.from;
  bytes : (taken : List ℕ) × Moves (g.S.Source.leaves l.fn.from) (g.S.Source.leaves l.from) taken × (l.held.items ≡ l.fn.held.items ++ taken);
}

abbrev pub decreases-gathering : goal.decreases-gathering
decreases-gathering g l = g.S.Source.most l.from
