use Rattle.std.proofs.Common.{◌≡◌, ◌||◌, ℕ, drop}
use Rattle.std.specs.BTreeSet.{contains}
use Rattle.std.specs.Ordering.{nat_cmp}
use Rattle.witness_additions.specs.Agreements.{is_among}
use Rattle.witness_additions.proofs.agreeing.literals_of.Given as goal

abbrev pub invariant-loop-k : goal.invariant-loop-k
invariant-loop-k l = (n : ℕ) → (is_among l.names (drop l.k l.lits) n || contains nat_cmp l.found n) ≡ is_among l.names l.lits n
