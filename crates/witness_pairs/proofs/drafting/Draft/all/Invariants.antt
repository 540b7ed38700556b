use Rattle.std.proofs.Common.{◌≡◌, take}
use Rattle.graph.specs.Circuits.{Valuation, value_of}
use Rattle.witness_pairs.specs.Drafts.{Follows, GoesOn, all_true}
use Rattle.witness_pairs.proofs.drafting.Draft.all.Given as goal

abbrev pub invariant-loop-lit : goal.invariant-loop-lit
invariant-loop-lit l = record {
  goes_on : GoesOn l.initial.self.gates l.self.gates;
  value : (x : Valuation) → Follows l.self.gates x → value_of x l.so_far ≡ all_true x (take l.lit-index l.lits);
}
