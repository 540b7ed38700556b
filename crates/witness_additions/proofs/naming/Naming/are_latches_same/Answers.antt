use Rattle.std.proofs.Common.{ℕ, None, get_or}
use Rattle.graph.specs.declared.circuit.Latch.{Latch}
use Rattle.witness_additions.specs.Agreements.{IsSameLatch}
use Rattle.witness_additions.proofs.Agreed.{below_more, same_here}
use Rattle.witness_additions.proofs.naming.Naming.are_latches_same.Goals as goal

abbrev none : Latch
none = record { lit = record { 0 = 0 }; next = record { 0 = 0 }; reset = record { 0 = 0 } }

pub loop-position-preserved : goal.loop-position-preserved
loop-position-preserved c = λ k d k_in.
    let a = c.args in
    let names = a.self.now.names.items in
    let same = a.self.now.same.items in
    below_more (λ (i : ℕ). (e : Latch) → IsSameLatch names same a.latches.now (get_or a.own.now i e) (get_or a.shared.now i None)) c.loop-position.position
    (λ i i_in e. c.loop-position.invariant i e i_in)
    (λ e. same_here names same a.latches.now a.own.now a.shared.now c.loop-position.position none e c.given_at-given.result c.loop-position-test.true c.given_at-given.ensures (c.is_latch_same.ensures c.if-not-is_latch_same.false))
    k k_in d
