use Rattle.std.proofs.Common.{rules, List, map, unsigned_abs, subst, arith, SFits, w32}
use Rattle.graph.specs.declared.circuit.Lit.{Lit}
use Rattle.cones.specs.Reach.{Grows, IsFrom}
use Rattle.unrolling.specs.Unrollings.{literal_of}
use Rattle.unrolling.proofs.Added.{read_as}
use Rattle.unrolling.proofs.Demanded.{grows_on, from_on, take_past}
use Rattle.unrolling.proofs.demand.want_all.Goals as goal

pub loop-lit-preserved : goal.loop-lit-preserved
loop-lit-preserved c =
    let blank : Lit = record { 0 = 0 } in
    let fl : SFits w32 c.literal.result = search rules in
    let grows = rw (read_as _ _ fl c.literal.ensures) at c.in_ok-want.ensures.grows in
    let from = rw (read_as _ _ fl c.literal.ensures) at c.in_ok-want.ensures.from in
    record {
      grows = grows_on (λ a. unsigned_abs (literal_of c.args.table.now a)) c.args.lits.now c.loop-lit.lit-index blank _ _ _ _ _ _ c.loop-lit-test.true c.loop-lit.invariant.grows grows;
      from = from_on (λ a. unsigned_abs (literal_of c.args.table.now a)) c.args.lits.now c.loop-lit.lit-index blank _ _ _ c.loop-lit-test.true c.loop-lit.invariant.from from;
    }

pub returns-clause-grows : goal.returns-clause-grows
returns-clause-grows c =
    subst (λ (q : List Lit). Grows (map (λ a. unsigned_abs (literal_of c.args.table.now a)) q) c.args.marks.now c.args.list.now.items c.loop-lit.marks c.loop-lit.list.items)
    (take_past c.loop-lit.lit-index c.args.lits.now (omega arith)) c.loop-lit.invariant.grows

pub returns-clause-from : goal.returns-clause-from
returns-clause-from c =
    subst (λ (q : List Lit). IsFrom (map (λ a. unsigned_abs (literal_of c.args.table.now a)) q) c.args.marks.now c.loop-lit.marks)
    (take_past c.loop-lit.lit-index c.args.lits.now (omega arith)) c.loop-lit.invariant.from
