use Rattle.std.proofs.Common.{rules, ◌≡◌, ◌+◌, ◌≤◌, Contains, length, take, drop, get_or, map, subst, sym, arith}
use Rattle.std.proofs.lemmas.List.Elements.{All-set}
use Rattle.graph.specs.declared.circuit.Lit.{Lit}
use Rattle.graph.specs.Circuits.{variable}
use Rattle.lrat.proofs.Exact.{parts_at}
use Rattle.checker2.specs.Causes.{IsLatch, IsAmong}
use Rattle.checker2.proofs.Good.{good_more, seen_next, is_latch, is_no_latch, latch_in_range}
use Rattle.checker2.proofs.invariant.clause_fault.Goals as goal

pub returns-then-not-is_latch-clause-fault : goal.returns-then-not-is_latch-clause-fault
returns-then-not-is_latch-clause-fault c =
    let a : Lit = get_or c.args.clause.now c.loop-i.i record { 0 = 0 } in
    record {
      before = take c.loop-i.i c.args.clause.now;
      literal = a;
      after = drop (c.loop-i.i + 1) c.args.clause.now;
      are = parts_at c.args.clause.now c.loop-i.i record { 0 = 0 } c.loop-i-test.true;
      good = c.loop-i.invariant.good;
      faulty = is_no_latch c.args.circuit.now c.args.table.now c.variable-variable.result a c.is_latch.result c.requires.table c.variable-variable.ensures c.is_latch.ensures c.if-not-is_latch.true;
    }

pub bounds-seen-variable : goal.bounds-seen-variable
bounds-seen-variable c =
    let a : Lit = get_or c.args.clause.now c.loop-i.i record { 0 = 0 } in
    let latch : IsLatch c.args.circuit.now a =
    is_latch c.args.circuit.now c.args.table.now c.variable-variable.result a c.is_latch.result c.requires.table c.variable-variable.ensures c.is_latch.ensures c.if-not-is_latch.false in
    let range : variable a ≤ c.args.circuit.now.max_var = latch_in_range c.args.circuit.now a c.well_formed-2.ensures latch in
    let is : c.variable-variable.result ≡ variable a = c.variable-variable.ensures in
    let whole : length c.loop-i.seen ≡ length c.args.seen.now = c.loop-i.invariant.whole in
    let all : length c.args.seen.now ≡ c.args.circuit.now.max_var + 1 = c.requires.whole in
    omega arith

pub returns-then-seen-variable-clause-fault : goal.returns-then-seen-variable-clause-fault
returns-then-seen-variable-clause-fault c =
    let a : Lit = get_or c.args.clause.now c.loop-i.i record { 0 = 0 } in
    record {
      before = take c.loop-i.i c.args.clause.now;
      literal = a;
      after = drop (c.loop-i.i + 1) c.args.clause.now;
      are = parts_at c.args.clause.now c.loop-i.i record { 0 = 0 } c.loop-i-test.true;
      good = c.loop-i.invariant.good;
      faulty = (
        is_latch c.args.circuit.now c.args.table.now c.variable-variable.result a c.is_latch.result c.requires.table c.variable-variable.ensures c.is_latch.ensures c.if-not-is_latch.false,
        subst (Contains (map variable (take c.loop-i.i c.args.clause.now))) c.variable-variable.ensures ((c.loop-i.invariant.seen c.variable-variable.result).0 c.if-seen-variable.true),
      );
    }

pub bounds-seen-variable-in-loop-i : goal.bounds-seen-variable-in-loop-i
bounds-seen-variable-in-loop-i c =
    let a : Lit = get_or c.args.clause.now c.loop-i.i record { 0 = 0 } in
    let latch : IsLatch c.args.circuit.now a =
    is_latch c.args.circuit.now c.args.table.now c.variable-variable.result a c.is_latch.result c.requires.table c.variable-variable.ensures c.is_latch.ensures c.if-not-is_latch.false in
    let range : variable a ≤ c.args.circuit.now.max_var = latch_in_range c.args.circuit.now a c.well_formed-2.ensures latch in
    let is : c.variable-variable.result ≡ variable a = c.variable-variable.ensures in
    let whole : length c.loop-i.seen ≡ length c.args.seen.now = c.loop-i.invariant.whole in
    let all : length c.args.seen.now ≡ c.args.circuit.now.max_var + 1 = c.requires.whole in
    omega arith

pub loop-i-preserved : goal.loop-i-preserved
loop-i-preserved c =
    let a : Lit = get_or c.args.clause.now c.loop-i.i record { 0 = 0 } in
    let among : IsAmong (take c.loop-i.i c.args.clause.now) a → ⊥ = λ found. c.if-seen-variable.false
    ((c.loop-i.invariant.seen c.variable-variable.result).1 (subst (Contains (map variable (take c.loop-i.i c.args.clause.now))) (sym c.variable-variable.ensures) found)) in
    record {
      good = good_more c.args.circuit.now c.args.clause.now c.loop-i.i record { 0 = 0 } c.loop-i-test.true c.loop-i.invariant.good
          (is_latch c.args.circuit.now c.args.table.now c.variable-variable.result a c.is_latch.result c.requires.table c.variable-variable.ensures c.is_latch.ensures c.if-not-is_latch.false) among;
      seen = seen_next c.args.stamp c.args.clause.now c.loop-i.i record { 0 = 0 } c.loop-i.seen c.variable-variable.result c.loop-i-test.true c.variable-variable.ensures
          (bounds-seen-variable-in-loop-i c) c.loop-i.invariant.seen;
      most = All-set (λ s. s ≤ c.args.stamp) c.loop-i.seen c.variable-variable.result c.args.stamp (omega arith) c.loop-i.invariant.most;
      whole = search rules;
    }
