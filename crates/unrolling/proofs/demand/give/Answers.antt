use Rattle.std.proofs.Common.{rules, ◌-◌, ◌≤◌, ℕ, length, unsigned_abs, ◌∙◌, arith}
use Rattle.std.proofs.lemmas.List.Elements.{All-weaker}
use Rattle.graph.proofs.Evaluation.{All-unmap}
use Rattle.lrat.specs.Literals.{IsLiteral}
use Rattle.cones.specs.Marks.{IsMarked}
use Rattle.unrolling.specs.Unrollings.{literal_of}
use Rattle.unrolling.proofs.Demanded.{giving_begins, giving_more, giving_ends, wanted_small}
use Rattle.unrolling.proofs.Negated.{literal_up}
use Rattle.unrolling.proofs.demand.give.Goals as goal

pub want_all-requires-clause-literals : goal.want_all-requires-clause-literals
want_all-requires-clause-literals g c =
    let n : ℕ = c.args.encoder.now.variables in
    let k : ℕ = length c.args.marks.now - 1 in
    let le : n ≤ k = omega (arith, c.requires.given.places) in
    All-weaker (IsLiteral n) (IsLiteral k) (λ l is. literal_up n k l is le) c.args.table.now c.requires.literals

pub want_all-requires-2-clause-literals : goal.want_all-requires-2-clause-literals
want_all-requires-2-clause-literals g c =
    let n : ℕ = c.args.encoder.now.variables in
    let k : ℕ = length c.want_all.new.marks - 1 in
    let le : n ≤ k = omega (arith, c.requires.given.places, c.in_ok-want_all.ensures.grows.places) in
    All-weaker (IsLiteral n) (IsLiteral k) (λ l is. literal_up n k l is le) c.args.table.now c.requires.literals

pub giving-init : goal.giving-init
giving-init g c =
    let e = c.args.encoder.now in
    let small = wanted_small e.variables c.args.table.now in
    record {
      vars = search rules;
      giving = giving_begins e c.args.marks.now c.want_all.new.marks c.want_all-2.new.marks (g.S.Sat.clauses c.args.solver.now) _ _ c.want_all.new.list.items c.want_all-2.new.list.items c.requires.given
          (rw c.new-list.ensures.items at c.in_ok-want_all.ensures.grows) c.in_ok-want_all-2.ensures.grows c.in_ok-want_all.ensures.from c.in_ok-want_all-2.ensures.from
          (small c.args.constraints.now c.requires.literals c.requires.constraints) (small c.args.bad.now c.requires.literals c.requires.bad);
      constraints = λ k d k_in. c.in_ok-want_all-2.ensures.grows.kept _ (All-unmap (IsMarked c.want_all.new.marks) (λ a. unsigned_abs (literal_of c.args.table.now a)) c.args.constraints.now c.in_ok-want_all.ensures.grows.marked k d k_in);
      bad = All-unmap (IsMarked c.want_all-2.new.marks) (λ a. unsigned_abs (literal_of c.args.table.now a)) c.args.bad.now c.in_ok-want_all-2.ensures.grows.marked;
    }

pub giving-preserved : goal.giving-preserved
giving-preserved g c = record {
  vars = c.in_ok-give_one.ensures.vars ∙ c.giving.invariant.vars;
  giving = giving_more c.args.encoder.now c.giving.marks c.give_one.new.marks (g.S.Sat.clauses c.args.solver.now) (g.S.Sat.clauses c.giving.solver) (g.S.Sat.clauses c.give_one.new.solver) c.giving.list.items
      c.give_one.new.list.items c.giving.next c.giving.invariant.giving (omega arith) c.in_ok-give_one.ensures.grows c.in_ok-give_one.ensures.given;
  constraints = λ k d k_in. c.in_ok-give_one.ensures.grows.kept _ (c.giving.invariant.constraints k d k_in);
  bad = λ k d k_in. c.in_ok-give_one.ensures.grows.kept _ (c.giving.invariant.bad k d k_in);
}

pub returns-clause-given : goal.returns-clause-given
returns-clause-given g c =
    giving_ends c.args.encoder.now c.args.marks.now c.giving.marks (g.S.Sat.clauses c.args.solver.now) (g.S.Sat.clauses c.giving.solver) c.giving.list.items c.giving.next (omega arith) c.requires.given c.giving.invariant.giving
