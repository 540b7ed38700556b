use Rattle.std.proofs.Common.{◌≡◌, ◌+◌, ◌-◌, ◌∙◌, suc, ap, subst, arith, ◌++◌}
use Rattle.std.specs.Prelude.{flat_map}
use Rattle.graph.proofs.Evaluation.{latches_in_range}
use Rattle.cnf.specs.Clauses.{time_clauses}
use Rattle.cnf.specs.Unrolled.{join_clauses, IsExtension}
use Rattle.cnf.proofs.CaseLaws.{nexts_in_range}
use Rattle.cnf.proofs.Extended.{extended}
use Rattle.cnf.proofs.unrolling.extension_clauses.Goals as goal

pub push_joins-requires-clause-lits : goal.push_joins-requires-clause-lits
push_joins-requires-clause-lits c = rw (c.latches.ensures, c.after-before.ensures.max_var) (latches_in_range c.args.circuit.now c.well_formed-2.ensures)

pub push_joins-requires-clause-nexts : goal.push_joins-requires-clause-nexts
push_joins-requires-clause-nexts c = rw (c.latches.ensures, c.after-before.ensures.max_var) (nexts_in_range c.args.circuit.now c.well_formed-2.ensures)

pub returns : goal.returns
returns c =
    let m = c.args.circuit.now in
    let p = c.after-before.result.offset in
    let joins : c.push_joins.new.clauses ≡ flat_map (join_clauses m.max_var p) m.latches = rw (c.after-before.ensures.max_var, c.latches.ensures, c.new-clauses.ensures) at c.in_ok-push_joins.ensures in
    let offset : c.next.result.offset ≡ p + m.max_var + 1 = c.next.ensures.offset ∙ ap (λ n. p + n + 1) c.after-before.ensures.max_var in
    let both : c.push_time.new.clauses ≡ flat_map (join_clauses m.max_var p) m.latches ++ time_clauses m (p + m.max_var + 1) =
    c.in_ok-push_time.ensures ∙ ap (λ cs. cs ++ time_clauses m c.next.result.offset) joins ∙ ap (λ o. flat_map (join_clauses m.max_var p) m.latches ++ time_clauses m o) offset in
    let one : suc (c.args.steps - 1) ≡ c.args.steps = omega arith in
    subst (λ k. IsExtension m k c.push_time.new.clauses) one (extended m (c.args.steps - 1) p c.push_time.new.clauses c.after-before.ensures.offset both)
