use Rattle.std.proofs.Common.{rules, ◌≡◌, ◌+◌, ◌≤◌, get_or, sym, ◌∙◌, ap, subst}
use Rattle.std.proofs.lemmas.List.{take_all}
use Rattle.graph.specs.declared.circuit.Lit.{Lit}
use Rattle.cnf.specs.Clauses.{step_units, denial, next_of}
use Rattle.cnf.proofs.CaseLaws.{next_of_range, step_units_more}
use Rattle.cnf.proofs.Formed.{IsClauseFrom, step_units_from}
use Rattle.cnf.proofs.units.step_units_into.Goals as goal

pub denial-requires-clause-in_range : goal.denial-requires-clause-in_range
denial-requires-clause-in_range c =
    let blank : Lit = record { 0 = 0 } in
    rw (c.first-time.ensures.max_var, c.next_of.ensures, c.requires.table.nexts (get_or c.args.clause.now c.loop-lit.lit-index blank))
    (next_of_range c.args.circuit.now c.args.clause.now c.well_formed-2.ensures c.requires.over c.loop-lit.lit-index blank c.loop-lit-test.true)

pub loop-lit-preserved : goal.loop-lit-preserved
loop-lit-preserved c =
    let blank : Lit = record { 0 = 0 } in
    let next : c.next_of.result ≡ next_of c.args.circuit.now.latches (get_or c.args.clause.now c.loop-lit.lit-index blank) =
    c.next_of.ensures ∙ c.requires.table.nexts (get_or c.args.clause.now c.loop-lit.lit-index blank) in
    let unit : c.denial.result ≡ denial c.args.circuit.now.max_var 0 c.next_of.result = search rules in
    step_units_more c.args.circuit.now c.args.clause.now c.loop-lit.lit-index blank _ _ _ _ c.loop-lit-test.true c.loop-lit.invariant next unit (search rules)

pub returns-clause-in_range : goal.returns-clause-in_range
returns-clause-in_range c =
    let e : c.loop-lit.units.items ≡ step_units c.args.circuit.now c.args.clause.now =
    c.loop-lit.invariant ∙ ap (step_units c.args.circuit.now) (take_all c.loop-lit.lit-index c.args.clause.now c.loop-lit-test.false) in
    subst (λ ls. IsClauseFrom (λ u. u ≤ c.args.circuit.now.max_var + 1) ls) (sym e) (step_units_from c.args.circuit.now c.args.clause.now c.well_formed-2.ensures c.requires.over)
