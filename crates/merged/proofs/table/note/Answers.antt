use Rattle.std.proofs.Common.{◌<◌, ℕ, List, ◌+◌, length, sym, subst}
use Rattle.cnf.specs.Formulas.{clause_at}
use Rattle.graph.specs.declared.circuit.Lit.{Lit}
use Rattle.merged.specs.Reading.{Says, SaysAt}
use Rattle.merged.proofs.Noted.{said_inside, small_at, table_more, table_kept}
use Rattle.merged.proofs.table.note.Goals as goal

pub said-requires : goal.said-requires
said-requires c = small_at c.args.clauses.now c.args.place (length c.args.table.now) c.clause_at.result.now c.requires.range c.clause_at.ensures

pub bounds-table-equal : goal.bounds-table-equal
bounds-table-equal c =
    said_inside c.args.clauses.now c.args.place (length c.args.table.now) c.in-Some.equal.variable c.in-Some.equal.same c.clause_at.result.now c.clause_at-2.result.now
    c.requires.range c.clause_at.ensures c.in-Some.ensures.some

pub returns-in-Some-clause-table : goal.returns-in-Some-clause-table
returns-in-Some-clause-table c =
    let cs : List (List Lit) = c.args.clauses.now in
    let v : ℕ = c.in-Some.equal.variable in
    let b : Lit = c.in-Some.equal.same in
    let inside : v < length c.args.table.now =
    said_inside cs c.args.place (length c.args.table.now) v b c.clause_at.result.now c.clause_at-2.result.now c.requires.range c.clause_at.ensures c.in-Some.ensures.some in
    let said : SaysAt cs c.args.place v b =
    subst (λ y. Says (clause_at cs c.args.place) y v b) c.clause_at-2.ensures (subst (λ x. Says x c.clause_at-2.result.now v b) c.clause_at.ensures c.in-Some.ensures.some) in
    table_more cs c.args.place c.args.table.now v b inside c.requires.table said

pub returns-in-None-clause-table : goal.returns-in-None-clause-table
returns-in-None-clause-table c =
    let cs : List (List Lit) = c.args.clauses.now in
    table_kept cs c.args.place c.args.table.now c.requires.table
    (λ v b said. c.said.ensures.none c.in-None.is v b (subst (λ y. Says c.clause_at.result.now y v b) (sym c.clause_at-2.ensures) (subst (λ x. Says x (clause_at cs (c.args.place + 1)) v b) (sym c.clause_at.ensures) said)))
