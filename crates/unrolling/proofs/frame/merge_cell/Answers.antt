use Rattle.std.proofs.Common.{rules, ◌≡◌, ℤ, List, ◌∙◌, ap, subst, SFits, w32}
use Rattle.std.proofs.lemmas.List.{get_or_read}
use Rattle.lrat.proofs.Fit.{read32}
use Rattle.unrolling.specs.declared.cone.Cell.{Cell}
use Rattle.unrolling.specs.declared.encoder.Encoder.{Encoder}
use Rattle.unrolling.specs.Cones.{cell_at, no_cell}
use Rattle.unrolling.specs.Encodings.{told}
use Rattle.unrolling.specs.Merged.{AreEqualIn}
use Rattle.unrolling.specs.Unrollings.{literal_at}
use Rattle.unrolling.proofs.Swept.{ready_later, table_merged}
use Rattle.unrolling.proofs.frame.merge_cell.Goals as goal

pub merged-requires-clause-ready : goal.merged-requires-clause-ready
merged-requires-clause-ready g c =
    let w = c.args.sweeping.now in
    ready_later c.args.encoder.now c.encode_cell.new.encoder w.given.items (g.S.Sat.vars w.solver) (g.S.Sat.clauses w.solver) w.representatives c.in_ok-encode_cell.ensures.grown.extended c.requires.ready

pub returns-clause-table : goal.returns-clause-table
returns-clause-table g c = λ s cs t is_table.
    let m = c.args.circuit.now in
    let cone = c.args.cone.now in
    let e : Encoder = c.encode_cell.new.encoder in
    let fs = e.functions.items in
    let table : List ℤ = c.encode_cell.new.table in
    let l : ℤ = c.in_ok-table.field-0 in
    let fl : SFits w32 l = search rules in
    let fe : SFits w32 c.entry-literal.result = search rules in
    let cell : Cell = cell_at cone.cells.items c.args.place in
    let is : c.index.result.now ≡ cell = get_or_read cone.cells.items c.args.place c.index.result.now c.requires.inside c.index.ensures no_cell in
    let entry_is : c.entry-literal.result ≡ literal_at table cell.variable = c.entry-literal.ensures ∙ ap (λ (q : Cell). literal_at table q.variable) is in
    let made = c.in_ok-encode_cell.ensures.table s cs t is_table in
    let equal : AreEqualIn fs l (literal_at table cell.variable) = subst (AreEqualIn fs l) (read32 _ fe ∙ entry_is) c.in_ok-table.ensures.equal in
    rw (is, read32 _ fl) (table_merged m cone s (told e cs) t e.variables c.args.place l table c.requires.cone c.requires.inside made c.in_ok-table.ensures.literal equal)
