use Rattle.std.proofs.Common.{rules, ◌≡◌, ◌<◌, List, ℕ, ℤ, length, sym, ◌∙◌, ap, subst, SFits, w32}
use Rattle.std.proofs.lemmas.List.{get_or_read}
use Rattle.lrat.proofs.Fit.{read32}
use Rattle.cuts.specs.Cuts.{IsLeaf}
use Rattle.unrolling.specs.declared.cone.Cell.{Cell}
use Rattle.unrolling.specs.declared.function.Function.{Function}
use Rattle.unrolling.specs.Cones.{cell_at, no_cell}
use Rattle.unrolling.specs.Encodings.{IsFunctionIn, told}
use Rattle.unrolling.specs.Unrollings.{by_table}
use Rattle.unrolling.proofs.Tabled.{cell_range, table_cell}
use Rattle.unrolling.proofs.frame.encode_cell.Goals as goal

pub function_of-requires : goal.function_of-requires
function_of-requires c =
    let cone = c.args.cone.now in
    let table : List ℤ = c.args.table.now in
    let is : c.index-cell.result.now ≡ cell_at cone.cells.items c.args.place = get_or_read cone.cells.items c.args.place c.index-cell.result.now c.requires.inside c.index-cell.ensures no_cell in
    subst (λ (q : Cell). (u : ℕ) → IsLeaf q.cut u → u < length table) (sym is) (cell_range c.args.circuit.now cone c.args.place (length table) c.requires.cone c.requires.inside c.requires.whole).1

pub returns-clause-table : goal.returns-clause-table
returns-clause-table c = λ s cs t is_table.
    let m = c.args.circuit.now in
    let cone = c.args.cone.now in
    let table : List ℤ = c.args.table.now in
    let cell : Cell = cell_at cone.cells.items c.args.place in
    let is : c.index-cell.result.now ≡ cell = get_or_read cone.cells.items c.args.place c.index-cell.result.now c.requires.inside c.index-cell.ensures no_cell in
    let function_is : c.function_of.result ≡ by_table table cell.cut = c.function_of.ensures ∙ ap (λ (q : Cell). by_table table q.cut) is in
    let made : IsFunctionIn c.literal.new.self.functions.items (by_table table cell.cut) c.in_ok-table.field-0 =
    subst (λ (q : Function). IsFunctionIn c.literal.new.self.functions.items q c.in_ok-table.field-0) function_is c.in_ok-table.ensures.value in
    let fl : SFits w32 c.in_ok-table.field-0 = search rules in
    rw (is, read32 _ fl) (table_cell m cone s (told c.args.encoder.now cs) (told c.literal.new.self cs) t c.args.encoder.now.variables c.literal.new.self.variables c.args.place c.in_ok-table.field-0 table
    c.requires.cone c.requires.inside is_table (λ v all. (c.in_ok-table.ensures.grown.extended.weaker v all.0, all.1)) c.in_ok-table.ensures.grown.extended.more c.in_ok-table.ensures.literal made)
