use Rattle.std.proofs.Common.{◌≡◌, ◌∙◌, ◌+◌, length, ap}
use Rattle.std.proofs.lemmas.List.{length-replicate}
use Rattle.merged.proofs.Noted.{range_of}
use Rattle.merged.proofs.table.table_of.Goals as goal

pub note_all-requires-clause-range : goal.note_all-requires-clause-range
note_all-requires-clause-range c =
    let m = c.args.circuit.now in
    let long : length c.as_mut_slice.result.now ≡ m.max_var + 1 =
    ap length c.as_mut_slice.ensures.value ∙ ap length c.in_ok-table.ensures ∙ length-replicate _ _ ∙ ap (λ n. n + 1) c.max_var.ensures in
    range_of m c.args.clauses.now (length c.as_mut_slice.result.now) c.well_formed-2.ensures c.requires long
