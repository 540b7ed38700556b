use Rattle.std.proofs.Common.{◌<◌, ◌∙◌, All, map, ap, refl, sym, subst}
use Rattle.cdcl_log.specs.Units.{unit_id}
use Rattle.cdcl_log.proofs.Closings.{denials_are, indices_within}
use Rattle.cdcl_log.proofs.closing.closing_line.Goals as goal

pub unit_ids-requires : goal.unit_ids-requires
unit_ids-requires c =
    subst (All (λ p. p < c.args.numbering.room)) (sym c.as_slice.ensures.value)
    (indices_within c.args.units.now c.args.clause.now c.in_ok-indices.indices.items c.args.numbering.room c.requires.few c.in_ok-indices.ensures)

pub returns : goal.returns
returns c = (
  c.in_ok-all.all.items,
  rw (c.in_ok-from_slice.ensures, c.from_vec.ensures, c.in_ok-extend.ensures.items) refl,
  denials_are c.args.numbering.base c.args.units.now c.args.clause.now c.in_ok-all.all.items c.in_ok-indices.indices.items c.in_ok-indices.ensures
      (c.in_ok-all.ensures ∙ ap (map (unit_id c.args.numbering.base)) c.as_slice.ensures.value),
)
