use Rattle.std.proofs.Common.{rules, SFits, w64, refl}
use Rattle.std.proofs.lemmas.Int.{to_z-of_z}
use Rattle.cdcl_log.proofs.closing.opposed_line.Goals as goal

pub returns : goal.returns
returns c =
    let f : SFits w64 c.unit_id.result = search rules in
    let g : SFits w64 c.unit_id-2.result = search rules in (
      c.unit_id.result,
      c.unit_id-2.result,
      rw (c.in_ok-from_slice.ensures, c.from_vec.ensures, c.in_ok-push-2.ensures.items, c.in_ok-push.ensures.items, c.new-hints.ensures.items, to_z-of_z w64 c.unit_id.result f, to_z-of_z w64 c.unit_id-2.result g) refl,
      record { index = c.index_of-one.result; inside = c.index_of-one.ensures.inside; there = search rules; is = c.unit_id.ensures },
      record { index = c.index_of-other.result; inside = c.index_of-other.ensures.inside; there = search rules; is = c.unit_id-2.ensures },
    )
