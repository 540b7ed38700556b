use Rattle.std.proofs.Common.{rules, ◌≡◌, ◌+◌, ◌<◌, length}
use Rattle.cdcl_log.proofs.Closings.{section_line}
use Rattle.cdcl_log.proofs.lemmas.section.Goals as goal

pub push_line-requires : goal.push_line-requires
push_line-requires c =
    let is : c.from.result ≡ c.args.top = search rules in
    let small : c.args.top + length c.args.units.now < 4294967295 = search rules in
    rw (is, c.in_ok-from_slice.ensures, c.from_vec.ensures, c.in_ok-extend.ensures.items, c.in_ok-hints.ensures, c.as_slice.ensures, c.as_slice-2.ensures)
    (section_line c.requires.shown.0 c.args.units.now c.args.closing.now c.args.top small c.requires.shown.1)
