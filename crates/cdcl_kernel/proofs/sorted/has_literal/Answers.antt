use Rattle.std.proofs.Common.{rules, SFits, w32}
use Rattle.lrat.proofs.Fit.{read32}
use Rattle.std.proofs.lemmas.Cmp.{int_cmp_total}
use Rattle.std.proofs.lemmas.Map.Lookups.{exact_signed}
use Rattle.cdcl_kernel.proofs.Among.{found_where}
use Rattle.cdcl_kernel.proofs.sorted.has_literal.Goals as goal

pub returns : goal.returns
returns c =
    let f : SFits w32 c.args.literal = search rules in
    rw c.is_ok.ensures.value (found_where int_cmp_total exact_signed _ _ _ c.binary_search.ensures.bound (rw (read32 c.args.literal f) at c.binary_search.ensures.position) c.requires)
