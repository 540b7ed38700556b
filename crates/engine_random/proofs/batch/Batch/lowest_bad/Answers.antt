use Rattle.std.proofs.Common.{◌≡◌, ap, subst, ◌∙◌, List, IfSome, arith}
use Rattle.graph.specs.declared.circuit.Lit.{Lit}
use Rattle.graph.specs.declared.parts.Parts.{Parts}
use Rattle.stimulus.proofs.Ranges.{bad_in_range}
use Rattle.engine_random.specs.Batches.{Played, Marks}
use Rattle.engine_random.proofs.FindingLaws.{lowest_found}
use Rattle.engine_random.proofs.batch.Batch.lowest_bad.Goals as goal

pub setting-bad-requires-clause-in_range : goal.setting-bad-requires-clause-in_range
setting-bad-requires-clause-in_range c =
    rw (c.self.invariant, c.as_slice.ensures, c.parts.ensures.parts) (λ k d k_in. let h = bad_in_range c.self.inside.circuit.now c.parts.ensures.well_formed k d k_in in omega (arith, h))

pub returns-in-Some-clause-found : goal.returns-in-Some-clause-found
returns-in-Some-clause-found c =
    let literals : c.as_slice.result.now ≡ c.self.inside.circuit.now.bad = c.as_slice.ensures ∙ ap (λ (p : Parts). p.bad) c.parts.ensures.parts in
    let marks = subst (λ (xs : List Lit). IfSome c.self.inside.wide.now (λ v. Marks xs v c.self.inside.running c.setting-bad.result)) literals c.setting-bad.ensures in
    let carried = subst (λ (b : Played). IfSome b.wide.now (λ v. Marks b.circuit.bad v b.running c.setting-bad.result)) c.self.view_is marks in
    lowest_found c.args.self.now c.setting-bad.result c.in-Some.run' c.requires carried c.in-Some.ensures c.finding.result c.finding.ensures.found
