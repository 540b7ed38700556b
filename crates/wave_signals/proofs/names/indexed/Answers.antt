use Rattle.std.proofs.Common.{◌≡◌, ◌∙◌, arith}
use Rattle.std.specs.Cmp.Lexicographic.{same_text}
use Rattle.scan.proofs.NumberLaws.{number_takes}
use Rattle.wave_signals.proofs.NameLaws.{name_parts, unnot}
use Rattle.wave_signals.proofs.names.indexed.Goals as goal

pub returns : goal.returns
returns c =
    let takes = number_takes 4294967295 _ _ (omega arith) c.in-Ok.ensures.value in
    let one : c.in-Ok.rest.now ≡ c.as_slice.result.now = same_text c.in-Ok.rest.now c.as_slice.result.now (unnot _ c.if-ne.ensures) in
    let end = one ∙ c.as_slice.ensures in
    name_parts c.args.name.now c.in-Some.open c.in-Ok.index c.in-Ok.rest.now c.in-Some.ensures.0 c.in-Some.ensures.1 takes.parts end
