use Rattle.std.proofs.Common.{◌≡◌, arith, w32, w64, to_z, of_z}
use Rattle.std.proofs.lemmas.Int.{to_z-of_z, fits_signed_from_abs}
use Rattle.lrat.proofs.TextLaws.{literal_within}
use Rattle.lrat.proofs.reading.LiteralsItemKind.item.Goals as goal

pub overflow_cast-result : goal.overflow_cast-result
overflow_cast-result g c =
    let z = c.in-Some-default.literal in
    let within = literal_within c.args.text.now z c.in_ok-rest.field-0.1.now (rw c.in-Some-default.is-0 at c.in_ok-rest.ensures.value) in
    let wide : to_z w64 (of_z w64 z) ≡ z = to_z-of_z w64 z (fits_signed_from_abs w64 z (omega (arith, within))) in
    rw wide (fits_signed_from_abs w32 z within)

pub returns-in-Some-default-clause-value : goal.returns-in-Some-default-clause-value
returns-in-Some-default-clause-value g c =
    let z = c.in-Some-default.literal in
    let value = rw c.in-Some-default.is-0 at c.in_ok-rest.ensures.value in
    let within = literal_within c.args.text.now z c.in_ok-rest.field-0.1.now value in
    let wide : to_z w64 (of_z w64 z) ≡ z = to_z-of_z w64 z (fits_signed_from_abs w64 z (omega (arith, within))) in
    let narrow : to_z w32 (of_z w32 z) ≡ z = to_z-of_z w32 z (fits_signed_from_abs w32 z within) in
    rw (wide, narrow) value
