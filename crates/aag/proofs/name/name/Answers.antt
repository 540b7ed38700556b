use Rattle.std.proofs.Common.{◌+◌, refl, arith}
use Rattle.std.proofs.lemmas.List.{take_rest}
use Rattle.aag.proofs.NameLaws.{name_none, name_some, name_taken, taken_is_name}
use Rattle.aag.proofs.name.name.Goals as goal

pub returns-in-None-clause-value : goal.returns-in-None-clause-value
returns-in-None-clause-value g c = rw (name_none c.args.text.now (λ k lt. c.in-None.ensures k (omega arith) lt)) refl

pub returns-in-Some-eq0-clause-value : goal.returns-in-Some-eq0-clause-value
returns-in-Some-eq0-clause-value g c =
    let first = rw c.in-Some-eq0.field-0-test at c.in-Some-eq0.ensures in
    rw (name_some c.args.text.now 0 first.0.high (λ j lt. absurd (omega (arith, lt))) first.1) refl

pub returns-in_ok-from_slice-in-Some-clause-value : goal.returns-in_ok-from_slice-in-Some-clause-value
returns-in_ok-from_slice-in-Some-clause-value g c =
    let found = c.in-Some.ensures in
    rw (take_rest c.args.text.now (c.in-Some.end + 1), c.in_ok-from_slice-in-Some.ensures)
    (name_taken c.args.text.now c.in-Some.end found.0.high c.in-Some.end-test.1 (λ j lt. found.0.before j (omega arith) lt) found.1)

pub returns-in_ok-from_slice-in-Some-clause-named : goal.returns-in_ok-from_slice-in-Some-clause-named
returns-in_ok-from_slice-in-Some-clause-named g c =
    let found = c.in-Some.ensures in
    rw c.in_ok-from_slice-in-Some.ensures
    (taken_is_name c.args.text.now c.in-Some.end found.0.high c.in-Some.end-test.1 (λ j lt. found.0.before j (omega arith) lt) found.1)
