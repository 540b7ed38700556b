use Rattle.certify3.proofs.Subjects.{countable_here, counter_here, ended_here, ended_range, subject_is}
use Rattle.std.proofs.Common.{get_or, refl}
use Rattle.certify3.proofs.subject.counter_for.Goals as goal

pub returns-in_ok-circuit-in-Ok-clause-subject : goal.returns-in_ok-circuit-in-Ok-clause-subject
returns-in_ok-circuit-in-Ok-clause-subject c =
    let m = c.args.circuit.now in
    let claim = c.args.claim in
    let s = c.in-Ok.counter in
    let n = c.args.position in
    subject_is m s claim c.args.extension.latches.now c.args.extension.gates.now (get_or c.bad.result.now 0 (record { 0 = 0 })) (record { circuit = c.in_ok-circuit-in-Ok.circuit; bad = get_or c.bad.result.now 0 (record { 0 = 0 }) })
    (countable_here m claim n c.requires.property c.requires.there c.requires.few c.in-Ok.ensures.countable.within) (counter_here m s claim.property claim.rounds n c.requires.property c.in-Ok.ensures.counter)
    (ended_here m s claim.property claim.rounds n c.bad.result.now c.requires.property c.in-Ok.ensures.counter c.bad.ensures)
    (ended_range m s claim.rounds n c.bad.result.now c.well_formed-in-Ok.ensures c.in-Ok.ensures.counter c.bad.ensures)
    c.in_ok-circuit-in-Ok.ensures.grown refl
