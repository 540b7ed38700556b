use Rattle.std.proofs.Common.{rules, ◌^◌, ◌<◌, length}
use Rattle.rounds.proofs.Tried.{asked_next, behind_next, few_next, held_now, held_over, many_next}
use Rattle.rounds.proofs.counting.decide_rounds.Goals as goal

pub returns-then-not-are_few_rounds-clause-meant : goal.returns-then-not-are_few_rounds-clause-meant
returns-then-not-are_few_rounds-clause-meant g c = λ _.
    let latches = c.args.circuit.now.latches in
    let next = c.next_of-rounds.result in
    let over : 2 ^ length latches < next = many_next c.are_few_rounds.result next latches c.latches-latches.result.now c.if-not-are_few_rounds.true c.latches-latches.ensures c.are_few_rounds.ensures in
    held_over c.counting.rounds next (length latches) c.counting.invariant.asked c.next_of-rounds.ensures.first c.next_of-rounds.ensures.later c.counting.invariant.few over

pub counting-preserved : goal.counting-preserved
counting-preserved g c =
    let next = c.next_of-rounds.result in
    record {
      spends = search rules;
      held = held_now c.args.circuit.now c.args.position c.counting.rounds c.in_ok-certificate.field-0 c.in-Exceeded.is c.in_ok-certificate.ensures.tried;
      asked = asked_next c.counting.rounds next c.counting.invariant.asked c.next_of-rounds.ensures.first c.next_of-rounds.ensures.later;
      few = few_next c.are_few_rounds.result next c.args.circuit.now.latches c.latches-latches.result.now c.if-not-are_few_rounds.false c.latches-latches.ensures c.are_few_rounds.ensures;
      behind = behind_next c.counting.rounds next c.next_of-rounds.ensures.first c.next_of-rounds.ensures.later;
      stays = search rules;
    }
