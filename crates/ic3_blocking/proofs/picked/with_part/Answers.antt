use Rattle.std.proofs.Common.{List, Contains, sym, subst}
use Rattle.states.specs.declared.state_lit.StateLit.{StateLit}
use Rattle.states.specs.States.{IsPartOf}
use Rattle.ic3_blocking.proofs.Outcomes.{if_ok}
use Rattle.ic3_blocking.proofs.picked.with_part.Goals as goal

pub returns-clause-part : goal.returns-clause-part
returns-clause-part c =
    let latches = c.as_slice.result.now in
    let clause = c.args.clause.now in
    if_ok (λ (kept : List StateLit). (a : StateLit) → Contains clause a → Contains latches a.latch → Contains kept a) (IsPartOf c.args.part.now) c.among.result
    (λ kept each a found. each a (c.requires.part a found) (subst (λ xs. Contains xs a.latch) (sym c.as_slice.ensures.value) (c.in_ok-latches.ensures.part a found)))
    c.among.ensures.each
