use Rattle.std.proofs.Common.{◌≡◌, ◌+◌, ◌⊎◌, Option, None, inl, inr}
use Rattle.engine.specs.declared.finding.Finding.{Finding}
use Rattle.ic3_blocking.specs.Answers.{AreApart}
use Rattle.ic3_blocking.specs.Sound.{IsSound}
use Rattle.ic3_blocking.proofs.Outcomes.{if_both, if_each, if_on}
use Rattle.ic3.proofs.search.search_step.Goals as goal

pub returns-in-Set-clause-sound : goal.returns-in-Set-clause-sound
returns-in-Set-clause-sound g c =
    if_on (IsSound c.args.circuit.now c.block_obligations.new.self c.block_obligations.new.frames) (λ (r : Option Finding). r ≡ None) c.block_obligations.result c.block_obligations.ensures.sound

pub returns-in-Set-clause-going : goal.returns-in-Set-clause-going
returns-in-Set-clause-going g c = if_each _ c.block_obligations.result (λ r none. inl c.block_obligations.ensures.top)

pub returns-in-Excluded-clause-going : goal.returns-in-Excluded-clause-going
returns-in-Excluded-clause-going g c =
    let old = c.args.frames.now in
    let new = c.deepen.new.frames in
    if_both (λ (r : Option Finding). r ≡ None → new.top ≡ old.top + 1) (λ (r : Option Finding). r ≡ None → AreApart new)
    (λ (r : Option Finding). r ≡ None → (new.top ≡ old.top) ⊎ ((new.top ≡ old.top + 1) × AreApart new)) c.deepen.result (λ r opened apart none. inr (opened none, apart none)) c.deepen.ensures.opened c.deepen.ensures.apart
