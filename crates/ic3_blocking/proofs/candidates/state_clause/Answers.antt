use Rattle.std.proofs.Common.{rules, ◌≡◌, Option, Vec, Global, IfSome, drop, length, sym, subst, ◌∙◌}
use Rattle.graph.proofs.Tabled.{take_whole}
use Rattle.states.specs.declared.state_lit.StateLit.{StateLit}
use Rattle.ic3_frames.specs.Frames.{IsRising}
use Rattle.ic3_blocking.specs.Candidates.{AreInside}
use Rattle.ic3_blocking.proofs.candidates.state_clause.Goals as goal

pub returns : goal.returns
returns c = λ m has.
    let n = length m.latches in
    let found = subst (λ (o : Option (Vec StateLit Global)). IfSome o (λ v. AreInside n v.items)) c.in-Some.is (c.in_ok-found.ensures n has) in
    let before : AreInside n c.as_mut_slice.result.now = subst (AreInside n) (sym c.as_mut_slice.ensures.value) found in
    let sorted = c.sort.new.lits in
    let long : length sorted ≡ c.in-Some.found.len = search rules in
    let whole = take_whole c.in-Some.found.len sorted (drop (length sorted) c.in-Some.found.items) long in
    let after : AreInside n sorted = c.sort.ensures.inside n before in
    let rising : IsRising c.as_slice.result.now = c.is_rising.ensures.0 c.if-not-is_rising.false in
    record {
      inside = subst (AreInside n) (sym (c.from_vec.ensures ∙ whole)) after;
      rising = subst IsRising (c.as_slice.ensures.value ∙ sym c.from_vec.ensures) rising;
    }
