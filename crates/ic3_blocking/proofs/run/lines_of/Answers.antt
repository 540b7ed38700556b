use Rattle.std.proofs.Common.{◌≡◌, ◌∙◌, ◌++◌, ◌∷◌, [], Bool, List, ap, sym, subst, get_or, arith}
use Rattle.std.proofs.lemmas.List.{get_or_default}
use Rattle.ic3_blocking.specs.declared.obligation.Obligation.{Obligation}
use Rattle.ic3_blocking.specs.Answers.{IsWay}
use Rattle.ic3_blocking.proofs.Obligations.{IsBegun, begun_first, begun_next_at, begun_end}
use Rattle.ic3_blocking.proofs.run.lines_of.Goals as goal

pub listing-preserved : goal.listing-preserved
listing-preserved c =
    let h = c.listing.invariant in
    let os = c.args.found.now in
    let o = c.index-found-at.result in
    let more : c.listing.lines ++ o.inputs ∷ [] ≡ c.push.new.self = sym (c.in_ok-push.ensures.ok ∙ ap (λ (x : List Bool). c.listing.lines ++ x ∷ []) (c.in_ok-from_slice.ensures ∙ c.as_slice.ensures)) in
    let there : (d : Obligation) → o ≡ get_or os c.listing.at d = λ d. c.index-found-at.is ∙ get_or_default os c.listing.at o d h.inside in
    record {
      inside = let found = c.requires.obligations in
          let on = begun_next_at found.0 os o o c.listing.at c.in-Some.next [] h.inside c.index-found-at.is c.in-Some.is found.1 (begun_first found.0 o) in omega (arith, on.0, h.inside);
      begun = λ m d all.
          let begun = subst (λ (p : Obligation). IsBegun m (get_or os c.args.from d) p c.listing.lines) (sym (there d)) (h.begun m d all) in
          let on = begun_next_at m os (get_or os c.args.from d) o c.listing.at c.in-Some.next c.listing.lines h.inside c.index-found-at.is c.in-Some.is all begun in
          subst (IsBegun m (get_or os c.args.from d) (get_or os c.in-Some.next d)) more (on.1 d);
    }

pub returns-in-None : goal.returns-in-None
returns-in-None c = λ m d all.
    let h = c.listing.invariant in
    let os = c.args.found.now in
    let o = c.index-found-at.result in
    let more : c.listing.lines ++ o.inputs ∷ [] ≡ c.push.new.self = sym (c.in_ok-push.ensures.ok ∙ ap (λ (x : List Bool). c.listing.lines ++ x ∷ []) (c.in_ok-from_slice.ensures ∙ c.as_slice.ensures)) in
    let there : (d : Obligation) → o ≡ get_or os c.listing.at d = λ d. c.index-found-at.is ∙ get_or_default os c.listing.at o d h.inside in
    let begun = subst (λ (p : Obligation). IsBegun m (get_or os c.args.from d) p c.listing.lines) (sym (there d)) (h.begun m d all) in
    subst (IsWay m (get_or os c.args.from d)) more (begun_end m os (get_or os c.args.from d) o c.listing.at c.listing.lines h.inside c.index-found-at.is c.in-None.is all begun)
