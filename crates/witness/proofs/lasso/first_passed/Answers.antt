use Rattle.std.proofs.Common.{◌≡◌, ◌∙◌, ◌∷◌, ◌++◌, [], Bool, List, None, Some, option_copied, sym, ap, subst}
use Rattle.witness.specs.Lassos.{HasSeen, IsFirstAt, passed_at}
use Rattle.witness.proofs.SeenLaws.{seen_found, seen_new}
use Rattle.witness.proofs.lasso.first_passed.Goals as goal

pub returns-in-Some : goal.returns-in-Some
returns-in-Some c = λ states long seen.
    let s = c.args.state.now in
    let e : passed_at c.args.seen.now s ≡ Some c.in-Some.first.now = ap (passed_at c.args.seen.now) (sym c.in_ok-state.ensures) ∙ (sym c.get.ensures.value ∙ ap option_copied c.in-Some.is) in
    seen_found c.args.seen.now states s c.in-Some.first.now seen e

pub returns : goal.returns
returns c = λ states long seen.
    let key = c.in_ok-state.state in
    let none : passed_at c.args.seen.now key.items ≡ None = sym c.get.ensures.value ∙ ap option_copied c.in_default.is in
    subst (λ (s : List Bool). HasSeen c.insert.new.to (states ++ s ∷ []) × IsFirstAt (states ++ s ∷ []) s c.args.passed) c.in_ok-state.ensures
    (seen_new c.args.seen.now c.insert.new.to states key c.args.passed seen long none c.in_ok-insert.ensures.updates)
