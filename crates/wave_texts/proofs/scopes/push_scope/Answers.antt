use Rattle.wave_texts.proofs.TextLaws.{after}
use Rattle.wave_texts.proofs.scopes.push_scope.Goals as goal

pub returns : goal.returns
returns c =
    let old = c.args.text.now.items in
    let one = c.push_part.new.text.items in
    after old one c.extend-2.new.to.items _ _ (after old c.extend.new.to.items one _ _ c.in_ok-extend.ensures.items c.in_ok-push_part.ensures) c.in_ok-extend-2.ensures.items
