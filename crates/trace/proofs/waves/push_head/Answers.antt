use Rattle.wave_texts.proofs.TextLaws.{after}
use Rattle.trace.proofs.waves.push_head.Goals as goal

pub returns : goal.returns
returns c =
    let old = c.args.text.now.items in
    let one = c.push_variables.new.text.items in
    let two = c.push_comment.new.text.items in
    after old two c.extend-2.new.to.items _ _ (after old one two _ _ (after old c.extend.new.to.items one _ _ c.in_ok-extend.ensures.items c.in_ok-push_variables.ensures) c.in_ok-push_comment.ensures) c.in_ok-extend-2.ensures.items
