use Rattle.std.proofs.Common.{◌∙◌, ap, sym, cond, Some, None, get_or, List, ◌≡◌, true, false}
use Rattle.lrat.specs.Slots.{blank, Slot}
use Rattle.lrat.proofs.Rising.{live_here, live_nowhere}
use Rattle.lrat.proofs.stack.find.Goals as goal

pub returns-in_default : goal.returns-in_default
returns-in_default c = live_nowhere c.args.shelf.now.row.slots c.args.id c.in_default.ensures

pub returns-then-not-is_live : goal.returns-then-not-is_live
returns-then-not-is_live c =
    let ss : List Slot = c.args.shelf.now.row.slots in
    let off : (get_or ss c.in-Some.index blank).live ≡ false = sym c.is_live.ensures ∙ c.if-not-is_live.true in
    live_here ss c.in-Some.index c.args.id c.requires c.in-Some.ensures.0 c.in-Some.ensures.1
    ∙ ap (λ b. cond b (Some (get_or ss c.in-Some.index blank).clause) None) off

pub returns : goal.returns
returns c =
    let ss : List Slot = c.args.shelf.now.row.slots in
    let on : (get_or ss c.in-Some.index blank).live ≡ true = sym c.is_live.ensures ∙ c.if-not-is_live.false in
    record {
      within = c.in-Some.ensures.0;
      here = c.in-Some.ensures.1;
      found = live_here ss c.in-Some.index c.args.id c.requires c.in-Some.ensures.0 c.in-Some.ensures.1
          ∙ ap (λ b. cond b (Some (get_or ss c.in-Some.index blank).clause) None) on;
    }
