use Rattle.std.proofs.Common.{◌≡◌, ◌∙◌, ap, refl, get_or, arith, List, ℕ, true, length, ◌<◌, ◌≤◌, map, subst, Contains, ◌⊎◌}
use Rattle.std.proofs.lemmas.List.{take_all}
use Rattle.lrat.specs.Slots.{Slot, blank, revived, live_at}
use Rattle.lrat.proofs.Layering.{same_length, revived_mark, revive_more}
use Rattle.lrat.proofs.stack.revive.Goals as goal

pub mark-requires-clause-loose : goal.mark-requires-clause-loose
mark-requires-clause-loose c =
    let j : ℕ = get_or c.args.indices.now c.loop-index.index-index 0 in
    let first : c.args.shelf.now.given ≤ j = c.requires.loose c.loop-index.index-index 0 c.loop-index-test.true in
    omega (arith, first, c.loop-index.invariant.given)

pub loop-index-preserved : goal.loop-index-preserved
loop-index-preserved c =
    let i = c.loop-index.invariant in
    let ss : List Slot = c.loop-index.shelf.row.slots in
    let j : ℕ = get_or c.args.indices.now c.loop-index.index-index 0 in
    let s : Slot = record { id = (get_or ss j blank).id; live = true; clause = (get_or ss j blank).clause } in
    let first : j < length c.args.shelf.now.row.slots = c.requires.within c.loop-index.index-index 0 c.loop-index-test.true in
    let fits : j < length ss = omega (arith, same_length ss c.args.shelf.now.row.slots i.same) in
    record {
      given = c.mark.ensures.given ∙ i.given;
      vars = c.mark.ensures.vars ∙ i.vars;
      same = ap (map revived) c.mark.ensures.slots ∙ revived_mark ss j true ∙ i.same;
      live = rw c.mark.ensures.slots (revive_more c.args.shelf.now.row.slots ss c.args.indices.now c.loop-index.index-index s c.loop-index-test.true fits refl i.live);
    }

pub returns-clause-live : goal.returns-clause-live
returns-clause-live c =
    subst (λ js. (i : ℕ) → live_at c.args.shelf.now.row.slots i ≡ true ⊎ Contains js i → live_at c.loop-index.shelf.row.slots i ≡ true) (take_all _ _ c.loop-index-test.false) c.loop-index.invariant.live
