use Rattle.std.proofs.Common.{◌≡◌, ◌<◌, ◌+◌, ◌∙◌, ◌++◌, ◌∷◌, [], true, List, ℤ, ℕ, take, length, get_or, sym, ap, arith}
use Rattle.std.proofs.lemmas.List.{take_all}
use Rattle.lrat.specs.Shelves.{slots_from}
use Rattle.lrat.specs.Slots.{Slot}
use Rattle.lrat.proofs.Shelved.{length_slots, slots_next}
use Rattle.lrat.proofs.shelf.numbered.Goals as goal

pub loop-index-preserved : goal.loop-index-preserved
loop-index-preserved c =
    let cs : List (List ℤ) = c.args.formula.now in
    let i : ℕ = c.loop-index.index in
    let lt : i < length cs = omega (arith, c.loop-index-test.true, c.requires.number) in
    let is : c.as_slice.result.now ≡ get_or cs i [] = c.as_slice.ensures ∙ c.clause.ensures in
    record {
      vars = c.in_ok-add.ensures.vars ∙ c.loop-index.invariant.vars;
      slots = c.in_ok-add.ensures.ok
          ∙ ap (λ (ss : List Slot). ss ++ record { id = i + 1; live = true; clause = c.as_slice.result.now } ∷ []) c.loop-index.invariant.slots
          ∙ ap (λ (d : List ℤ). take i (slots_from 1 cs) ++ record { id = i + 1; live = true; clause = d } ∷ []) is ∙ sym (slots_next cs i lt);
    }

pub returns : goal.returns
returns c =
    let cs : List (List ℤ) = c.args.formula.now in
    let whole : c.loop-index.all.slots ≡ slots_from 1 cs = c.loop-index.invariant.slots ∙ take_all c.loop-index.index (slots_from 1 cs) (omega (arith, c.loop-index-test.false, c.requires.number, length_slots 1 cs)) in
    λ i. record { vars = c.loop-index.invariant.vars i; slots = whole i }
