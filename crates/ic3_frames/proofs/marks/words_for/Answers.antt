use Rattle.std.proofs.Common.{◌≡◌, ◌∙◌, arith, inl, inr, get_or, sym, ap}
use Rattle.std.proofs.lemmas.Bool.{cases_lt}
use Rattle.std.proofs.lemmas.List.{get_or_default}
use Rattle.ic3_frames.specs.Marks.{mark_of}
use Rattle.ic3_frames.proofs.marks.words_for.Goals as goal

pub looking-preserved : goal.looking-preserved
looking-preserved c =
    let most = c.max-words.ensures in
    let few = c.looking.invariant.few in
    let at = c.mark_of.ensures.few in
    record {
      reach = λ k d k_in. elim (cases_lt k c.looking.lit-index) [
        | inl below ↦ let before = c.looking.invariant.reach k d below in grind (arith, most, before)
        | inr past ↦
            let here : k ≡ c.looking.lit-index = omega arith in
            let clause = c.args.clause.now in
            let same : mark_of (get_or clause k d) ≡ c.mark_of.result =
            ap (λ n. mark_of (get_or clause n d)) here ∙ ap mark_of (get_or_default clause c.looking.lit-index d _ c.looking-test.true) ∙ sym c.mark_of.ensures.is in
            grind (arith, most, same)
      ];
      few = grind (arith, most, few, at);
    }
