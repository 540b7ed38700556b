use Rattle.std.proofs.Common.{◌≡◌, ◌+◌, ◌++◌, ◌∷◌, [], All, ◌∙◌, ap, refl, sym, subst}
use Rattle.std.proofs.lemmas.List.Elements.{All-push}
use Rattle.states.specs.declared.state_lit.StateLit.{StateLit}
use Rattle.ic3_frames.specs.declared.frames.Entry.{Entry}
use Rattle.ic3_frames.specs.Clauses.{IsResetLit, IsResetEntry, reset_entry}
use Rattle.ic3_frames.proofs.Begun.{HasResetsBefore, resets_more, resets_past}
use Rattle.ic3_frames.proofs.resets.reset_entries.Goals as goal
use Rattle.ic3_frames.proofs.resets.reset_entries.Goals.{in-Some+in_ok-clause+in_ok-push, in_default}

pub resetting-preserved : goal.resetting-preserved
resetting-preserved c =
    let latches = c.args.latches.now in
    let h = c.resetting.invariant in
    elim c.match-reset_lit.branch [
      | in-Some+in_ok-clause+in_ok-push w ↦
          let a : StateLit = w.in-Some.lit in
          let reset : IsResetLit latches a = w.in-Some.ensures.some.0 in
          let is : c.match-reset_lit.entries.items ≡ c.resetting.entries.items ++ reset_entry a ∷ [] = ap (λ v. v.items) w.entries-is ∙ w.in_ok-push.ensures.items
          ∙ ap (λ cl. let x : Entry = record { clause = cl; level = 0 } in c.resetting.entries.items ++ x ∷ []) w.in_ok-clause.ensures in
          record {
            only = subst (All (IsResetEntry latches)) (sym is) (All-push (IsResetEntry latches) c.resetting.entries.items (reset_entry a) h.only (a, reset, refl));
            each = subst (HasResetsBefore latches (c.resetting.i + 1)) (sym is) (resets_more latches c.resetting.i c.resetting.entries.items a reset w.in-Some.ensures.some.1 h.each);
          }
      | in_default w ↦
          let is : c.match-reset_lit.entries.items ≡ c.resetting.entries.items = ap (λ v. v.items) w.entries-is in
          record {
            only = subst (All (IsResetEntry latches)) (sym is) h.only;
            each = subst (HasResetsBefore latches (c.resetting.i + 1)) (sym is) (resets_past latches c.resetting.i c.resetting.entries.items (c.reset_lit.ensures.none w.in_default.is) h.each);
          }
    ]
