use Rattle.std.proofs.Common.{OnOk, ap, subst}
use Rattle.std.proofs.lemmas.Result.{on_ok_weaker}
use Rattle.ic3_frames.specs.declared.frames.Entry.{Entry}
use Rattle.ic3_frames.specs.Frames.{IsAdded}
use Rattle.ic3_frames.proofs.Laws.{within_added, added_to}
use Rattle.ic3_frames.proofs.frames.Frames.add.Goals as goal

pub returns-clause-newest : goal.returns-clause-newest
returns-clause-newest c = on_ok_weaker c.insert.result (λ h. h.newest) c.insert.ensures.added

pub returns-clause-only : goal.returns-clause-only
returns-clause-only c =
    let newest : Entry = record { clause = c.args.clause; level = c.args.level } in
    on_ok_weaker c.insert.result (λ h. h.only) (subst (λ es. OnOk c.insert.result (IsAdded es c.insert.new.entries.items newest)) (ap (λ f. f.entries) c.self.view_is) c.insert.ensures.added)

pub returns-clause-within : goal.returns-clause-within
returns-clause-within c =
    let newest : Entry = record { clause = c.args.clause; level = c.args.level } in
    on_ok_weaker c.insert.result (λ h. within_added c.args.self.now.entries c.insert.new.entries.items newest h)
    (subst (λ es. OnOk c.insert.result (IsAdded es c.insert.new.entries.items newest)) (ap (λ f. f.entries) c.self.view_is) c.insert.ensures.added)

pub returns-clause-laws : goal.returns-clause-laws
returns-clause-laws c = λ m bad k frames is clause first onward.
    let newest : Entry = record { clause = c.args.clause; level = c.args.level } in
    on_ok_weaker c.insert.result (λ h. added_to m bad c.args.self.now _ k newest h (ap (λ f. f.top) c.self.view_is) (ap (λ f. f.failed) c.self.view_is) frames is clause first onward)
    (subst (λ es. OnOk c.insert.result (IsAdded es c.insert.new.entries.items newest)) (ap (λ f. f.entries) c.self.view_is) c.insert.ensures.added)

pub returns-clause-lean : goal.returns-clause-lean
returns-clause-lean c = on_ok_weaker c.insert.result (λ h. h.lean) c.insert.ensures.added
