use Rattle.std.proofs.Common.{◌≡◌, ◌⊎◌, ◌+◌, ◌<◌, get_or, take, List, All, Contains, inl, refl, arith, sym, ap, subst, ◌∙◌}
use Rattle.std.proofs.lemmas.List.Elements.{All-contains}
use Rattle.cnf.specs.Formulas.{bad_literal}
use Rattle.ic3_frames.specs.declared.frames.Entry.{Entry}
use Rattle.ic3_frames.specs.Frames.{IsFalseAfter, IsStateClause, HoldsAfter}
use Rattle.ic3_blocking.specs.Answers.{IsAfter}
use Rattle.ic3_propagation.specs.Answers.{CannotPropagate}
use Rattle.ic3_blocking.specs.Sound.{HasFrames, IsSound}
use Rattle.ic3_blocking.proofs.Guarding.{item_has, has_within}
use Rattle.ic3_blocking.proofs.Joining.{all_more, entry_holds, noted_sound, raised_found}
use Rattle.ic3_propagation.proofs.Passed.{passed_here, passed_one}
use Rattle.ic3_blocking.proofs.Tried.{false_after}
use Rattle.ic3_propagation.proofs.propagation.propagate_clause.Goals as goal

pub after-requires : goal.after-requires
after-requires g c =
    let m = c.args.circuit.now in
    let es = c.args.frames.now.entries in
    let e = c.index-entries-place.result in
    let item : e ≡ get_or es c.args.place e = c.index-entries-place.is ∙ ap (λ (xs : List Entry). get_or xs c.args.place e) c.entries.ensures in
    let a = c.args.solver.now in
    record {
      sound = subst (λ t. IsSound {S = g.row.S.Denot} m (record { transition = t; levels = a.levels; room = a.room; next = a.next }) c.args.frames.now) (sym c.count.ensures) c.requires.sound;
      clause = subst (IsStateClause m) (sym c.as_slice-clause.ensures) (item_has (λ (x : Entry). IsStateClause m x.clause) es c.args.place e c.requires.place item c.requires.sound.laws.clauses);
    }

pub add_clause-requires : goal.add_clause-requires
add_clause-requires g c =
    let m = c.args.circuit.now in
    let es = c.args.frames.now.entries in
    let e = c.index-entries-place.result in
    let item : e ≡ get_or es c.args.place e = c.index-entries-place.is ∙ ap (λ (xs : List Entry). get_or xs c.args.place e) c.entries.ensures in
    let sound = c.in_ok-after.ensures.sound in
    let top = sound.top in
    record {
      has = (es, sound.has);
      level = omega (arith, top, c.requires.below);
      clause = subst (IsStateClause m) (sym c.as_slice-clause.ensures) (item_has (λ (x : Entry). IsStateClause m x.clause) es c.args.place e c.requires.place item c.requires.sound.laws.clauses);
    }

pub propagate-requires : goal.propagate-requires
propagate-requires g c =
    let has = c.requires.sound.has in
    let order = has.order in
    let fits = has.fits in
    let small = has.small in
    record {
      place = c.requires.place;
      level = λ k d k_in. let below = c.requires.sound.below k d k_in in omega (arith, below, order, fits, small);
    }

pub returns-in-Held-clause-sound : goal.returns-in-Held-clause-sound
returns-in-Held-clause-sound g c =
    let m = c.args.circuit.now in
    let a = c.after.new.self in
    let es = c.args.frames.now.entries in
    let fs = c.propagate.new.self.entries in
    let place = c.args.place in
    let k = c.args.level in
    let e = c.index-entries-place.result in
    let clause = c.as_slice-clause.result.now in
    let sound = c.in_ok-after.ensures.sound in
    let top = sound.top in
    let raised = c.in_ok-kept-in-Held.ensures in
    let item : e ≡ get_or es place e = c.index-entries-place.is ∙ ap (λ (xs : List Entry). get_or xs place e) c.entries.ensures in
    let clause_is : (get_or es place e).clause ≡ clause = ap (λ (x : Entry). x.clause) (sym item) ∙ sym c.as_slice-clause.ensures in
    let level_is : (get_or es place e).level ≡ k = ap (λ (x : Entry). x.level) (sym item) ∙ c.if-entry-level.false in
    let next : Entry = record { clause = (get_or es place e).clause; level = (get_or es place e).level + 1 } in
    let after = subst (IsAfter m es k clause c.after.new.budget) c.in-Held.is c.in_ok-after.ensures.lawful in
    let same : a.levels ≡ c.count_propagated.new.self.levels = sym (c.count_propagated.ensures.levels ∙ c.add_clause.ensures.levels) in
    let found = raised_found es fs place c.in_ok-kept-in-Held.kept k e clause raised.place c.requires.place clause_is level_is in
    let above : next.level < c.count_propagated.new.self.levels = omega (arith, level_is, same, top, c.requires.below) in
    let kept = c.count_propagated.new.self in
    let counted : c.count_subsumed.new.self ≡ kept.transition = c.count_subsumed.ensures ∙ c.count-in-Held.ensures in
    record {
      has = subst (λ t. HasFrames {S = g.row.S.Denot} m fs (record { transition = t; levels = kept.levels; room = kept.room; next = kept.next })) (sym counted)
          (c.count_propagated.ensures.has m fs (c.in_ok-add_clause-in-Held.ensures.has fs (has_within m es fs a raised.within sound.has) (λ s inside. entry_holds fs clause (k + 1) s found inside)));
      laws = raised.laws m (bad_literal m 0) k e sound.laws level_is (subst (HoldsAfter m es k) (sym clause_is) after);
      top = omega (arith, top, same, c.propagate.ensures.top);
      below = all_more (λ (x : Entry). x.level < c.count_propagated.new.self.levels) es fs next (raised.only e) (subst (λ n. All (λ (x : Entry). x.level < n) es) same sound.below) above;
    }

pub returns-then-entry-level-clause-passed : goal.returns-then-entry-level-clause-passed
returns-then-entry-level-clause-passed g c =
    let m = c.args.circuit.now in
    let es = c.args.frames.now.entries in
    let place = c.args.place in
    let k = c.args.level in
    let e = c.index-entries-place.result in
    let item : e ≡ get_or es place e = c.index-entries-place.is ∙ ap (λ (xs : List Entry). get_or xs place e) c.entries.ensures in
    passed_here (CannotPropagate m k c.args.budget.now) es place e c.requires.place (λ at. absurd (c.if-entry-level.true (ap (λ (x : Entry). x.level) item ∙ at)))

pub returns-then-push_fails_again-clause-passed : goal.returns-then-push_fails_again-clause-passed
returns-then-push_fails_again-clause-passed g c =
    let m = c.args.circuit.now in
    let es = c.args.frames.now.entries in
    let place = c.args.place in
    let k = c.args.level in
    let e = c.index-entries-place.result in
    let item : e ≡ get_or es place e = c.index-entries-place.is ∙ ap (λ (xs : List Entry). get_or xs place e) c.entries.ensures in
    let clause_is : (get_or es place e).clause ≡ c.as_slice-clause.result.now = ap (λ (x : Entry). x.clause) (sym item) ∙ sym c.as_slice-clause.ensures in
    let never : IsFalseAfter m c.as_slice-clause.result.now = All-contains (IsFalseAfter m) c.args.frames.now.failed c.as_slice-clause.result.now c.requires.sound.laws.failed (c.if-push_fails_again.ensures refl) in
    passed_here (CannotPropagate m k c.args.budget.now) es place e c.requires.place (λ at. inl (subst (IsFalseAfter m) (sym clause_is) never))

pub returns-in-Held-clause-passed : goal.returns-in-Held-clause-passed
returns-in-Held-clause-passed g c =
    let m = c.args.circuit.now in
    let es = c.args.frames.now.entries in
    let place = c.args.place in
    let k = c.args.level in
    let e = c.index-entries-place.result in
    let item : e ≡ get_or es place e = c.index-entries-place.is ∙ ap (λ (xs : List Entry). get_or xs place e) c.entries.ensures in
    let fs = c.propagate.new.self.entries in
    let kept = c.in_ok-kept-in-Held.kept in
    let raised = c.in_ok-kept-in-Held.ensures in
    let next : Entry = record { clause = (get_or es place e).clause; level = (get_or es place e).level + 1 } in
    let level_is : (get_or es place e).level ≡ k = ap (λ (x : Entry). x.level) (sym item) ∙ c.if-entry-level.false in
    let above : (get_or fs kept e).level ≡ (get_or es place e).level + 1 = ap (λ (x : Entry). x.level) (raised.place e).1 in
    passed_one (CannotPropagate m k c.after.new.budget) es fs place kept e (raised.place e).0 raised.order (λ at. absurd (omega (arith, at, above, level_is)))

pub returns-in-Broken-clause-passed : goal.returns-in-Broken-clause-passed
returns-in-Broken-clause-passed g c =
    let m = c.args.circuit.now in
    let es = c.args.frames.now.entries in
    let place = c.args.place in
    let k = c.args.level in
    let e = c.index-entries-place.result in
    let item : e ≡ get_or es place e = c.index-entries-place.is ∙ ap (λ (xs : List Entry). get_or xs place e) c.entries.ensures in
    let clause_is : (get_or es place e).clause ≡ c.as_slice-clause.result.now = ap (λ (x : Entry). x.clause) (sym item) ∙ sym c.as_slice-clause.ensures in
    let clause = c.as_slice-clause.result.now in
    let law = subst (IsAfter m es k clause c.after.new.budget) c.in-Broken.is c.in_ok-after.ensures.lawful in
    let never : IsFalseAfter m clause = false_after m clause c.in-Broken.time law in
    subst (λ fs. All (λ x. Contains (take place es) x ⊎ CannotPropagate m k c.after.new.budget x) (take (place + 1) fs)) (sym c.add_failed_push.ensures.entries)
    (passed_here (CannotPropagate m k c.after.new.budget) es place e c.requires.place (λ at. inl (subst (IsFalseAfter m) (sym clause_is) never)))

pub returns-in-Broken-clause-sound : goal.returns-in-Broken-clause-sound
returns-in-Broken-clause-sound g c =
    let m = c.args.circuit.now in
    let clause = c.as_slice-clause.result.now in
    let law = subst (IsAfter m c.args.frames.now.entries c.args.level clause c.after.new.budget) c.in-Broken.is c.in_ok-after.ensures.lawful in
    let never : IsFalseAfter m c.in_ok-pushed-in-Broken.pushed = subst (IsFalseAfter m) (sym c.in_ok-pushed-in-Broken.ensures) (false_after m clause c.in-Broken.time law) in
    let sound = c.in_ok-after.ensures.sound in
    let noted = c.add_failed_push.ensures in
    noted_sound m c.after.new.self c.args.frames.now c.add_failed_push.new.self sound noted.entries noted.top (noted.laws m (bad_literal m 0) sound.laws never)
