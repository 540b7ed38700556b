use Rattle.std.proofs.Common.{◌≡◌, ◌<◌, ◌≤◌, ◌∙◌, IfSome, List, length, get_or, All, ap, subst}
use Rattle.states.specs.States.{IsPartOf}
use Rattle.ic3_frames.specs.declared.frames.Entry.{Entry}
use Rattle.ic3_frames.specs.Frames.{Levels}
use Rattle.ic3_frames.specs.Marks.{IsMarked}
use Rattle.ic3_frames.proofs.Marking.{if_some_weaker, marked_part, part_marked}
use Rattle.ic3_frames.proofs.frames.Frames.longest_part.Goals as goal

pub returns-clause-part : goal.returns-clause-part
returns-clause-part c = λ d.
    let words = c.in_ok-marks.marks.words.items in
    let are : c.as_slice-entries.result.now ≡ c.args.self.now.entries = c.as_slice-entries.ensures.value ∙ ap (λ (f : Levels). f.entries) c.self.view_is in
    let Part : List Entry → Type 0 = λ es. IfSome c.longest.result (λ p. (p < length es) × ((get_or es p d).level ≡ c.args.level) × IsPartOf (get_or es p d).clause c.args.clause.now) in
    let es = c.as_slice-entries.result.now in
    subst Part are
    (if_some_weaker (λ p. (p < length es) × ((get_or es p d).level ≡ c.args.level) × All (IsMarked words) (get_or es p d).clause)
    (λ p. (p < length es) × ((get_or es p d).level ≡ c.args.level) × IsPartOf (get_or es p d).clause c.args.clause.now) c.longest.result
    (λ p h. (h.0, h.1, marked_part c.args.clause.now (get_or es p d).clause words c.in_ok-marks.ensures.marks h.2)) (c.longest.ensures.part d))

pub returns-clause-longest : goal.returns-clause-longest
returns-clause-longest c = λ d.
    let words = c.in_ok-marks.marks.words.items in
    let are : c.as_slice-entries.result.now ≡ c.args.self.now.entries = c.as_slice-entries.ensures.value ∙ ap (λ (f : Levels). f.entries) c.self.view_is in
    let Longest : List Entry → Type 0 = λ es. IfSome c.longest.result (λ p. All (λ (e : Entry). e.level ≡ c.args.level → IsPartOf e.clause c.args.clause.now → length e.clause ≤ length (get_or es p d).clause) es) in
    let es = c.as_slice-entries.result.now in
    subst Longest are
    (if_some_weaker (λ p. All (λ (e : Entry). e.level ≡ c.args.level → All (IsMarked words) e.clause → length e.clause ≤ length (get_or es p d).clause) es)
    (λ p. All (λ (e : Entry). e.level ≡ c.args.level → IsPartOf e.clause c.args.clause.now → length e.clause ≤ length (get_or es p d).clause) es) c.longest.result
    (λ p h k x k_in at part. h k x k_in at (part_marked c.args.clause.now (get_or es k x).clause words c.in_ok-marks.ensures.marks part))
    (c.longest.ensures.longest c.args.clause.now d c.in_ok-marks.ensures.marks c.in_ok-marks.ensures.signature))

pub returns-clause-none : goal.returns-clause-none
returns-clause-none c = λ none.
    let words = c.in_ok-marks.marks.words.items in
    let are : c.as_slice-entries.result.now ≡ c.args.self.now.entries = c.as_slice-entries.ensures.value ∙ ap (λ (f : Levels). f.entries) c.self.view_is in
    let es = c.as_slice-entries.result.now in
    subst (All (λ (e : Entry). e.level ≡ c.args.level → IsPartOf e.clause c.args.clause.now → ⊥)) are
    (λ k d k_in at part. c.longest.ensures.none c.args.clause.now c.in_ok-marks.ensures.marks c.in_ok-marks.ensures.signature none k d k_in at
    (part_marked c.args.clause.now (get_or es k d).clause words c.in_ok-marks.ensures.marks part))
