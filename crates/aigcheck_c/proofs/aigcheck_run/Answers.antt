use Rattle.std.proofs.Common.{[], ap, refl, subst, sym, ◌∙◌}
use Rattle.aigcheck_c.proofs.ToldLaws.{yes_of, no_of, never_no, copied_line}
use Rattle.checker.specs.Lines.{yes_line, no_line}
use Rattle.checker.specs.Replayed.{Confirms, IsRunRefusal}
use Rattle.checker.specs.declared.line.Question.TheVariants.{Run}
use Rattle.base.specs.Devices.{Written}
use Rattle.aigcheck_c.proofs.aigcheck_run.Goals as goal

pub returns-clause-yes : goal.returns-clause-yes
returns-clause-yes c =
    λ is.
    let (xs, one, both) = c.run_stimulus-answer.ensures.yes [] c.run_stimulus-answer.new.circuit refl in
    let (ys, two, says) = both [] c.run_stimulus-answer.new.stimulus refl in
    let first = one ∙ c.new-circuit.ensures in
    let second = two ∙ c.new-stimulus.ensures in
    let t = c.told.ensures.yes is in
    let y = yes_of c.run_stimulus-answer.result t.0 says in
    (y.0, subst (λ w. Confirms w c.args.stimulus.now y.0) first (subst (λ w. Confirms xs w y.0) second y.1), t.1, copied_line c.new-out.result.bytes c.run_stimulus-answer.new.out.bytes (yes_line Run y.0) c.told.new.line c.told.new.count (ap (λ (w : Written). w.bytes) c.new-out.ensures) y.2 (t.2 ∙ c.as_slice.ensures))

pub returns-clause-no : goal.returns-clause-no
returns-clause-no c =
    λ is.
    let (xs, one, both) = c.run_stimulus-answer.ensures.no [] c.run_stimulus-answer.new.circuit refl in
    let (ys, two, says) = both [] c.run_stimulus-answer.new.stimulus refl in
    let first = one ∙ c.new-circuit.ensures in
    let second = two ∙ c.new-stimulus.ensures in
    let t = c.told.ensures.no is in
    let y = no_of c.run_stimulus-answer.result t.0 says in
    (y.0, subst (λ w. IsRunRefusal w c.args.stimulus.now y.0) first (subst (λ w. IsRunRefusal xs w y.0) second y.1), t.1, copied_line c.new-out.result.bytes c.run_stimulus-answer.new.out.bytes (no_line y.0) c.told.new.line c.told.new.count (ap (λ (w : Written). w.bytes) c.new-out.ensures) y.2 (t.2 ∙ c.as_slice.ensures))

pub returns-clause-exact : goal.returns-clause-exact
returns-clause-exact c =
    λ p accepted is.
    let (xs, one, both) = c.run_stimulus-answer.ensures.exact [] c.run_stimulus-answer.new.circuit refl in
    let (ys, two, says) = both [] c.run_stimulus-answer.new.stimulus refl in
    let first = one ∙ c.new-circuit.ensures in
    let second = two ∙ c.new-stimulus.ensures in
    let t = c.told.ensures.no is in
    never_no c.run_stimulus-answer.result t.0 (says p (subst (λ w. Confirms w ys p) (sym first) (subst (λ w. Confirms c.args.circuit.now w p) (sym second) accepted)))
