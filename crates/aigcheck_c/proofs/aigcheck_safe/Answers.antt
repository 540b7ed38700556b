use Rattle.std.proofs.Common.{[], ap, refl, subst, sym, ◌∙◌}
use Rattle.aigcheck_c.proofs.ToldLaws.{yes_of, no_of, never_no, copied_line}
use Rattle.checker.specs.Lines.{yes_line, no_line}
use Rattle.checker.specs.Verdicts.{Accepts, IsRefusal, IsUpheldText}
use Rattle.checker.specs.declared.line.Question.TheVariants.{Safe}
use Rattle.base.specs.Devices.{Written}
use Rattle.aigcheck_c.proofs.aigcheck_safe.Goals as goal

pub returns-clause-yes : goal.returns-clause-yes
returns-clause-yes c =
    λ is.
    let (xs, one, both) = c.run_safe-answer.ensures.yes [] c.run_safe-answer.new.circuit refl in
    let (ys, two, says) = both [] c.run_safe-answer.new.certificate refl in
    let first = one ∙ c.new-circuit.ensures in
    let second = two ∙ c.new-certificate.ensures in
    let t = c.told.ensures.yes is in
    let y = yes_of c.run_safe-answer.result t.0 says in
    (y.0, subst (λ w. Accepts w c.args.certificate.now y.0) first (subst (λ w. Accepts xs w y.0) second y.1), subst (λ w. IsUpheldText w y.0) first y.2, t.1, copied_line c.new-out.result.bytes c.run_safe-answer.new.out.bytes (yes_line Safe y.0) c.told.new.line c.told.new.count (ap (λ (w : Written). w.bytes) c.new-out.ensures) y.3 (t.2 ∙ c.as_slice.ensures))

pub returns-clause-no : goal.returns-clause-no
returns-clause-no c =
    λ is.
    let (xs, one, both) = c.run_safe-answer.ensures.no [] c.run_safe-answer.new.circuit refl in
    let (ys, two, says) = both [] c.run_safe-answer.new.certificate refl in
    let first = one ∙ c.new-circuit.ensures in
    let second = two ∙ c.new-certificate.ensures in
    let t = c.told.ensures.no is in
    let y = no_of c.run_safe-answer.result t.0 says in
    (y.0, subst (λ w. IsRefusal w c.args.certificate.now y.0) first (subst (λ w. IsRefusal xs w y.0) second y.1), t.1, copied_line c.new-out.result.bytes c.run_safe-answer.new.out.bytes (no_line y.0) c.told.new.line c.told.new.count (ap (λ (w : Written). w.bytes) c.new-out.ensures) y.2 (t.2 ∙ c.as_slice.ensures))

pub returns-clause-exact : goal.returns-clause-exact
returns-clause-exact c =
    λ p accepted is.
    let (xs, one, both) = c.run_safe-answer.ensures.exact [] c.run_safe-answer.new.circuit refl in
    let (ys, two, says) = both [] c.run_safe-answer.new.certificate refl in
    let first = one ∙ c.new-circuit.ensures in
    let second = two ∙ c.new-certificate.ensures in
    let t = c.told.ensures.no is in
    never_no c.run_safe-answer.result t.0 (says p (subst (λ w. Accepts w ys p) (sym first) (subst (λ w. Accepts c.args.circuit.now w p) (sym second) accepted)))
