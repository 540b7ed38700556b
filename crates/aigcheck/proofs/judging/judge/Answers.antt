use Rattle.std.proofs.Common.{◌≡◌, ℕ, IfOk, IfSome, IsTrue, false, refl, subst, sym}
use Rattle.std.specs.Io.KnownBytes.{Appends}
use Rattle.graph.specs.declared.circuit.Property.{Property}
use Rattle.checker.specs.Lines.{no_line, yes_line}
use Rattle.checker.specs.Replayed.{Confirms}
use Rattle.checker.specs.Verdicts.{Accepts}
use Rattle.checker.proofs.Said.{ok_then}
use Rattle.aigcheck.specs.Judged.{IsAccepted, IsNo, question_of}
use Rattle.aigcheck.proofs.Wanted.{wanted_so, then_so}
use Rattle.aigcheck.proofs.judging.judge.Goals as goal

pub returns-in-Certificate-None-clause-yes : goal.returns-in-Certificate-None-clause-yes
returns-in-Certificate-None-clause-yes g c =
    wanted_so _ _ _ _ c.in-Certificate-None.is-0 c.in-Certificate-None.is-1 _ _ _ _
    (λ e w xs ys. IfOk c.run_safe.result (λ said. IsTrue said → (p : Property) × IfSome w (λ q. q ≡ p) × IsAccepted e xs ys p × Appends (g.W.Sink.contents c.args.out.now) (g.W.Sink.contents c.run_safe.new.out) (yes_line (question_of e) p)))
    (then_so _ _ _ _ _ _
    (λ xs ys. ok_then _ _ c.run_safe.result (λ said says holds. let (p, it, upheld, line) = says holds in (p, tt, it, line)))
    c.run_safe.ensures.yes)

pub returns-in-Certificate-None-clause-no : goal.returns-in-Certificate-None-clause-no
returns-in-Certificate-None-clause-no g c =
    wanted_so _ _ _ _ c.in-Certificate-None.is-0 c.in-Certificate-None.is-1 _ _ _ _
    (λ e w xs ys. IfOk c.run_safe.result (λ said. said ≡ false → (n : ℕ) × IsNo e w xs ys n × Appends (g.W.Sink.contents c.args.out.now) (g.W.Sink.contents c.run_safe.new.out) (no_line n)))
    c.run_safe.ensures.no

pub returns-in-Certificate-None-clause-exact : goal.returns-in-Certificate-None-clause-exact
returns-in-Certificate-None-clause-exact g c =
    wanted_so _ _ _ _ c.in-Certificate-None.is-0 c.in-Certificate-None.is-1 _ _ _ _
    (λ e w xs ys. (p : Property) → IfSome w (λ q. q ≡ p) → IsAccepted e xs ys p → IfOk c.run_safe.result (λ said. IsTrue said))
    (then_so _ _ _ _ _ _
    (λ xs ys says p same it. says p it)
    c.run_safe.ensures.exact)

pub returns-in-Certificate-Some-clause-yes : goal.returns-in-Certificate-Some-clause-yes
returns-in-Certificate-Some-clause-yes g c =
    wanted_so _ _ _ _ c.in-Certificate-Some.is-0 c.in-Certificate-Some.is-1 _ _ _ _
    (λ e w xs ys. IfOk c.run_safe_for.result (λ said. IsTrue said → (p : Property) × IfSome w (λ q. q ≡ p) × IsAccepted e xs ys p × Appends (g.W.Sink.contents c.args.out.now) (g.W.Sink.contents c.run_safe_for.new.out) (yes_line (question_of e) p)))
    (then_so _ _ _ _ _ _
    (λ xs ys. ok_then _ _ c.run_safe_for.result (λ said says holds. let (it, upheld, line) = says holds in (c.in-Certificate-Some.property, refl, it, line)))
    c.run_safe_for.ensures.yes)

pub returns-in-Certificate-Some-clause-no : goal.returns-in-Certificate-Some-clause-no
returns-in-Certificate-Some-clause-no g c =
    wanted_so _ _ _ _ c.in-Certificate-Some.is-0 c.in-Certificate-Some.is-1 _ _ _ _
    (λ e w xs ys. IfOk c.run_safe_for.result (λ said. said ≡ false → (n : ℕ) × IsNo e w xs ys n × Appends (g.W.Sink.contents c.args.out.now) (g.W.Sink.contents c.run_safe_for.new.out) (no_line n)))
    c.run_safe_for.ensures.no

pub returns-in-Certificate-Some-clause-exact : goal.returns-in-Certificate-Some-clause-exact
returns-in-Certificate-Some-clause-exact g c =
    wanted_so _ _ _ _ c.in-Certificate-Some.is-0 c.in-Certificate-Some.is-1 _ _ _ _
    (λ e w xs ys. (p : Property) → IfSome w (λ q. q ≡ p) → IsAccepted e xs ys p → IfOk c.run_safe_for.result (λ said. IsTrue said))
    (then_so _ _ _ _ _ _
    (λ xs ys says p same it. says (subst (λ q. Accepts xs ys q) (sym same) it))
    c.run_safe_for.ensures.exact)

pub returns-in-Stimulus-None-clause-yes : goal.returns-in-Stimulus-None-clause-yes
returns-in-Stimulus-None-clause-yes g c =
    wanted_so _ _ _ _ c.in-Stimulus-None.is-0 c.in-Stimulus-None.is-1 _ _ _ _
    (λ e w xs ys. IfOk c.run_stimulus.result (λ said. IsTrue said → (p : Property) × IfSome w (λ q. q ≡ p) × IsAccepted e xs ys p × Appends (g.W.Sink.contents c.args.out.now) (g.W.Sink.contents c.run_stimulus.new.out) (yes_line (question_of e) p)))
    (then_so _ _ _ _ _ _
    (λ xs ys. ok_then _ _ c.run_stimulus.result (λ said says holds. let (p, it, line) = says holds in (p, tt, it, line)))
    c.run_stimulus.ensures.yes)

pub returns-in-Stimulus-None-clause-no : goal.returns-in-Stimulus-None-clause-no
returns-in-Stimulus-None-clause-no g c =
    wanted_so _ _ _ _ c.in-Stimulus-None.is-0 c.in-Stimulus-None.is-1 _ _ _ _
    (λ e w xs ys. IfOk c.run_stimulus.result (λ said. said ≡ false → (n : ℕ) × IsNo e w xs ys n × Appends (g.W.Sink.contents c.args.out.now) (g.W.Sink.contents c.run_stimulus.new.out) (no_line n)))
    c.run_stimulus.ensures.no

pub returns-in-Stimulus-None-clause-exact : goal.returns-in-Stimulus-None-clause-exact
returns-in-Stimulus-None-clause-exact g c =
    wanted_so _ _ _ _ c.in-Stimulus-None.is-0 c.in-Stimulus-None.is-1 _ _ _ _
    (λ e w xs ys. (p : Property) → IfSome w (λ q. q ≡ p) → IsAccepted e xs ys p → IfOk c.run_stimulus.result (λ said. IsTrue said))
    (then_so _ _ _ _ _ _
    (λ xs ys says p same it. says p it)
    c.run_stimulus.ensures.exact)

pub returns-in-Stimulus-Some-clause-yes : goal.returns-in-Stimulus-Some-clause-yes
returns-in-Stimulus-Some-clause-yes g c =
    wanted_so _ _ _ _ c.in-Stimulus-Some.is-0 c.in-Stimulus-Some.is-1 _ _ _ _
    (λ e w xs ys. IfOk c.run_stimulus_for.result (λ said. IsTrue said → (p : Property) × IfSome w (λ q. q ≡ p) × IsAccepted e xs ys p × Appends (g.W.Sink.contents c.args.out.now) (g.W.Sink.contents c.run_stimulus_for.new.out) (yes_line (question_of e) p)))
    (then_so _ _ _ _ _ _
    (λ xs ys. ok_then _ _ c.run_stimulus_for.result (λ said says holds. let (it, line) = says holds in (c.in-Stimulus-Some.property, refl, it, line)))
    c.run_stimulus_for.ensures.yes)

pub returns-in-Stimulus-Some-clause-no : goal.returns-in-Stimulus-Some-clause-no
returns-in-Stimulus-Some-clause-no g c =
    wanted_so _ _ _ _ c.in-Stimulus-Some.is-0 c.in-Stimulus-Some.is-1 _ _ _ _
    (λ e w xs ys. IfOk c.run_stimulus_for.result (λ said. said ≡ false → (n : ℕ) × IsNo e w xs ys n × Appends (g.W.Sink.contents c.args.out.now) (g.W.Sink.contents c.run_stimulus_for.new.out) (no_line n)))
    c.run_stimulus_for.ensures.no

pub returns-in-Stimulus-Some-clause-exact : goal.returns-in-Stimulus-Some-clause-exact
returns-in-Stimulus-Some-clause-exact g c =
    wanted_so _ _ _ _ c.in-Stimulus-Some.is-0 c.in-Stimulus-Some.is-1 _ _ _ _
    (λ e w xs ys. (p : Property) → IfSome w (λ q. q ≡ p) → IsAccepted e xs ys p → IfOk c.run_stimulus_for.result (λ said. IsTrue said))
    (then_so _ _ _ _ _ _
    (λ xs ys says p same it. says (subst (λ q. Confirms xs ys q) (sym same) it))
    c.run_stimulus_for.ensures.exact)
