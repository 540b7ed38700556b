use Rattle.std.proofs.Common.{◌≡◌, ℕ, false, IfOk, IfSome, IsTrue, OnErr, refl, subst, sym, ◌+◌}
use Rattle.std.specs.Io.KnownBytes.{Appends}
use Rattle.graph.specs.declared.circuit.Property.{Property}
use Rattle.checker.specs.Lines.{no_line}
use Rattle.checker.specs.Readers.{BeginsLineOf, IsRefusalOf}
use Rattle.checker.specs.Verdicts.{Accepts}
use Rattle.checker.proofs.ReaderLaws.{both_given, wanted_so}
use Rattle.checker.proofs.Said.{ok_then}
use Rattle.checker.proofs.of_readers.safe_of_readers.Goals as goal

pub returns-in-None : goal.returns-in-None
returns-in-None g c = record {
  yes =
      ok_then _ _ c.run_safe.result
      (λ said says holds.
      let (xs, ys, first, second, more) = says holds in
      let (p, it, upheld, line) = more in
      (xs, ys, p, first, second, subst (λ w. IfSome w (λ q. q ≡ p)) (sym c.in-None.is) tt, it, upheld, line))
      (both_given c.args.circuit.now.given c.run_safe.new.circuit.given c.args.certificate.now.given c.run_safe.new.certificate.given _ _ _ _ _ _ _ _ _ c.run_safe.result c.run_safe.ensures.ended c.run_safe.ensures.yes);
  rounds = both_given c.args.circuit.now.given c.run_safe.new.circuit.given c.args.certificate.now.given c.run_safe.new.certificate.given _ _ _ _ _ _ _ _ _ c.run_safe.result c.run_safe.ensures.ended c.run_safe.ensures.rounds;
  no =
      wanted_so _ _ c.in-None.is _ _ _ _ _ _ _ _ _ _ _ _
      (λ w xs ys. IfOk c.run_safe.result (λ said. said ≡ false → (n : ℕ) × IsRefusalOf w xs ys n × Appends (g.W.Sink.contents c.args.out.now) (g.W.Sink.contents c.run_safe.new.out) (no_line n)))
      c.run_safe.ensures.no;
  exact =
      wanted_so _ _ c.in-None.is _ _ _ _ _ _ _ _ _ _ _ _
      (λ w xs ys. (p : Property) → IfSome w (λ q. q ≡ p) → Accepts xs ys p → IfOk c.run_safe.result (λ said. IsTrue said))
      (λ text later left. let (xs, first, both) = c.run_safe.ensures.exact text later left in (xs, first, λ other rest end. let (ys, second, says) = both other rest end in (ys, second, λ p _ it. says p it)));
  ended = c.run_safe.ensures.ended;
  unread = c.run_safe.ensures.unread;
  fails = c.run_safe.ensures.fails;
  nothing = c.run_safe.ensures.nothing;
  beginning =
      wanted_so _ _ c.in-None.is _ _ _ _ _ _ _ _ _ _ _ _
      (λ w xs ys. OnErr c.run_safe.result (g.W.Sink.failed c.run_safe.new.out ≡ g.W.Sink.failed c.args.out.now + 1 → BeginsLineOf w xs ys (g.W.Sink.contents c.args.out.now) (g.W.Sink.contents c.run_safe.new.out)))
      c.run_safe.ensures.beginning;
}

pub returns-in-Some : goal.returns-in-Some
returns-in-Some g c = record {
  yes =
      ok_then _ _ c.run_safe_for.result
      (λ said says holds.
      let (xs, ys, first, second, more) = says holds in
      let (it, upheld, line) = more in
      (xs, ys, c.in-Some.property, first, second, subst (λ w. IfSome w (λ q. q ≡ c.in-Some.property)) (sym c.in-Some.is) refl, it, upheld, line))
      (both_given c.args.circuit.now.given c.run_safe_for.new.circuit.given c.args.certificate.now.given c.run_safe_for.new.certificate.given _ _ _ _ _ _ _ _ _ c.run_safe_for.result c.run_safe_for.ensures.ended c.run_safe_for.ensures.yes);
  rounds = both_given c.args.circuit.now.given c.run_safe_for.new.circuit.given c.args.certificate.now.given c.run_safe_for.new.certificate.given _ _ _ _ _ _ _ _ _ c.run_safe_for.result c.run_safe_for.ensures.ended c.run_safe_for.ensures.rounds;
  no =
      wanted_so _ _ c.in-Some.is _ _ _ _ _ _ _ _ _ _ _ _
      (λ w xs ys. IfOk c.run_safe_for.result (λ said. said ≡ false → (n : ℕ) × IsRefusalOf w xs ys n × Appends (g.W.Sink.contents c.args.out.now) (g.W.Sink.contents c.run_safe_for.new.out) (no_line n)))
      c.run_safe_for.ensures.no;
  exact =
      wanted_so _ _ c.in-Some.is _ _ _ _ _ _ _ _ _ _ _ _
      (λ w xs ys. (p : Property) → IfSome w (λ q. q ≡ p) → Accepts xs ys p → IfOk c.run_safe_for.result (λ said. IsTrue said))
      (λ text later left. let (xs, first, both) = c.run_safe_for.ensures.exact text later left in (xs, first, λ other rest end. let (ys, second, says) = both other rest end in (ys, second, λ p same it. says (subst (λ q. Accepts xs ys q) (sym same) it))));
  ended = c.run_safe_for.ensures.ended;
  unread = c.run_safe_for.ensures.unread;
  fails = c.run_safe_for.ensures.fails;
  nothing = c.run_safe_for.ensures.nothing;
  beginning =
      wanted_so _ _ c.in-Some.is _ _ _ _ _ _ _ _ _ _ _ _
      (λ w xs ys. OnErr c.run_safe_for.result (g.W.Sink.failed c.run_safe_for.new.out ≡ g.W.Sink.failed c.args.out.now + 1 → BeginsLineOf w xs ys (g.W.Sink.contents c.args.out.now) (g.W.Sink.contents c.run_safe_for.new.out)))
      c.run_safe_for.ensures.beginning;
}
