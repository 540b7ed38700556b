use Rattle.std.proofs.Common.{◌≡◌, ◌≢◌, ℕ, All, inl, inr, arith, subst}
use Rattle.std.proofs.lemmas.Bool.{cases_lt}
use Rattle.ic3_frames.specs.declared.frames.Entry.{Entry}
use Rattle.ic3_propagation.proofs.propagation.repeated.Goals as goal

pub comparing-preserved : goal.comparing-preserved
comparing-preserved c = λ k pos below left. elim (cases_lt k c.comparing.level) [
  | inl lt ↦ c.comparing.invariant k pos lt left
  | inr ge ↦
      let here : k ≡ c.comparing.level = omega (arith, below, ge) in
      c.in_ok-clauses.ensures.none c.in-None.is (subst (λ (n : ℕ). All (λ (e : Entry). e.level ≢ n) c.args.frames.now.entries) here left)
]
