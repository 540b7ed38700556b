use Rattle.std.proofs.Common.{◌≡◌, ℕ, All, length, take, arith, subst}
use Rattle.witness.specs.Cutting.{NeverShows, ShowsFirst}
use Rattle.witness.proofs.ShownLaws.{fit_first, fit_never, starts_so, times_so}
use Rattle.witness.proofs.cutting.times_to_violation.Goals as goal

pub returns-clause-first : goal.returns-clause-first
returns-clause-first c =
    let m = c.args.circuit.now in
    let p = c.args.property in
    let initial = c.args.initial.now in
    let lines = c.args.lines.now in
    let fit = c.fit_lines-fit.result.now in
    let long : c.len-2.result ≡ length m.inputs = grind (arith, c.len-2.ensures, c.parts-parts.ensures.parts) in
    let most : (k : ℕ) → All (λ line. length line ≡ length m.inputs) (take k lines) → take k lines ≡ take k fit =
    subst (λ (n : ℕ). (k : ℕ) → All (λ line. length line ≡ n) (take k lines) → take k lines ≡ take k fit) long c.fit_lines-fit.ensures.most in
    times_so c.times_in_run.result (NeverShows m p initial fit) (NeverShows m p initial lines) (ShowsFirst m p initial fit) (ShowsFirst m p initial lines)
    (fit_never m p initial lines fit most) (λ t. fit_first m p initial lines fit t most) c.times_in_run.ensures.first

pub returns-clause-refused : goal.returns-clause-refused
returns-clause-refused c = starts_so c.times_in_run.result c.args.circuit.now c.args.property c.args.initial.now c.args.lines.now c.times_in_run.ensures.refused
