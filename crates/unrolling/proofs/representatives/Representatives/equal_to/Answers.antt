use Rattle.std.proofs.Common.{rules, ◌≡◌, ◌≢◌, ℤ, pos, ◌∙◌, ap, subst, SFits, w32, of_z, unsigned_abs}
use Rattle.lrat.proofs.Fit.{read32}
use Rattle.lrat.specs.Literals.{is_true}
use Rattle.unrolling.specs.Merged.{IsTurned, equal_at}
use Rattle.unrolling.proofs.Swept.{turned_equal}
use Rattle.unrolling.proofs.representatives.Representatives.equal_to.Goals as goal

pub returns-else-equal-eq0-clause-equal : goal.returns-else-equal-eq0-clause-equal
returns-else-equal-eq0-clause-equal c = λ d n merged l_in v all.
    let l : ℤ = c.args.literal in
    let fl : SFits w32 l = search rules in
    let fe : SFits w32 c.listed-equal.result = search rules in
    let fr : SFits w32 c.turned.result = search rules in
    let abs_is : c.unsigned_abs.result ≡ unsigned_abs l = c.unsigned_abs.ensures.value ∙ ap unsigned_abs (read32 _ fl) in
    let listed_is : c.listed-equal.result ≡ equal_at c.args.self.now (unsigned_abs l) =
    c.listed-equal.ensures.same ∙ ap (λ q. equal_at q c.unsigned_abs.result) c.deref.ensures.value ∙ ap (λ q. equal_at q c.unsigned_abs.result) (c.self.view_is) ∙ ap (equal_at c.args.self.now) abs_is in
    let seen : c.self.inside.equals.items ≡ c.args.self.now = search rules in
    let nz : equal_at c.args.self.now (unsigned_abs l) ≢ pos 0 = λ z. c.if-equal-eq0.false (ap (of_z w32) (listed_is ∙ z)) in
    ap (is_true v) (read32 _ fr) ∙ turned_equal d n c.args.self.now l c.turned.result merged l_in nz
    (subst (λ (q : ℤ). IsTurned l q c.turned.result) (read32 _ fe ∙ listed_is) (rw (read32 _ fl) at c.turned.ensures)) v all
