use Rattle.std.proofs.Common.{rules, ◌≡◌, ℤ, ◌∙◌, sym, ap, SFits, w32, unsigned_abs}
use Rattle.lrat.proofs.Fit.{read32}
use Rattle.unrolling.specs.Merged.{IsTurned, equal_at}
use Rattle.unrolling.proofs.Added.{then_both}
use Rattle.unrolling.proofs.Swept.{noted}
use Rattle.unrolling.proofs.representatives.Representatives.note.Goals as goal

pub returns : goal.returns
returns c = λ d n merged l_in k_in equal.
    let l : ℤ = c.args.literal in
    let k : ℤ = c.args.equal in
    let r : ℤ = c.turned.result in
    let fl : SFits w32 l = search rules in
    let fk : SFits w32 k = search rules in
    let fr : SFits w32 r = search rules in
    let is : c.unsigned_abs.result ≡ unsigned_abs l = c.unsigned_abs.ensures.value ∙ ap unsigned_abs (read32 _ fl) in
    let turned : IsTurned l k r = rw (read32 _ fl, read32 _ fk) at c.turned.ensures in
    let seen : c.self.inside.equals.items ≡ c.args.self.now = search rules in
    then_both c.list.result c.list.ensures.here c.list.ensures.others (λ here others.
    noted d n c.args.self.now c.list.new.equals.items l k r merged l_in k_in equal turned (ap (equal_at c.list.new.equals.items) (sym is) ∙ here ∙ read32 _ fr) (λ x apart. others x (λ z. apart (z ∙ is)) ∙ ap (λ q. equal_at q x) seen))
