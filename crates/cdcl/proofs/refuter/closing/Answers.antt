use Rattle.std.proofs.Common.{rules, ◌≡◌, ◌≤◌, ◌∷◌, [], ℤ, neg_ℤ, inl, inr, unsigned_abs, SFits, w32, subst}
use Rattle.lrat.proofs.Fit.{read32}
use Rattle.cdcl_kernel.specs.Verdicts.{IsOpposed}
use Rattle.cdcl.proofs.Searched.{literal_at, none_opposed}
use Rattle.cdcl.proofs.refuter.closing.Goals as goal

pub opposed_closing-requires-clause-in_range : goal.opposed_closing-requires-clause-in_range
opposed_closing-requires-clause-in_range c =
    let two : (l : ℤ) × (c.in-Some.pair.items ≡ l ∷ neg_ℤ l ∷ []) × IsOpposed c.args.units.now l = rw c.in-Some.is at c.in_ok-pair.ensures.opposed in
    let l : ℤ = two.0 in
    let items : c.in-Some.pair.items ≡ l ∷ neg_ℤ l ∷ [] = two.1 in
    let small : c.args.kernel.now.vars ≤ 2147483647 = subst (λ n. n ≤ 2147483647) c.known-known.ensures.vars c.vars-vars.ensures.fits in
    let le : unsigned_abs l ≤ 2147483647 = literal_at c.args.kernel.now.vars c.args.units.now l small c.requires.literals two.2.0 in
    let first : c.index.result.now ≡ l = search rules in
    let g : SFits w32 c.index.result.now = search rules in
    rw (read32 c.index.result.now g, first) le

pub closing-requires-clause-denies : goal.closing-requires-clause-denies
closing-requires-clause-denies c =
    elim c.requires.shown [
      | inl opposed ↦ absurd (none_opposed c.args.units.now opposed.0 (rw c.in-None.is at c.in_ok-pair.ensures.core) opposed.1)
      | inr denies ↦ denies
    ]
