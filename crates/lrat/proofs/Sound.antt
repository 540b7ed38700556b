-- What the hints show is true wherever the clauses are.
use Rattle.std.proofs.Common.{◌≡◌, ℕ, suc, zero, Bool, true, false, not, ◌≢◌, List, [], ◌∷◌, ◌++◌, map, All, ℤ, pos, negsuc, neg_ℤ, ◌⊎◌, inl, inr, arith, refl, sym, ap, subst}
use Rattle.std.proofs.lemmas.List.Elements.{All-push, All-nil, All-cons, All-map, All-contains, Contains-append_right}
use Rattle.lrat.specs.Literals.{Finder, is_true, IsSatisfied, Satisfies}
use Rattle.lrat.specs.Lines.{IsDenied, LeavesOnly, Leads, Conflicts, AreHintsFor}

negated : (b : Bool) → not b ≡ false → b ≡ true
negated true p = refl
negated false p = cc

not_both : (b : Bool) → b ≡ true → not b ≡ true → ⊥
not_both true p q = cc
not_both false p q = cc

-- a literal and its negation are not both true
pub apart : (v : ℕ → Bool) (l : ℤ) → is_true v l ≡ true → is_true v (neg_ℤ l) ≡ true → ⊥
apart v (pos zero) p q = cc
apart v (pos (suc n)) p q = not_both _ p q
apart v (negsuc n) p q = not_both _ q p

-- a literal that is not true has a true negation
negation_holds : (v : ℕ → Bool) (l : ℤ) → l ≢ pos 0 → is_true v l ≡ false → is_true v (neg_ℤ l) ≡ true
negation_holds v (pos zero) ne p = absurd (ne refl)
negation_holds v (pos (suc n)) ne p = ap not p
negation_holds v (negsuc n) ne p = negated _ p

abbrev AllTrue : (ℕ → Bool) → List ℤ → Type 0
AllTrue v s = All (λ k. is_true v k ≡ true) s

-- where a set's literals are true, a denied literal is not
denied_is_false : (v : ℕ → Bool) (s : List ℤ) (l : ℤ) → AllTrue v s → IsDenied s l → is_true v l ≡ true → ⊥
denied_is_false v s l all denied p = apart v l p (All-contains (λ k. is_true v k ≡ true) s (neg_ℤ l) all denied)

unlike : (v : ℕ → Bool) (k l : ℤ) → is_true v k ≡ true → is_true v l ≡ false → k ≢ l
unlike v k l p q e = let h : is_true v k ≡ is_true v l = ap (is_true v) e in cc

-- where the clause and a set are true, the literal that the set leaves of the clause is true
forced : (v : ℕ → Bool) (s c : List ℤ) (l : ℤ) → AllTrue v s → LeavesOnly s c l → IsSatisfied v c → is_true v l ≡ true
forced v s c l all only (k, at, p) =
    elim (is_true v l) as (λ b. is_true v l ≡ b → is_true v l ≡ true) [
      | true ↦ λ e. e
      | false ↦ λ e. absurd (denied_is_false v s k all (only.others k at (unlike v k l p e)) p)
    ] refl

leads_true : (v : ℕ → Bool) (m : Finder) → Satisfies v m → (ids : List ℕ) (s t : List ℤ) → AllTrue v s → Leads m s ids t → AllTrue v t
leads_true v m sat [] s t all same = subst (AllTrue v) (sym same) all
leads_true v m sat (id ∷ ids) s t all leads =
    leads_true v m sat ids (s ++ leads.0 ∷ []) t
    (All-push (λ k. is_true v k ≡ true) s leads.0 all (forced v s leads.1.clause leads.0 all leads.1.leaves (sat id leads.1.clause leads.1.found)))
    leads.2

conflict_false : (v : ℕ → Bool) (m : Finder) (s : List ℤ) (id : ℕ) → Satisfies v m → AllTrue v s → Conflicts m s id → ⊥
conflict_false v m s id sat all conflict =
    let found : IsSatisfied v conflict.clause = sat id conflict.clause conflict.found in
    denied_is_false v s found.0 all (All-contains (IsDenied s) conflict.clause found.0 conflict.denied found.1) found.2

-- one of the literals is true, or none is
true_or_none : (v : ℕ → Bool) (c : List ℤ) → IsSatisfied v c ⊎ All (λ l. is_true v l ≡ false) c
true_or_none v [] = inr (All-nil (λ l. is_true v l ≡ false))
true_or_none v (l ∷ c) =
    elim (is_true v l) as (λ b. is_true v l ≡ b → IsSatisfied v (l ∷ c) ⊎ All (λ k. is_true v k ≡ false) (l ∷ c)) [
      | true ↦ λ e. inl (l, (0, omega arith, refl), e)
      | false ↦ λ e. elim (true_or_none v c) [
        | inl (k, at, p) ↦ inl (k, Contains-append_right (l ∷ []) c k at, p)
        | inr none ↦ inr (All-cons (λ k. is_true v k ≡ false) l c e none)
      ]
    ] refl

pub shown_true : (v : ℕ → Bool) (m : Finder) (c : List ℤ) (hints : List ℕ) → All (λ l. l ≢ pos 0) c → Satisfies v m → AreHintsFor m c hints → IsSatisfied v c
shown_true v m c hints nz sat shows =
    elim (true_or_none v c) [
      | inl p ↦ p
      | inr none ↦ absurd (conflict_false v m shows.reached shows.last sat
          (leads_true v m sat shows.first (map neg_ℤ c) shows.reached
          (All-map (λ k. is_true v k ≡ true) neg_ℤ c (λ k d lt. negation_holds v _ (nz k d lt) (none k d lt))) shows.leads)
          shows.conflict)
    ]
