-- What forgetting one id more does.
use Rattle.std.proofs.Common.{◌≡◌, ◌≢◌, ◌==◌, ◌∙◌, ◌⊎◌, inl, inr, ℕ, zero, suc, ◌+◌, ◌<◌, List, [], ◌∷◌, ◌++◌, take, length, get_or, slice_index_or, slice_set, Some, true, false, refl, sym, ap, subst, arith, ℤ}
use Rattle.std.proofs.lemmas.Bool.Decides.{nat_tests}
use Rattle.std.proofs.lemmas.List.{take_more, length-set}
use Rattle.std.proofs.lemmas.List.Elements.{Contains-push, Contains-push_cases, Contains-append_left}
use Rattle.lrat.specs.Literals.{Follows}
use Rattle.cdcl_kernel.specs.Inside.{AllFollow}
use Rattle.cdcl_kernel.specs.Kept.{Kept, kept_in, find_in, live, added, origin_in, gone, without}
use Rattle.cdcl_kernel.specs.Forgotten.{IsSpent, Forgets}
use Rattle.cdcl_kernel.specs.declared.origin.Origin.TheVariants.{Learned}

pub by_eq : {P : Type 0} (a b : ℕ) → (a ≡ b → P) → (a ≢ b → P) → P
by_eq {P = P} a b y n = elim (a == b) as (λ r. (a == b) ≡ r → P) [ true ↦ λ e. y (grind (arith, nat_tests)) | false ↦ λ e. n (λ same. grind (arith, nat_tests)) ] refl

set_other : (ks : List Kept) (i j : ℕ) → j ≢ i → slice_index_or (slice_set ks i gone) j gone ≡ slice_index_or ks j gone
set_other [] i j ne = refl
set_other (k ∷ ks) zero zero ne = absurd (ne refl)
set_other (k ∷ ks) zero (suc j) ne = refl
set_other (k ∷ ks) (suc i) zero ne = refl
set_other (k ∷ ks) (suc i) (suc j) ne = set_other ks i j (λ same. ne (ap suc same))

kept_other : (ks : List Kept) (id q : ℕ) → q ≢ id → kept_in (without ks id) q ≡ kept_in ks q
kept_other ks id zero ne = refl
kept_other ks zero (suc j) ne = refl
kept_other ks (suc i) (suc j) ne = set_other ks i j (λ same. ne (ap suc same))

set_gone : (ks : List Kept) (i : ℕ) → slice_index_or (slice_set ks i gone) i gone ≡ gone
set_gone [] i = refl
set_gone (k ∷ ks) zero = refl
set_gone (k ∷ ks) (suc i) = set_gone ks i

kept_gone : (ks : List Kept) (id : ℕ) → kept_in (without ks id) id ≡ gone
kept_gone ks zero = refl
kept_gone ks (suc i) = set_gone ks i

length_without : (ks : List Kept) (id : ℕ) → length (without ks id) ≡ length ks
length_without ks zero = refl
length_without ks (suc i) = length-set ks i gone

pub nothing_forgotten : (ks : List Kept) (ids : List ℕ) → Forgets ks ks (take 0 ids)
nothing_forgotten ks ids = record { same_ids = refl; each = λ q. inr (λ s. absurd (let lt = s.among.1 in omega arith), refl) }

spent_more : (ks : List Kept) (ids : List ℕ) (id q : ℕ) → IsSpent ks ids q → IsSpent ks (ids ++ id ∷ []) q
spent_more ks ids id q s = record { among = Contains-append_left ids (id ∷ []) q s.among; learned = s.learned }

spent_before : (ks : List Kept) (ids : List ℕ) (id q : ℕ) → q ≢ id → IsSpent ks (ids ++ id ∷ []) q → IsSpent ks ids q
spent_before ks ids id q ne s = record {
  among = elim (Contains-push_cases ids id q s.among) [ inl h ↦ h | inr e ↦ absurd (ne (sym e)) ];
  learned = s.learned;
}

-- a learned clause is taken out
forgets_one : (old now : List Kept) (ids : List ℕ) (id : ℕ) → Forgets old now ids → origin_in now id ≡ Learned → Forgets old (without now id) (ids ++ id ∷ [])
forgets_one old now ids id f learned = record {
  same_ids = length_without now id ∙ f.same_ids;
  each = λ q. by_eq q id
      (λ e. subst (λ p. (IsSpent old (ids ++ id ∷ []) p × (kept_in (without now id) p ≡ gone)) ⊎ ((IsSpent old (ids ++ id ∷ []) p → ⊥) × (kept_in (without now id) p ≡ kept_in old p))) (sym e)
      (elim (f.each id) [
        | inl h ↦ inl (spent_more old ids id id h.0, kept_gone now id)
        | inr h ↦ inl (record { among = Contains-push ids id; learned = sym (ap (λ (k : Kept). k.origin) h.1) ∙ learned }, kept_gone now id)
      ]))
      (λ ne. elim (f.each q) [
        | inl h ↦ inl (spent_more old ids id q h.0, kept_other now id q ne ∙ h.1)
        | inr h ↦ inr (λ s. h.0 (spent_before old ids id q ne s), kept_other now id q ne ∙ h.1)
      ]);
}

-- any other clause stays
forgets_none : (old now : List Kept) (ids : List ℕ) (id : ℕ) → Forgets old now ids → (origin_in now id ≡ Learned → ⊥) → Forgets old now (ids ++ id ∷ [])
forgets_none old now ids id f stays = record {
  same_ids = f.same_ids;
  each = λ q. by_eq q id
      (λ e. subst (λ p. (IsSpent old (ids ++ id ∷ []) p × (kept_in now p ≡ gone)) ⊎ ((IsSpent old (ids ++ id ∷ []) p → ⊥) × (kept_in now p ≡ kept_in old p))) (sym e)
      (elim (f.each id) [
        | inl h ↦ inl (spent_more old ids id id h.0, h.1)
        | inr h ↦ inr (λ s. stays (ap (λ (k : Kept). k.origin) h.1 ∙ s.learned), h.1)
      ]))
      (λ ne. elim (f.each q) [
        | inl h ↦ inl (spent_more old ids id q h.0, h.1)
        | inr h ↦ inr (λ s. h.0 (spent_before old ids id q ne s), h.1)
      ]);
}

pub forgets_one_at : (old now : List Kept) (ids : List ℕ) (i : ℕ) → i < length ids → Forgets old now (take i ids) → origin_in now (get_or ids i 0) ≡ Learned → Forgets old (without now (get_or ids i 0)) (take (i + 1) ids)
forgets_one_at old now ids i lt f learned = rw (take_more ids i 0 lt) (forgets_one old now (take i ids) _ f learned)

pub forgets_none_at : (old now : List Kept) (ids : List ℕ) (i : ℕ) → i < length ids → Forgets old now (take i ids) → (origin_in now (get_or ids i 0) ≡ Learned → ⊥) → Forgets old now (take (i + 1) ids)
forgets_none_at old now ids i lt f stays = rw (take_more ids i 0 lt) (forgets_none old now (take i ids) _ f stays)

-- ---- what stays of all clauses

none_gone : (c : List ℤ) → live gone ≡ Some c → ⊥
none_gone c e = cc

still_found : (old now : List Kept) (ids : List ℕ) → Forgets old now ids → (q : ℕ) (c : List ℤ) → find_in now q ≡ Some c → find_in old q ≡ Some c
still_found old now ids f q c found = elim (f.each q) [
  | inl h ↦ absurd (none_gone c (sym (ap live h.1) ∙ found))
  | inr h ↦ sym (ap live h.1) ∙ found
]

pub forgets_follow : (old now : List Kept) (ids : List ℕ) → added now ≡ added old → Forgets old now ids → AllFollow old → AllFollow now
forgets_follow old now ids same f all q c found = subst (λ cs. Follows cs c) (sym same) (all q c (still_found old now ids f q c found))
