-- What stays true of the clauses as they come and go.
use Rattle.std.proofs.Common.{◌≡◌, ℕ, zero, suc, ◌≢◌, ◌⊎◌, List, [], ◌∷◌, ◌++◌, slice_index_or, slice_set, All, ℤ, pos, Some, refl, sym, ◌∙◌, ap, subst, inl, inr}
use Rattle.std.proofs.lemmas.List.Elements.{All-contains, Contains-append_left, Contains-get_or, Contains-push}
use Rattle.lrat.specs.Literals.{Finder, IsLiteral, IsSatisfied, Follows}
use Rattle.lrat.specs.Lines.{IsAcceptedLine}
use Rattle.lrat.proofs.Sound.{shown_true}
use Rattle.cdcl_kernel.specs.Kept.{Kept, find_in, live, gone, added, added_if, origin_in, without}
use Rattle.cdcl_kernel.specs.Inside.{AllFollow}
use Rattle.cdcl_kernel.specs.Known.{Known, IsLearned}
use Rattle.cdcl_kernel.specs.declared.origin.Origin.{Origin}
use Rattle.cdcl_kernel.specs.declared.origin.Origin.TheVariants.{Added, Learned, Removed}

push_if : (o : Origin) (c : List ℤ) (xs ys zs : List (List ℤ)) → xs ≡ ys ++ zs → added_if o c xs ≡ added_if o c ys ++ zs
push_if Added c xs ys zs e = ap (λ u. c ∷ u) e
push_if Learned c xs ys zs e = e
push_if Removed c xs ys zs e = e

pub added_push : (ks : List Kept) (k : Kept) → added (ks ++ k ∷ []) ≡ added ks ++ added_if k.origin k.clause []
added_push [] k = refl
added_push (j ∷ ks) k = push_if j.origin j.clause (added (ks ++ k ∷ [])) (added ks) (added_if k.origin k.clause []) (added_push ks k)

none_some : (c : List ℤ) → live gone ≡ Some c → ⊥
none_some c e = cc

-- where a clause stands after one more came
find_more : (ks : List Kept) (k : Kept) (i : ℕ) (c : List ℤ) → live (slice_index_or (ks ++ k ∷ []) i gone) ≡ Some c → (live (slice_index_or ks i gone) ≡ Some c) ⊎ (live k ≡ Some c)
find_more [] k zero c e = inr e
find_more [] k (suc i) c e = absurd (none_some c e)
find_more (j ∷ ks) k zero c e = inl e
find_more (j ∷ ks) k (suc i) c e = find_more ks k i c e

found_cases : (ks : List Kept) (k : Kept) (id : ℕ) (c : List ℤ) → find_in (ks ++ k ∷ []) id ≡ Some c → (find_in ks id ≡ Some c) ⊎ (live k ≡ Some c)
found_cases ks k zero c e = inl e
found_cases ks k (suc i) c e = find_more ks k i c e

follows_more : (cs ds : List (List ℤ)) (c : List ℤ) → Follows cs c → Follows (cs ++ ds) c
follows_more cs ds c f v all = f v (λ k d lt. All-contains (IsSatisfied v) (cs ++ ds) _ all (Contains-append_left cs ds _ (Contains-get_or cs k d lt)))

same_literals : (c d : List ℤ) → Some c ≡ Some d → c ≡ d
same_literals c d e = cc

-- an added clause follows from itself, and the others as before
pub follow_added : (ks : List Kept) (c : List ℤ) → AllFollow ks → AllFollow (ks ++ record { origin = Added; clause = c } ∷ [])
follow_added ks c all id d found =
    let k : Kept = record { origin = Added; clause = c } in
    subst (λ cs. Follows cs d) (sym (added_push ks k))
    (elim (found_cases ks k id d found) [
      | inl old ↦ follows_more (added ks) (c ∷ []) d (all id d old)
      | inr new ↦ λ v sat. subst (IsSatisfied v) (same_literals c d new) (All-contains (IsSatisfied v) (added ks ++ c ∷ []) c sat (Contains-push (added ks) c))
    ])

append_none : (cs : List (List ℤ)) → cs ++ [] ≡ cs
append_none [] = refl
append_none (c ∷ cs) = ap (λ u. c ∷ u) (append_none cs)

pub added_learned : (ks : List Kept) (c : List ℤ) → added (ks ++ record { origin = Learned; clause = c } ∷ []) ≡ added ks
added_learned ks c = added_push ks (record { origin = Learned; clause = c }) ∙ append_none (added ks)

pub follow_learned : (ks : List Kept) (c : List ℤ) → AllFollow ks → Follows (added ks) c → AllFollow (ks ++ record { origin = Learned; clause = c } ∷ [])
follow_learned ks c all f id d found =
    let k : Kept = record { origin = Learned; clause = c } in
    subst (λ cs. Follows cs d) (sym (added_learned ks c))
    (elim (found_cases ks k id d found) [
      | inl old ↦ all id d old
      | inr new ↦ subst (Follows (added ks)) (same_literals c d new) f
    ])

-- what an accepted line shows follows from the added clauses
pub accepted_follows : (n : ℕ) (ks : List Kept) (c : List ℤ) (hints : List ℕ) → AllFollow ks → All (λ l. l ≢ pos 0) c → IsAcceptedLine n (find_in ks) c hints → Follows (added ks) c
accepted_follows n ks c hints all nz line v sat = shown_true v (find_in ks) c hints nz (λ id d found. all id d found v sat) line.shown

pub all_literals : (n : ℕ) (m : Finder) (c : List ℤ) (hints : List ℕ) → All (λ l. l ≢ pos 0) c → IsAcceptedLine n m c hints → All (IsLiteral n) c
all_literals n m c hints nz line k d lt = (nz k d lt, line.proper.0 k d lt)

pub learned_from : (k : Known) (c : List ℤ) (hints : List ℕ) → AllFollow k.kept → All (λ l. l ≢ pos 0) c → IsAcceptedLine k.vars (find_in k.kept) c hints → IsLearned k c hints
learned_from k c hints all nz line = record {
  literals = all_literals k.vars (find_in k.kept) c hints nz line;
  accepted = line;
  follows = accepted_follows k.vars k.kept c hints all nz line;
}

added_set : (ks : List Kept) (i : ℕ) → (slice_index_or ks i gone).origin ≡ Learned → added (slice_set ks i gone) ≡ added ks
added_set [] i e = refl
added_set (k ∷ ks) zero e = rw e refl
added_set (k ∷ ks) (suc i) e = ap (added_if k.origin k.clause) (added_set ks i e)

pub added_removed : (ks : List Kept) (id : ℕ) → origin_in ks id ≡ Learned → added (without ks id) ≡ added ks
added_removed ks zero e = refl
added_removed ks (suc i) e = added_set ks i e
