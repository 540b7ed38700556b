-- A look at one literal more.
use Rattle.std.proofs.Common.{◌≡◌, ℕ, ◌+◌, ◌<◌, ◌≢◌, List, [], ◌∷◌, ◌++◌, length, take, drop, get_or, Option, None, Some, ◌≤◌, All, Contains, ℤ, pos, sym, ◌∙◌, subst, add-one, inl, inr}
use Rattle.std.proofs.Math.Seq.{take-suc}
use Rattle.std.proofs.lemmas.List.Elements.{All-push, All-contains, Contains-push, Contains-push_cases, Contains-append_left, Contains-get_or}
use Rattle.std.proofs.lemmas.List.{take-append-drop, take_all}
use Rattle.lrat.specs.Faults.{SoFar}
use Rattle.lrat.specs.Lines.{IsDenied, LeavesOnly, LeavesSeveral}

pub take_more : (c : List ℤ) (i : ℕ) → i < length c → take (i + 1) c ≡ take i c ++ get_or c i (pos 0) ∷ []
take_more c i h = rw add-one (take-suc c i (pos 0) h)

pub only_first : (s c : List ℤ) (x : ℤ) → All (IsDenied s) c → (IsDenied s x → ⊥) → LeavesOnly s (c ++ x ∷ []) x
only_first s c x all not = record {
  stands = Contains-push c x;
  open_in = not;
  others = λ k at ne. elim (Contains-push_cases c x k at) [ inl h ↦ All-contains (IsDenied s) c k all h | inr e ↦ absurd (ne (sym e)) ];
}

pub only_denied : (s c : List ℤ) (l x : ℤ) → LeavesOnly s c l → IsDenied s x → LeavesOnly s (c ++ x ∷ []) l
only_denied s c l x only denied = record {
  stands = Contains-append_left c (x ∷ []) l only.stands;
  open_in = only.open_in;
  others = λ k at ne. elim (Contains-push_cases c x k at) [ inl h ↦ only.others k h ne | inr e ↦ subst (IsDenied s) e denied ];
}

pub only_again : (s c : List ℤ) (l x : ℤ) → LeavesOnly s c l → l ≡ x → LeavesOnly s (c ++ x ∷ []) l
only_again s c l x only same = record {
  stands = Contains-append_left c (x ∷ []) l only.stands;
  open_in = only.open_in;
  others = λ k at ne. elim (Contains-push_cases c x k at) [ inl h ↦ only.others k h ne | inr e ↦ absurd (ne (sym e ∙ sym same)) ];
}

pub so_far_denied : (s c : List ℤ) (i : ℕ) (left : Option ℤ) → i < length c → SoFar s (take i c) left → IsDenied s (get_or c i (pos 0)) → SoFar s (take (i + 1) c) left
so_far_denied s c i None h all d = rw (take_more c i h) (All-push (IsDenied s) (take i c) _ all d)
so_far_denied s c i (Some l) h only d = rw (take_more c i h) (only_denied s (take i c) l _ only d)

pub so_far_first : (s c : List ℤ) (i : ℕ) (left : Option ℤ) → i < length c → SoFar s (take i c) left → left ≡ None → (IsDenied s (get_or c i (pos 0)) → ⊥) → SoFar s (take (i + 1) c) (Some (get_or c i (pos 0)))
so_far_first s c i left h sofar e not = rw (take_more c i h) (only_first s (take i c) _ (subst (SoFar s (take i c)) e sofar) not)

pub so_far_again : (s c : List ℤ) (i : ℕ) (left : Option ℤ) (l : ℤ) → i < length c → SoFar s (take i c) left → left ≡ Some l → l ≡ get_or c i (pos 0) → LeavesOnly s (take (i + 1) c) l
so_far_again s c i left l h sofar e same =
    rw (take_more c i h) (only_again s (take i c) l _ (subst (SoFar s (take i c)) e sofar) same)

pub so_far_several : (s c : List ℤ) (i : ℕ) (left : Option ℤ) (l : ℤ) → i < length c → SoFar s (take i c) left → left ≡ Some l → l ≢ get_or c i (pos 0) → (IsDenied s (get_or c i (pos 0)) → ⊥) → LeavesSeveral s c
so_far_several s c i left l h sofar e ne not =
    let only : LeavesOnly s (take i c) l = subst (SoFar s (take i c)) e sofar in
    record {
      one = l;
      other = get_or c i (pos 0);
      stands = (subst (λ d. Contains d l) (take-append-drop i c) (Contains-append_left (take i c) (drop i c) l only.stands), Contains-get_or c i (pos 0) h);
      distinct = ne;
      open_in = (only.open_in, not);
    }

pub so_far_none : (s c : List ℤ) (i : ℕ) (left : Option ℤ) → length c ≤ i → SoFar s (take i c) left → left ≡ None → All (IsDenied s) c
so_far_none s c i left h sofar e = subst (All (IsDenied s)) (take_all i c h) (subst (SoFar s (take i c)) e sofar)

pub so_far_some : (s c : List ℤ) (i : ℕ) (left : Option ℤ) (l : ℤ) → length c ≤ i → SoFar s (take i c) left → left ≡ Some l → LeavesOnly s c l
so_far_some s c i left l h sofar e = subst (λ d. LeavesOnly s d l) (take_all i c h) (subst (SoFar s (take i c)) e sofar)
