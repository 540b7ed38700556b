-- Clauses of failed pushes.
use Rattle.std.proofs.Common.{◌≡◌, ◌⊎◌, ◌&&◌, ◌∙◌, ℕ, ◌<◌, ◌++◌, ◌∷◌, [], Bool, nat_eq, List, length, get_or, set, All, Contains, inl, inr, refl, sym, ap, subst}
use Rattle.std.specs.Bool.{beq, Decides}
use Rattle.std.specs.Cmp.{booleans_Decides}
use Rattle.std.specs.Cmp.Lexicographic.{pointwise}
use Rattle.std.proofs.lemmas.Bool.Decides.{Decides-and, Decides-eqb, Decides-like}
use Rattle.std.proofs.lemmas.List.{get_or-map, get_or_default, length-map}
use Rattle.std.proofs.lemmas.List.Elements.{All-contains_itself, All-map, All-nil, All-push, All-set}
use Rattle.std.proofs.lemmas.Slice.Eq.{slice_eq-Decides}
use Rattle.states.specs.declared.state_lit.StateLit.{StateLit}
use Rattle.ic3_frames.specs.declared.failed_pushes.FailedPush.{FailedPush}
use Rattle.ic3_frames.specs.FailedPushes.{clauses_of}

abbrev pub lit_eq : StateLit → StateLit → Bool
lit_eq a b = nat_eq a.latch b.latch && beq a.value b.value

same_literal : (a b : StateLit) → (a.latch ≡ b.latch) × (a.value ≡ b.value) → a ≡ b
same_literal a b h =
    let first : a ≡ record { latch = b.latch; value = a.value } = ap (λ m. record { latch = m; value = a.value }) h.0 in
    first ∙ ap (λ v. record { latch = b.latch; value = v }) h.1

literals_decided : (a b : StateLit) → Decides (lit_eq a b) (a ≡ b)
literals_decided a b =
    Decides-like (lit_eq a b) (same_literal a b) (λ e. (ap (λ (x : StateLit). x.latch) e, ap (λ (x : StateLit). x.value) e))
    (Decides-and (nat_eq a.latch b.latch) (beq a.value b.value) (Decides-eqb a.latch b.latch) (booleans_Decides a.value b.value))

-- clauses that are equal are the same
pub clauses_decided : (c d : List StateLit) (r : Bool) → r ≡ pointwise lit_eq c d → Decides r (c ≡ d)
clauses_decided c d r is = slice_eq-Decides literals_decided c d r is

-- the clause of one of them
pub clause_of : (pushes : List FailedPush) (i : ℕ) (x : FailedPush) (c : List StateLit) → i < length pushes → x ≡ get_or pushes i x → x.clause ≡ c → Contains (clauses_of pushes) c
clause_of pushes i x c i_in at is = (
  i,
  subst (λ n. i < n) (sym (length-map pushes (λ (p : FailedPush). p.clause))) i_in,
  get_or-map (λ (p : FailedPush). p.clause) pushes i x c i_in ∙ ap (λ (p : FailedPush). p.clause) (sym at) ∙ is,
)

-- each of them is an old one or of this clause
abbrev IsOldOr : List FailedPush → List StateLit → FailedPush → Type 0
IsOldOr old c p = Contains (clauses_of old) p.clause ⊎ (p.clause ≡ c)

old_ones : (old : List FailedPush) (c : List StateLit) → All (IsOldOr old c) old
old_ones old c k d k_in = inl (clause_of old k (get_or old k d) (get_or old k d).clause k_in (get_or_default old k d (get_or old k d) k_in) refl)

pub clauses_set : (old : List FailedPush) (i : ℕ) (x : FailedPush) → All (λ c. Contains (clauses_of old) c ⊎ (c ≡ x.clause)) (clauses_of (set old i x))
clauses_set old i x =
    All-map (λ c. Contains (clauses_of old) c ⊎ (c ≡ x.clause)) (λ (p : FailedPush). p.clause) (set old i x) (All-set (IsOldOr old x.clause) old i x (inr refl) (old_ones old x.clause))

pub clauses_push : (old : List FailedPush) (x : FailedPush) → All (λ c. Contains (clauses_of old) c ⊎ (c ≡ x.clause)) (clauses_of (old ++ x ∷ []))
clauses_push old x =
    All-map (λ c. Contains (clauses_of old) c ⊎ (c ≡ x.clause)) (λ (p : FailedPush). p.clause) (old ++ x ∷ []) (All-push (IsOldOr old x.clause) old x (old_ones old x.clause) (inr refl))

pub clauses_same : (old : List FailedPush) (c : List StateLit) → All (λ x. Contains (clauses_of old) x ⊎ (x ≡ c)) (clauses_of old)
clauses_same old c = All-map (λ x. Contains (clauses_of old) x ⊎ (x ≡ c)) (λ (p : FailedPush). p.clause) old (old_ones old c)

pub clauses_kept : (old : List FailedPush) → All (Contains (clauses_of old)) (clauses_of old)
clauses_kept old = All-contains_itself (clauses_of old)

pub clauses_none : (old : List FailedPush) → All (Contains (clauses_of old)) (clauses_of [])
clauses_none old = All-nil (Contains (clauses_of old))
