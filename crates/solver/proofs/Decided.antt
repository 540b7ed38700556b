-- What values of the first variables say of assignments that agree with them.
use Rattle.std.proofs.Common.{◌≡◌, ◌≢◌, ◌≤◌, ℕ, zero, suc, ◌+◌, Bool, true, false, not, List, [], ◌∷◌, length, get_or, All, ℤ, pos, negsuc, unsigned_abs, ◌⊎◌, inl, inr, refl, sym, ap, ◌∙◌, arith}
use Rattle.std.proofs.lemmas.Bool.{false≢true}
use Rattle.std.proofs.lemmas.List.Elements.{All-nil, All-cons, All-contains, Contains-append_right}
use Rattle.lrat.specs.Literals.{is_true, IsSatisfied, IsLiteral}
use Rattle.solver.specs.Answers.{AreTrue, values}
use Rattle.solver.specs.Branches.{IsFalse, IsDenied, IsClosed, IsOpen}
use Rattle.solver.proofs.Tried.{Agrees, IsRuledOut}

-- a literal that is false under the list is false wherever the list is agreed with
false_where : (v : ℕ → Bool) (b : List Bool) (l : ℤ) → l ≢ pos 0 → Agrees v b → IsFalse b l → is_true v l ≡ false
false_where v b (pos zero) ne agrees f = absurd (ne refl)
false_where v b (pos (suc n)) ne agrees f = agrees (suc n) (omega arith) f.0 ∙ f.1
false_where v b (negsuc n) ne agrees f = ap not (agrees (suc n) (omega arith) f.0) ∙ f.1

not_false : (v : ℕ → Bool) (l : ℤ) → is_true v l ≡ true → is_true v l ≡ false → ⊥
not_false v l p q = false≢true (sym q ∙ p)

-- nothing that agrees with values that close a branch satisfies the clauses and the literals
pub closed_out : (cs : List (List ℤ)) (ls : List ℤ) (b : List Bool) → All (λ c. All (λ l. l ≢ pos 0) c) cs → All (λ l. l ≢ pos 0) ls → IsClosed b cs ls → IsRuledOut cs ls b
closed_out cs ls b nz nzl (inl (c, at, denied)) v agrees sat all =
    let found : IsSatisfied v c = All-contains (IsSatisfied v) cs c sat at in
    let ne : All (λ l. l ≢ pos 0) c = All-contains (λ d. All (λ l. l ≢ pos 0) d) cs c nz at in
    not_false v found.0 found.2 (false_where v b found.0 (All-contains (λ l. l ≢ pos 0) c found.0 ne found.1) agrees (All-contains (IsFalse b) c found.0 denied found.1))
closed_out cs ls b nz nzl (inr (l, at, f)) v agrees sat all =
    not_false v l (All-contains (λ k. is_true v k ≡ true) ls l all at) (false_where v b l (All-contains (λ k. k ≢ pos 0) ls l nzl at) agrees f)

-- a literal that is not false under values of all variables is true
true_under : (n : ℕ) (b : List Bool) (l : ℤ) → length b ≡ n + 1 → IsLiteral n l → (IsFalse b l → ⊥) → is_true (values b) l ≡ true
true_under n b l whole literal open_ =
    elim (is_true (values b) l) as (λ x. is_true (values b) l ≡ x → is_true (values b) l ≡ true) [
      | true ↦ λ e. e
      | false ↦ λ e. let within : unsigned_abs l ≤ n = literal.1 in absurd (open_ (omega arith, e))
    ] refl

-- one of the literals is true under values of all variables, or the clause is denied
true_or_denied : (n : ℕ) (b : List Bool) (c : List ℤ) → length b ≡ n + 1 → All (IsLiteral n) c → IsSatisfied (values b) c ⊎ IsDenied b c
true_or_denied n b [] whole are = inr (All-nil (IsFalse b))
true_or_denied n b (l ∷ c) whole are =
    elim (is_true (values b) l) as (λ x. is_true (values b) l ≡ x → IsSatisfied (values b) (l ∷ c) ⊎ IsDenied b (l ∷ c)) [
      | true ↦ λ e. inl (l, (0, omega arith, refl), e)
      | false ↦ λ e. elim (true_or_denied n b c whole (λ k d h. are (suc k) d (omega arith))) [
        | inl (k, at, p) ↦ inl (k, Contains-append_right (l ∷ []) c k at, p)
        | inr denied ↦ let within : unsigned_abs l ≤ n = (are 0 (pos 0) (omega arith)).1 in inr (All-cons (IsFalse b) l c (omega arith, e) denied)
      ]
    ] refl

-- open values of all variables satisfy the clauses
pub open_satisfied : (n : ℕ) (cs : List (List ℤ)) (ls : List ℤ) (b : List Bool) → length b ≡ n + 1 → All (λ c. All (IsLiteral n) c) cs → IsOpen b cs ls → All (IsSatisfied (values b)) cs
open_satisfied n cs ls b whole are open_ k d h =
    elim (true_or_denied n b (get_or cs k d) whole (are k d h)) [
      | inl p ↦ p
      | inr denied ↦ absurd (open_.clauses k d h denied)
    ]

-- and they make the literals true
pub open_true : (n : ℕ) (cs : List (List ℤ)) (ls : List ℤ) (b : List Bool) → length b ≡ n + 1 → All (IsLiteral n) ls → IsOpen b cs ls → AreTrue (values b) ls
open_true n cs ls b whole are open_ k d h = true_under n b (get_or ls k d) whole (are k d h) (open_.literals k d h)

pub not_zero : (n : ℕ) (ls : List ℤ) → All (IsLiteral n) ls → All (λ l. l ≢ pos 0) ls
not_zero n ls are k d h = (are k d h).0

pub not_zeros : (n : ℕ) (cs : List (List ℤ)) → All (λ c. All (IsLiteral n) c) cs → All (λ c. All (λ l. l ≢ pos 0) c) cs
not_zeros n cs are k d h = not_zero n (get_or cs k d) (are k d h)
