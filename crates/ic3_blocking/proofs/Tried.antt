-- Clauses that were tried without a latch.
use Rattle.std.proofs.Common.{◌≡◌, ◌≢◌, ◌==◌, ◌⊎◌, ◌+◌, ◌<◌, ◌≤◌, ◌++◌, ◌∷◌, [], not, ℕ, true, List, filter, take, length, get_or, All, Contains, inl, inr, refl, sym, ap, ◌∙◌, subst, arith}
use Rattle.std.proofs.lemmas.Bool.{false≢true, eq-eqb, ne_eqb}
use Rattle.std.proofs.lemmas.List.{take_more}
use Rattle.std.proofs.lemmas.List.Elements.{All-contains, All-push, Contains-append_left, Contains-get_or, Contains-push, filter_passes}
use Rattle.base.specs.Budget.{Steps}
use Rattle.graph.specs.declared.parts.Parts.{Parts}
use Rattle.graph.specs.Circuits.{Valuation, next_state}
use Rattle.states.specs.declared.state_lit.StateLit.{StateLit}
use Rattle.ic3_step.specs.declared.assignment.Assignment.{Assignment}
use Rattle.states.specs.States.{Denies, IsPartOf, IsSet}
use Rattle.ic3_step.specs.States.{IsAt}
use Rattle.ic3_step.specs.Steps.{denials_of}
use Rattle.ic3_frames.specs.Clauses.{IsResetLit}
use Rattle.ic3_frames.specs.Frames.{IsFalseAfter}
use Rattle.ic3_blocking.specs.Answers.{HasLatch, IsNeeded, IsShortened, IsTried}
use Rattle.ic3_blocking.proofs.Literals.{filter_has}

abbrev pub without_latch : List StateLit → ℕ → List StateLit
without_latch c i = filter (λ a. not (a.latch == i)) c

-- a literal of another latch stays
stays : (c : List StateLit) (i : ℕ) (a : StateLit) → Contains c a → a.latch ≢ i → Contains (without_latch c i) a
stays c i a found other = filter_has (λ (b : StateLit). not (b.latch == i)) c a found (ap not (ne_eqb a.latch i other))

-- what each of the others has
others_have : (P : StateLit → Type 0) (c shorter : List StateLit) (i : ℕ) → shorter ≡ without_latch c i → All P shorter → All (λ a. a.latch ≢ i → P a) c
others_have P c shorter i is all k d k_in other =
    All-contains P shorter (get_or c k d) all (subst (λ (xs : List StateLit). Contains xs (get_or c k d)) (sym is) (stays c i (get_or c k d) (Contains-get_or c k d k_in) other))

-- a part of it lacks the latch
pub part_lacks : (c shorter part : List StateLit) (i : ℕ) → shorter ≡ without_latch c i → IsPartOf part shorter → HasLatch part i → ⊥
part_lacks c shorter part i is inside (k, a, k_in, at, same) =
    let found : Contains (without_latch c i) a = subst (λ (xs : List StateLit). Contains xs a) is (inside a (k, k_in, at)) in
    let passes : not (a.latch == i) ≡ true = All-contains (λ (b : StateLit). not (b.latch == i) ≡ true) (without_latch c i) a (filter_passes (λ (b : StateLit). not (b.latch == i)) c) found in
    false≢true (sym (ap not (eq-eqb a.latch i same)) ∙ passes)

pub needed_initially : (m : Parts) (c shorter : List StateLit) (i : ℕ) → shorter ≡ without_latch c i → All (λ a. IsResetLit m.latches a → ⊥) shorter → IsNeeded m c i
needed_initially m c shorter i is none = inl (others_have (λ (a : StateLit). IsResetLit m.latches a → ⊥) c shorter i is none)

pub needed_onward : (m : Parts) (c shorter : List StateLit) (i : ℕ) (t : Assignment) → shorter ≡ without_latch c i → (w : Valuation) × IsAt m (denials_of m.latches shorter) w t × Denies (next_state m w) shorter → IsNeeded m c i
needed_onward m c shorter i t is (w, at, denies) = inr (w, at.is_time, others_have (λ (a : StateLit). IsSet (next_state m w) a → ⊥) c shorter i is denies)

pub false_after : (m : Parts) (c : List StateLit) (t : Assignment) → (w : Valuation) × IsAt m (denials_of m.latches c) w t × Denies (next_state m w) c → IsFalseAfter m c
false_after m c t (w, at, denies) = (w, at.is_time, denies)

-- a part of the clause has what each literal has
all_part : (P : StateLit → Type 0) (c part : List StateLit) → IsPartOf part c → All P c → All P part
all_part P c part inside all k d k_in = All-contains P c (get_or part k d) all (inside (get_or part k d) (Contains-get_or part k d k_in))

latch_part : (c part : List StateLit) (i : ℕ) → IsPartOf part c → HasLatch part i → HasLatch c i
latch_part c part i inside (k, a, k_in, at, same) = let found : Contains c a = inside a (k, k_in, at) in (found.0, a, found.1, found.2, same)

needed_part : (m : Parts) (c part : List StateLit) (i : ℕ) → IsPartOf part c → IsNeeded m c i → IsNeeded m part i
needed_part m c part i inside (inl none) = inl (all_part (λ (a : StateLit). a.latch ≢ i → IsResetLit m.latches a → ⊥) c part inside none)
needed_part m c part i inside (inr (w, time, unset)) = inr (w, time, all_part (λ (a : StateLit). a.latch ≢ i → IsSet (next_state m w) a → ⊥) c part inside unset)

-- what was tried need not be tried of a part, later
pub tried_part : (m : Parts) (c part : List StateLit) (i : ℕ) (before after : Steps) → IsPartOf part c → after.left ≤ before.left → IsTried m c i before → IsTried m part i after
tried_part m c part i before after inside less (inl lacks) = inl (λ has. lacks (latch_part c part i inside has))
tried_part m c part i before after inside less (inr (inl needed)) = inr (inl (needed_part m c part i inside needed))
tried_part m c part i before after inside less (inr (inr spent)) = inr (inr (omega (arith, less, spent)))

-- a literal of a clause whose latch was tried
pub tried_here : (m : Parts) (c : List StateLit) (a : StateLit) (after : Steps) → Contains c a → IsTried m c a.latch after → IsNeeded m c a.latch ⊎ (after.left ≡ 0)
tried_here m c a after (k, k_in, at) (inl lacks) = absurd (lacks (k, a, k_in, at, refl))
tried_here m c a after found (inr rest) = rest

-- one literal more whose latch is listed
pub listed_next : (needed c : List StateLit) (before after : List ℕ) (i : ℕ) (d : StateLit) → i < length c → after ≡ before ++ (get_or c i d).latch ∷ [] → All (λ a. HasLatch needed a.latch ⊎ Contains before a.latch) (take i c) →
    All (λ a. HasLatch needed a.latch ⊎ Contains after a.latch) (take (i + 1) c)
listed_next needed c before after i d i_in is all =
    let P : StateLit → Type 0 = λ a. HasLatch needed a.latch ⊎ Contains after a.latch in
    let n : ℕ = (get_or c i d).latch in
    subst (All P) (sym (take_more c i d i_in)) (All-push P (take i c) (get_or c i d) (λ k e k_in. elim (all k e k_in) [
      | inl has ↦ inl has
      | inr found ↦ inr (subst (λ (xs : List ℕ). Contains xs (get_or (take i c) k e).latch) (sym is) (Contains-append_left before (n ∷ []) (get_or (take i c) k e).latch found))
    ]) (inr (subst (λ (xs : List ℕ). Contains xs n) (sym is) (Contains-push before n))))

-- one literal more whose latch was needed
pub listed_not : (needed c : List StateLit) (before after : List ℕ) (i : ℕ) (d : StateLit) → i < length c → after ≡ before → HasLatch needed (get_or c i d).latch → All (λ a. HasLatch needed a.latch ⊎ Contains before a.latch) (take i c) →
    All (λ a. HasLatch needed a.latch ⊎ Contains after a.latch) (take (i + 1) c)
listed_not needed c before after i d i_in is has all =
    let P : StateLit → Type 0 = λ a. HasLatch needed a.latch ⊎ Contains after a.latch in
    let here : All P (take i c) = subst (λ (xs : List ℕ). All (λ (a : StateLit). HasLatch needed a.latch ⊎ Contains xs a.latch) (take i c)) (sym is) all in
    subst (All P) (sym (take_more c i d i_in)) (All-push P (take i c) (get_or c i d) here (inl has))

-- later no less
pub shortened_later : (m : Parts) (before c : List StateLit) (steps after : Steps) → after.left ≤ steps.left → IsShortened m before steps c → IsShortened m before after c
shortened_later m before c steps after less all k d k_in = elim (all k d k_in) [
  | inl has ↦ inl has
  | inr (inl needed) ↦ inr (inl needed)
  | inr (inr spent) ↦ inr (inr (omega (arith, less, spent)))
]
