-- Some of a clause's literals.
use Rattle.std.proofs.Common.{◌≡◌, ◌==◌, not, ℕ, zero, suc, ◌+◌, ◌<◌, Bool, true, false, List, [], ◌∷◌, ◌++◌, length, take, get_or, filter, cond, All, Contains, inl, inr, ◌∙◌, sym, ap, subst, arith}
use Rattle.std.proofs.lemmas.Bool.{cases_Bool}
use Rattle.std.proofs.lemmas.List.{take_more, append-nil}
use Rattle.std.proofs.lemmas.List.Elements.{filter-append, All-filter, Contains-get_or, Contains-append_right}
use Rattle.std.proofs.lemmas.List.Kept.{AllPairs-filter}
use Rattle.graph.specs.declared.parts.Parts.{Parts}
use Rattle.states.specs.declared.state_lit.StateLit.{StateLit}
use Rattle.states.specs.States.{IsPartOf}
use Rattle.ic3_frames.specs.Frames.{IsStateClause}
use Rattle.ic3_blocking.specs.Answers.{IsPicked}

abbrev lit_at : List StateLit → ℕ → StateLit
lit_at c i = get_or c i (record { latch = 0; value = false })

-- one literal more that is taken
pub filter_takes : (p : StateLit → Bool) (c kept more : List StateLit) (i : ℕ) (d : StateLit) → i < length c → more ≡ kept ++ get_or c i d ∷ [] → p (get_or c i d) ≡ true →
    kept ≡ filter p (take i c) → more ≡ filter p (take (i + 1) c)
filter_takes p c kept more i d i_in is passes h = is ∙ ap (λ xs. xs ++ get_or c i d ∷ []) h
    ∙ sym (ap (filter p) (take_more c i d i_in) ∙ filter-append p (take i c) (get_or c i d ∷ []) ∙ ap (λ b. filter p (take i c) ++ cond b (get_or c i d ∷ []) []) passes)

-- one that is left
pub filter_leaves : (p : StateLit → Bool) (c kept more : List StateLit) (i : ℕ) (d : StateLit) → i < length c → more ≡ kept → p (get_or c i d) ≡ false →
    kept ≡ filter p (take i c) → more ≡ filter p (take (i + 1) c)
filter_leaves p c kept more i d i_in is fails h = is ∙ h
    ∙ sym (ap (filter p) (take_more c i d i_in) ∙ filter-append p (take i c) (get_or c i d ∷ []) ∙ ap (λ b. filter p (take i c) ++ cond b (get_or c i d ∷ []) []) fails
    ∙ append-nil (filter p (take i c)))

-- a literal that passes the test is kept
pub filter_has : (p : StateLit → Bool) (c : List StateLit) (a : StateLit) → Contains c a → p a ≡ true → Contains (filter p c) a
filter_has p [] a found passes = absurd (omega (arith, found.1))
filter_has p (b ∷ c) a (zero, k_in, is) passes = rw (ap p is ∙ passes) (0, omega arith, is)
filter_has p (b ∷ c) a (suc k, k_in, is) passes =
    let later : Contains (filter p c) a = filter_has p c a (k, omega arith, is) passes in
    elim (cases_Bool (p b)) [
      | inl taken ↦ rw taken (Contains-append_right (b ∷ []) (filter p c) a later)
      | inr left ↦ rw left later
    ]

all_in : (c : List StateLit) → All (Contains c) c
all_in c k d k_in = Contains-get_or c k d k_in

-- what is picked from a clause is part of it, and over the latches as it is
pub picked_part : (c clause : List StateLit) → IsPicked c clause → IsPartOf c clause
picked_part c clause (p, is) a found =
    let all : All (Contains clause) c = subst (All (Contains clause)) (sym is) (All-filter p (Contains clause) clause (all_in clause)) in
    subst (Contains clause) found.2 (all found.0 a found.1)

pub picked_clause : (m : Parts) (c clause : List StateLit) → IsPicked c clause → IsStateClause m clause → IsStateClause m c
picked_clause m c clause (p, is) h = record {
  inside = subst (All (λ (a : StateLit). a.latch < length m.latches)) (sym is) (All-filter p (λ (a : StateLit). a.latch < length m.latches) clause h.inside);
  rising = rw is (AllPairs-filter (λ (a b : StateLit). a.latch < b.latch) p clause h.rising);
}

-- a clause without the literal of a latch
pub without_clause : (m : Parts) (c clause : List StateLit) (latch : ℕ) → c ≡ filter (λ a. not (a.latch == latch)) clause → IsStateClause m clause → IsStateClause m c
without_clause m c clause latch is h = picked_clause m c clause ((λ (a : StateLit). not (a.latch == latch)), is) h
