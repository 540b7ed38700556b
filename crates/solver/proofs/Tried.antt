-- What a search has ruled out.
use Rattle.std.proofs.Common.{◌≡◌, ◌≢◌, ◌<◌, ◌+◌, ◌==◌, ℕ, zero, suc, Bool, true, false, not, if◌then◌else◌, List, [], ◌∷◌, ◌++◌, length, take, get_or, All, Contains, ℤ, pos, negsuc, unsigned_abs, inl, inr, refl, sym, ap, ◌∙◌, subst, arith, append_assoc}
use Rattle.std.proofs.lemmas.List.{append-nil, take-append-le, take_at, get_or_append_left, get_or_push, length_push}
use Rattle.std.proofs.lemmas.List.Elements.{All-contains}
use Rattle.std.proofs.lemmas.Bool.{cases_lt, eq-eqb, ne_eqb, false≢true}
use Rattle.lrat.specs.Literals.{is_true, IsSatisfied}
use Rattle.solver.specs.Answers.{AreTrue, IsRefuted}
use Rattle.solver.specs.Branches.{Lacks, IsFree, AreExhausted, IsNextBranch, IsLastBranch}
use Rattle.solver.proofs.Looks.{among_all}

-- v gives each variable that has a place in the list the value there
abbrev pub Agrees : (ℕ → Bool) → List Bool → Type 0
Agrees v b = (k : ℕ) → 0 < k → k < length b → v k ≡ get_or b k false

-- nothing that agrees with the list satisfies the clauses and makes the literals true
abbrev pub IsRuledOut : List (List ℤ) → List ℤ → List Bool → Type 0
IsRuledOut cs ls b = (v : ℕ → Bool) → Agrees v b → All (IsSatisfied v) cs → AreTrue v ls → ⊥

-- where a value is true, false was tried before it
abbrev pub IsTried : List (List ℤ) → List ℤ → List Bool → Type 0
IsTried cs ls b = (i : ℕ) → 0 < i → get_or b i false ≡ true → IsRuledOut cs ls (take i b ++ false ∷ [])

within : (b : List Bool) (i : ℕ) → get_or b i false ≡ true → i < length b
within [] i e = absurd (false≢true e)
within (x ∷ b) zero e = omega arith
within (x ∷ b) (suc i) e = let h : i < length b = within b i e in omega arith

-- what was tried in a list was tried in its front
pub tried_front : (cs : List (List ℤ)) (ls : List ℤ) (b c : List Bool) → IsTried cs ls (b ++ c) → IsTried cs ls b
tried_front cs ls b c tried i some e =
    let h : i < length b = within b i e in
    subst (λ t. IsRuledOut cs ls (t ++ false ∷ [])) (take-append-le i b c (omega arith)) (tried i some (get_or_append_left b c false i h ∙ e))

-- one value more, before which false was tried where it is true
pub tried_push : (cs : List (List ℤ)) (ls : List ℤ) (b : List Bool) (x : Bool) → IsTried cs ls b → (x ≡ true → IsRuledOut cs ls (b ++ false ∷ [])) → IsTried cs ls (b ++ x ∷ [])
tried_push cs ls b x tried turned i some e =
    elim (cases_lt i (length b)) [
      | inl h ↦ subst (λ t. IsRuledOut cs ls (t ++ false ∷ [])) (sym (take-append-le i b (x ∷ []) (omega arith))) (tried i some (sym (get_or_append_left b (x ∷ []) false i h) ∙ e))
      | inr h ↦
          let below : i < length (b ++ x ∷ []) = within (b ++ x ∷ []) i e in
          let same : length b ≡ i = omega (arith, length_push b x) in
          subst (λ t. IsRuledOut cs ls (t ++ false ∷ [])) (sym (take_at b (x ∷ []) i same)) (turned (sym (get_or_push b x false i same) ∙ e))
    ]

agrees_push : (v : ℕ → Bool) (b : List Bool) (x : Bool) → Agrees v b → v (length b) ≡ x → Agrees v (b ++ x ∷ [])
agrees_push v b x agrees e k some h =
    elim (cases_lt k (length b)) [
      | inl lt ↦ agrees k some lt ∙ sym (get_or_append_left b (x ∷ []) false k lt)
      | inr le ↦
          let same : length b ≡ k = omega (arith, length_push b x) in
          ap v (sym same) ∙ e ∙ sym (get_or_push b x false k same)
    ]

-- where both values of the last variable are ruled out, the list without it is
pub ruled_back : (cs : List (List ℤ)) (ls : List ℤ) (b : List Bool) → IsRuledOut cs ls (b ++ false ∷ []) → IsRuledOut cs ls (b ++ true ∷ []) → IsRuledOut cs ls b
ruled_back cs ls b off on v agrees sat all =
    elim (v (length b)) as (λ x. v (length b) ≡ x → ⊥) [
      | true ↦ λ e. on v (agrees_push v b true agrees e) sat all
      | false ↦ λ e. off v (agrees_push v b false agrees e) sat all
    ] refl

-- v, with another value for the variable n
abbrev turned : (ℕ → Bool) → ℕ → Bool → ℕ → Bool
turned v n x k = if k == n then x else v k

turned_at : (v : ℕ → Bool) (n : ℕ) (x : Bool) → turned v n x n ≡ x
turned_at v n x = rw (eq-eqb n n refl) refl

turned_other : (v : ℕ → Bool) (n : ℕ) (x : Bool) (k : ℕ) → (k ≡ n → ⊥) → turned v n x k ≡ v k
turned_other v n x k apart = rw (ne_eqb k n apart) refl

-- a literal of another variable is what it was
literal_turned : (v : ℕ → Bool) (n : ℕ) (x : Bool) (l : ℤ) → unsigned_abs l ≢ n → is_true (turned v n x) l ≡ is_true v l
literal_turned v n x (pos zero) apart = refl
literal_turned v n x (pos (suc k)) apart = turned_other v n x (suc k) apart
literal_turned v n x (negsuc k) apart = ap not (turned_other v n x (suc k) apart)

satisfied_turned : (v : ℕ → Bool) (n : ℕ) (x : Bool) (c : List ℤ) → Lacks n c → IsSatisfied v c → IsSatisfied (turned v n x) c
satisfied_turned v n x c lacks sat = (sat.0, sat.1, literal_turned v n x sat.0 (All-contains (λ k. unsigned_abs k ≢ n) c sat.0 lacks sat.1) ∙ sat.2)

-- where one value of a free variable is ruled out at the end, the list without it is
ruled_free : (cs : List (List ℤ)) (ls : List ℤ) (b : List Bool) (x : Bool) → IsFree (length b) cs ls → IsRuledOut cs ls (b ++ x ∷ []) → IsRuledOut cs ls b
ruled_free cs ls b x free out v agrees sat all =
    let w : ℕ → Bool = turned v (length b) x in
    out w (agrees_push w b x (λ k some h. turned_other v (length b) x k (λ e. omega (arith, e)) ∙ agrees k some h) (turned_at v (length b) x))
    (λ k d h. satisfied_turned v (length b) x (get_or cs k d) (free.clauses k d h) (sat k d h))
    (λ k d h. literal_turned v (length b) x (get_or ls k d) (free.literals k d h) ∙ all k d h)

-- what all the assumptions lack, some of them lack
free_among : (n : ℕ) (cs : List (List ℤ)) (assume ls : List ℤ) → All (Contains assume) ls → IsFree n cs assume → IsFree n cs ls
free_among n cs assume ls among free = record {
  clauses = free.clauses;
  literals = among_all (λ l. unsigned_abs l ≢ n) assume ls free.literals among;
}

-- the false value before the last true one was tried
tried_last : (cs : List (List ℤ)) (ls : List ℤ) (b : List Bool) → 0 < length b → IsTried cs ls (b ++ true ∷ []) → IsRuledOut cs ls (b ++ false ∷ [])
tried_last cs ls b some tried =
    subst (λ t. IsRuledOut cs ls (t ++ false ∷ [])) (take_at b (true ∷ []) (length b) refl) (tried (length b) some (get_or_push b true false (length b) refl))

-- the value at the end is true and false was tried before it, or its variable is free: without it, all is ruled out too
ruled_last : (cs : List (List ℤ)) (ls : List ℤ) (b : List Bool) (x : Bool) → 0 < length b → (x ≡ false → IsFree (length b) cs ls) → IsTried cs ls (b ++ x ∷ []) → IsRuledOut cs ls (b ++ x ∷ []) → IsRuledOut cs ls b
ruled_last cs ls b true some free tried out = ruled_back cs ls b (tried_last cs ls b some tried) out
ruled_last cs ls b false some free tried out = ruled_free cs ls b false (free refl) out

-- values at the end that have no other one to try go, where the whole is ruled out
pub ruled_off : (cs : List (List ℤ)) (assume ls : List ℤ) (b gone : List Bool) → 0 < length b → All (Contains assume) ls → AreExhausted cs assume (length b) gone →
    IsTried cs ls (b ++ gone) → IsRuledOut cs ls (b ++ gone) → IsTried cs ls b × IsRuledOut cs ls b
ruled_off cs assume ls b [] some among exhausted tried out = (subst (IsTried cs ls) (append-nil b) tried, subst (IsRuledOut cs ls) (append-nil b) out)
ruled_off cs assume ls b (x ∷ gone) some among exhausted tried out =
    let e : b ++ x ∷ gone ≡ (b ++ x ∷ []) ++ gone = sym (append_assoc b (x ∷ []) gone) in
    let one : length (b ++ x ∷ []) ≡ length b + 1 = length_push b x in
    let here : length b + 0 ≡ length b = omega arith in
    let got : IsTried cs ls (b ++ x ∷ []) × IsRuledOut cs ls (b ++ x ∷ []) =
    ruled_off cs assume ls (b ++ x ∷ []) gone (omega arith) among (λ k off. let same : length b + suc k ≡ length (b ++ x ∷ []) + k = omega arith in subst (λ n. IsFree n cs assume) same (exhausted (suc k) off))
    (subst (IsTried cs ls) e tried) (subst (IsRuledOut cs ls) e out) in
    (tried_front cs ls b (x ∷ []) got.0, ruled_last cs ls b x some (λ off. free_among (length b) cs assume ls among (subst (λ n. IsFree n cs assume) here (exhausted 0 off))) got.0 got.1)

-- where a branch is ruled out, so is the false value before the next one
pub tried_next : (cs : List (List ℤ)) (assume ls : List ℤ) (old new : List Bool) → All (Contains assume) ls → IsTried cs ls old → IsRuledOut cs ls old → IsNextBranch cs assume old new → IsTried cs ls new
tried_next cs assume ls old new among tried out next =
    let e : old ≡ (next.kept ++ false ∷ []) ++ next.gone = next.before ∙ sym (append_assoc next.kept (false ∷ []) next.gone) in
    let one : length (next.kept ++ false ∷ []) ≡ length next.kept + 1 = length_push next.kept false in
    let got : IsTried cs ls (next.kept ++ false ∷ []) × IsRuledOut cs ls (next.kept ++ false ∷ []) =
    ruled_off cs assume ls (next.kept ++ false ∷ []) next.gone (omega arith) among (subst (λ n. AreExhausted cs assume n next.gone) (sym one) next.exhausted) (subst (IsTried cs ls) e tried) (subst (IsRuledOut cs ls) e out) in
    subst (IsTried cs ls) (sym next.after) (tried_push cs ls next.kept true (tried_front cs ls next.kept (false ∷ []) got.0) (λ _. got.1))

-- and where it was the last, nothing is left
pub refuted_last : (cs : List (List ℤ)) (assume ls : List ℤ) (old : List Bool) → All (Contains assume) ls → IsTried cs ls old → IsRuledOut cs ls old → IsLastBranch cs assume old → IsRefuted cs ls
refuted_last cs assume ls old among tried out last v sat all =
    let got : IsTried cs ls (last.first ∷ []) × IsRuledOut cs ls (last.first ∷ []) = ruled_off cs assume ls (last.first ∷ []) last.gone (omega arith) among last.exhausted (subst (IsTried cs ls) last.only tried) (subst (IsRuledOut cs ls) last.only out) in
    got.1 v (λ k some h. absurd (omega arith)) sat all

-- a core that grows
pub ruled_more : (cs : List (List ℤ)) (ls more : List ℤ) (b : List Bool) → All (Contains more) ls → IsRuledOut cs ls b → IsRuledOut cs more b
ruled_more cs ls more b within out v agrees sat all = out v agrees sat (λ k d h. All-contains (λ l. is_true v l ≡ true) more (get_or ls k d) all (within k d h))

pub tried_more : (cs : List (List ℤ)) (ls more : List ℤ) (b : List Bool) → All (Contains more) ls → IsTried cs ls b → IsTried cs more b
tried_more cs ls more b within tried i some e = ruled_more cs ls more (take i b ++ false ∷ []) within (tried i some e)

-- a list of one value at place 0
pub tried_none : (cs : List (List ℤ)) (ls : List ℤ) (x : Bool) → IsTried cs ls (x ∷ [])
tried_none cs ls x zero some e = absurd (omega arith)
tried_none cs ls x (suc i) some e = absurd (false≢true e)
