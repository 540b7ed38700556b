-- From one branch to the next.
use Rattle.std.proofs.Common.{◌≡◌, ◌<◌, ◌≤◌, ℕ, zero, suc, ◌+◌, ℤ, Bool, true, false, List, [], ◌∷◌, ◌++◌, length, take, set, get_or, refl, sym, ap, ◌∙◌, subst, arith, append_assoc, length-append}
use Rattle.std.proofs.lemmas.List.{append-nil, take_more, take_all, set_at, length-take-le, length_push, get_or_append_left}
use Rattle.solver.specs.Branches.{IsFree, AreExhausted, IsNextBranch, IsLastBranch}

split_last : (xs : List Bool) (i : ℕ) (x : Bool) → length xs ≡ i + 1 → x ≡ get_or xs i x → xs ≡ take i xs ++ x ∷ []
split_last xs i x e at = sym (take_all (i + 1) xs (omega arith)) ∙ take_more xs i x (omega arith) ∙ ap (λ (y : Bool). take i xs ++ y ∷ []) (sym at)

-- the values that went from the end of a list had no other one to try
pub record AreGone (cs : List (List ℤ)) (ls : List ℤ) (old now : List Bool) : Type 0 where
  pub gone : List Bool
  pub whole : old ≡ now ++ gone
  pub exhausted : AreExhausted cs ls (length now) gone

-- at first none went
pub none_gone : (cs : List (List ℤ)) (ls : List ℤ) (b : List Bool) → AreGone cs ls b b
none_gone cs ls b = record { gone = []; whole = sym (append-nil b); exhausted = λ k e. cc }

-- a value in the list is the same with another default
within : (b : List Bool) (i : ℕ) (d e : Bool) → i < length b → get_or b i e ≡ get_or b i d
within [] i d e h = absurd (omega arith)
within (x ∷ b) zero d e h = refl
within (x ∷ b) (suc i) d e h = within b i d e (omega arith)

-- a false value, behind which values went, becomes true
pub next_found : (cs : List (List ℤ)) (ls : List ℤ) (old now : List Bool) (i : ℕ) → AreGone cs ls old now → length now ≡ i + 1 → 0 < i → false ≡ get_or now i false → IsNextBranch cs ls old (set now i true)
next_found cs ls old now i went len some at =
    let split : now ≡ take i now ++ false ∷ [] = split_last now i false len at in
    let short : length (take i now) ≡ i = length-take-le i now (omega arith) in
    let one : length now ≡ length (take i now) + 1 = omega arith in
    record {
      kept = take i now;
      gone = went.gone;
      starts = omega arith;
      before = went.whole ∙ ap (λ t. t ++ went.gone) split ∙ append_assoc (take i now) (false ∷ []) went.gone;
      exhausted = subst (λ n. AreExhausted cs ls n went.gone) one went.exhausted;
      after = ap (λ t. set t i true) split ∙ set_at (take i now) false [] true i short;
    }

-- one value more in front, true or of a free variable
one_more : (cs : List (List ℤ)) (ls : List ℤ) (n : ℕ) (x : Bool) (b : List Bool) → (x ≡ false → IsFree n cs ls) → AreExhausted cs ls (n + 1) b → AreExhausted cs ls n (x ∷ b)
one_more cs ls n x b free exhausted zero e = let same : n ≡ n + 0 = omega arith in subst (λ m. IsFree m cs ls) same (free e)
one_more cs ls n x b free exhausted (suc k) e = let same : n + 1 + k ≡ n + suc k = omega arith in subst (λ m. IsFree m cs ls) same (exhausted k e)

-- a value at the end goes that is true or of a free variable
pub one_gone : (cs : List (List ℤ)) (ls : List ℤ) (old now : List Bool) (i : ℕ) → AreGone cs ls old now → length now ≡ i + 1 → (get_or now i false ≡ false → IsFree i cs ls) → AreGone cs ls old (take i now)
one_gone cs ls old now i went len free =
    let x : Bool = get_or now i false in
    let split : now ≡ take i now ++ x ∷ [] = split_last now i x len (within now i x false (omega arith)) in
    let short : length (take i now) ≡ i = length-take-le i now (omega arith) in
    let one : length now ≡ length (take i now) + 1 = omega arith in
    record {
      gone = x ∷ went.gone;
      whole = went.whole ∙ ap (λ t. t ++ went.gone) split ∙ append_assoc (take i now) (x ∷ []) went.gone;
      exhausted = one_more cs ls (length (take i now)) x went.gone (subst (λ n. x ≡ false → IsFree n cs ls) (sym short) free) (subst (λ n. AreExhausted cs ls n went.gone) one went.exhausted);
    }

-- only place 0 is left
pub last_left : (cs : List (List ℤ)) (ls : List ℤ) (old now : List Bool) → AreGone cs ls old now → 0 < length now → length now ≤ 1 → IsLastBranch cs ls old
last_left cs ls old [] went some few = absurd (omega arith)
last_left cs ls old (x ∷ []) went some few = record { first = x; gone = went.gone; only = went.whole; exhausted = went.exhausted }
last_left cs ls old (x ∷ y ∷ zs) went some few = absurd (omega arith)

pub next_length : (cs : List (List ℤ)) (ls : List ℤ) (old new : List Bool) → IsNextBranch cs ls old new → length new ≤ length old
next_length cs ls old new next =
    let a : length new ≡ length next.kept + 1 = ap length next.after ∙ length_push next.kept true in
    let b : length old ≡ length next.kept + suc (length next.gone) = ap length next.before ∙ length-append next.kept (false ∷ next.gone) in
    omega arith

pub next_first : (cs : List (List ℤ)) (ls : List ℤ) (old new : List Bool) (d : Bool) → IsNextBranch cs ls old new → get_or new 0 d ≡ get_or old 0 d
next_first cs ls old new d next =
    ap (λ t. get_or t 0 d) next.after ∙ get_or_append_left next.kept (true ∷ []) d 0 next.starts
    ∙ sym (ap (λ t. get_or t 0 d) next.before ∙ get_or_append_left next.kept (false ∷ next.gone) d 0 next.starts)

pub first_push : (b : List Bool) (x : Bool) → get_or b 0 true ≡ false → get_or (b ++ x ∷ []) 0 true ≡ false
first_push [] x e = cc
first_push (y ∷ b) x e = e
