-- The counts of a header, as a loop reads them.
use Rattle.std.proofs.Common.{◌≡◌, ℕ, suc, ◌-◌, ◌+◌, ◌≤◌, ◌<◌, List, [], ◌∷◌, ◌++◌, length, take, drop, set, replicate, Some, None, refl, sym, ap, ◌∙◌, arith, add-one}
use Rattle.std.proofs.lemmas.Bool.{eq-eqb, ne_eqb}
use Rattle.std.proofs.lemmas.List.{append-nil, set_split, drop-drop, take_all, take_more_set, drop-set-lt, length-set}
use Rattle.scan.specs.declared.fault.Fault.{Fault}
use Rattle.scan.specs.declared.fault.Fault.TheVariants.{Memory, Text}
use Rattle.scan.specs.Reading.{Read, Fails}
use Rattle.scan.specs.Words.{any, word_at}
use Rattle.scan.specs.Counts.{counts_at, ends_count}
use Rattle.scan.proofs.Loops.{with_front, regroup}

rest_of : (k i : ℕ) (cs : List ℕ) → drop i cs ≡ replicate (suc k) 0 → drop (i + 1) cs ≡ replicate k 0
rest_of k i cs e = sym (drop-drop 1 i cs) ∙ ap (λ (t : List ℕ). drop 1 t) e

-- the count at position i
abbrev pub count_at : ℕ → ℕ → List ℕ → Read (ℕ × ℕ)
count_at limit i rest = word_at limit any (ends_count (7 - i)) rest

pub counts_stop : (limit i n e : ℕ) (cs rest after : List ℕ) (total : Read (List ℕ)) → i < 8 → e ≡ 10 → count_at limit i rest ≡ Some ((n, e), after) → length cs ≡ 8 → drop i cs ≡ replicate (8 - i) 0
    → with_front (take i cs) (counts_at limit (8 - i) rest) ≡ total → total ≡ Some (set cs i n, after)
unfolding counts_at
counts_stop limit i n e cs rest after total lt end w len zeros so_far =
    let k : 8 - i ≡ suc (7 - i) = omega arith in
    let zeros2 : drop i cs ≡ replicate (suc (7 - i)) 0 = zeros ∙ ap (λ (m : ℕ). replicate m 0) k in
    let within : i < length cs = omega arith in
    let now : set cs i n ≡ take i cs ++ n ∷ replicate (7 - i) 0 = set_split cs i n within ∙ ap (λ (t : List ℕ). take i cs ++ n ∷ t) (ap (λ (m : ℕ). drop m cs) (sym (add-one i)) ∙ rest_of (7 - i) i cs zeros2) in
    let step : with_front (take i cs) (counts_at limit (8 - i) rest) ≡ Some (take i cs ++ n ∷ replicate (7 - i) 0, after) = rw (k, w, eq-eqb e 10 end) refl in
    sym so_far ∙ step ∙ rw (← now) refl

pub counts_go : (limit i n e : ℕ) (cs rest after : List ℕ) (total : Read (List ℕ)) → i < 8 → (e ≡ 10 → ⊥) → count_at limit i rest ≡ Some ((n, e), after) → length cs ≡ 8 → drop i cs ≡ replicate (8 - i) 0
    → with_front (take i cs) (counts_at limit (8 - i) rest) ≡ total
    → (with_front (take (i + 1) (set cs i n)) (counts_at limit (8 - (i + 1)) after) ≡ total) × (drop (i + 1) (set cs i n) ≡ replicate (8 - (i + 1)) 0) × (length (set cs i n) ≡ 8)
unfolding counts_at
counts_go limit i n e cs rest after total lt more w len zeros so_far =
    let k : 8 - i ≡ suc (7 - i) = omega arith in
    let k2 : 8 - (i + 1) ≡ 7 - i = omega arith in
    let zeros2 : drop i cs ≡ replicate (suc (7 - i)) 0 = zeros ∙ ap (λ (m : ℕ). replicate m 0) k in
    let within : i < length cs = omega arith in
    let front : take (i + 1) (set cs i n) ≡ take i cs ++ n ∷ [] = take_more_set cs i n within in
    let step : with_front (take i cs) (counts_at limit (8 - i) rest) ≡ with_front (take i cs ++ n ∷ []) (counts_at limit (7 - i) after) = rw (k, w, ne_eqb e 10 more) (regroup (take i cs) n (counts_at limit (7 - i) after)) in
    (rw (front, k2) (sym step ∙ so_far), drop-set-lt (i + 1) cs i n (omega arith) ∙ rest_of (7 - i) i cs zeros2 ∙ rw k2 refl, length-set cs i n ∙ len)

pub counts_fail : {K : Type 0} (limit i : ℕ) (f : Fault K) (cs rest : List ℕ) (total : Read (List ℕ)) → i < 8 → Fails f (count_at limit i rest)
    → with_front (take i cs) (counts_at limit (8 - i) rest) ≡ total → Fails f total
unfolding counts_at
counts_fail limit i (Memory refused) cs rest total lt w so_far = tt
counts_fail limit i (Text kind left) cs rest total lt w so_far =
    let k : 8 - i ≡ suc (7 - i) = omega arith in
    let step : with_front (take i cs) (counts_at limit (8 - i) rest) ≡ None = rw (k, w) refl in
    sym so_far ∙ step

pub counts_done : (limit i : ℕ) (cs rest : List ℕ) (total : Read (List ℕ)) → 8 ≤ i → length cs ≡ 8
    → with_front (take i cs) (counts_at limit (8 - i) rest) ≡ total → total ≡ Some (cs, rest)
unfolding counts_at
counts_done limit i cs rest total le len so_far =
    let k : 8 - i ≡ 0 = omega arith in
    let all : take i cs ≡ cs = take_all i cs (omega arith) in
    let step : with_front (take i cs) (counts_at limit (8 - i) rest) ≡ Some (cs, rest) = rw (k, all) (rw (append-nil cs) refl) in
    sym so_far ∙ step
