-- Reading one value after the other, as a loop does.
use Rattle.std.proofs.Common.{◌≡◌, ℕ, zero, suc, length, ◌-◌, ◌+◌, ◌≤◌, ◌<◌, List, [], ◌∷◌, ◌++◌, Option, Some, None, refl, sym, ap, ◌∙◌, append_assoc, arith}
use Rattle.std.proofs.lemmas.List.{append-nil}
use Rattle.scan.specs.declared.fault.Fault.{Fault}
use Rattle.scan.specs.declared.fault.Fault.TheVariants.{Memory, Text}
use Rattle.scan.specs.Reading.{◌>>=◌, Read, Fails}
use Rattle.scan.specs.Lists.{many_at, until_at}

-- what was read before, and what is still read
abbrev pub with_front : {A : Type 0} → List A → Read (List A) → Read (List A)
with_front front read = read >>= λ x. Some (front ++ x.0, x.1)

pub regroup : {A : Type 0} (front : List A) (n : A) (read : Read (List A)) → with_front front (read >>= λ x. Some (n ∷ x.0, x.1)) ≡ with_front (front ++ n ∷ []) read
regroup {A} front n (Some x) = ap (λ (ns : List A). Some (ns, x.1)) (simp append_assoc)
regroup front n None = refl

-- ---- as many as a count says

pub many_more : {A : Type 0} (one : List ℕ → Read A) (front : List A) (count i : ℕ) (bytes : List ℕ) (n : A) (after : List ℕ) (total : Read (List A)) → i < count → one bytes ≡ Some (n, after)
    → with_front front (many_at one (count - i) bytes) ≡ total → with_front (front ++ n ∷ []) (many_at one (count - (i + 1)) after) ≡ total
unfolding many_at
many_more one front count i bytes n after total lt h so_far =
    let k : count - i ≡ suc (count - (i + 1)) = omega arith in
    let step : with_front front (many_at one (count - i) bytes) ≡ with_front (front ++ n ∷ []) (many_at one (count - (i + 1)) after) = rw (k, h) (regroup front n (many_at one (count - (i + 1)) after)) in
    sym step ∙ so_far

pub many_fails : {K A : Type 0} (one : List ℕ → Read A) (e : Fault K) (front : List A) (count i : ℕ) (bytes : List ℕ) (total : Read (List A)) → i < count → Fails e (one bytes)
    → with_front front (many_at one (count - i) bytes) ≡ total → Fails e total
unfolding many_at
many_fails one (Memory refused) front count i bytes total lt h so_far = tt
many_fails one (Text kind left) front count i bytes total lt h so_far =
    let k : count - i ≡ suc (count - (i + 1)) = omega arith in
    let step : with_front front (many_at one (count - i) bytes) ≡ None = rw (k, h) refl in
    sym so_far ∙ step

pub many_done : {A : Type 0} (one : List ℕ → Read A) (front : List A) (count i : ℕ) (bytes : List ℕ) (total : Read (List A)) → count ≤ i
    → with_front front (many_at one (count - i) bytes) ≡ total → total ≡ Some (front, bytes)
unfolding many_at
many_done {A} one front count i bytes total le so_far =
    let k : count - i ≡ 0 = omega arith in
    let step : with_front front (many_at one (count - i) bytes) ≡ Some (front, bytes) = rw k (ap (λ (ns : List A). Some (ns, bytes)) (append-nil front)) in
    sym so_far ∙ step

-- ---- up to the end

pub until_more : {A : Type 0} (one : List ℕ → Read (Option A)) (front : List A) (steps : ℕ) (bytes : List ℕ) (n : A) (after : List ℕ) (total : Read (List A)) → length bytes < steps → length after < length bytes → one bytes ≡ Some (Some n, after)
    → with_front front (until_at one steps bytes) ≡ total → (later : ℕ) × (length after < later) × (with_front (front ++ n ∷ []) (until_at one later after) ≡ total)
unfolding until_at
until_more one front zero bytes n after total lt less h so_far = absurd (omega arith)
until_more one front (suc later) bytes n after total lt less h so_far =
    let step : with_front front (until_at one (suc later) bytes) ≡ with_front (front ++ n ∷ []) (until_at one later after) = rw h (regroup front n (until_at one later after)) in
    (later, omega arith, sym step ∙ so_far)

pub until_stops : {A : Type 0} (one : List ℕ → Read (Option A)) (front : List A) (steps : ℕ) (bytes after : List ℕ) (total : Read (List A)) → length bytes < steps → one bytes ≡ Some (None, after)
    → with_front front (until_at one steps bytes) ≡ total → total ≡ Some (front, after)
unfolding until_at
until_stops one front zero bytes after total lt h so_far = absurd (omega arith)
until_stops {A} one front (suc later) bytes after total lt h so_far =
    let step : with_front front (until_at one (suc later) bytes) ≡ Some (front, after) = rw h (ap (λ (ns : List A). Some (ns, after)) (append-nil front)) in
    sym so_far ∙ step

pub until_fails : {K A : Type 0} (one : List ℕ → Read (Option A)) (e : Fault K) (front : List A) (steps : ℕ) (bytes : List ℕ) (total : Read (List A)) → length bytes < steps → Fails e (one bytes)
    → with_front front (until_at one steps bytes) ≡ total → Fails e total
unfolding until_at
until_fails one (Memory refused) front steps bytes total lt h so_far = tt
until_fails one (Text kind left) front zero bytes total lt h so_far = absurd (omega arith)
until_fails one (Text kind left) front (suc later) bytes total lt h so_far =
    let step : with_front front (until_at one (suc later) bytes) ≡ None = rw h refl in
    sym so_far ∙ step
