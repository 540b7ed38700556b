-- Lists are read as they are spelled.
use Rattle.std.proofs.Common.{◌≡◌, ℕ, zero, suc, ◌<◌, ◌≤◌, List, [], ◌∷◌, ◌++◌, length, Option, Some, None, refl, sym, ap, ◌∙◌, append_assoc, arith}
use Rattle.std.proofs.lemmas.List.{append-nil, length-append}
use Rattle.scan.specs.Reading.{Read}
use Rattle.scan.specs.Lists.{many_at, until_at, items_at, value_then, Each, EachUntil}
use Rattle.scan.specs.Spelling.{Nothing, Then}
use Rattle.scan.proofs.Toolbox.{Reads, reads_as, reads_nothing, reads_then}

-- ---- as many as a count says

-- as many texts one after another as the count says
abbrev pub Many : {A : Type 0} → (List ℕ → A → Type 0) → ℕ → List ℕ → List A → Type 0
Many R n t xs = (length xs ≡ n) × Each R t xs

abbrev ManySplit : {A : Type 0} → (List ℕ → A → Type 0) → ℕ → List ℕ → List A → Type 0
ManySplit R n = Then R (λ x. Then (Many R n) (λ xs. Nothing (x ∷ xs)))

none_of : {A : Type 0} (R : List ℕ → A → Type 0) (t : List ℕ) (xs : List A) → length xs ≡ 0 → Each R t xs → (t ≡ []) × (xs ≡ [])
none_of R t [] len e = (e, refl)
none_of R t (x ∷ xs) len e = absurd (omega (arith, len))

many_to : {A : Type 0} (R : List ℕ → A → Type 0) (n : ℕ) (t : List ℕ) (xs : List A) → ManySplit R n t xs → Many R (suc n) t xs
many_to R n t xs (x, a, b, one, (ys, c, d, others, end, parts), whole) =
    rw end.1 (ap suc others.0, (a, c, one, others.1, whole ∙ ap (λ (w : List ℕ). a ++ w) (parts ∙ ap (λ (w : List ℕ). c ++ w) end.0 ∙ append-nil c)))

many_from : {A : Type 0} (R : List ℕ → A → Type 0) (n : ℕ) (t : List ℕ) (xs : List A) → Many R (suc n) t xs → ManySplit R n t xs
many_from R n t [] l = absurd (omega (arith, l.0))
many_from R n t (x ∷ xs) l =
    (x, l.1.0, l.1.1, l.1.2, (xs, l.1.1, [], (omega (arith, l.0), l.1.3), (refl, refl), sym (append-nil l.1.1)), l.1.4)

-- values one after another
pub many_reads : {A : Type 0} {p : List ℕ → Read A} {R : List ℕ → A → Type 0} → Reads p R → (n : ℕ) → Reads (many_at p n) (Many R n)
unfolding many_at
many_reads {A} {p} {R} one zero =
    reads_as (Many R zero) (reads_nothing [])
    (λ t xs r. rw (r.1, r.0) (refl, refl))
    (λ t xs r. none_of R t xs r.0 r.1)
many_reads {A} {p} {R} one (suc n) =
    reads_as (Many R (suc n))
    (reads_then one (λ x. reads_then (many_reads one n) (λ xs. reads_nothing (x ∷ xs))))
    (many_to R n) (many_from R n)

-- ---- up to the end

-- fewer values than n, and the end
abbrev Few : {A : Type 0} → (List ℕ → Option A → Type 0) → ℕ → List ℕ → List A → Type 0
Few R n t xs = (length xs < n) × EachUntil R t xs

-- what follows one value, or the end
abbrev Onward : {A : Type 0} → (List ℕ → Option A → Type 0) → ℕ → Option A → List ℕ → List A → Type 0
Onward R n None = Nothing []
Onward R n (Some x) = Then (Few R n) (λ xs. Nothing (x ∷ xs))

onward_reads : {A : Type 0} (p : List ℕ → Read (Option A)) (R : List ℕ → Option A → Type 0) (n : ℕ) → Reads (until_at p n) (Few R n) → (x : Option A) → Reads (λ bytes. value_then x bytes (until_at p n bytes)) (Onward R n x)
onward_reads p R n later None = reads_nothing []
onward_reads p R n later (Some x) = reads_then later (λ xs. reads_nothing (x ∷ xs))

until_to : {A : Type 0} (R : List ℕ → Option A → Type 0) (n : ℕ) (t : List ℕ) (xs : List A) → Then R (Onward R n) t xs → Few R (suc n) t xs
until_to R n t xs (None, a, b, end, last, whole) =
    rw last.1 (omega arith, ([], a, refl, end, whole ∙ ap (λ (w : List ℕ). a ++ w) last.0 ∙ append-nil a))
until_to R n t xs (Some x, a, b, one, (ys, c, d, (few, (front, end, each, ends, parts)), last, rest), whole) =
    rw last.1 (
      omega (arith, few),
      (
        a ++ front,
        end,
        (a, front, one, each, refl),
        ends,
        whole ∙ ap (λ (w : List ℕ). a ++ w) (rest ∙ ap (λ (w : List ℕ). c ++ w) last.0 ∙ append-nil c ∙ parts) ∙ sym (append_assoc a front end),
      ),
    )

until_from : {A : Type 0} (R : List ℕ → Option A → Type 0) (n : ℕ) (t : List ℕ) (xs : List A) → Few R (suc n) t xs → Then R (Onward R n) t xs
until_from R n t [] (few, (front, end, each, ends, parts)) =
    (None, end, [], ends, (refl, refl), parts ∙ ap (λ (w : List ℕ). w ++ end) each ∙ sym (append-nil end))
until_from R n t (x ∷ xs) (few, (front, end, (a, b, one, others, first), ends, parts)) = (
  Some x,
  a,
  b ++ end,
  one,
  (xs, b ++ end, [], (omega (arith, few), (b, end, others, ends, refl)), (refl, refl), sym (append-nil (b ++ end))),
  parts ∙ ap (λ (w : List ℕ). w ++ end) first ∙ append_assoc a b end,
)

until_reads : {A : Type 0} {p : List ℕ → Read (Option A)} {R : List ℕ → Option A → Type 0} → Reads p R → (n : ℕ) → Reads (until_at p n) (Few R n)
unfolding until_at
until_reads one zero = record { sound = λ bytes x rest e. absurd cc; complete = λ front x rest r. absurd (omega (arith, r.0)) }
until_reads {A} {p} {R} one (suc n) = reads_as (Few R (suc n)) (reads_then one (onward_reads p R n (until_reads one n))) (until_to R n) (until_from R n)

-- an item takes a byte or more
abbrev pub TakesSome : {A : Type 0} → (List ℕ → Option A → Type 0) → Type 0
TakesSome {A} R = (t : List ℕ) (x : A) → R t (Some x) → 0 < length t

each_long : {A : Type 0} (R : List ℕ → Option A → Type 0) → TakesSome R → (t : List ℕ) (xs : List A) → Each (λ t x. R t (Some x)) t xs → length xs ≤ length t
each_long R some t [] e = omega arith
each_long R some t (x ∷ xs) (a, b, one, others, parts) =
    omega (arith, some a x one, each_long R some b xs others, ap length parts, length-append a b)

-- the values before the end
pub items_reads : {A : Type 0} {p : List ℕ → Read (Option A)} {R : List ℕ → Option A → Type 0} → Reads p R → TakesSome R → Reads (items_at p) (EachUntil R)
items_reads {A} {p} {R} one some = record {
  sound = λ bytes xs rest e.
      let s = (until_reads one (suc (length bytes))).sound bytes xs rest e in
      (s.0, s.1.1, s.2);
  complete = λ front xs rest r.
      let few : length xs < suc (length (front ++ rest)) = omega (arith, each_long R some r.0 xs r.2, ap length r.4, length-append r.0 r.1, length-append front rest) in
      (until_reads one (suc (length (front ++ rest)))).complete front xs rest (few, r);
}
