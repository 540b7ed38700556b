-- What defines variables in their order is read lits it is spelled.
use Rattle.std.proofs.Common.{◌≡◌, ℕ, zero, suc, ◌+◌, ◌*◌, ◌≤◌, ◌<◌, List, [], ◌∷◌, ◌++◌, length, map, get_or, All, refl, sym, ap, ◌∙◌, arith}
use Rattle.std.proofs.lemmas.List.{append-nil}
use Rattle.std.proofs.lemmas.List.Elements.{All-nil, All-cons, All-head, All-tail}
use Rattle.scan.specs.Reading.{Read}
use Rattle.scan.specs.Lists.{Each}
use Rattle.scan.specs.Spelling.{Nothing, Then}
use Rattle.scan.proofs.Toolbox.{Reads, reads_as, reads_nothing, reads_then}
use Rattle.graph.specs.declared.circuit.Lit.{Lit}
use Rattle.graph.specs.declared.circuit.Latch.{Latch}
use Rattle.graph.specs.declared.circuit.Gate.{Gate}
use Rattle.graph.specs.Circuits.{IsNumbered, IsDescending}
use Rattle.aag.specs.Lines.{lit}
use Rattle.aig.specs.Lines.{numbered_at}
use Rattle.aig.specs.Binary.{IsBinaryLatchLine, IsGateDeltas}
use Rattle.aig.proofs.DeltaLaws.{IsGateOf}
use Rattle.aig.proofs.LatchLaws.{IsLatchOf}

-- ---- lits a reader

-- texts one after another, each of what defines the next variable
abbrev pub EachFrom : {A : Type 0} → (Lit → List ℕ → A → Type 0) → ℕ → List ℕ → List A → Type 0
EachFrom R first t [] = t ≡ []
EachFrom R first t (x ∷ xs) = (front : List ℕ) × (rest : List ℕ) × R (lit (2 * first)) front x × EachFrom R (suc first) rest xs × (t ≡ front ++ rest)

-- lits many of them lits the count says
abbrev pub ManyFrom : {A : Type 0} → (Lit → List ℕ → A → Type 0) → ℕ → ℕ → List ℕ → List A → Type 0
ManyFrom R first n t xs = (length xs ≡ n) × EachFrom R first t xs

abbrev Split : {A : Type 0} → (Lit → List ℕ → A → Type 0) → ℕ → ℕ → List ℕ → List A → Type 0
Split R first n = Then (R (lit (2 * first))) (λ x. Then (ManyFrom R (suc first) n) (λ xs. Nothing (x ∷ xs)))

none_of : {A : Type 0} (R : Lit → List ℕ → A → Type 0) (first : ℕ) (t : List ℕ) (xs : List A) → ManyFrom R first 0 t xs → (t ≡ []) × (xs ≡ [])
none_of R first t [] (len, e) = (e, refl)
none_of R first t (x ∷ xs) (len, e) = absurd (omega (arith, len))

split_to : {A : Type 0} (R : Lit → List ℕ → A → Type 0) (first n : ℕ) (t : List ℕ) (xs : List A) → Split R first n t xs → ManyFrom R first (suc n) t xs
split_to R first n t xs (x, a, b, one, (ys, c, d, others, end, parts), whole) =
    rw end.1 (ap suc others.0, (a, c, one, others.1, whole ∙ ap (λ (w : List ℕ). a ++ w) (parts ∙ ap (λ (w : List ℕ). c ++ w) end.0 ∙ append-nil c)))

split_from : {A : Type 0} (R : Lit → List ℕ → A → Type 0) (first n : ℕ) (t : List ℕ) (xs : List A) → ManyFrom R first (suc n) t xs → Split R first n t xs
split_from R first n t [] (len, e) = absurd (omega (arith, len))
split_from R first n t (x ∷ xs) (len, (a, b, one, others, parts)) =
    (x, a, b, one, (xs, b, [], (omega (arith, len), others), (refl, refl), sym (append-nil b)), parts)

pub numbered_reads : {A : Type 0} (p : Lit → List ℕ → Read A) (R : Lit → List ℕ → A → Type 0) (most : ℕ) → ((v : ℕ) → v ≤ most → Reads (p (lit (2 * v))) (R (lit (2 * v)))) → (n first : ℕ) → first + n ≤ most + 1 → Reads (numbered_at p first n) (ManyFrom R first n)
unfolding numbered_at
numbered_reads p R most one zero first room =
    reads_as (ManyFrom R first zero) (reads_nothing [])
    (λ t xs r. rw (r.1, r.0) (refl, refl))
    (λ t xs r. none_of R first t xs r)
numbered_reads p R most one (suc n) first room =
    reads_as (ManyFrom R first (suc n))
    (reads_then (one first (omega (arith, room))) (λ x. reads_then (numbered_reads p R most one n (suc first) (omega (arith, room))) (λ xs. reads_nothing (x ∷ xs))))
    (split_to R first n) (split_from R first n)

-- ---- the literals in their order

numbered_at_place : (first : ℕ) (a : Lit) (lits : List Lit) → a ≡ lit (2 * first) → IsNumbered (suc first) lits → (k : ℕ) (d : Lit) → k < length (a ∷ lits) → (get_or (a ∷ lits) k d).0 ≡ 2 * (first + k)
numbered_at_place first a lits own others zero d lt = ap (λ (b : Lit). b.0) own ∙ omega arith
numbered_at_place first a lits own others (suc k) d lt = others k d (omega (arith, lt)) ∙ omega arith

numbered_cons : (first : ℕ) (a : Lit) (lits : List Lit) → a ≡ lit (2 * first) → IsNumbered (suc first) lits → IsNumbered first (a ∷ lits)
numbered_cons first a lits own others = λ k d lt. numbered_at_place first a lits own others k d lt

numbered_nil : (first : ℕ) → IsNumbered first []
numbered_nil first = λ k d lt. absurd (omega (arith, lt))

numbered_head : (first : ℕ) (a : Lit) (lits : List Lit) → IsNumbered first (a ∷ lits) → a ≡ lit (2 * first)
numbered_head first a lits h = let e : a.0 ≡ 2 * first = h 0 a (omega arith) ∙ omega arith in ap lit e

numbered_tail : (first : ℕ) (a : Lit) (lits : List Lit) → IsNumbered first (a ∷ lits) → IsNumbered (suc first) lits
numbered_tail first a lits h = λ k d lt. h (suc k) d (omega (arith, lt)) ∙ omega arith

-- ---- inputs

-- an input, of which nothing is written
abbrev pub IsInputOf : Lit → List ℕ → Lit → Type 0
IsInputOf own = Nothing own

pub inputs_to : (first : ℕ) (t : List ℕ) (xs : List Lit) → EachFrom IsInputOf first t xs → (t ≡ []) × IsNumbered first xs
inputs_to first t [] e = (e, numbered_nil first)
inputs_to first t (x ∷ xs) (a, b, one, others, p) =
    let h = inputs_to (suc first) b xs others in
    (p ∙ rw (one.0, h.0) refl, numbered_cons first x xs one.1 h.1)

pub inputs_from : (first : ℕ) (xs : List Lit) → IsNumbered first xs → EachFrom IsInputOf first [] xs
inputs_from first [] h = refl
inputs_from first (x ∷ xs) h = ([], [], (refl, numbered_head first x xs h), inputs_from (suc first) xs (numbered_tail first x xs h), refl)

-- ---- latches

pub latches_to : (max first : ℕ) (t : List ℕ) (ls : List Latch) → EachFrom (IsLatchOf max) first t ls → Each (IsBinaryLatchLine max) t ls × IsNumbered first (map (λ l. l.lit) ls)
latches_to max first t [] e = (e, numbered_nil first)
latches_to max first t (l ∷ ls) (a, b, one, others, p) =
    let h = latches_to max (suc first) b ls others in
    ((a, b, one.line, h.0, p), numbered_cons first l.lit (map (λ l. l.lit) ls) one.same h.1)

pub latches_from : (max first : ℕ) (t : List ℕ) (ls : List Latch) → Each (IsBinaryLatchLine max) t ls → IsNumbered first (map (λ l. l.lit) ls) → EachFrom (IsLatchOf max) first t ls
latches_from max first t [] e h = e
latches_from max first t (l ∷ ls) (a, b, one, others, p) h =
    (a, b, record { same = numbered_head first l.lit (map (λ l. l.lit) ls) h; line = one }, latches_from max (suc first) b ls others (numbered_tail first l.lit (map (λ l. l.lit) ls) h), p)

-- ---- gates

pub gates_to : (first : ℕ) (t : List ℕ) (gs : List Gate) → EachFrom IsGateOf first t gs → Each IsGateDeltas t gs × IsNumbered first (map (λ g. g.lhs) gs) × All IsDescending gs
gates_to first t [] e = (e, numbered_nil first, All-nil IsDescending)
gates_to first t (g ∷ gs) (a, b, one, others, p) =
    let h = gates_to (suc first) b gs others in
    ((a, b, one.deltas, h.0, p), numbered_cons first g.lhs (map (λ g. g.lhs) gs) one.same h.1, All-cons IsDescending g gs one.descends h.2)

pub gates_from : (first : ℕ) (t : List ℕ) (gs : List Gate) → Each IsGateDeltas t gs → IsNumbered first (map (λ g. g.lhs) gs) → All IsDescending gs → EachFrom IsGateOf first t gs
gates_from first t [] e h descend = e
gates_from first t (g ∷ gs) (a, b, one, others, p) h descend = (
  a,
  b,
  record { same = numbered_head first g.lhs (map (λ g. g.lhs) gs) h; descends = All-head IsDescending g gs descend; deltas = one },
  gates_from (suc first) b gs others (numbered_tail first g.lhs (map (λ g. g.lhs) gs) h) (All-tail IsDescending g gs descend),
  p,
)
