-- What the tables by variable say when one more number is noted.
use Rattle.std.proofs.Common.{◌≡◌, ℕ, zero, suc, ◌+◌, ◌<◌, ◌≢◌, List, [], ◌∷◌, ◌++◌, Bool, true, false, length, map, take, set, replicate, get_or, refl, inl, inr, arith, All, AllPairs, Contains, ◌∙◌, sym, ap, append_assoc, get_or-set_same, get_or-set_other}
use Rattle.std.proofs.lemmas.Bool.{cases_lt, cases_eq}
use Rattle.std.proofs.lemmas.List.{append-nil, get_or_default, get_or_append_left, get_or-append-add, get_or_past, get_or-replicate, length-set, length-append, length-replicate, map-append, take_more}
use Rattle.std.proofs.lemmas.Grind.{flat_map-append}
use Rattle.std.proofs.Math.Seq.{take-append_seam}
use Rattle.std.proofs.lemmas.Simd.{map-map}
use Rattle.std.proofs.lemmas.List.Elements.{Contains-append_left, Contains-push, Contains-push_cases}
use Rattle.graph.specs.declared.circuit.Lit.{Lit}
use Rattle.graph.specs.declared.parts.Parts.{Parts}
use Rattle.graph.specs.declared.definitions.Times.{Times}
use Rattle.graph.specs.declared.definitions.Times.TheVariants.{Never, Once, Again}
use Rattle.graph.specs.Circuits.{variable, justice_literals}
use Rattle.graph.specs.WellFormed.{used}
use Rattle.graph.specs.Faults.{IsLeast, IsTwice, IsUndefined}
use Rattle.graph.proofs.Evaluation.{All-left, All-right, All-unmap}
use Rattle.graph.specs.Tables.{Stands, IsCounted, IsMarked, StaysCounted, StaysMarked}

-- a place before the end, and the last one
push-before : (vs : List ℕ) (u k : ℕ) → k < length vs → get_or (vs ++ u ∷ []) k 0 ≡ get_or vs k 0
push-before vs u k k_in = get_or_append_left vs (u ∷ []) 0 k k_in

push-last : (vs : List ℕ) (u : ℕ) → get_or (vs ++ u ∷ []) (length vs) 0 ≡ u
push-last vs u = let e : length vs + 0 ≡ length vs = omega arith in rw e at (get_or-append-add vs (u ∷ []) 0 0)

contained : (vs : List ℕ) (v k : ℕ) → k < length vs → get_or vs k 0 ≡ v → Contains vs v
contained vs v k k_in is_v = (k, k_in, get_or_default vs k v 0 k_in ∙ is_v)

pub twice_contains : (vs : List ℕ) (v : ℕ) → IsTwice vs v → Contains vs v
twice_contains vs v (i, j, i_j, j_in, at_i, at_j) = contained vs v j j_in at_j

-- what stands twice in the longer list stands before its end, and twice if the last is another
before_last : (vs : List ℕ) (u v : ℕ) → IsTwice (vs ++ u ∷ []) v → Contains vs v
before_last vs u v (i, j, i_j, j_in, at_i, at_j) =
    let i_in : i < length vs = omega (arith, length-append vs (u ∷ [])) in
    contained vs v i i_in (sym (push-before vs u i i_in) ∙ at_i)

twice_before : (vs : List ℕ) (u v : ℕ) → v ≢ u → IsTwice (vs ++ u ∷ []) v → IsTwice vs v
twice_before vs u v apart (i, j, i_j, j_in, at_i, at_j) =
    let i_in : i < length vs = omega (arith, length-append vs (u ∷ [])) in
    elim (cases_lt j (length vs)) [
      | inl below ↦ (i, j, i_j, below, sym (push-before vs u i i_in) ∙ at_i, sym (push-before vs u j below) ∙ at_j)
      | inr above ↦ let is_last : j ≡ length vs = omega (arith, length-append vs (u ∷ [])) in absurd (apart (sym (rw is_last at at_j) ∙ push-last vs u))
    ]

twice-push : (vs : List ℕ) (u v : ℕ) → IsTwice vs v → IsTwice (vs ++ u ∷ []) v
twice-push vs u v (i, j, i_j, j_in, at_i, at_j) =
    (i, j, i_j, omega (arith, length-append vs (u ∷ [])), push-before vs u i (omega arith) ∙ at_i, push-before vs u j j_in ∙ at_j)

twice-again : (vs : List ℕ) (u : ℕ) → Contains vs u → IsTwice (vs ++ u ∷ []) u
twice-again vs u (k, k_in, at_k) =
    (k, length vs, k_in, omega (arith, length-append vs (u ∷ [])), push-before vs u k k_in ∙ get_or_default vs k 0 u k_in ∙ at_k, push-last vs u)

-- one more
abbrev pub more_often : Times → Times
more_often Never = Once
more_often Once = Again
more_often Again = Again

Stands-same : (vs : List ℕ) (u : ℕ) (t : Times) → Stands vs u t → Stands (vs ++ u ∷ []) u (more_often t)
Stands-same vs u Never h = (Contains-push vs u, λ twice. h (before_last vs u u twice))
Stands-same vs u Once h = twice-again vs u h.0
Stands-same vs u Again h = twice-push vs u u h

Contains-other : (vs : List ℕ) (u v : ℕ) → v ≢ u → Contains (vs ++ u ∷ []) v → Contains vs v
Contains-other vs u v apart h = elim (Contains-push_cases vs u v h) [ inl before ↦ before | inr same ↦ absurd (apart (sym same)) ]

Stands-other : (vs : List ℕ) (u v : ℕ) (t : Times) → v ≢ u → Stands vs v t → Stands (vs ++ u ∷ []) v t
Stands-other vs u v Never apart h = λ found. h (Contains-other vs u v apart found)
Stands-other vs u v Once apart h = (Contains-append_left vs (u ∷ []) v h.0, λ twice. h.1 (twice_before vs u v apart twice))
Stands-other vs u v Again apart h = twice-push vs u v h

-- counting one more number
pub StaysCounted-one : (table : List Times) (u : ℕ) (t : Times) → u < length table → t ≡ more_often (get_or table u Never) → StaysCounted table (set table u t) (u ∷ [])
StaysCounted-one table u t u_in is_more = record {
  places = length-set table u t;
  counts = λ vs h v. elim (cases_eq v u) [
    | inl same ↦ rw (same, get_or-set_same table u t Never u_in, is_more) (Stands-same vs u (get_or table u Never) (h u))
    | inr apart ↦ rw (get_or-set_other table u v t Never apart) (Stands-other vs u v (get_or table v Never) apart (h v))
  ];
}

pub StaysCounted-join : (a b c : List Times) (xs ys : List ℕ) → StaysCounted a b xs → StaysCounted b c ys → StaysCounted a c (xs ++ ys)
StaysCounted-join a b c xs ys first second = record {
  places = second.places ∙ first.places;
  counts = λ vs h. rw (← append_assoc vs xs ys) (second.counts (vs ++ xs) (first.counts vs h));
}

-- the numbers of a list up to i, then the one at i
map_more : {X : Type 0} (f : X → ℕ) (xs : List X) (i : ℕ) (d : X) → i < length xs → map f (take (i + 1) xs) ≡ map f (take i xs) ++ f (get_or xs i d) ∷ []
map_more f xs i d i_in = ap (map f) (take_more xs i d i_in) ∙ map-append f (take i xs) (get_or xs i d ∷ [])

pub StaysCounted-more : {X : Type 0} (f : X → ℕ) (xs : List X) (i : ℕ) (d : X) (a b c : List Times) → i < length xs →
    StaysCounted a b (map f (take i xs)) → StaysCounted b c (f (get_or xs i d) ∷ []) → StaysCounted a c (map f (take (i + 1) xs))
StaysCounted-more f xs i d a b c i_in first second = rw (map_more f xs i d i_in) (StaysCounted-join a b c (map f (take i xs)) (f (get_or xs i d) ∷ []) first second)

-- at the start nothing is counted
pub counted_none : (n : ℕ) → IsCounted (replicate n Never) []
counted_none n v =
    let e : get_or (replicate n Never) v Never ≡ Never = elim (cases_lt v n) [
      | inl below ↦ get_or-replicate n v Never Never below
      | inr above ↦ get_or_past (replicate n Never) v Never (omega (arith, length-replicate n Never))
    ] in
    rw e (λ found. omega (arith, found.1))

-- no number that the table counts at most once stands twice
not_twice : (vs : List ℕ) (v : ℕ) (t : Times) → t ≢ Again → Stands vs v t → IsTwice vs v → ⊥
not_twice vs v Never apart h twice = h (twice_contains vs v twice)
not_twice vs v Once apart h twice = h.1 twice
not_twice vs v Again apart h twice = apart refl

pub least_twice : (table : List Times) (vs : List ℕ) (v : ℕ) → IsCounted table vs → get_or table v Never ≡ Again → ((u : ℕ) → u < v → get_or table u Never ≢ Again) → IsLeast (IsTwice vs) v
least_twice table vs v h again before = (rw again at (h v), λ u u_v twice. not_twice vs u (get_or table u Never) (before u u_v) (h u) twice)

pub none_twice : (table : List Times) (vs : List ℕ) → IsCounted table vs → ((u : ℕ) → u < length table → get_or table u Never ≢ Again) → AllPairs (λ u v. u ≢ v) vs
none_twice table vs h none i j d i_j j_in same =
    let u : ℕ = get_or vs i 0 in
    let never : get_or table u Never ≢ Again = elim (cases_lt u (length table)) [
      | inl below ↦ none u below
      | inr above ↦ rw (get_or_past table u Never above) (λ e. (cc))
    ] in
    not_twice vs u (get_or table u Never) never (h u)
    (i, j, i_j, j_in, refl, get_or_default vs j 0 d j_in ∙ sym same ∙ get_or_default vs i d 0 (omega arith))

-- what the tables say of a variable that is used and not defined
pub record IsMissing (table : List Times) (marks : List Bool) (v : ℕ) : Type 0 where
  pub no_constant : v ≢ 0
  pub used : get_or marks v false ≡ true
  pub undefined : get_or table v Never ≡ Never

never_from : (vs : List ℕ) (v : ℕ) (t : Times) → Stands vs v t → (Contains vs v → ⊥) → t ≡ Never
never_from vs v Never h absent = refl
never_from vs v Once h absent = absurd (absent h.0)
never_from vs v Again h absent = absurd (absent (twice_contains vs v h))

missing : (table : List Times) (used : List Bool) (lits : List Lit) (vs : List ℕ) (v : ℕ) → IsCounted table vs → IsMarked used (map variable lits) → IsUndefined lits vs v → IsMissing table used v
missing table used lits vs v counted marked (some, mentioned, absent) = record {
  no_constant = some;
  used = (marked v).1 mentioned;
  undefined = never_from vs v (get_or table v Never) (counted v) absent;
}

pub least_undefined : (table : List Times) (used : List Bool) (lits : List Lit) (vs : List ℕ) (v : ℕ) → IsCounted table vs → IsMarked used (map variable lits) →
    IsMissing table used v → ((u : ℕ) → u < v → IsMissing table used u → ⊥) → IsLeast (IsUndefined lits vs) v
least_undefined table used lits vs v counted marked h before = (
  (h.no_constant, (marked v).0 h.used, rw h.undefined at (counted v)),
  λ u u_v is_undefined. before u u_v (missing table used lits vs u counted marked is_undefined),
)

pub none_undefined : (table : List Times) (used : List Bool) (lits : List Lit) (vs : List ℕ) (v : ℕ) → length used ≡ length table → IsCounted table vs → IsMarked used (map variable lits) →
    ((u : ℕ) → u < length table → IsMissing table used u → ⊥) → IsUndefined lits vs v → ⊥
none_undefined table used lits vs v long counted marked none is_undefined =
    let h = missing table used lits vs v counted marked is_undefined in
    elim (cases_lt v (length table)) [
      | inl below ↦ none v below h
      | inr above ↦ let past : get_or used v false ≡ false = get_or_past used v false (omega arith) in let same = h.used in cc
    ]

-- marking one more number
pub StaysMarked-one : (table : List Bool) (u : ℕ) → u < length table → StaysMarked table (set table u true) (u ∷ [])
StaysMarked-one table u u_in = record {
  places = length-set table u true;
  marks = λ vs h v. elim (cases_eq v u) [
    | inl same ↦ rw (same, get_or-set_same table u true false u_in) (λ _. Contains-push vs u, λ _. refl)
    | inr apart ↦ rw (get_or-set_other table u v true false apart)
        (λ marked. Contains-append_left vs (u ∷ []) v ((h v).0 marked), λ found. (h v).1 (Contains-other vs u v apart found))
  ];
}

pub StaysMarked-join : (a b c : List Bool) (xs ys : List ℕ) → StaysMarked a b xs → StaysMarked b c ys → StaysMarked a c (xs ++ ys)
StaysMarked-join a b c xs ys first second = record {
  places = second.places ∙ first.places;
  marks = λ vs h. rw (← append_assoc vs xs ys) (second.marks (vs ++ xs) (first.marks vs h));
}

pub StaysMarked-more : {X : Type 0} (f : X → ℕ) (xs : List X) (i : ℕ) (d : X) (a b : List Bool) → i < length xs → All (λ x. f x < length a) xs →
    StaysMarked a b (map f (take i xs)) → StaysMarked a (set b (f (get_or xs i d)) true) (map f (take (i + 1) xs))
StaysMarked-more f xs i d a b i_in in_range h =
    let v_in : f (get_or xs i d) < length b = rw h.places (in_range i d i_in) in
    rw (map_more f xs i d i_in) (StaysMarked-join a b (set b (f (get_or xs i d)) true) (map f (take i xs)) (f (get_or xs i d) ∷ []) h (StaysMarked-one b (f (get_or xs i d)) v_in))

-- the same of a part of each element
pub StaysMarked-more_of : {X Y : Type 0} (f : Y → ℕ) (g : X → Y) (xs : List X) (i : ℕ) (d : X) (a b : List Bool) → i < length xs → All (λ x. f (g x) < length a) xs →
    StaysMarked a b (map f (map g (take i xs))) → StaysMarked a (set b (f (g (get_or xs i d))) true) (map f (map g (take (i + 1) xs)))
StaysMarked-more_of f g xs i d a b i_in in_range h =
    rw (map-map f g (take (i + 1) xs)) (StaysMarked-more (λ x. f (g x)) xs i d a b i_in in_range (rw (map-map f g (take i xs)) at h))

-- at the start nothing is marked
pub marked_none : (n : ℕ) → IsMarked (replicate n false) []
marked_none n v =
    let e : get_or (replicate n false) v false ≡ false = elim (cases_lt v n) [
      | inl below ↦ get_or-replicate n v false false below
      | inr above ↦ get_or_past (replicate n false) v false (omega (arith, length-replicate n false))
    ] in
    rw e (λ wrong. (cc), λ found. absurd (omega (arith, found.1)))

-- what holds of all justice literals holds of those of one property
pub All-piece : (P : Lit → Type 0) (xss : List (List Lit)) (i : ℕ) (d : List Lit) → i < length xss → All P (justice_literals xss) → All P (get_or xss i d)
All-piece P [] i d i_in h = absurd (omega arith)
All-piece P (xs ∷ xss) zero d i_in h = All-left P xs (justice_literals xss) h
All-piece P (xs ∷ xss) (suc i) d i_in h = All-piece P xss i d (omega arith) (All-right P xs (justice_literals xss) h)

justice_more : (xss : List (List Lit)) (i : ℕ) (d : List Lit) → i < length xss → justice_literals (take (i + 1) xss) ≡ justice_literals (take i xss) ++ get_or xss i d
justice_more xss i d i_in =
    ap justice_literals (take_more xss i d i_in) ∙ flat_map-append (λ lits. lits) (take i xss) (get_or xss i d ∷ []) ∙ ap (λ q. justice_literals (take i xss) ++ q) (append-nil (get_or xss i d))

pub StaysMarked-more_justice : (xss : List (List Lit)) (i : ℕ) (d : List Lit) (a b c : List Bool) → i < length xss →
    StaysMarked a b (map variable (justice_literals (take i xss))) → StaysMarked b c (map variable (get_or xss i d)) → StaysMarked a c (map variable (justice_literals (take (i + 1) xss)))
StaysMarked-more_justice xss i d a b c i_in first second =
    rw (justice_more xss i d i_in, map-append variable (justice_literals (take i xss)) (get_or xss i d))
    (StaysMarked-join a b c (map variable (justice_literals (take i xss))) (map variable (get_or xss i d)) first second)

-- the lists of used literals, one by one
pub record HoldsOfUsed (P : Lit → Type 0) (m : Parts) : Type 0 where
  pub next : All (λ l. P l.next) m.latches
  pub outputs : All P m.outputs
  pub bad : All P m.bad
  pub constraints : All P m.constraints
  pub justice : All P (justice_literals m.justice)
  pub fairness : All P m.fairness
  pub left : All (λ g. P g.rhs0) m.gates
  pub right : All (λ g. P g.rhs1) m.gates

pub holds_of_used : (P : Lit → Type 0) (m : Parts) → All P (used m) → HoldsOfUsed P m
holds_of_used P m h =
    let seven = All-left P _ (map (λ g. g.rhs1) m.gates) h in
    let six = All-left P _ (map (λ g. g.rhs0) m.gates) seven in
    let five = All-left P _ m.fairness six in
    let four = All-left P _ (justice_literals m.justice) five in
    let three = All-left P _ m.constraints four in
    let two = All-left P _ m.bad three in
    record {
      next = All-unmap P (λ l. l.next) m.latches (All-left P _ m.outputs two);
      outputs = All-right P (map (λ l. l.next) m.latches) m.outputs two;
      bad = All-right P _ m.bad three;
      constraints = All-right P _ m.constraints four;
      justice = All-right P _ (justice_literals m.justice) five;
      fairness = All-right P _ m.fairness six;
      left = All-unmap P (λ g. g.rhs0) m.gates (All-right P _ (map (λ g. g.rhs0) m.gates) seven);
      right = All-unmap P (λ g. g.rhs1) m.gates (All-right P _ (map (λ g. g.rhs1) m.gates) h);
    }

-- marking the literals of one more list
pub StaysMarked-and : (a b c : List Bool) (xs ys : List Lit) → StaysMarked a b (map variable xs) → StaysMarked b c (map variable ys) → StaysMarked a c (map variable (xs ++ ys))
StaysMarked-and a b c xs ys first second = rw (map-append variable xs ys) (StaysMarked-join a b c (map variable xs) (map variable ys) first second)

-- the first items, as many as there are before the rest
pub take_whole : {X : Type 0} (n : ℕ) (xs ys : List X) → length xs ≡ n → take n (xs ++ ys) ≡ xs
take_whole n xs ys e = rw (← e) (take-append_seam xs ys)
