-- Looks at literals, one after another.
use Rattle.std.proofs.Common.{◌≡◌, ℕ, ◌+◌, ◌*◌, ◌^◌, ◌<◌, ◌≤◌, List, [], ◌∷◌, ◌++◌, length, take, drop, get_or, map, Ok, Err, arith, sym, subst, ap, ◌∙◌, append_assoc, append-nil, length-append, take_all, Result, refl, take-append-drop}
use Rattle.std.specs.List.{flat_map, sum_by}
use Rattle.std.specs.Prelude.{IsErrAnd}
use Rattle.std.proofs.lemmas.Grind.{flat_map-append}
use Rattle.std.proofs.lemmas.List.Elements.{All-append}
use Rattle.std.proofs.lemmas.List.Concat.{flat_map-cons, flat_map_single, length-flat_map}
use Rattle.std.proofs.lemmas.List.Folds.{length-flat_map-take}
use Rattle.std.proofs.lemmas.List.Sums.{sum_by-le}
use Rattle.std.proofs.lemmas.List.{take_more, length-map, map-append}
use Rattle.graph.specs.declared.circuit.Lit.{Lit}
use Rattle.graph.specs.declared.circuit.Use.{Use}
use Rattle.graph.specs.declared.parts.Parts.{Parts}
use Rattle.graph.specs.WellFormed.{IsInLimits}
use Rattle.graph.specs.Circuits.{justice_literals}
use Rattle.graph.specs.declared.error.ReadError.{ReadError}
use Rattle.graph.specs.declared.error.ReadError.TheVariants.{TooLong, Header, Number, Limit, Byte, Truncated, LiteralRange, Defining, DefinedTwice, Undefined, Cyclic, Reset, Delta, Symbol, Counts, NoProperty, OutOfMemory}
use Rattle.graph.specs.Uses.{IsFine, IsFirst, uses_of, latch_uses, gate_uses}
use Rattle.graph.specs.Faults.{GoesOn, IsFirstFault}

-- a first fault stays the first where more literals come after it
pub IsFirst-append : (max : ℕ) (xs ys : List Use) (k : ℕ) (P : Use → Type 0) → IsFirst max xs k P → IsFirst max (xs ++ ys) k P
IsFirst-append max xs ys k P h = record {
  before = h.before;
  use_here = h.use_here;
  after = h.after ++ ys;
  whole = ap (λ l. l ++ ys) h.whole ∙ append_assoc h.before (h.use_here ∷ h.after) ys;
  count = h.count;
  fine = h.fine;
  fault = h.fault;
}

pub IsFirstFault-append : (max : ℕ) (xs ys : List Use) (e : ReadError) → IsFirstFault max xs e → IsFirstFault max (xs ++ ys) e
IsFirstFault-append max xs ys (LiteralRange k) h = IsFirst-append max xs ys k _ h
IsFirstFault-append max xs ys (Defining k) h = IsFirst-append max xs ys k _ h
IsFirstFault-append max xs ys (Reset k) h = IsFirst-append max xs ys k _ h
IsFirstFault-append max xs ys TooLong h = h
IsFirstFault-append max xs ys (Header p) h = h
IsFirstFault-append max xs ys (Number p) h = h
IsFirstFault-append max xs ys (Limit p) h = h
IsFirstFault-append max xs ys (Byte p) h = h
IsFirstFault-append max xs ys (Truncated p) h = h
IsFirstFault-append max xs ys (DefinedTwice v) h = h
IsFirstFault-append max xs ys (Undefined v) h = h
IsFirstFault-append max xs ys (Cyclic v) h = h
IsFirstFault-append max xs ys (Delta p) h = h
IsFirstFault-append max xs ys (Symbol p) h = h
IsFirstFault-append max xs ys (Counts p) h = h
IsFirstFault-append max xs ys (NoProperty n) h = h
IsFirstFault-append max xs ys (OutOfMemory refused) h = h

pub GoesOn-none : (max before : ℕ) → GoesOn max before [] (Ok before)
GoesOn-none max before = (omega arith, λ k d k_in. absurd (omega arith))

-- a fault that is reported stays reported
pub GoesOn-fault : (max before : ℕ) (xs ys : List Use) (e : ReadError) → GoesOn max before xs (Err e) → GoesOn max before (xs ++ ys) (Err e)
GoesOn-fault max before xs ys e h front long fine =
    subst (λ l. IsFirstFault max l e) (append_assoc front xs ys) (IsFirstFault-append max (front ++ xs) ys e (h front long fine))

-- two looks, one after the other
pub GoesOn-append : (max before n m : ℕ) (xs ys : List Use) → GoesOn max before xs (Ok n) → GoesOn max n ys (Ok m) → GoesOn max before (xs ++ ys) (Ok m)
GoesOn-append max before n m xs ys h g =
    (g.0 ∙ omega (arith, h.0, length-append xs ys), All-append (IsFine max) xs ys h.1 g.1)

pub GoesOn-append_fault : (max before n : ℕ) (xs ys : List Use) (e : ReadError) → GoesOn max before xs (Ok n) → GoesOn max n ys (Err e) → GoesOn max before (xs ++ ys) (Err e)
GoesOn-append_fault max before n xs ys e h g front long fine =
    subst (λ l. IsFirstFault max l e) (append_assoc front xs ys)
    (g (front ++ xs) (length-append front xs ∙ omega (arith, h.0)) (All-append (IsFine max) front xs fine h.1))

-- whatever the second look answers
pub GoesOn-then : (max before n : ℕ) (xs ys : List Use) (r : Result ℕ ReadError) → GoesOn max before xs (Ok n) → GoesOn max n ys r → GoesOn max before (xs ++ ys) r
GoesOn-then max before n xs ys (Ok m) h g = GoesOn-append max before n m xs ys h g
GoesOn-then max before n xs ys (Err e) h g = GoesOn-append_fault max before n xs ys e h g

-- a fault that is passed on
pub GoesOn-told : (max before : ℕ) (xs : List Use) (r : Result ℕ ReadError) (e : ReadError) → IsErrAnd r (λ x. x ≡ e) → GoesOn max before xs (Err e) → GoesOn max before xs r
GoesOn-told max before xs (Ok n) e same h = absurd same
GoesOn-told max before xs (Err x) e same h = subst (λ y. GoesOn max before xs (Err y)) (sym same) h

single : {X : Type 0} (f : X → List Use) (x : X) → flat_map f (x ∷ []) ≡ f x
single f x = flat_map-cons f x [] ∙ append-nil (f x)

-- the literals of one item more
flat_map-more : {X : Type 0} (f : X → List Use) (xs : List X) (i : ℕ) (d : X) → i < length xs → flat_map f (take (i + 1) xs) ≡ flat_map f (take i xs) ++ f (get_or xs i d)
flat_map-more f xs i d i_in =
    ap (flat_map f) (take_more xs i d i_in) ∙ flat_map-append f (take i xs) (get_or xs i d ∷ []) ∙ ap (λ l. flat_map f (take i xs) ++ l) (single f (get_or xs i d))

-- a loop over items that have literals each: it begins, goes on, ends, or stops at a fault
pub GoesOn-start : {X : Type 0} (max before : ℕ) (f : X → List Use) (xs : List X) → GoesOn max before (flat_map f (take 0 xs)) (Ok before)
GoesOn-start max before f xs = (omega arith, λ k d k_in. absurd (omega arith))

pub GoesOn-more : {X : Type 0} (max before n m : ℕ) (f : X → List Use) (xs : List X) (i : ℕ) (d : X) → i < length xs →
    GoesOn max before (flat_map f (take i xs)) (Ok n) → GoesOn max n (f (get_or xs i d)) (Ok m) → GoesOn max before (flat_map f (take (i + 1) xs)) (Ok m)
GoesOn-more max before n m f xs i d i_in h g =
    subst (λ l. GoesOn max before l (Ok m)) (sym (flat_map-more f xs i d i_in)) (GoesOn-append max before n m (flat_map f (take i xs)) (f (get_or xs i d)) h g)

pub GoesOn-all : {X : Type 0} (max before n : ℕ) (f : X → List Use) (xs : List X) (i : ℕ) → length xs ≤ i → GoesOn max before (flat_map f (take i xs)) (Ok n) → GoesOn max before (flat_map f xs) (Ok n)
GoesOn-all max before n f xs i long h = subst (λ l. GoesOn max before (flat_map f l) (Ok n)) (take_all i xs long) h

pub GoesOn-stops : {X : Type 0} (max before n : ℕ) (f : X → List Use) (xs : List X) (i : ℕ) (d : X) (e : ReadError) → i < length xs →
    GoesOn max before (flat_map f (take i xs)) (Ok n) → GoesOn max n (f (get_or xs i d)) (Err e) → GoesOn max before (flat_map f xs) (Err e)
GoesOn-stops max before n f xs i d e i_in h g =
    subst (λ l. GoesOn max before l (Err e))
    (ap (λ l. l ++ flat_map f (drop (i + 1) xs)) (sym (flat_map-more f xs i d i_in)) ∙ sym (flat_map-append f (take (i + 1) xs) (drop (i + 1) xs)) ∙ ap (flat_map f) (take-append-drop (i + 1) xs))
    (GoesOn-fault max before (flat_map f (take i xs) ++ f (get_or xs i d)) (flat_map f (drop (i + 1) xs)) e
    (GoesOn-append_fault max before n (flat_map f (take i xs)) (f (get_or xs i d)) e h g))

-- there is room for the literals of the next item
pub GoesOn-room : {X : Type 0} (max before n most : ℕ) (f : X → List Use) (xs : List X) (i : ℕ) (d : X) → i < length xs →
    GoesOn max before (flat_map f (take i xs)) (Ok n) → before + length (flat_map f xs) < most → n + length (f (get_or xs i d)) < most
GoesOn-room max before n most f xs i d i_in h room = omega (arith, h.0, length-flat_map-take f xs i d i_in)

-- literals one each, and literals of lists
pub GoesOn-singles : (max before : ℕ) (f : Lit → Use) (xs : List Lit) (r : Result ℕ ReadError) → GoesOn max before (flat_map (λ a. f a ∷ []) xs) r → GoesOn max before (map f xs) r
GoesOn-singles max before f xs r h = subst (λ l. GoesOn max before l r) (flat_map_single f xs) h

pub map-flat_map : (f : Lit → Use) (xss : List (List Lit)) → map f (flat_map (λ xs. xs) xss) ≡ flat_map (λ xs. map f xs) xss
map-flat_map f [] = refl
map-flat_map f (xs ∷ xss) =
    ap (map f) (flat_map-cons (λ ys. ys) xs xss) ∙ map-append f xs (flat_map (λ ys. ys) xss) ∙ ap (λ l. map f xs ++ l) (map-flat_map f xss)
    ∙ sym (flat_map-cons (λ ys. map f ys) xs xss)

pub GoesOn-lists : (max before : ℕ) (f : Lit → Use) (xss : List (List Lit)) (r : Result ℕ ReadError) →
    GoesOn max before (flat_map (λ xs. map f xs) xss) r → GoesOn max before (map f (flat_map (λ xs. xs) xss)) r
GoesOn-lists max before f xss r h = subst (λ l. GoesOn max before l r) (sym (map-flat_map f xss)) h

-- all literals of parts in the limits are few
length-uses : {X : Type 0} (f : X → List Use) (xs : List X) → ((x : X) → length (f x) ≡ 3) → length (flat_map f xs) ≤ length xs * 3
length-uses f xs three = subst (λ n. n ≤ length xs * 3) (sym (length-flat_map f xs)) (sum_by-le (λ x. length (f x)) 3 xs (λ k d k_in. let e = three (get_or xs k d) in omega (arith, e)))

pub uses-few : (m : Parts) → IsInLimits m → length (uses_of m) < 2 ^ 32
uses-few m h =
    let latches : length (flat_map latch_uses m.latches) ≤ length m.latches * 3 = length-uses latch_uses m.latches (λ l. refl) in
    let gates : length (flat_map gate_uses m.gates) ≤ length m.gates * 3 = length-uses gate_uses m.gates (λ g. refl) in
    let justice : length (justice_literals m.justice) ≡ sum_by length m.justice = length-flat_map (λ xs. xs) m.justice in
    simp (length-append, length-map) (omega (arith, latches, gates, justice, h))

-- a part of all, after so many
pub room-part : (m : Parts) (xs ys zs : List Use) (n : ℕ) → IsInLimits m → xs ++ (ys ++ zs) ≡ uses_of m → n ≡ 0 + length xs → n + length ys < 2 ^ 60
room-part m xs ys zs n h whole count =
    let few : length (xs ++ (ys ++ zs)) < 2 ^ 32 = subst (λ l. length l < 2 ^ 32) (sym whole) (uses-few m h) in
    omega (arith, few, count, length-append xs (ys ++ zs), length-append ys zs)

pub GoesOn-part : (max before : ℕ) (xs ys all : List Use) (e : ReadError) → xs ++ ys ≡ all → GoesOn max before xs (Err e) → GoesOn max before all (Err e)
GoesOn-part max before xs ys all e whole h = subst (λ l. GoesOn max before l (Err e)) whole (GoesOn-fault max before xs ys e h)
