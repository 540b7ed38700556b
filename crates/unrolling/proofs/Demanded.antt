-- Clauses that are given on demand, one variable after the other.
use Rattle.std.proofs.Common.{◌≡◌, ◌≢◌, ℕ, zero, suc, ◌+◌, ◌<◌, ◌≤◌, ◌⊎◌, Bool, true, false, List, [], ◌∷◌, ◌++◌, map, set, length, get_or, All, Contains, replicate, ℤ, pos, negsuc, neg_ℤ, unsigned_abs, inl, inr, refl, sym, ◌∙◌, ap, subst, arith, below_more, length-append, length-set, get_or-set_same, get_or-set_other, take}
use Rattle.std.proofs.lemmas.Bool.{cases_eq, false≢true}
use Rattle.std.proofs.lemmas.List.{get_or_append_left, get_or_default, length-replicate, take_more, map-append}
use Rattle.std.proofs.lemmas.List.Elements.{All-nil, All-cons, All-head, All-append, All-weaker, All-map, All-contains, Contains-append_left, Contains-append_right}
use Rattle.graph.proofs.Evaluation.{All-left}
use Rattle.graph.specs.declared.circuit.Lit.{Lit}
use Rattle.graph.specs.Circuits.{place, variable}
use Rattle.lrat.specs.Shared.{unit_clauses}
use Rattle.unrolling.specs.Unrollings.{literal_of}
use Rattle.unrolling.proofs.Tabled.{literal_in_range}
use Rattle.lrat.specs.Literals.{is_true, IsSatisfied, IsLiteral}
use Rattle.cnf.specs.Meaning.{AreSatisfied}
use Rattle.cnf.proofs.Listed.{satisfied-unit}
use Rattle.cones.specs.Marks.{IsMarked}
use Rattle.cones.specs.Reach.{Grows, IsFrom}
use Rattle.cones.proofs.Growing.{grows_then, from_then}
use Rattle.unrolling.specs.declared.encoder.Encoder.{Encoder}
use Rattle.unrolling.specs.declared.function.Function.{Function}
use Rattle.unrolling.specs.Encodings.{function_at, IsGate, IsExtended}
use Rattle.unrolling.specs.Demands.{IsDecided, AreOver, AreUpTo, AreGiven, IsMore, IsGivenOne}
use Rattle.unrolling.proofs.Encoded.{IsSome}
use Rattle.unrolling.proofs.Negated.{negation_literal, literal_up}

-- a variable's own literal
pub own_nonzero : (x : ℕ) → 0 < x → pos x ≢ pos 0
own_nonzero zero some = absurd (omega (arith, some))
own_nonzero (suc n) some = λ e. cc

pub own_true : (v : ℕ → Bool) (x : ℕ) → 0 < x → is_true v (pos x) ≡ v x
own_true v zero some = absurd (omega (arith, some))
own_true v (suc n) some = refl

abs_negated : (l : ℤ) → unsigned_abs (neg_ℤ l) ≡ unsigned_abs l
abs_negated (pos zero) = refl
abs_negated (pos (suc n)) = refl
abs_negated (negsuc n) = refl

-- a literal of a marked variable
abbrev pub IsOver : ℕ → List Bool → ℤ → Type 0
IsOver n marks l = IsLiteral n l × IsMarked marks (unsigned_abs l)

pub over_negated : (n : ℕ) (marks : List Bool) (l : ℤ) → IsOver n marks l → IsOver n marks (neg_ℤ l)
over_negated n marks l is = (negation_literal n l is.0, subst (IsMarked marks) (sym (abs_negated l)) is.1)

pub over_later : (n k : ℕ) (t u : List Bool) (cs : List (List ℤ)) → n ≤ k → ((x : ℕ) → IsMarked t x → IsMarked u x) → AreOver n t cs → AreOver k u cs
over_later n k t u cs le kept over = All-weaker (All (IsOver n t)) (All (IsOver k u))
    (λ c all. All-weaker (IsOver n t) (IsOver k u) (λ l is. (literal_up n k l is.0 le, kept (unsigned_abs l) is.1)) c all) cs over

pub more_same : (fs : List Function) (cs : List (List ℤ)) → IsMore fs cs cs
more_same fs cs = record { weaker = λ v all. all; stronger = λ v defined all. all }

pub more_then : (fs : List Function) (cs ds es : List (List ℤ)) → IsMore fs cs ds → IsMore fs ds es → IsMore fs cs es
more_then fs cs ds es p q = record { weaker = λ v all. p.weaker v (q.weaker v all); stronger = λ v defined all. q.stronger v defined (p.stronger v defined all) }

-- marks that come from variables in use are of these
pub up_from : (n : ℕ) (vs : List ℕ) (t u : List Bool) → IsFrom vs t u → All (λ v. v ≤ n) vs → AreUpTo n t → AreUpTo n u
up_from n vs t u from small up x on = elim (from x on) [
  | inl before ↦ up x before
  | inr found ↦ All-contains (λ v. v ≤ n) vs x small found
]

-- what is given is so with more clauses and marks
pub decided_later : (fs : List Function) (cs ds : List (List ℤ)) (t u : List Bool) (x : ℕ) → ((v : ℕ → Bool) → AreSatisfied v ds → AreSatisfied v cs) → ((y : ℕ) → IsMarked t y → IsMarked u y) →
    IsDecided fs cs t x → IsDecided fs ds u x
decided_later fs cs ds t u x weaker kept is gate w z satisfied defined agree = is gate w z (weaker w satisfied) defined (λ y y_in on. agree y y_in (kept y on))

-- the first n of the list were given, and all that is marked was given or is listed
pub record IsGiving (e : Encoder) (u : List Bool) (cs ds : List (List ℤ)) (list : List ℕ) (n : ℕ) : Type 0 where
  pub places : e.variables < length u
  pub range : AreUpTo e.variables u
  pub over : AreOver e.variables u ds
  pub more : IsMore e.functions.items cs ds
  pub listed : (x : ℕ) → IsMarked u x → IsDecided e.functions.items ds u x ⊎ Contains list x
  pub only : All (λ v. (v < length u) × IsMarked u v) list
  pub within : n ≤ length list
  pub done : (k : ℕ) → k < n → IsDecided e.functions.items ds u (get_or list k 0)

pub giving_begins : (e : Encoder) (t s u : List Bool) (cs : List (List ℤ)) (vs ws list longer : List ℕ) → AreGiven e t cs → Grows vs t [] s list → Grows ws s list u longer →
    IsFrom vs t s → IsFrom ws s u → All (λ v. v ≤ e.variables) vs → All (λ v. v ≤ e.variables) ws → IsGiving e u cs cs longer 0
giving_begins e t s u cs vs ws list longer given p q from_p from_q vs_in ws_in =
    let kept : (x : ℕ) → IsMarked t x → IsMarked u x = λ x on. q.kept x (p.kept x on) in
    let P : ℕ → Type 0 = λ v. (v < length u) × IsMarked u v in
    record {
      places = omega (arith, given.places, q.places, p.places);
      range = up_from e.variables ws s u from_q ws_in (up_from e.variables vs t s from_p vs_in given.range);
      over = over_later e.variables e.variables t u cs (omega arith) kept given.clauses;
      more = more_same e.functions.items cs;
      listed = λ x on. elim (q.listed x on) [
        | inl before ↦ elim (p.listed x before) [
          | inl first ↦ inl (decided_later e.functions.items cs cs t u x (λ v all. all) kept (given.decided x first))
          | inr found ↦ inr (subst (λ l. Contains l x) (sym q.is) (Contains-append_left list q.added x (subst (λ l. Contains l x) (sym p.is) found)))
        ]
        | inr found ↦ inr (subst (λ l. Contains l x) (sym q.is) (Contains-append_right list q.added x found))
      ];
      only = subst (All P) (sym q.is) (All-append P list q.added
          (subst (All P) (sym p.is) (All-weaker (λ v. (v < length t) × IsMarked s v) P (λ v h. (let lt : v < length t = h.0 in omega (arith, lt, p.places, q.places), q.kept v h.1)) p.added p.only))
          (All-weaker (λ v. (v < length s) × IsMarked u v) P (λ v h. (let lt : v < length s = h.0 in omega (arith, lt, q.places), h.1)) q.added q.only));
      within = omega arith;
      done = λ k k_in. absurd (omega (arith, k_in));
    }

pub giving_more : (e : Encoder) (u s : List Bool) (cs ds es : List (List ℤ)) (list longer : List ℕ) (n : ℕ) → IsGiving e u cs ds list n → n < length list → Grows [] u list s longer →
    IsGivenOne e u s ds es (get_or list n 0) → IsGiving e s cs es longer (n + 1)
giving_more e u s cs ds es list longer n h n_in grows one =
    let same : (k : ℕ) → k < length list → get_or list k 0 ≡ get_or longer k 0 = λ k k_in. sym (ap (λ q. get_or q k 0) grows.is ∙ get_or_append_left list grows.added 0 k k_in) in
    let P : ℕ → Type 0 = λ v. (v < length s) × IsMarked s v in
    record {
      places = omega (arith, h.places, grows.places);
      range = one.range h.range;
      over = one.over h.over;
      more = more_then e.functions.items cs ds es h.more one.more;
      listed = λ x on. elim (grows.listed x on) [
        | inl before ↦ elim (h.listed x before) [
          | inl first ↦ inl (decided_later e.functions.items ds es u s x one.more.weaker grows.kept first)
          | inr found ↦ inr (subst (λ l. Contains l x) (sym grows.is) (Contains-append_left list grows.added x found))
        ]
        | inr found ↦ inr (subst (λ l. Contains l x) (sym grows.is) (Contains-append_right list grows.added x found))
      ];
      only = subst (All P) (sym grows.is) (All-append P list grows.added
          (All-weaker (λ v. (v < length u) × IsMarked u v) P (λ v p. (let lt : v < length u = p.0 in omega (arith, lt, grows.places), grows.kept v p.1)) list h.only)
          (All-weaker (λ v. (v < length u) × IsMarked s v) P (λ v p. (let lt : v < length u = p.0 in omega (arith, lt, grows.places), p.1)) grows.added grows.only));
      within = omega (arith, n_in, ap length grows.is, length-append list grows.added);
      done = below_more _ _
          (λ k k_in. subst (IsDecided e.functions.items es s) (same k (omega (arith, k_in, n_in))) (decided_later e.functions.items ds es u s (get_or list k 0) one.more.weaker grows.kept (h.done k k_in)))
          (subst (IsDecided e.functions.items es s) (same n n_in) one.decided);
    }

pub giving_ends : (e : Encoder) (t u : List Bool) (cs ds : List (List ℤ)) (list : List ℕ) (n : ℕ) → length list ≤ n → AreGiven e t cs → IsGiving e u cs ds list n → AreGiven e u ds
giving_ends e t u cs ds list n past given h = record {
  places = h.places;
  range = h.range;
  clauses = h.over;
  decided = λ x on. elim (h.listed x on) [
    | inl before ↦ before
    | inr found ↦ subst (IsDecided e.functions.items ds u) (get_or_default list found.0 0 x found.1 ∙ found.2) (h.done found.0 (omega (arith, found.1, past)))
  ];
  truth = λ w all. given.truth w (h.more.weaker w all);
}

-- variables that are read of a list of literals, one more
take_none : {X : Type 0} (n : ℕ) → take {A = X} n [] ≡ []
take_none zero = refl
take_none (suc n) = refl

pub take_past : {X : Type 0} (n : ℕ) (xs : List X) → length xs ≤ n → take n xs ≡ xs
take_past n [] le = take_none n
take_past zero (x ∷ xs) le = absurd (omega (arith, le))
take_past (suc n) (x ∷ xs) le = ap (λ q. x ∷ q) (take_past n xs (omega (arith, le)))

pub grows_on : {X : Type 0} (f : X → ℕ) (lits : List X) (n : ℕ) (d : X) (t u x : List Bool) (list longer longest : List ℕ) → n < length lits → Grows (map f (take n lits)) t list u longer →
    Grows (f (get_or lits n d) ∷ []) u longer x longest → Grows (map f (take (n + 1) lits)) t list x longest
grows_on f lits n d t u x list longer longest n_in h k =
    let e : map f (take (n + 1) lits) ≡ map f (take n lits) ++ f (get_or lits n d) ∷ [] = ap (map f) (take_more lits n d n_in) ∙ map-append f (take n lits) (get_or lits n d ∷ []) in
    subst (λ q. Grows q t list x longest) (sym e) (grows_then (map f (take n lits)) (f (get_or lits n d) ∷ []) t u x list longer longest h k)

pub from_on : {X : Type 0} (f : X → ℕ) (lits : List X) (n : ℕ) (d : X) (t u x : List Bool) → n < length lits → IsFrom (map f (take n lits)) t u → IsFrom (f (get_or lits n d) ∷ []) u x →
    IsFrom (map f (take (n + 1) lits)) t x
from_on f lits n d t u x n_in h k =
    let e : map f (take (n + 1) lits) ≡ map f (take n lits) ++ f (get_or lits n d) ∷ [] = ap (map f) (take_more lits n d n_in) ∙ map-append f (take n lits) (get_or lits n d ∷ []) in
    subst (λ q. IsFrom q t x) (sym e) (from_then (map f (take n lits)) (f (get_or lits n d) ∷ []) t u x h k)

-- more functions
pub given_later : (e f : Encoder) (marks : List Bool) (cs : List (List ℤ)) → IsExtended e.variables e.functions.items f.variables f.functions.items → f.variables < length marks → AreGiven e marks cs → AreGiven f marks cs
given_later e f marks cs extended long h = record {
  places = long;
  range = λ x on. let le = h.range x on in omega (arith, le, extended.more);
  clauses = over_later e.variables f.variables marks marks cs extended.more (λ x on. on) h.clauses;
  decided = λ x on gate w u satisfied defined agree.
      let same : function_at f.functions.items x ≡ function_at e.functions.items x = extended.same x (h.range x on) in
      h.decided x on (subst IsSome same gate) w u satisfied (extended.weaker u defined) agree;
  truth = h.truth;
}

-- more clauses over marked variables
pub given_more : (e : Encoder) (marks : List Bool) (cs ds es : List (List ℤ)) → es ≡ cs ++ ds → AreOver e.variables marks ds → AreGiven e marks cs → AreGiven e marks es
given_more e marks cs ds es is over h =
    let weaker : (v : ℕ → Bool) → AreSatisfied v es → AreSatisfied v cs = λ v all. All-left (IsSatisfied v) cs ds (subst (AreSatisfied v) is all) in
    record {
      places = h.places;
      range = h.range;
      clauses = subst (AreOver e.variables marks) (sym is) (All-append (All (IsOver e.variables marks)) cs ds h.clauses over);
      decided = λ x on. decided_later e.functions.items cs es marks marks x weaker (λ y y_on. y_on) (h.decided x on);
      truth = λ w all. h.truth w (weaker w all);
    }

-- before the first time
pub replicated : {A : Type 0} (n x : ℕ) (a : A) → get_or (replicate n a) x a ≡ a
replicated zero x a = refl
replicated (suc n) zero a = refl
replicated (suc n) (suc x) a = replicated n x a

only_first : (n x : ℕ) (marks : List Bool) → marks ≡ set (replicate n false) 1 true → IsMarked marks x → x ≡ 1
only_first n x marks is on = elim (cases_eq x 1) [
  | inl one ↦ one
  | inr other ↦ absurd (false≢true (sym (replicated n x false) ∙ sym (get_or-set_other (replicate n false) 1 x true false other) ∙ sym (ap (λ q. place q x) is) ∙ on))
]

pub given_begins : (e : Encoder) (n : ℕ) (marks : List Bool) (cs : List (List ℤ)) → marks ≡ set (replicate n false) 1 true → e.variables < length marks → 1 ≤ e.variables → (IsGate e.functions.items 1 → ⊥) →
    cs ≡ (pos 1 ∷ []) ∷ [] → AreGiven e marks cs
given_begins e n marks cs is long used free cs_is =
    let some : 1 < n = omega (arith, long, used, ap length is, length-set (replicate n false) 1 true, length-replicate n false) in
    let one : IsMarked marks 1 = ap (λ q. place q 1) is ∙ get_or-set_same (replicate n false) 1 true false (omega (arith, some, length-replicate n false)) in
    let Q : ℤ → Type 0 = IsOver e.variables marks in
    record {
      places = long;
      range = λ x on. let same = only_first n x marks is on in omega (arith, same, used);
      clauses = subst (AreOver e.variables marks) (sym cs_is) (All-cons (All Q) (pos 1 ∷ []) [] (All-cons Q (pos 1) [] (((λ z. cc), used), one) (All-nil Q)) (All-nil (All Q)));
      decided = λ x on gate. let same = only_first n x marks is on in absurd (free (subst (IsGate e.functions.items) same gate));
      truth = λ w all. satisfied-unit w (pos 1) (All-head (IsSatisfied w) (pos 1 ∷ []) [] (subst (AreSatisfied w) cs_is all));
    }

pub over_literals : (n : ℕ) (marks : List Bool) (cs : List (List ℤ)) → AreOver n marks cs → All (All (IsLiteral n)) cs
over_literals n marks cs over = All-weaker (All (IsOver n marks)) (All (IsLiteral n)) (λ c all. All-weaker (IsOver n marks) (IsLiteral n) (λ l is. is.0) c all) cs over

-- the clauses of single literals
pub units_over : (n : ℕ) (marks : List Bool) (table : List ℤ) (lits : List Lit) → All (IsLiteral n) table → All (λ a. variable a < length table) lits →
    All (λ a. IsMarked marks (unsigned_abs (literal_of table a))) lits → AreOver n marks (unit_clauses (map (literal_of table) lits))
units_over n marks table lits literals range on =
    All-map (All (IsOver n marks)) (λ l. l ∷ []) (map (literal_of table) lits)
    (All-map (λ l. All (IsOver n marks) (l ∷ [])) (literal_of table) lits (λ k d k_in.
    All-cons (IsOver n marks) (literal_of table (get_or lits k d)) [] (literal_in_range n table (get_or lits k d) literals (range k d k_in), on k d k_in) (All-nil (IsOver n marks))))

-- what is wanted is in use
pub wanted_small : (n : ℕ) (table : List ℤ) (lits : List Lit) → All (IsLiteral n) table → All (λ a. variable a < length table) lits → All (λ v. v ≤ n) (map (λ a. unsigned_abs (literal_of table a)) lits)
wanted_small n table lits literals range = All-map (λ v. v ≤ n) (λ a. unsigned_abs (literal_of table a)) lits (λ k d k_in. (literal_in_range n table (get_or lits k d) literals (range k d k_in)).1)
