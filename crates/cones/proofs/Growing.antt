-- How marks grow.
use Rattle.std.proofs.Common.{◌≡◌, ℕ, ◌+◌, ◌-◌, ◌<◌, ◌≤◌, ◌⊎◌, ◌&&◌, Bool, true, false, List, [], ◌∷◌, ◌++◌, length, map, take, set, get_or, sum_by, refl, inl, inr, arith, All, Contains, ◌∙◌, sym, ap, subst, length-append, append_assoc, length-set, below_more}
use Rattle.std.proofs.lemmas.Bool.{cases_eq, false≢true}
use Rattle.std.proofs.lemmas.List.{append-nil, get_or-set_same, get_or-set_other, get_or_append_left, get_or_default, take_more, take_all, map-append}
use Rattle.std.proofs.lemmas.List.Elements.{All-nil, All-cons, All-append, All-weaker, All-map, All-contains, Contains-append_left, Contains-append_right}
use Rattle.std.proofs.lemmas.List.Sums.{sum_by-set}
use Rattle.graph.specs.declared.circuit.Gate.{Gate}
use Rattle.graph.specs.declared.circuit.Lit.{Lit}
use Rattle.graph.specs.declared.parts.Parts.{Parts}
use Rattle.graph.proofs.Evaluation.{All-unmap}
use Rattle.graph.specs.Circuits.{variable, place, value_of, Fires}
use Rattle.cones.specs.declared.reach.Reach.{Reach}
use Rattle.cones.specs.declared.reach.Reach.TheVariants.{Cone, Justification}
use Rattle.cones.specs.Marks.{IsMarked, IsJustified, IsCone}
use Rattle.cones.specs.Reach.{IsSettled, IsClosed, IsInside, IsFrom, Grows, IsExtended, idle}

-- a variable that was marked
pub grows_same : (v : ℕ) (t : List Bool) (list : List ℕ) → IsMarked t v → Grows (v ∷ []) t list t list
grows_same v t list on = record {
  added = [];
  places = refl;
  kept = λ u h. h;
  marked = All-cons (IsMarked t) v [] on (All-nil (IsMarked t));
  is = sym (append-nil list);
  only = All-nil _;
  listed = λ u h. inl h;
  rest = omega arith;
}

-- a variable that was not
pub grows_one : (v : ℕ) (t : List Bool) (list : List ℕ) → v < length t → place t v ≡ false → Grows (v ∷ []) t list (set t v true) (list ++ v ∷ [])
grows_one v t list v_in off =
    let on : IsMarked (set t v true) v = get_or-set_same t v true false v_in in
    record {
      added = v ∷ [];
      places = length-set t v true;
      kept = λ u h. elim (cases_eq u v) [
        | inl same ↦ subst (IsMarked (set t v true)) (sym same) on
        | inr apart ↦ get_or-set_other t v u true false apart ∙ h
      ];
      marked = All-cons (IsMarked (set t v true)) v [] on (All-nil (IsMarked (set t v true)));
      is = refl;
      only = All-cons (λ u. (u < length t) × IsMarked (set t v true) u) v [] (v_in, on) (All-nil _);
      listed = λ u h. elim (cases_eq u v) [
        | inl same ↦ inr (0, omega arith, sym same)
        | inr apart ↦ inl (sym (get_or-set_other t v u true false apart) ∙ h)
      ];
      rest =
          let e : sum_by idle (set t v true) + idle (place t v) ≡ sum_by idle t + 0 = sum_by-set idle t v true false v_in in
          let f : sum_by idle (set t v true) + 1 ≡ sum_by idle t + 0 = rw off at e in
          omega (arith, f);
    }

-- one after the other
pub grows_then : (vs ws : List ℕ) (t u x : List Bool) (list longer longest : List ℕ) → Grows vs t list u longer → Grows ws u longer x longest → Grows (vs ++ ws) t list x longest
grows_then vs ws t u x list longer longest h k = record {
  added = h.added ++ k.added;
  places = k.places ∙ h.places;
  kept = λ v on. k.kept v (h.kept v on);
  marked = All-append (IsMarked x) vs ws (All-weaker (IsMarked u) (IsMarked x) k.kept vs h.marked) k.marked;
  is = k.is ∙ ap (λ q. q ++ k.added) h.is ∙ append_assoc list h.added k.added;
  only = All-append (λ v. (v < length t) × IsMarked x v) h.added k.added
      (All-weaker (λ v. (v < length t) × IsMarked u v) (λ v. (v < length t) × IsMarked x v) (λ v p. (p.0, k.kept v p.1)) h.added h.only)
      (All-weaker (λ v. (v < length u) × IsMarked x v) (λ v. (v < length t) × IsMarked x v) (λ v p. (let lt : v < length u = p.0 in omega (arith, lt, h.places), p.1)) k.added k.only);
  listed = λ v on. elim (k.listed v on) [
    | inl before ↦ elim (h.listed v before) [
      | inl first ↦ inl first
      | inr found ↦ inr (Contains-append_left h.added k.added v found)
    ]
    | inr found ↦ inr (Contains-append_right h.added k.added v found)
  ];
  rest = omega (arith, h.rest, k.rest, length-append h.added k.added);
}

-- fewer variables
pub grows_less : (vs : List ℕ) (t u : List Bool) (list longer : List ℕ) → Grows vs t list u longer → Grows [] t list u longer
grows_less vs t u list longer h = record {
  added = h.added;
  places = h.places;
  kept = h.kept;
  marked = All-nil (IsMarked u);
  is = h.is;
  only = h.only;
  listed = h.listed;
  rest = h.rest;
}

pub grows_none : (t : List Bool) (list : List ℕ) → Grows [] t list t list
grows_none t list = record {
  added = [];
  places = refl;
  kept = λ u h. h;
  marked = All-nil (IsMarked t);
  is = sym (append-nil list);
  only = All-nil _;
  listed = λ u h. inl h;
  rest = omega arith;
}

-- where new marks come from
pub from_same : (us : List ℕ) (t : List Bool) → IsFrom us t t
from_same us t v on = inl on

pub from_one : (v : ℕ) (t : List Bool) → IsFrom (v ∷ []) t (set t v true)
from_one v t u on = elim (cases_eq u v) [
  | inl same ↦ inr (0, omega arith, sym same)
  | inr apart ↦ inl (sym (get_or-set_other t v u true false apart) ∙ on)
]

pub from_then : (us vs : List ℕ) (t u x : List Bool) → IsFrom us t u → IsFrom vs u x → IsFrom (us ++ vs) t x
from_then us vs t u x h k v on = elim (k v on) [
  | inl before ↦ elim (h v before) [ inl first ↦ inl first | inr found ↦ inr (Contains-append_left us vs v found) ]
  | inr found ↦ inr (Contains-append_right us vs v found)
]

pub from_more : (lits : List Lit) (n : ℕ) (d : Lit) (t u x : List Bool) → n < length lits → IsFrom (map variable (take n lits)) t u → IsFrom (variable (get_or lits n d) ∷ []) u x →
    IsFrom (map variable (take (n + 1) lits)) t x
from_more lits n d t u x n_in h k =
    let e : map variable (take (n + 1) lits) ≡ map variable (take n lits) ++ variable (get_or lits n d) ∷ [] =
    ap (map variable) (take_more lits n d n_in) ∙ map-append variable (take n lits) (get_or lits n d ∷ []) in
    subst (λ q. IsFrom q t x) (sym e) (from_then (map variable (take n lits)) (variable (get_or lits n d) ∷ []) t u x h k)

pub from_inside : (us : List ℕ) (t u d : List Bool) → IsFrom us t u → All (IsMarked d) us → IsInside t d → IsInside u d
from_inside us t u d from all before v on = elim (from v on) [ inl first ↦ before v first | inr found ↦ All-contains (IsMarked d) us v all found ]

-- what a gate has it keeps
pub settled_later : (r : Reach) (w t u : List Bool) (g : Gate) → ((v : ℕ) → IsMarked t v → IsMarked u v) → IsSettled r w t g → IsSettled r w u g
settled_later Cone w t u g kept h = (kept (variable g.rhs0) h.0, kept (variable g.rhs1) h.1)
settled_later Justification w t u g kept h = record {
  both = λ on. let b = h.both on in (kept (variable g.rhs0) b.0, kept (variable g.rhs1) b.1);
  either = λ off. elim (h.either off) [ inl e ↦ inl (kept (variable g.rhs0) e.0, e.1) | inr e ↦ inr (kept (variable g.rhs1) e.0, e.1) ];
}

not_both : (x y z : Bool) → x ≡ (y && z) → x ≡ true → (y ≡ false) ⊎ (z ≡ false) → ⊥
not_both x true z e on (inl off) = cc
not_both x false z e on (inl off) = cc
not_both x true z e on (inr off) = cc
not_both x false z e on (inr off) = cc

pub settled_true : (w t : List Bool) (g : Gate) → Fires w g → value_of w g.rhs0 ≡ true → value_of w g.rhs1 ≡ true → IsMarked t (variable g.rhs0) → IsMarked t (variable g.rhs1) → IsJustified (IsMarked t) w g
settled_true w t g fires first second on0 on1 = record {
  both = λ _. (on0, on1);
  either = λ off. let e : value_of w g.lhs ≡ (true && true) = fires ∙ (rw (first, second) refl) in absurd (false≢true (sym off ∙ e));
}

pub settled_first : (w t : List Bool) (g : Gate) → Fires w g → value_of w g.rhs0 ≡ false → IsMarked t (variable g.rhs0) → IsJustified (IsMarked t) w g
settled_first w t g fires off0 on0 = record {
  both = λ on. absurd (not_both (value_of w g.lhs) (value_of w g.rhs0) (value_of w g.rhs1) fires on (inl off0));
  either = λ off. inl (on0, off0);
}

pub settled_second : (w t : List Bool) (g : Gate) → Fires w g → value_of w g.rhs1 ≡ false → IsMarked t (variable g.rhs1) → IsJustified (IsMarked t) w g
settled_second w t g fires off1 on1 = record {
  both = λ on. absurd (not_both (value_of w g.lhs) (value_of w g.rhs0) (value_of w g.rhs1) fires on (inr off1));
  either = λ off. inr (on1, off1);
}

-- and then nothing more that is asked for
pub grows_after : (vs : List ℕ) (t u x : List Bool) (list longer longest : List ℕ) → Grows vs t list u longer → Grows [] u longer x longest → Grows vs t list x longest
grows_after vs t u x list longer longest h k = subst (λ q. Grows q t list x longest) (append-nil vs) (grows_then vs [] t u x list longer longest h k)

-- the marks have grown, and the gates of the first n of the list have what they want
pub record IsClosing (m : Parts) (r : Reach) (w : List Bool) (wanted : List Lit) (t u : List Bool) (list : List ℕ) (n : ℕ) : Type 0 where
  pub grown : Grows (map variable wanted) t [] u list
  pub done : (k : ℕ) → k < n → All (λ g. variable g.lhs ≡ get_or list k 0 → IsSettled r w u g) m.gates
  pub within : n ≤ length list
  pub inside : (d : List Bool) → IsCone m (IsMarked d) → IsInside t d → All (λ a. IsMarked d (variable a)) wanted → IsInside u d

pub closing_none : (m : Parts) (r : Reach) (w : List Bool) (wanted : List Lit) (t u : List Bool) (list : List ℕ) → Grows (map variable wanted) t [] u list → IsFrom (map variable wanted) t u →
    IsClosing m r w wanted t u list 0
closing_none m r w wanted t u list h from = record {
  grown = h;
  done = λ k k_in. absurd (omega arith);
  within = omega arith;
  inside = λ d cone before all. from_inside (map variable wanted) t u d from (All-map (IsMarked d) variable wanted all) before;
}

pub closing_more : (m : Parts) (r : Reach) (w : List Bool) (wanted : List Lit) (t u x : List Bool) (list longer : List ℕ) (n : ℕ) → IsClosing m r w wanted t u list n → n < length list →
    Grows [] u list x longer → All (λ g. variable g.lhs ≡ get_or list n 0 → IsSettled r w x g) m.gates →
    ((d : List Bool) → IsCone m (IsMarked d) → IsInside u d → IsInside x d) → IsClosing m r w wanted t x longer (n + 1)
closing_more m r w wanted t u x list longer n h n_in grows settled inside =
    let same : (k : ℕ) → k < length list → get_or longer k 0 ≡ get_or list k 0 = λ k k_in. ap (λ q. get_or q k 0) grows.is ∙ get_or_append_left list grows.added 0 k k_in in
    record {
      grown = grows_after (map variable wanted) t u x [] list longer h.grown grows;
      done = below_more _ _
          (λ k k_in i d i_in e. settled_later r w u x (get_or m.gates i d) grows.kept (h.done k k_in i d i_in (e ∙ same k (omega (arith, h.within)))))
          (λ i d i_in e. settled i d i_in (e ∙ same n n_in));
      within = omega (arith, ap length grows.is, length-append list grows.added);
      inside = λ d cone before all. inside d cone (h.inside d cone before all);
    }

-- what is listed is marked
pub closing_listed : (m : Parts) (r : Reach) (w : List Bool) (wanted : List Lit) (t u : List Bool) (list : List ℕ) (n : ℕ) → IsClosing m r w wanted t u list n → n < length list →
    IsMarked u (get_or list n 0)
closing_listed m r w wanted t u list n h n_in =
    (subst (All (λ v. (v < length t) × IsMarked u v)) (sym h.grown.is) h.grown.only n 0 n_in).1

pub closing_end : (m : Parts) (r : Reach) (w : List Bool) (wanted : List Lit) (t u : List Bool) (list : List ℕ) (n : ℕ) → IsClosed m r w t → length list ≤ n →
    IsClosing m r w wanted t u list n → IsExtended m r w wanted t u list
closing_end m r w wanted t u list n closed past h = let grown = h.grown in record {
  places = grown.places;
  kept = grown.kept;
  marked = All-unmap (IsMarked u) variable wanted grown.marked;
  listed = λ v on. elim (grown.listed v on) [ inl before ↦ inl before | inr found ↦ inr (subst (λ q. Contains q v) (sym grown.is) found) ];
  only = subst (All (λ v. (v < length t) × IsMarked u v)) (sym grown.is) grown.only;
  inside = h.inside;
  closed = λ k d k_in on.
      let g : Gate = get_or m.gates k d in
      elim (grown.listed (variable g.lhs) on) [
        | inl before ↦ settled_later r w t u g grown.kept (closed k d k_in before)
        | inr found ↦
            let there : Contains list (variable g.lhs) = subst (λ q. Contains q (variable g.lhs)) (sym grown.is) found in
            h.done there.0 (omega (arith, there.1)) k d k_in (sym (get_or_default list there.0 0 (variable g.lhs) there.1 ∙ there.2))
      ];
}

-- one more of the literals
pub grows_more : (lits : List Lit) (n : ℕ) (d : Lit) (t u x : List Bool) (list longer longest : List ℕ) → n < length lits → Grows (map variable (take n lits)) t list u longer →
    Grows (variable (get_or lits n d) ∷ []) u longer x longest → Grows (map variable (take (n + 1) lits)) t list x longest
grows_more lits n d t u x list longer longest n_in h k =
    let e : map variable (take (n + 1) lits) ≡ map variable (take n lits) ++ variable (get_or lits n d) ∷ [] =
    ap (map variable) (take_more lits n d n_in) ∙ map-append variable (take n lits) (get_or lits n d ∷ []) in
    subst (λ q. Grows q t list x longest) (sym e) (grows_then (map variable (take n lits)) (variable (get_or lits n d) ∷ []) t u x list longer longest h k)

pub less_left : (t u : List Bool) (list longer : List ℕ) (n : ℕ) → n < length list → Grows [] t list u longer →
    sum_by idle u + (length longer - (n + 1)) < sum_by idle t + (length list - n)
less_left t u list longer n n_in h = omega (arith, h.rest, ap length h.is, length-append list h.added)

pub from_second : (v w : ℕ) (t u : List Bool) → IsFrom (v ∷ []) t u → IsFrom (w ∷ v ∷ []) t u
from_second v w t u h x on = elim (h x on) [ inl before ↦ inl before | inr found ↦ inr (Contains-append_right (w ∷ []) (v ∷ []) x found) ]

pub from_first : (v w : ℕ) (t u : List Bool) → IsFrom (v ∷ []) t u → IsFrom (v ∷ w ∷ []) t u
from_first v w t u h x on = elim (h x on) [ inl before ↦ inl before | inr found ↦ inr (Contains-append_left (v ∷ []) (w ∷ []) x found) ]

pub from_all : (lits : List Lit) (n : ℕ) (t u : List Bool) → length lits ≤ n → IsFrom (map variable (take n lits)) t u → IsFrom (map variable lits) t u
from_all lits n t u past h = subst (λ q. IsFrom (map variable q) t u) (take_all n lits past) h
