-- Clauses in a flat list are moved together, or shortened.
use Rattle.std.proofs.Common.{◌≡◌, ◌∙◌, ℕ, zero, suc, ◌+◌, ◌-◌, ◌≤◌, ◌<◌, List, [], ◌∷◌, ◌++◌, take, drop, length, get_or, set, All, Contains, ℤ, refl, sym, ap, subst, arith, add-one, get_or-set_other, true, false, nat_lt}
use Rattle.std.specs.List.{CopiedTo, SameBelow, SameFrom}
use Rattle.std.proofs.Math.Seq.{take-suc-set, drop-cons}
use Rattle.std.proofs.lemmas.Bool.Decides.{nat_tests}
use Rattle.std.proofs.lemmas.List.{map-append, same_lists, length-take-le, length-drop, length-set, take_more, take_all, get_or-take, get_or-drop}
use Rattle.std.proofs.lemmas.List.Elements.{All-push, All-head, All-tail, All-nil, All-cons, Contains-get_or}
use Rattle.lrat.specs.Places.{kept_of, kept_at, AreInOrder}
use Rattle.lrat.specs.declared.place.Place.{Place}

-- ---- the order

abbrev pub EndsBy : ℕ → Place → Type 0
EndsBy e p = p.start + p.len ≤ e

pub from_lower : (f g : ℕ) (ps : List Place) → f ≤ g → AreInOrder g ps → AreInOrder f ps
from_lower f g [] le o = tt
from_lower f g (p ∷ ps) le o = (let first = o.0 in omega arith, o.1)

pub in_order_push : (f e : ℕ) (ps : List Place) (p : Place) → AreInOrder f ps → All (EndsBy e) ps → f ≤ e → e ≤ p.start → AreInOrder f (ps ++ p ∷ [])
in_order_push f e [] p o ends fe le = (omega arith, tt)
in_order_push f e (q ∷ qs) p o ends fe le = (o.0, in_order_push (q.start + q.len) e qs p o.1 (All-tail (EndsBy e) q qs ends) (All-head (EndsBy e) q qs ends) le)

-- a place that ends earlier
pub in_order_set : (f : ℕ) (ps : List Place) (i : ℕ) (p q : Place) → q ≡ get_or ps i q → i < length ps → p.start ≡ q.start → p.len ≤ q.len → AreInOrder f ps → AreInOrder f (set ps i p)
in_order_set f [] i p q at lt e le o = absurd (omega arith)
in_order_set f (r ∷ ps) zero p q at lt e le o =
    let s : p.start ≡ r.start = e ∙ ap (λ (u : Place). u.start) at in
    let n : p.len ≤ r.len = subst (λ (m : ℕ). p.len ≤ m) (ap (λ (u : Place). u.len) at) le in
    (let first = o.0 in omega arith, from_lower (p.start + p.len) (r.start + r.len) ps (omega arith) o.1)
in_order_set f (r ∷ ps) (suc i) p q at lt e le o = (o.0, in_order_set (r.start + r.len) ps i p q at (omega arith) e le o.1)

pub in_order_take : (f n : ℕ) (ps : List Place) → AreInOrder f ps → AreInOrder f (take n ps)
in_order_take f zero ps o = tt
in_order_take f (suc n) [] o = tt
in_order_take f (suc n) (p ∷ ps) o = (o.0, in_order_take (p.start + p.len) n ps o.1)

-- the place at an index begins where the earlier ones have ended
pub order_at : (f i : ℕ) (ps : List Place) (d : Place) → i < length ps → AreInOrder f ps → f ≤ (get_or ps i d).start
order_at f i [] d lt o = absurd (omega arith)
order_at f zero (p ∷ ps) d lt o = o.0
order_at f (suc i) (p ∷ ps) d lt o = let le = order_at (p.start + p.len) i ps d (omega arith) o.1 in let first = o.0 in omega arith

pub order_from : (f i : ℕ) (ps : List Place) (d : Place) → i < length ps → AreInOrder f ps → AreInOrder (get_or ps i d).start (drop i ps)
order_from f i [] d lt o = absurd (omega arith)
order_from f zero (p ∷ ps) d lt o = (omega arith, o.1)
order_from f (suc i) (p ∷ ps) d lt o = order_from (p.start + p.len) i ps d (omega arith) o.1

pub ends_before : (f i : ℕ) (ps : List Place) (d : Place) → i < length ps → AreInOrder f ps → All (EndsBy (get_or ps i d).start) (take i ps)
ends_before f i [] d lt o = absurd (omega arith)
ends_before f zero (p ∷ ps) d lt o = All-nil (EndsBy p.start)
ends_before f (suc i) (p ∷ ps) d lt o =
    All-cons (EndsBy (get_or ps i d).start) p (take i ps) (order_at (p.start + p.len) i ps d (omega arith) o.1) (ends_before (p.start + p.len) i ps d (omega arith) o.1)

pub by_lt : {P : Type 0} (a b : ℕ) → (a < b → P) → (b ≤ a → P) → P
by_lt {P = P} a b y n = elim (nat_lt a b) as (λ r. nat_lt a b ≡ r → P) [ true ↦ λ e. y (grind (arith, nat_tests)) | false ↦ λ e. n (grind (arith, nat_tests)) ] refl

-- ---- parts of lists

part_moved : (xs ys : List ℤ) (s t n : ℕ) → s + n ≤ length xs → t + n ≤ length ys → ((k : ℕ) (d : ℤ) → k < n → get_or ys (t + k) d ≡ get_or xs (s + k) d) → take n (drop t ys) ≡ take n (drop s xs)
part_moved xs ys s t n inx iny same =
    let a : length (take n (drop t ys)) ≡ n = length-take-le n (drop t ys) (omega (arith, length-drop t ys)) in
    let b : length (take n (drop s xs)) ≡ n = length-take-le n (drop s xs) (omega (arith, length-drop s xs)) in
    same_lists (take n (drop t ys)) (take n (drop s xs)) (a ∙ sym b)
    (λ k d lt.
    let kn : k < n = omega arith in
    get_or-take n (drop t ys) k d kn ∙ get_or-drop t ys k d ∙ same k d kn ∙ sym (get_or-take n (drop s xs) k d kn ∙ get_or-drop s xs k d))

below_same : (xs ys : List ℤ) (e : ℕ) (ps : List Place) → length ys ≡ length xs → e ≤ length xs → SameBelow xs ys e → All (EndsBy e) ps → kept_at ys ps ≡ kept_at xs ps
below_same xs ys e [] len fits same ends = refl
below_same xs ys e (p ∷ ps) len fits same ends =
    let here : p.start + p.len ≤ e = All-head (EndsBy e) p ps ends in
    let part : take p.len (drop p.start ys) ≡ take p.len (drop p.start xs) = part_moved xs ys p.start p.start p.len (omega arith) (omega arith) (λ k d lt. same (p.start + k) d (omega arith)) in
    let rest = below_same xs ys e ps len fits same (All-tail (EndsBy e) p ps ends) in
    cc

copied_all : (P : ℤ → Type 0) (xs ys : List ℤ) (src dest n : ℕ) → length ys ≡ length xs → src + n ≤ length xs → CopiedTo xs ys src dest n → SameBelow xs ys dest → SameFrom xs ys (dest + n) → All P xs → All P ys
copied_all P xs ys src dest n len inside copied below from all k d lt =
    by_lt k dest
    (λ low. subst P (sym (below k d low)) (all k d (omega arith)))
    (λ ge. by_lt k (dest + n)
    (λ mid. subst P (sym (copied k d ge mid)) (all (src + (k - dest)) d (omega arith)))
    (λ high. subst P (sym (from k d high)) (all k d (omega arith))))

-- ---- the loop

-- the first places are moved together up to e, and the others are as they were
pub record IsClosing (xs now : List ℤ) (ps qs : List Place) (i e : ℕ) : Type 0 where
  pub from : ℕ
  pub low : e ≤ from
  pub later : AreInOrder from (drop i ps)
  pub rest : (k : ℕ) (d : Place) → i ≤ k → get_or qs k d ≡ get_or ps k d
  pub same_from : SameFrom xs now from
  pub same_literals : length now ≡ length xs
  pub same_places : length qs ≡ length ps
  pub done : kept_at now (take i qs) ≡ kept_at xs (take i ps)
  pub ends : All (EndsBy e) (take i qs)
  pub in_order : AreInOrder 0 (take i qs)
  pub fits : e ≤ length xs
  pub among : All (Contains xs) now

pub closing_none : (xs : List ℤ) (ps : List Place) (i e : ℕ) → AreInOrder 0 ps → All (EndsBy e) (take i ps) → AreInOrder e (drop i ps) → e ≤ length xs → IsClosing xs xs ps ps i e
closing_none xs ps i e o before later le = record {
  from = e;
  low = omega arith;
  later = later;
  rest = λ k d le. refl;
  same_from = λ k d le. refl;
  same_literals = refl;
  same_places = refl;
  done = refl;
  ends = before;
  in_order = in_order_take 0 i ps o;
  fits = le;
  among = λ k d lt. Contains-get_or xs k d lt;
}

pub closing_more : (xs now next : List ℤ) (ps qs : List Place) (i e : ℕ) (p : Place) → i < length ps → All (λ (q : Place). q.start + q.len ≤ length xs) ps → p ≡ get_or qs i p
    → length next ≡ length now → CopiedTo now next p.start e p.len → SameBelow now next e → SameFrom now next (e + p.len)
    → IsClosing xs now ps qs i e → IsClosing xs next ps (set qs i (record { start = e; len = p.len; id = p.id; live = p.live })) (i + 1) (e + p.len)
closing_more xs now next ps qs i e p lt inside at len copied below from c =
    let here : p ≡ get_or ps i p = at ∙ c.rest i p (omega arith) in
    let cons : drop i ps ≡ p ∷ drop (suc i) ps = drop-cons ps i p lt ∙ ap (λ (q : Place). q ∷ drop (suc i) ps) (sym here) in
    let o : AreInOrder c.from (p ∷ drop (suc i) ps) = subst (AreInOrder c.from) cons c.later in
    let first : c.from ≤ p.start = o.0 in
    let low : e ≤ c.from = c.low in
    let within : p.start + p.len ≤ length xs = subst (λ (q : Place). q.start + q.len ≤ length xs) (sym here) (inside i p lt) in
    let moved : Place = record { start = e; len = p.len; id = p.id; live = p.live } in
    let sn : length now ≡ length xs = c.same_literals in
    let sp : length qs ≡ length ps = c.same_places in
    let more : take (i + 1) (set qs i moved) ≡ take i qs ++ moved ∷ [] = rw add-one (take-suc-set qs i moved (omega arith)) in
    let part : take p.len (drop e next) ≡ take p.len (drop p.start xs) = part_moved xs next p.start e p.len within (omega arith)
    (λ k d kl.
    let same : p.start + (e + k - e) ≡ p.start + k = omega arith in
    copied (e + k) d (omega arith) (omega arith) ∙ ap (λ (j : ℕ). get_or now j d) same ∙ c.same_from (p.start + k) d (omega arith)) in
    let before : kept_at next (take i qs) ≡ kept_at xs (take i ps) = below_same now next e (take i qs) len (omega (arith, c.fits)) below c.ends ∙ c.done in
    record {
      from = p.start + p.len;
      low = omega arith;
      later = rw add-one o.1;
      rest = λ k d le. get_or-set_other qs i k moved d (λ same. omega arith) ∙ c.rest k d (omega arith);
      same_from = λ k d le. from k d (omega arith) ∙ c.same_from k d (omega arith);
      same_literals = len ∙ sn;
      same_places = length-set qs i moved ∙ sp;
      done = ap (kept_at next) more ∙ map-append (kept_of next) (take i qs) (moved ∷ [])
          ∙ ap (λ ks. ks ++ kept_of next moved ∷ []) before
          ∙ ap (λ cl. kept_at xs (take i ps) ++ record { id = p.id; live = p.live; clause = cl } ∷ []) part
          ∙ sym (ap (kept_at xs) (take_more ps i p lt ∙ ap (λ (q : Place). take i ps ++ q ∷ []) (sym here)) ∙ map-append (kept_of xs) (take i ps) (p ∷ []));
      ends = subst (All (EndsBy (e + p.len))) (sym more) (All-push (EndsBy (e + p.len)) (take i qs) moved (λ k d kl. let le = c.ends k d kl in omega arith) (omega arith));
      in_order = subst (AreInOrder 0) (sym more) (in_order_push 0 e (take i qs) moved c.in_order c.ends (omega arith) (omega arith));
      fits = omega arith;
      among = copied_all (Contains xs) now next p.start e p.len len (omega arith) copied below from c.among;
    }

pub shorter : (xs : List ℤ) (e : ℕ) (ps : List Place) → e ≤ length xs → All (EndsBy e) ps → kept_at (take e xs) ps ≡ kept_at xs ps
shorter xs e [] fits ends = refl
shorter xs e (p ∷ ps) fits ends =
    let here : p.start + p.len ≤ e = All-head (EndsBy e) p ps ends in
    let short : length (take e xs) ≡ e = length-take-le e xs fits in
    let part : take p.len (drop p.start (take e xs)) ≡ take p.len (drop p.start xs) = part_moved xs (take e xs) p.start p.start p.len (omega arith) (omega arith) (λ k d lt. get_or-take e xs (p.start + k) d (omega arith)) in
    let rest = shorter xs e ps fits (All-tail (EndsBy e) p ps ends) in
    cc

-- all places are moved: the list up to e is enough
pub closed_up : (xs now : List ℤ) (ps qs : List Place) (i e : ℕ) → length ps ≤ i → IsClosing xs now ps qs i e → kept_at (take e now) qs ≡ kept_at xs ps
closed_up xs now ps qs i e le c =
    let sn : length now ≡ length xs = c.same_literals in
    let sp : length qs ≡ length ps = c.same_places in
    let fits : e ≤ length xs = c.fits in
    let all : take i qs ≡ qs = take_all i qs (omega arith) in
    let ends : All (EndsBy e) qs = subst (All (EndsBy e)) all c.ends in
    shorter now e qs (omega arith) ends ∙ ap (kept_at now) (sym all) ∙ c.done ∙ ap (kept_at xs) (take_all i ps le)
