-- Clauses are moved together.
use Rattle.std.proofs.Common.{◌≡◌, ◌∙◌, ℕ, zero, suc, ◌+◌, ◌-◌, ◌≤◌, ◌<◌, List, [], ◌∷◌, ◌++◌, take, drop, length, get_or, set, All, Contains, ℤ, refl, sym, ap, subst, arith, add-one, get_or-set_other}
use Rattle.std.specs.List.{CopiedTo, SameBelow, SameFrom}
use Rattle.std.proofs.Math.Seq.{take-suc-set, drop-cons}
use Rattle.std.proofs.lemmas.List.{map-append, same_lists, length-take-le, length-drop, length-set, take_more, take_all, get_or-take, get_or-drop}
use Rattle.std.proofs.lemmas.List.Elements.{All-push, All-head, All-tail, All-nil, Contains-get_or}
use Rattle.cdcl_kernel.specs.ClauseRefs.{part_of, parts_at, AreInOrder}
use Rattle.cdcl_kernel.specs.declared.clause_ref.ClauseRef.{ClauseRef}
use Rattle.cdcl_kernel.proofs.Among.{by_lt}

-- ---- the order

abbrev EndsBy : ℕ → ClauseRef → Type 0
EndsBy e p = p.start + p.len ≤ e

from_lower : (f g : ℕ) (ps : List ClauseRef) → f ≤ g → AreInOrder g ps → AreInOrder f ps
from_lower f g [] le o = tt
from_lower f g (p ∷ ps) le o = (let first = o.0 in omega arith, o.1)

pub in_order_push : (f e : ℕ) (ps : List ClauseRef) (p : ClauseRef) → AreInOrder f ps → All (EndsBy e) ps → f ≤ e → e ≤ p.start → AreInOrder f (ps ++ p ∷ [])
in_order_push f e [] p o ends fe le = (omega arith, tt)
in_order_push f e (q ∷ qs) p o ends fe le = (o.0, in_order_push (q.start + q.len) e qs p o.1 (All-tail (EndsBy e) q qs ends) (All-head (EndsBy e) q qs ends) le)

-- a clause that ends earlier
pub in_order_set : (f : ℕ) (ps : List ClauseRef) (i : ℕ) (p q : ClauseRef) → q ≡ get_or ps i q → i < length ps → p.start ≡ q.start → p.len ≤ q.len → AreInOrder f ps → AreInOrder f (set ps i p)
in_order_set f [] i p q at lt e le o = absurd (omega arith)
in_order_set f (r ∷ ps) zero p q at lt e le o =
    let s : p.start ≡ r.start = e ∙ ap (λ (u : ClauseRef). u.start) at in
    let n : p.len ≤ r.len = subst (λ (m : ℕ). p.len ≤ m) (ap (λ (u : ClauseRef). u.len) at) le in
    (let first = o.0 in omega arith, from_lower (p.start + p.len) (r.start + r.len) ps (omega arith) o.1)
in_order_set f (r ∷ ps) (suc i) p q at lt e le o = (o.0, in_order_set (r.start + r.len) ps i p q at (omega arith) e le o.1)

-- ---- parts of lists

part_moved : (xs ys : List ℤ) (s t n : ℕ) → s + n ≤ length xs → t + n ≤ length ys → ((k : ℕ) (d : ℤ) → k < n → get_or ys (t + k) d ≡ get_or xs (s + k) d) → take n (drop t ys) ≡ take n (drop s xs)
part_moved xs ys s t n inx iny same =
    let a : length (take n (drop t ys)) ≡ n = length-take-le n (drop t ys) (omega (arith, length-drop t ys)) in
    let b : length (take n (drop s xs)) ≡ n = length-take-le n (drop s xs) (omega (arith, length-drop s xs)) in
    same_lists (take n (drop t ys)) (take n (drop s xs)) (a ∙ sym b)
    (λ k d lt.
    let kn : k < n = omega arith in
    get_or-take n (drop t ys) k d kn ∙ get_or-drop t ys k d ∙ same k d kn ∙ sym (get_or-take n (drop s xs) k d kn ∙ get_or-drop s xs k d))

below_same : (xs ys : List ℤ) (e : ℕ) (ps : List ClauseRef) → length ys ≡ length xs → e ≤ length xs → SameBelow xs ys e → All (EndsBy e) ps → parts_at ys ps ≡ parts_at xs ps
below_same xs ys e [] len fits same ends = refl
below_same xs ys e (p ∷ ps) len fits same ends =
    let here : p.start + p.len ≤ e = All-head (EndsBy e) p ps ends in
    let part : take p.len (drop p.start ys) ≡ take p.len (drop p.start xs) = part_moved xs ys p.start p.start p.len (omega arith) (omega arith) (λ k d lt. same (p.start + k) d (omega arith)) in
    let rest = below_same xs ys e ps len fits same (All-tail (EndsBy e) p ps ends) in
    cc

copied_all : (P : ℤ → Type 0) (xs ys : List ℤ) (src dest n : ℕ) → length ys ≡ length xs → src + n ≤ length xs → CopiedTo xs ys src dest n → SameBelow xs ys dest → SameFrom xs ys (dest + n) → All P xs → All P ys
copied_all P xs ys src dest n len inside copied below from all k d lt =
    by_lt k dest
    (λ low. subst P (sym (below k d low)) (all k d (omega arith)))
    (λ ge. by_lt k (dest + n)
    (λ mid. subst P (sym (copied k d ge mid)) (all (src + (k - dest)) d (omega arith)))
    (λ high. subst P (sym (from k d high)) (all k d (omega arith))))

-- ---- the loop

-- the first clauses are moved together up to e, and the others are as they were
pub record IsClosing (xs now : List ℤ) (ps qs : List ClauseRef) (i e : ℕ) : Type 0 where
  pub from : ℕ
  pub low : e ≤ from
  pub later : AreInOrder from (drop i ps)
  pub rest : (k : ℕ) (d : ClauseRef) → i ≤ k → get_or qs k d ≡ get_or ps k d
  pub same_from : SameFrom xs now from
  pub same_literals : length now ≡ length xs
  pub same_refs : length qs ≡ length ps
  pub done : parts_at now (take i qs) ≡ parts_at xs (take i ps)
  pub ends : All (EndsBy e) (take i qs)
  pub in_order : AreInOrder 0 (take i qs)
  pub fits : e ≤ length xs
  pub among : All (Contains xs) now

pub closing_none : (xs : List ℤ) (ps : List ClauseRef) → AreInOrder 0 ps → IsClosing xs xs ps ps 0 0
closing_none xs ps o = record {
  from = 0;
  low = omega arith;
  later = o;
  rest = λ k d le. refl;
  same_from = λ k d le. refl;
  same_literals = refl;
  same_refs = refl;
  done = refl;
  ends = All-nil (EndsBy 0);
  in_order = tt;
  fits = omega arith;
  among = λ k d lt. Contains-get_or xs k d lt;
}

pub closing_more : (xs now next : List ℤ) (ps qs : List ClauseRef) (i e : ℕ) (p : ClauseRef) → i < length ps → All (λ (q : ClauseRef). q.start + q.len ≤ length xs) ps → p ≡ get_or qs i p
    → length next ≡ length now → CopiedTo now next p.start e p.len → SameBelow now next e → SameFrom now next (e + p.len)
    → IsClosing xs now ps qs i e → IsClosing xs next ps (set qs i (record { start = e; len = p.len })) (i + 1) (e + p.len)
closing_more xs now next ps qs i e p lt inside at len copied below from c =
    let here : p ≡ get_or ps i p = at ∙ c.rest i p (omega arith) in
    let cons : drop i ps ≡ p ∷ drop (suc i) ps = drop-cons ps i p lt ∙ ap (λ (q : ClauseRef). q ∷ drop (suc i) ps) (sym here) in
    let o : AreInOrder c.from (p ∷ drop (suc i) ps) = subst (AreInOrder c.from) cons c.later in
    let first : c.from ≤ p.start = o.0 in
    let low : e ≤ c.from = c.low in
    let within : p.start + p.len ≤ length xs = subst (λ (q : ClauseRef). q.start + q.len ≤ length xs) (sym here) (inside i p lt) in
    let moved : ClauseRef = record { start = e; len = p.len } in
    let sn : length now ≡ length xs = c.same_literals in
    let sp : length qs ≡ length ps = c.same_refs in
    let more : take (i + 1) (set qs i moved) ≡ take i qs ++ moved ∷ [] = rw add-one (take-suc-set qs i moved (omega arith)) in
    let part : take p.len (drop e next) ≡ take p.len (drop p.start xs) = part_moved xs next p.start e p.len within (omega arith)
    (λ k d kl.
    let same : p.start + (e + k - e) ≡ p.start + k = omega arith in
    copied (e + k) d (omega arith) (omega arith) ∙ ap (λ (j : ℕ). get_or now j d) same ∙ c.same_from (p.start + k) d (omega arith)) in
    let before : parts_at next (take i qs) ≡ parts_at xs (take i ps) = below_same now next e (take i qs) len (omega (arith, c.fits)) below c.ends ∙ c.done in
    record {
      from = p.start + p.len;
      low = omega arith;
      later = rw add-one o.1;
      rest = λ k d le. get_or-set_other qs i k moved d (λ same. omega arith) ∙ c.rest k d (omega arith);
      same_from = λ k d le. from k d (omega arith) ∙ c.same_from k d (omega arith);
      same_literals = len ∙ sn;
      same_refs = length-set qs i moved ∙ sp;
      done = ap (parts_at next) more ∙ map-append (part_of next) (take i qs) (moved ∷ [])
          ∙ ap (λ ks. ks ++ part_of next moved ∷ []) before
          ∙ ap (λ cl. parts_at xs (take i ps) ++ cl ∷ []) part
          ∙ sym (ap (parts_at xs) (take_more ps i p lt ∙ ap (λ (q : ClauseRef). take i ps ++ q ∷ []) (sym here)) ∙ map-append (part_of xs) (take i ps) (p ∷ []));
      ends = subst (All (EndsBy (e + p.len))) (sym more) (All-push (EndsBy (e + p.len)) (take i qs) moved (λ k d kl. let le = c.ends k d kl in omega arith) (omega arith));
      in_order = subst (AreInOrder 0) (sym more) (in_order_push 0 e (take i qs) moved c.in_order c.ends (omega arith) (omega arith));
      fits = omega arith;
      among = copied_all (Contains xs) now next p.start e p.len len (omega arith) copied below from c.among;
    }

shorter : (xs : List ℤ) (e : ℕ) (ps : List ClauseRef) → e ≤ length xs → All (EndsBy e) ps → parts_at (take e xs) ps ≡ parts_at xs ps
shorter xs e [] fits ends = refl
shorter xs e (p ∷ ps) fits ends =
    let here : p.start + p.len ≤ e = All-head (EndsBy e) p ps ends in
    let short : length (take e xs) ≡ e = length-take-le e xs fits in
    let part : take p.len (drop p.start (take e xs)) ≡ take p.len (drop p.start xs) = part_moved xs (take e xs) p.start p.start p.len (omega arith) (omega arith) (λ k d lt. get_or-take e xs (p.start + k) d (omega arith)) in
    let rest = shorter xs e ps fits (All-tail (EndsBy e) p ps ends) in
    cc

-- all clauses are moved: the list up to e is enough
pub closed_up : (xs now : List ℤ) (ps qs : List ClauseRef) (i e : ℕ) → length ps ≤ i → IsClosing xs now ps qs i e → parts_at (take e now) qs ≡ parts_at xs ps
closed_up xs now ps qs i e le c =
    let sn : length now ≡ length xs = c.same_literals in
    let sp : length qs ≡ length ps = c.same_refs in
    let fits : e ≤ length xs = c.fits in
    let all : take i qs ≡ qs = take_all i qs (omega arith) in
    let ends : All (EndsBy e) qs = subst (All (EndsBy e)) all c.ends in
    shorter now e qs (omega arith) ends ∙ ap (parts_at now) (sym all) ∙ c.done ∙ ap (parts_at xs) (take_all i ps le)
