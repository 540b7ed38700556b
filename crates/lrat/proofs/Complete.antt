-- A refused line is not accepted.
use Rattle.base.specs.Witness.{witness}
use Rattle.std.proofs.Common.{◌≡◌, ℕ, ◌<◌, ◌≢◌, true, false, List, [], ◌∷◌, ◌++◌, get_or, map, All, Contains, None, Some, ℤ, pos, neg_ℤ, refl, sym, ◌∙◌, ap, subst, inl, inr, arith}
use Rattle.std.specs.Ordering.{int_eq}
use Rattle.std.proofs.lemmas.Bool.Decides.{Decides-int_eq}
use Rattle.std.proofs.lemmas.List.{get_or_default, length-take, get_or-take}
use Rattle.std.proofs.lemmas.List.Elements.{All-contains}
use Rattle.lrat.specs.Literals.{Finder, IsProper}
use Rattle.lrat.specs.Lines.{IsDenied, LeavesOnly, LeavesSeveral, Leads, SetsOne, Conflicts, AreHintsFor, IsAcceptedLine}
use Rattle.lrat.specs.Faults.{IsImproper, Stops, StopsLast}
use Rattle.lrat.specs.Refusals.{IsRefusedLine, StopsEarlier, StopsAtEnd}
use Rattle.lrat.specs.declared.fault.Fault.{Fault}
use Rattle.lrat.specs.declared.fault.Fault.TheVariants.{UnknownId, SeveralLeft, TrueAlready, NotFalse, EarlyConflict, RepeatedLiteral, VariableRange, OutOfMemory}

by_int : {P : Type 0} (a b : ℤ) → (a ≡ b → P) → (a ≢ b → P) → P
by_int {P = P} a b y n =
    let d = Decides-int_eq a b in
    elim (int_eq a b) as (λ r. int_eq a b ≡ r → P) [
      | true ↦ λ e. y (d.0 e)
      | false ↦ λ e. n (λ same. let t : int_eq a b ≡ true = d.1 same in cc)
    ] refl

same_clause : (m : Finder) (id : ℕ) (c d : List ℤ) → m id ≡ Some c → m id ≡ Some d → c ≡ d
same_clause m id c d p q = cc

not_found : (m : Finder) (id : ℕ) (c : List ℤ) → m id ≡ None → m id ≡ Some c → ⊥
not_found m id c p q = cc

only_unique : (s c : List ℤ) (l k : ℤ) → LeavesOnly s c l → LeavesOnly s c k → l ≡ k
only_unique s c l k a b = by_int l k (λ e. e) (λ ne. absurd (a.open_in (b.others l a.stands ne)))

sets_unique : (m : Finder) (s : List ℤ) (id : ℕ) (l k : ℤ) → SetsOne m s id l → SetsOne m s id k → l ≡ k
sets_unique m s id l k a b =
    only_unique s a.clause l k a.leaves (subst (λ c. LeavesOnly s c k) (same_clause m id b.clause a.clause b.found a.found) b.leaves)

leads_unique : (m : Finder) (ids : List ℕ) (s t u : List ℤ) → Leads m s ids t → Leads m s ids u → t ≡ u
leads_unique m [] s t u p q = p ∙ sym q
leads_unique m (id ∷ ids) s t u p q =
    leads_unique m ids (s ++ p.0 ∷ []) t u p.2 (subst (λ l. Leads m (s ++ l ∷ []) ids u) (sets_unique m s id q.0 p.0 q.1 p.1) q.2)

leads_split : (m : Finder) (done rest : List ℕ) (s t : List ℤ) → Leads m s (done ++ rest) t → (u : List ℤ) × Leads m s done u × Leads m u rest t
leads_split m [] rest s t p = (s, refl, p)
leads_split m (id ∷ done) rest s t p = let r = leads_split m done rest (s ++ p.0 ∷ []) t p.2 in (r.0, (p.0, p.1, r.1), r.2)

several_not : (s c : List ℤ) (l : ℤ) → LeavesSeveral s c → LeavesOnly s c l → ⊥
several_not s c l sev only =
    by_int sev.one l
    (λ e. sev.open_in.1 (only.others sev.other sev.stands.1 (λ f. sev.distinct (e ∙ sym f))))
    (λ ne. sev.open_in.0 (only.others sev.one sev.stands.0 ne))

stops_not_set : (m : Finder) (s : List ℤ) (id : ℕ) (l : ℤ) (e : Fault) → Stops m s id e → e ≢ OutOfMemory witness → SetsOne m s id l → ⊥
stops_not_set m s id l UnknownId none ne sets = not_found m id sets.clause none sets.found
stops_not_set m s id l EarlyConflict conflict ne sets =
    let denied : All (IsDenied s) sets.clause = subst (All (IsDenied s)) (same_clause m id conflict.clause sets.clause conflict.found sets.found) conflict.denied in
    sets.leaves.open_in (All-contains (IsDenied s) sets.clause l denied sets.leaves.stands)
stops_not_set m s id l SeveralLeft (d, found, several) ne sets =
    several_not s d l several (subst (λ c. LeavesOnly s c l) (same_clause m id sets.clause d sets.found found) sets.leaves)
stops_not_set m s id l TrueAlready (d, k, found, only, held) ne sets =
    let other : LeavesOnly s d l = subst (λ c. LeavesOnly s c l) (same_clause m id sets.clause d sets.found found) sets.leaves in
    sets.new_in (subst (Contains s) (only_unique s d k l only other) held)
stops_not_set m s id l (OutOfMemory refused) why ne sets = ne refl
stops_not_set m s id l _ why ne sets = why

stops_last_not : (m : Finder) (s : List ℤ) (id : ℕ) (e : Fault) → StopsLast m s id e → e ≢ OutOfMemory witness → Conflicts m s id → ⊥
stops_last_not m s id UnknownId none ne conflict = not_found m id conflict.clause none conflict.found
stops_last_not m s id NotFalse (d, l, found, at, open_) ne conflict =
    open_ (All-contains (IsDenied s) d l (subst (All (IsDenied s)) (same_clause m id conflict.clause d conflict.found found) conflict.denied) at)
stops_last_not m s id (OutOfMemory refused) why ne conflict = ne refl
stops_last_not m s id _ why ne conflict = why

improper_not : (n : ℕ) (c : List ℤ) (e : Fault) → IsImproper n c e → e ≢ OutOfMemory witness → IsProper n c → ⊥
improper_not n c VariableRange (k, lt, prefix, over) ne proper = let le = proper.0 k (pos 0) lt in omega arith
improper_not n c RepeatedLiteral (k, lt, prefix, le, inl (j, lt', at)) ne proper =
    let x : ℤ = get_or c k (pos 0) in
    let below : j < k = omega (arith, length-take k c) in
    (proper.1 j k x below lt).0 (sym (get_or-take k c j x below) ∙ at ∙ get_or_default c k (pos 0) x lt)
improper_not n c RepeatedLiteral (k, lt, prefix, le, inr (j, lt', at)) ne proper =
    let x : ℤ = get_or c k (pos 0) in
    let below : j < k = omega (arith, length-take k c) in
    (proper.1 j k (neg_ℤ x) below lt).1 (sym (get_or-take k c j (neg_ℤ x) below) ∙ at ∙ ap neg_ℤ (get_or_default c k (pos 0) (neg_ℤ x) lt))
improper_not n c (OutOfMemory refused) why ne proper = ne refl
improper_not n c _ why ne proper = why

no_snoc : (xs : List ℕ) (x : ℕ) → [] ≡ xs ++ x ∷ [] → ⊥
no_snoc [] x e = cc
no_snoc (y ∷ xs) x e = cc

snoc_same : (xs ys : List ℕ) (x y : ℕ) → xs ++ x ∷ [] ≡ ys ++ y ∷ [] → (xs ≡ ys) × (x ≡ y)
snoc_same [] [] x y e = (refl, cc)
snoc_same [] (b ∷ ys) x y e = absurd (no_snoc ys y (let f : [] ≡ ys ++ y ∷ [] = cc in f))
snoc_same (a ∷ xs) [] x y e = absurd (no_snoc xs x (let f : [] ≡ xs ++ x ∷ [] = cc in f))
snoc_same (a ∷ xs) (b ∷ ys) x y e =
    let f : xs ++ x ∷ [] ≡ ys ++ y ∷ [] = cc in
    let g : a ≡ b = cc in
    let r = snoc_same xs ys x y f in
    ((λ i. g i ∷ r.0 i), r.1)

earlier_not : (m : Finder) (c : List ℤ) (hints : List ℕ) (e : Fault) → StopsEarlier m (map neg_ℤ c) hints e → e ≢ OutOfMemory witness → AreHintsFor m c hints → ⊥
earlier_not m c hints e at ne shows =
    let same = snoc_same at.first shows.first at.last shows.last (sym at.are ∙ shows.are) in
    let stops = at.stops in
    let there : Leads m (map neg_ℤ c) (stops.0 ++ stops.1 ∷ stops.2) shows.reached =
    subst (λ ids. Leads m (map neg_ℤ c) ids shows.reached) (sym same.0 ∙ stops.4) shows.leads in
    let parts = leads_split m stops.0 (stops.1 ∷ stops.2) (map neg_ℤ c) shows.reached there in
    let met : stops.3 ≡ parts.0 = leads_unique m stops.0 (map neg_ℤ c) stops.3 parts.0 stops.5 parts.1 in
    stops_not_set m stops.3 stops.1 parts.2.0 e stops.6 ne (subst (λ s. SetsOne m s stops.1 parts.2.0) (sym met) parts.2.1)

at_end_not : (m : Finder) (c : List ℤ) (hints : List ℕ) (e : Fault) → StopsAtEnd m (map neg_ℤ c) hints e → e ≢ OutOfMemory witness → AreHintsFor m c hints → ⊥
at_end_not m c hints e at ne shows =
    let same = snoc_same at.first shows.first at.last shows.last (sym at.are ∙ shows.are) in
    let there : Leads m (map neg_ℤ c) at.first shows.reached = subst (λ ids. Leads m (map neg_ℤ c) ids shows.reached) (sym same.0) shows.leads in
    let met : at.reached ≡ shows.reached = leads_unique m at.first (map neg_ℤ c) at.reached shows.reached at.leads there in
    let conflict : Conflicts m at.reached at.last = subst (λ id. Conflicts m at.reached id) (sym same.1) (subst (λ s. Conflicts m s shows.last) (sym met) shows.conflict) in
    stops_last_not m at.reached at.last e at.stops ne conflict

pub refused_not : (n : ℕ) (m : Finder) (c : List ℤ) (hints : List ℕ) (e : Fault) → IsRefusedLine n m c hints e → e ≢ OutOfMemory witness → IsAcceptedLine n m c hints → ⊥
refused_not n m c hints e (inl improper) ne line = improper_not n c e improper ne line.proper
refused_not n m c hints e (inr (proper, inl (none, is))) ne line = no_snoc line.shown.first line.shown.last (sym none ∙ line.shown.are)
refused_not n m c hints e (inr (proper, inr (inl early))) ne line = earlier_not m c hints e early ne line.shown
refused_not n m c hints e (inr (proper, inr (inr late))) ne line = at_end_not m c hints e late ne line.shown
