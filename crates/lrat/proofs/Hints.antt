-- One hint more.
use Rattle.std.proofs.Common.{◌≡◌, ℕ, ◌+◌, ◌<◌, ◌≤◌, List, [], ◌∷◌, ◌++◌, length, take, drop, get_or, map, ℤ, Option, Some, sym, ◌∙◌, ap, subst, add-one}
use Rattle.std.proofs.Math.Seq.{take-suc, drop-cons}
use Rattle.std.proofs.lemmas.List.{take-append-drop, take_all, take-map, get_or-map, length-map}
use Rattle.lrat.specs.Literals.{Finder}
use Rattle.lrat.specs.Lines.{Leads, SetsOne}
use Rattle.lrat.specs.Faults.{Stops, StopsWithin}
use Rattle.lrat.specs.declared.fault.Fault.{Fault}

pub leads_more : (m : Finder) (ids : List ℕ) (s t : List ℤ) (id : ℕ) (l : ℤ) → Leads m s ids t → SetsOne m t id l → Leads m s (ids ++ id ∷ []) (t ++ l ∷ [])
leads_more m [] s t id l same one = (l, subst (λ u. SetsOne m u id l) same one, ap (λ u. u ++ l ∷ []) same)
leads_more m (i ∷ ids) s t id l leads one = (leads.0, leads.1, leads_more m ids (s ++ leads.0 ∷ []) t id l leads.2 one)

pub leads_at : (m : Finder) (s : List ℤ) (ids : List ℕ) (i : ℕ) (t : List ℤ) (l : ℤ) → i < length ids → Leads m s (take i ids) t → SetsOne m t (get_or ids i 0) l → Leads m s (take (i + 1) ids) (t ++ l ∷ [])
leads_at m s ids i t l h leads one = rw (add-one, take-suc ids i 0 h) (leads_more m (take i ids) s t _ l leads one)

pub leads_all : (m : Finder) (s : List ℤ) (ids : List ℕ) (i : ℕ) (t : List ℤ) → length ids ≤ i → Leads m s (take i ids) t → Leads m s ids t
leads_all m s ids i t h leads = subst (λ us. Leads m s us t) (take_all i ids h) leads

parts_at : (ids : List ℕ) (i : ℕ) → i < length ids → ids ≡ take i ids ++ get_or ids i 0 ∷ drop (i + 1) ids
parts_at ids i h = sym (take-append-drop i ids) ∙ ap (λ u. take i ids ++ u) (rw add-one (drop-cons ids i 0 h))

pub stops_at : (m : Finder) (s : List ℤ) (ids : List ℕ) (i : ℕ) (t : List ℤ) (e : Fault) → i < length ids → Leads m s (take i ids) t → Stops m t (get_or ids i 0) e → StopsWithin m s ids e
stops_at m s ids i t e h leads why = (take i ids, get_or ids i 0, drop (i + 1) ids, t, parts_at ids i h, leads, why)

-- a clause that was found, by its literals in order
pub found_as : (found : Option (List ℤ)) (c d : List ℤ) → Some c ≡ found → d ≡ c → found ≡ Some d
found_as found c d is same = sym is ∙ ap Some (sym same)

-- the same over hints that name ids

named_at : {A : Type 0} (f : A → ℕ) (hs : List A) (i : ℕ) (d : A) (id : ℕ) → i < length hs → id ≡ f d → d ≡ get_or hs i d → id ≡ get_or (map f hs) i 0
named_at f hs i d id h named is = named ∙ ap f is ∙ sym (get_or-map f hs i d 0 h)

pub named_leads : {A : Type 0} (f : A → ℕ) (m : Finder) (s : List ℤ) (hs : List A) (i : ℕ) (d : A) (id : ℕ) (t : List ℤ) (l : ℤ) → i < length hs → Leads m s (map f (take i hs)) t → id ≡ f d → d ≡ get_or hs i d → SetsOne m t id l
    → Leads m s (map f (take (i + 1) hs)) (t ++ l ∷ [])
named_leads f m s hs i d id t l h leads named is one =
    subst (λ us. Leads m s us (t ++ l ∷ [])) (take-map f (i + 1) hs)
    (leads_at m s (map f hs) i t l (rw length-map h) (subst (λ us. Leads m s us t) (sym (take-map f i hs)) leads) (subst (λ x. SetsOne m t x l) (named_at f hs i d id h named is) one))

pub named_stops : {A : Type 0} (f : A → ℕ) (m : Finder) (s : List ℤ) (hs : List A) (i : ℕ) (d : A) (id : ℕ) (t : List ℤ) (e : Fault) → i < length hs → Leads m s (map f (take i hs)) t → id ≡ f d → d ≡ get_or hs i d → Stops m t id e
    → StopsWithin m s (map f hs) e
named_stops f m s hs i d id t e h leads named is why =
    stops_at m s (map f hs) i t e (rw length-map h) (subst (λ us. Leads m s us t) (sym (take-map f i hs)) leads) (subst (λ x. Stops m t x e) (named_at f hs i d id h named is) why)
