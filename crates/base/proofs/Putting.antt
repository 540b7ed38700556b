-- What is put to a sink, piece by piece.
use Rattle.std.proofs.Common.{◌≡◌, ℕ, ◌+◌, ◌<◌, List, [], ◌∷◌, ◌++◌, length, get_or, take, drop, Option, Result, Ok, Err, OnOk, OnErr, IsErr, sym, ap, subst, ◌∙◌, append_assoc}
use Rattle.std.specs.List.{flat_map}
use Rattle.std.specs.Io.KnownBytes.{Appends}
use Rattle.std.proofs.KnownBytes.{Appends-trans}
use Rattle.std.proofs.lemmas.List.{append-nil, take_more, drop_more, take-append-drop}
use Rattle.std.proofs.lemmas.Grind.{flat_map-append}
use Rattle.base.specs.Devices.{Puts, PutsBeginning}

-- a beginning of a text is one of a longer text
pub begins_more : (a b : Option (List ℕ)) (s t : List ℕ) → PutsBeginning a b s → PutsBeginning a b (s ++ t)
begins_more a b s t p =
    record { done = p.done; later = p.later ++ t; whole = sym (append_assoc p.done p.later t) ∙ ap (λ (w : List ℕ). w ++ t) p.whole; appends = p.appends }

-- a beginning behind a text that was put
pub begins_behind : (a b c : Option (List ℕ)) (s t : List ℕ) → Appends a b s → PutsBeginning b c t → PutsBeginning a c (s ++ t)
begins_behind a b c s t p q =
    record { done = s ++ q.done; later = q.later; whole = append_assoc s q.done q.later ∙ ap (λ (w : List ℕ). s ++ w) q.whole; appends = Appends-trans a b c s q.done p q.appends }

-- what a failure leaves
pub puts_err : {X E : Type 0} (r : Result X E) (a b : Option (List ℕ)) (s : List ℕ) → IsErr r → PutsBeginning a b s → Puts r a b s
puts_err (Ok x) a b s e p = absurd cc
puts_err (Err x) a b s e p = p

pub puts_of : {X E : Type 0} (r : Result X E) (a b : Option (List ℕ)) (s : List ℕ) → OnOk r (Appends a b s) → OnErr r (PutsBeginning a b s) → Puts r a b s
puts_of (Ok x) a b s p q = p
puts_of (Err x) a b s p q = q

-- one text after another
pub puts_then : {X E : Type 0} (r : Result X E) (a b c : Option (List ℕ)) (s t : List ℕ) → Appends a b s → Puts r b c t → Puts r a c (s ++ t)
puts_then (Ok x) a b c s t p q = Appends-trans a b c s t p q
puts_then (Err e) a b c s t p q = begins_behind a b c s t p q

-- ---- texts of the items of a list

pub flat_next : {A : Type 0} (f : A → List ℕ) (xs : List A) (i : ℕ) (d : A) → i < length xs → flat_map f (take (i + 1) xs) ≡ flat_map f (take i xs) ++ f (get_or xs i d)
flat_next f xs i d lt =
    ap (flat_map f) (take_more xs i d lt) ∙ flat_map-append f (take i xs) (get_or xs i d ∷ []) ∙ ap (λ w. flat_map f (take i xs) ++ w) (append-nil (f (get_or xs i d)))

pub flat_rest : {A : Type 0} (f : A → List ℕ) (xs : List A) (i : ℕ) (d : A) → i < length xs → flat_map f xs ≡ flat_map f (take i xs) ++ (f (get_or xs i d) ++ flat_map f (drop (i + 1) xs))
flat_rest {A} f xs i d lt =
    sym (ap (flat_map f) (take-append-drop i xs)) ∙ flat_map-append f (take i xs) (drop i xs) ∙ ap (λ (ys : List A). flat_map f (take i xs) ++ flat_map f ys) (drop_more xs i d lt)

-- one more item was put
pub puts_next : {A : Type 0} (f : A → List ℕ) (xs : List A) (i : ℕ) (d : A) (a b c : Option (List ℕ)) → i < length xs → Appends a b (flat_map f (take i xs)) → Appends b c (f (get_or xs i d))
    → Appends a c (flat_map f (take (i + 1) xs))
puts_next f xs i d a b c lt p q = subst (Appends a c) (sym (flat_next f xs i d lt)) (Appends-trans a b c (flat_map f (take i xs)) (f (get_or xs i d)) p q)

-- a beginning of an item was put behind others
pub begins_at : {A : Type 0} (f : A → List ℕ) (xs : List A) (i : ℕ) (d : A) (a b c : Option (List ℕ)) → i < length xs → Appends a b (flat_map f (take i xs)) → PutsBeginning b c (f (get_or xs i d))
    → PutsBeginning a c (flat_map f xs)
begins_at f xs i d a b c lt p q =
    subst (PutsBeginning a c) (sym (flat_rest f xs i d lt)) (begins_behind a b c (flat_map f (take i xs)) (f (get_or xs i d) ++ flat_map f (drop (i + 1) xs)) p (begins_more b c (f (get_or xs i d)) (flat_map f (drop (i + 1) xs)) q))
