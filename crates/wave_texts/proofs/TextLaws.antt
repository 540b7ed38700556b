-- Texts that are added one after the other.
use Rattle.std.proofs.Common.{◌≡◌, ℕ, ◌+◌, ◌<◌, ◌≤◌, List, ◌++◌, length, get_or, take, sym, ap, ◌∙◌, append_assoc}
use Rattle.std.specs.List.{flat_map}
use Rattle.std.proofs.lemmas.List.{take_all}
use Rattle.base.proofs.Putting.{flat_next}

-- one text behind another
pub after : (old now new a b : List ℕ) → now ≡ old ++ a → new ≡ now ++ b → new ≡ old ++ (a ++ b)
after old now new a b first then_ = then_ ∙ ap (λ (t : List ℕ). t ++ b) first ∙ append_assoc old a b

-- the text of one item more
pub added_more : {A : Type 0} (f : A → List ℕ) (xs : List A) (i : ℕ) (d : A) (old now new : List ℕ) → i < length xs → new ≡ now ++ f (get_or xs i d) → now ≡ old ++ flat_map f (take i xs) → new ≡ old ++ flat_map f (take (i + 1) xs)
added_more f xs i d old now new i_in more h = after old now new (flat_map f (take i xs)) (f (get_or xs i d)) h more ∙ ap (λ (t : List ℕ). old ++ t) (sym (flat_next f xs i d i_in))

-- the texts of all items
pub added_all : {A : Type 0} (f : A → List ℕ) (xs : List A) (i : ℕ) (old now : List ℕ) → length xs ≤ i → now ≡ old ++ flat_map f (take i xs) → now ≡ old ++ flat_map f xs
added_all {A} f xs i old now all h = h ∙ ap (λ (ys : List A). old ++ flat_map f ys) (take_all i xs all)
