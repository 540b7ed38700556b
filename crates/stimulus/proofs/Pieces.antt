-- Choices that a byte makes, and texts one after another.
use Rattle.std.proofs.Common.{◌≡◌, ℕ, false, eqb, List, [], ◌∷◌, ◌++◌, refl, inl, inr, sym, append_assoc, ◌∙◌}
use Rattle.std.specs.Prelude.{◌⊎◌, flat_map}
use Rattle.scan.specs.Lists.{Each}
use Rattle.scan.specs.Spelling.{After}
use Rattle.scan.proofs.Toolbox.{Reads, NeverBegins}
use Rattle.stimulus.specs.Reading.{never_at}

-- no text spells anything
abbrev pub Never : {A : Type 0} → List ℕ → A → Type 0
Never t x = ⊥

pub never_reads : {A : Type 0} → Reads {A = A} never_at Never
never_reads = record { sound = λ bytes x rest e. absurd cc; complete = λ front x rest r. absurd r }

-- a text of either
abbrev pub Either : {A : Type 0} → (List ℕ → A → Type 0) → (List ℕ → A → Type 0) → List ℕ → A → Type 0
Either R S t x = R t x ⊎ S t x

pub never_begins : {A : Type 0} (k : ℕ) → NeverBegins {A = A} k Never
never_begins k t x rest r = absurd r

pub after_begins : {A : Type 0} (R : List ℕ → A → Type 0) (k j : ℕ) → eqb j k ≡ false → NeverBegins k (After (j ∷ []) R)
after_begins R k j apart t x rest r = rw r.2 apart

pub either_begins : {A : Type 0} (R S : List ℕ → A → Type 0) (k : ℕ) → NeverBegins k R → NeverBegins k S → NeverBegins k (Either R S)
either_begins R S k one two t x rest (inl r) = one t x rest r
either_begins R S k one two t x rest (inr s) = two t x rest s

-- texts one after another are the text of the list
pub each_flat : {A : Type 0} (f : A → List ℕ) (R : List ℕ → A → Type 0) → ((t : List ℕ) (x : A) → R t x → t ≡ f x) → (t : List ℕ) (xs : List A) → Each R t xs → t ≡ flat_map f xs
each_flat f R is t [] e = e
each_flat f R is t (x ∷ xs) (front, rest, one, others, parts) = rw (parts, is front x one, each_flat f R is rest xs others) refl

pub flat_each : {A : Type 0} (f : A → List ℕ) (R : List ℕ → A → Type 0) → ((x : A) → R (f x) x) → (xs : List A) → Each R (flat_map f xs) xs
flat_each f R is [] = refl
flat_each f R is (x ∷ xs) = (f x, flat_map f xs, is x, flat_each f R is xs, refl)

-- pieces one after another, however they are grouped
pub three : (a b c : List ℕ) → a ++ (b ++ c) ≡ a ++ b ++ c
three a b c = sym (append_assoc a b c)

pub five : (a b c d e : List ℕ) → a ++ (b ++ (c ++ (d ++ e))) ≡ a ++ b ++ c ++ d ++ e
five a b c d e = three a b (c ++ (d ++ e)) ∙ three (a ++ b) c (d ++ e) ∙ three (a ++ b ++ c) d e
