-- A reading function reads exactly a relation between texts and values: each step has its law, and the law of a reader is the laws of its steps, put together as the steps are.
use Rattle.std.proofs.Common.{◌≡◌, ℕ, Bool, true, false, cond, eqb, List, [], ◌∷◌, ◌++◌, length, Option, Some, None, refl, sym, ap, ◌∙◌, append_assoc, inl, inr}
use Rattle.std.specs.Prelude.{◌⊎◌}
use Rattle.std.proofs.lemmas.Bool.{cases_Bool, eqb-true, eq-eqb}
use Rattle.std.proofs.lemmas.List.{append-nil, nil_from_length}
use Rattle.std.proofs.lemmas.Option.{same_Some}
use Rattle.scan.specs.Reading.{◌>>=◌, Read, ended}
use Rattle.scan.specs.Bytes.{byte_at, tag_at, ending_at, choice_at}
use Rattle.scan.specs.Spelling.{Nothing, Then, After}
use Rattle.scan.proofs.NumberLaws.{cond_some_to, cond_none_to}

-- what p reads off the front of a text is spelled so, and what is spelled so p reads off, whatever follows
pub record Reads {A : Type 0} (p : List ℕ → Read A) (R : List ℕ → A → Type 0) : Type 0 where
  pub sound : (bytes : List ℕ) (x : A) (rest : List ℕ) → p bytes ≡ Some (x, rest) → (front : List ℕ) × R front x × (bytes ≡ front ++ rest)
  pub complete : (front : List ℕ) (x : A) (rest : List ℕ) → R front x → p (front ++ rest) ≡ Some (x, rest)

-- s skips exactly these bytes
pub record Skips (s : List ℕ → Option (List ℕ)) (wanted : List ℕ) : Type 0 where
  pub sound : (bytes rest : List ℕ) → s bytes ≡ Some rest → bytes ≡ wanted ++ rest
  pub complete : (rest : List ℕ) → s (wanted ++ rest) ≡ Some rest

-- the value of a step that did not fail
pub bind_some : {A B : Type 0} (r : Option A) (f : A → Option B) (y : B) → (r >>= f) ≡ Some y → (x : A) × (r ≡ Some x) × (f x ≡ Some y)
bind_some (Some x) f y e = (x, refl, e)
bind_some None f y e = absurd cc

-- ---- what a law gives

-- the whole text spells what is read to its end
pub whole_takes : {A : Type 0} {p : List ℕ → Read A} {R : List ℕ → A → Type 0} → Reads p R → (bytes : List ℕ) (x : A) → p bytes ≡ Some (x, []) → R bytes x
whole_takes {R} law bytes x e =
    let s = law.sound bytes x [] e in
    let all : bytes ≡ s.0 = s.2 ∙ append-nil s.0 in
    rw all s.1

-- what the whole text spells is read to its end
pub whole_again : {A : Type 0} {p : List ℕ → Read A} {R : List ℕ → A → Type 0} → Reads p R → (bytes : List ℕ) (x : A) → R bytes x → p bytes ≡ Some (x, [])
whole_again {p} law bytes x r = ap p (sym (append-nil bytes)) ∙ law.complete bytes x [] r

nothing_left : {A : Type 0} (r : A × List ℕ) (x : A) → cond (eqb (length r.1) 0) (Some r.0) None ≡ Some x → Some r ≡ Some (x, [])
nothing_left (y, rest) x e =
    let g = cond_some_to (eqb (length rest) 0) (Some y) x e in
    rw (same_Some y x g.1, nil_from_length rest (eqb-true (length rest) 0 g.0)) refl

-- a text from which a value is read, and of which nothing is left, spells it
pub ended_takes : {A : Type 0} {p : List ℕ → Read A} {R : List ℕ → A → Type 0} → Reads p R → (bytes : List ℕ) (x : A) → ended (p bytes) ≡ Some x → R bytes x
ended_takes {p} law bytes x e =
    let b = bind_some (p bytes) (λ r. cond (eqb (length r.1) 0) (Some r.0) None) x e in
    whole_takes law bytes x (b.1 ∙ nothing_left b.0 x b.2)

-- from a text that spells a value it is read, and nothing is left
pub ended_again : {A : Type 0} {p : List ℕ → Read A} {R : List ℕ → A → Type 0} → Reads p R → (bytes : List ℕ) (x : A) → R bytes x → ended (p bytes) ≡ Some x
ended_again law bytes x r = rw (whole_again law bytes x r) refl

-- no text begins with the texts of two values
pub spells_once : {A : Type 0} {p : List ℕ → Read A} {R : List ℕ → A → Type 0} → Reads p R → (a b : List ℕ) (x y : A) (c d : List ℕ) → R a x → R b y → a ++ c ≡ b ++ d → (x ≡ y) × (c ≡ d)
spells_once {A} {p} law a b x y c d r s same =
    let q : ◌≡◌ {A = A × List ℕ} (x, c) (y, d) = same_Some (x, c) (y, d) (sym (law.complete a x c r) ∙ ap p same ∙ law.complete b y d s) in
    (ap (λ (w : A × List ℕ). w.0) q, ap (λ (w : A × List ℕ). w.1) q)

-- a text spells at most one value
pub spells_one : {A : Type 0} {p : List ℕ → Read A} {R : List ℕ → A → Type 0} → Reads p R → (text : List ℕ) (x y : A) → R text x → R text y → x ≡ y
spells_one law text x y r s = (spells_once law text text x y [] [] r s refl).0

-- ---- the same reader, said otherwise

-- the same texts, in other words
pub reads_as : {A : Type 0} {p : List ℕ → Read A} {R : List ℕ → A → Type 0} (S : List ℕ → A → Type 0) → Reads p R → ((t : List ℕ) (x : A) → R t x → S t x) → ((t : List ℕ) (x : A) → S t x → R t x) → Reads p S
reads_as S law to from = record {
  sound = λ bytes x rest e. let s = law.sound bytes x rest e in (s.0, to s.0 x s.1, s.2);
  complete = λ front x rest r. law.complete front x rest (from front x r);
}

-- a reader that is equal everywhere
pub reads_same : {A : Type 0} {p : List ℕ → Read A} {R : List ℕ → A → Type 0} (q : List ℕ → Read A) → ((bytes : List ℕ) → q bytes ≡ p bytes) → Reads p R → Reads q R
reads_same q e law = record {
  sound = λ bytes x rest f. law.sound bytes x rest (sym (e bytes) ∙ f);
  complete = λ front x rest r. e (front ++ rest) ∙ law.complete front x rest r;
}

-- ---- steps

-- nothing is read
pub reads_nothing : {A : Type 0} (x : A) → Reads (λ bytes. Some (x, bytes)) (Nothing x)
reads_nothing {A} x = record {
  sound = λ bytes y rest e.
      let q : ◌≡◌ {A = A × List ℕ} (x, bytes) (y, rest) = same_Some (x, bytes) (y, rest) e in
      ([], (refl, sym (ap (λ (r : A × List ℕ). r.0) q)), ap (λ (r : A × List ℕ). r.1) q);
  complete = λ front y rest r. rw (r.0, r.1) refl;
}

-- one after the other
pub reads_then : {A B : Type 0} {p : List ℕ → Read A} {q : A → List ℕ → Read B} {R : List ℕ → A → Type 0} {S : A → List ℕ → B → Type 0} → Reads p R → ((x : A) → Reads (q x) (S x)) → Reads (λ bytes. p bytes >>= λ r. q r.0 r.1) (Then R S)
reads_then {p} {q} {R} {S} one two = record {
  sound = λ bytes y rest e.
      let b = bind_some (p bytes) (λ r. q r.0 r.1) (y, rest) e in
      let s = one.sound bytes b.0.0 b.0.1 b.1 in
      let t = (two b.0.0).sound b.0.1 y rest b.2 in
      (s.0 ++ t.0, (b.0.0, s.0, t.0, s.1, t.1, refl), s.2 ∙ ap (λ (w : List ℕ). s.0 ++ w) t.2 ∙ sym (append_assoc s.0 t.0 rest));
  complete = λ front y rest r.
      let regrouped : front ++ rest ≡ r.1 ++ (r.2 ++ rest) = ap (λ (w : List ℕ). w ++ rest) r.5 ∙ append_assoc r.1 r.2 rest in
      ap (λ (w : List ℕ). p w >>= λ s. q s.0 s.1) regrouped ∙ ap (λ o. o >>= λ s. q s.0 s.1) (one.complete r.1 r.0 (r.2 ++ rest) r.3) ∙ (two r.0).complete r.2 y rest r.4;
}

-- bytes are skipped, and then a value is read
pub reads_after : {A : Type 0} {s : List ℕ → Option (List ℕ)} {p : List ℕ → Read A} {wanted : List ℕ} {R : List ℕ → A → Type 0} → Skips s wanted → Reads p R → Reads (λ bytes. s bytes >>= p) (After wanted R)
reads_after {s} {p} {wanted} skips law = record {
  sound = λ bytes x rest e.
      let b = bind_some (s bytes) p (x, rest) e in
      let t = law.sound b.0 x rest b.2 in
      (wanted ++ t.0, (t.0, t.1, refl), skips.sound bytes b.0 b.1 ∙ ap (λ (w : List ℕ). wanted ++ w) t.2 ∙ sym (append_assoc wanted t.0 rest));
  complete = λ front x rest r.
      let regrouped : front ++ rest ≡ wanted ++ (r.0 ++ rest) = ap (λ (w : List ℕ). w ++ rest) r.2 ∙ append_assoc wanted r.0 rest in
      ap (λ (w : List ℕ). s w >>= p) regrouped ∙ ap (λ o. o >>= p) (skips.complete (r.0 ++ rest)) ∙ law.complete r.0 x rest r.1;
}

-- the choice that a test on what was read makes
pub reads_if : {A : Type 0} (b : Bool) {p q : List ℕ → Read A} {R S : List ℕ → A → Type 0} → Reads p R → Reads q S → Reads (λ bytes. cond b (p bytes) (q bytes)) (λ t x. cond b (R t x) (S t x))
reads_if true one two = one
reads_if false one two = two

-- only where a test on what was read passes
pub reads_when : {A : Type 0} (b : Bool) {p : List ℕ → Read A} {R : List ℕ → A → Type 0} → Reads p R → Reads (λ bytes. cond b (p bytes) None) (λ t x. (b ≡ true) × R t x)
reads_when b {p} law = record {
  sound = λ bytes x rest e.
      let g = cond_some_to b (p bytes) (x, rest) e in
      let s = law.sound bytes x rest g.1 in
      (s.0, (g.0, s.1), s.2);
  complete = λ front x rest r. rw r.0 (law.complete front x rest r.1);
}

-- only where a test on what was read fails
pub reads_unless : {A : Type 0} (b : Bool) {p : List ℕ → Read A} {R : List ℕ → A → Type 0} → Reads p R → Reads (λ bytes. cond b None (p bytes)) (λ t x. (b ≡ false) × R t x)
reads_unless b {p} law = record {
  sound = λ bytes x rest e.
      let g = cond_none_to b (p bytes) (x, rest) e in
      let s = law.sound bytes x rest g.1 in
      (s.0, (g.0, s.1), s.2);
  complete = λ front x rest r. rw r.0 (law.complete front x rest r.1);
}

-- this byte does not come next
abbrev pub Avoids : ℕ → List ℕ → Type 0
Avoids k [] = Unit {0}
Avoids k (c ∷ cs) = eqb c k ≡ false

-- no text of the relation begins with this byte
abbrev pub NeverBegins : {A : Type 0} → ℕ → (List ℕ → A → Type 0) → Type 0
NeverBegins {A} k S = (t : List ℕ) (x : A) (rest : List ℕ) → S t x → Avoids k (t ++ rest)

choice_sound : {A : Type 0} {p q : List ℕ → Read A} {R S : List ℕ → A → Type 0} (k : ℕ) → Reads p R → Reads q S → (bytes : List ℕ) (x : A) (rest : List ℕ) → choice_at k p q bytes ≡ Some (x, rest)
    → (front : List ℕ) × (After (k ∷ []) R front x ⊎ S front x) × (bytes ≡ front ++ rest)
choice_sound k one two [] x rest e = let s = two.sound [] x rest e in (s.0, inr s.1, s.2)
choice_sound k one two (c ∷ cs) x rest e = elim (cases_Bool (eqb c k)) [
  | inl y ↦
      let s = one.sound cs x rest (rw y at e) in
      (k ∷ s.0, inl (s.0, s.1, refl), ap (λ (d : ℕ). d ∷ cs) (eqb-true c k y) ∙ ap (λ (w : List ℕ). k ∷ w) s.2)
  | inr n ↦ let s = two.sound (c ∷ cs) x rest (rw n at e) in (s.0, inr s.1, s.2)
]

choice_other : {A : Type 0} (p q : List ℕ → Read A) (k : ℕ) (bytes : List ℕ) → Avoids k bytes → choice_at k p q bytes ≡ q bytes
choice_other p q k [] e = refl
choice_other p q k (c ∷ cs) e = rw e refl

choice_complete : {A : Type 0} {p q : List ℕ → Read A} {R S : List ℕ → A → Type 0} (k : ℕ) → Reads p R → Reads q S → NeverBegins k S → (front : List ℕ) (x : A) (rest : List ℕ)
    → After (k ∷ []) R front x ⊎ S front x → choice_at k p q (front ++ rest) ≡ Some (x, rest)
choice_complete {p} {q} k one two other front x rest (inl r) =
    ap (λ (w : List ℕ). choice_at k p q (w ++ rest)) r.2 ∙ rw (eq-eqb k k refl) (one.complete r.0 x rest r.1)
choice_complete {p} {q} k one two other front x rest (inr s) =
    choice_other p q k (front ++ rest) (other front x rest s) ∙ two.complete front x rest s

-- the choice that the next byte makes
pub reads_choice : {A : Type 0} {p q : List ℕ → Read A} {R S : List ℕ → A → Type 0} (k : ℕ) → Reads p R → Reads q S → NeverBegins k S → Reads (choice_at k p q) (λ t x. After (k ∷ []) R t x ⊎ S t x)
reads_choice k one two other = record { sound = choice_sound k one two; complete = choice_complete k one two other }

-- ---- bytes

pub byte_takes : (k : ℕ) (bytes rest : List ℕ) → byte_at k bytes ≡ Some rest → bytes ≡ k ∷ rest
byte_takes k [] rest e = absurd cc
byte_takes k (c ∷ cs) rest e =
    let g = cond_some_to (eqb c k) (Some cs) rest e in
    rw (eqb-true c k g.0, same_Some cs rest g.1) refl

-- one byte
pub skips_byte : (k : ℕ) → Skips (byte_at k) (k ∷ [])
skips_byte k = record { sound = byte_takes k; complete = λ rest. rw (eq-eqb k k refl) refl }

tag_takes : (wanted bytes rest : List ℕ) → tag_at wanted bytes ≡ Some rest → bytes ≡ wanted ++ rest
unfolding tag_at
tag_takes [] bytes rest e = same_Some bytes rest e
tag_takes (c ∷ cs) bytes rest e =
    let b = bind_some (byte_at c bytes) (tag_at cs) rest e in
    byte_takes c bytes b.0 b.1 ∙ ap (λ (w : List ℕ). c ∷ w) (tag_takes cs b.0 rest b.2)

tag_again : (wanted rest : List ℕ) → tag_at wanted (wanted ++ rest) ≡ Some rest
unfolding tag_at
tag_again [] rest = refl
tag_again (c ∷ cs) rest = rw (eq-eqb c c refl) (tag_again cs rest)

-- several bytes
pub skips_tag : (wanted : List ℕ) → Skips (tag_at wanted) wanted
skips_tag wanted = record { sound = tag_takes wanted; complete = tag_again wanted }

ending_takes : (ends : ℕ → Bool) (bytes : List ℕ) (c : ℕ) (rest : List ℕ) → ending_at ends bytes ≡ Some (c, rest) → (ends c ≡ true) × (bytes ≡ c ∷ rest)
ending_takes ends [] c rest e = absurd cc
ending_takes ends (b ∷ bs) c rest e =
    let g = cond_some_to (ends b) (Some (b, bs)) (c, rest) e in
    let q : ◌≡◌ {A = ℕ × List ℕ} (b, bs) (c, rest) = same_Some (b, bs) (c, rest) g.1 in
    let one : b ≡ c = ap (λ (w : ℕ × List ℕ). w.0) q in
    let others : bs ≡ rest = ap (λ (w : ℕ × List ℕ). w.1) q in
    (ap ends (sym one) ∙ g.0, rw (one, others) refl)

-- a byte that passes
pub reads_ending : (ends : ℕ → Bool) → Reads (ending_at ends) (λ t c. (ends c ≡ true) × (t ≡ c ∷ []))
reads_ending ends = record {
  sound = λ bytes c rest e. let t = ending_takes ends bytes c rest e in (c ∷ [], (t.0, refl), t.1);
  complete = λ front c rest r. rw (r.1, r.0) refl;
}
