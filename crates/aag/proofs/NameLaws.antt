-- A name is read as it is spelled.
use Rattle.std.proofs.Common.{◌≡◌, ◌≢◌, ℕ, zero, suc, ◌+◌, ◌<◌, Bool, true, false, cond, eqb, List, [], ◌∷◌, ◌++◌, length, take, drop, append_assoc, inl, inr, Some, None, All, refl, sym, ap, ◌∙◌, arith}
use Rattle.std.proofs.lemmas.Bool.{ne_eqb, eqb-true, eqb-false, cases_Bool}
use Rattle.std.proofs.lemmas.List.{length-take-le}
use Rattle.std.proofs.lemmas.List.Elements.{All-nil, All-cons, All-head, All-tail}
use Rattle.std.proofs.lemmas.Option.{same_Some}
use Rattle.memchr.specs.Find.{is_byte, Passes}
use Rattle.scan.proofs.NumberLaws.{cond_none_to}
use Rattle.scan.proofs.Toolbox.{Reads, bind_some}
use Rattle.graph.specs.Symbols.{IsName}
use Rattle.aag.specs.Symbols.{name_at, named_at}

-- ---- by the place of the line end

fails : (b : Bool) → (b ≡ true → ⊥) → b ≡ false
fails true h = absurd (h refl)
fails false h = refl

-- without a line end there is no name
pub name_none : (text : List ℕ) → ((k : ℕ) → k < length text → Passes (is_byte 10) text k → ⊥) → name_at text ≡ None
unfolding name_at
name_none [] h = refl
name_none (c ∷ cs) h =
    let first : eqb c 10 ≡ false = fails (eqb c 10) (h 0 (omega arith)) in
    rw (first, name_none cs (λ k lt. h (suc k) (omega arith))) refl

-- the name ends before the first line end
pub name_some : (text : List ℕ) (k : ℕ) → k < length text → ((j : ℕ) → j < k → Passes (is_byte 10) text j → ⊥) → Passes (is_byte 10) text k → name_at text ≡ Some (take k text, drop (suc k) text)
unfolding name_at
name_some [] k lt before here = absurd (omega (arith, lt))
name_some (c ∷ cs) zero lt before here = rw here refl
name_some (c ∷ cs) (suc k) lt before here =
    let first : eqb c 10 ≡ false = fails (eqb c 10) (before 0 (omega arith)) in
    rw (first, name_some cs k (omega arith) (λ j le. before (suc j) (omega arith)) here) refl

-- the name before a line end that is not the first byte
pub name_taken : (text : List ℕ) (k : ℕ) → k < length text → k ≢ 0 → ((j : ℕ) → j < k → Passes (is_byte 10) text j → ⊥) → Passes (is_byte 10) text k → named_at text ≡ Some (take k text, drop (k + 1) text)
name_taken text k lt some before here =
    let next : k + 1 ≡ suc k = omega arith in
    let long : length (take k text) ≡ k = length-take-le k text (omega (arith, lt)) in
    rw (next, name_some text k lt before here, ne_eqb (length (take k text)) 0 (λ e. some (sym long ∙ e))) refl

-- ---- by its spelling

-- bytes that have no line end among them
abbrev pub HasNoLineEnd : List ℕ → Type 0
HasNoLineEnd bytes = All (λ b. b ≢ 10) bytes

name_ends : (c : ℕ) (cs name rest : List ℕ) → c ≡ 10 → name ≡ [] → cs ≡ rest → HasNoLineEnd name × (c ∷ cs ≡ name ++ 10 ∷ rest)
name_ends c cs name rest ten none others = rw (none, ten, others) (All-nil (λ b. b ≢ 10), refl)

name_goes_on : (c : ℕ) (cs front name rest : List ℕ) → c ≢ 10 → HasNoLineEnd front → cs ≡ front ++ 10 ∷ rest → name ≡ c ∷ front → HasNoLineEnd name × (c ∷ cs ≡ name ++ 10 ∷ rest)
name_goes_on c cs front name rest other free parts more = rw (more, parts) (All-cons (λ b. b ≢ 10) c front other free, refl)

name_sound : (bytes name rest : List ℕ) → name_at bytes ≡ Some (name, rest) → HasNoLineEnd name × (bytes ≡ name ++ 10 ∷ rest)
unfolding name_at
name_sound [] name rest e = absurd cc
name_sound (c ∷ cs) name rest e = elim (cases_Bool (eqb c 10)) [
  | inl y ↦
      let q : ◌≡◌ {A = List ℕ × List ℕ} ([], cs) (name, rest) = same_Some ([], cs) (name, rest) (rw y at e) in
      name_ends c cs name rest (eqb-true c 10 y) (sym (ap (λ (w : List ℕ × List ℕ). w.0) q)) (ap (λ (w : List ℕ × List ℕ). w.1) q)
  | inr n ↦
      let b = bind_some (name_at cs) (λ r. Some (c ∷ r.0, r.1)) (name, rest) (rw n at e) in
      let s = name_sound cs b.0.0 b.0.1 b.1 in
      let q : ◌≡◌ {A = List ℕ × List ℕ} (c ∷ b.0.0, b.0.1) (name, rest) = same_Some (c ∷ b.0.0, b.0.1) (name, rest) b.2 in
      name_goes_on c cs b.0.0 name rest (eqb-false c 10 n) s.0 (s.1 ∙ ap (λ (w : List ℕ). b.0.0 ++ 10 ∷ w) (ap (λ (w : List ℕ × List ℕ). w.1) q)) (sym (ap (λ (w : List ℕ × List ℕ). w.0) q))
]

name_complete : (name rest : List ℕ) → HasNoLineEnd name → name_at (name ++ 10 ∷ rest) ≡ Some (name, rest)
unfolding name_at
name_complete [] rest h = refl
name_complete (c ∷ cs) rest h =
    rw (ne_eqb c 10 (All-head (λ b. b ≢ 10) c cs h), name_complete cs rest (All-tail (λ b. b ≢ 10) c cs h)) refl

-- a name, and the line end behind it
pub record IsNameLine (t name : List ℕ) : Type 0 where
  pub spells : t ≡ name ++ 10 ∷ []
  pub named : IsName name

some_bytes : (n : ℕ) → n ≢ 0 → 0 < n
some_bytes zero h = absurd (h refl)
some_bytes (suc n) h = omega arith

pub name_reads : Reads named_at IsNameLine
name_reads = record {
  sound = λ bytes name rest e.
      let b = bind_some (name_at bytes) (λ r. cond (eqb (length r.0) 0) None (Some r)) (name, rest) e in
      let g = cond_none_to (eqb (length b.0.0) 0) (Some b.0) (name, rest) b.2 in
      let q : ◌≡◌ {A = List ℕ × List ℕ} b.0 (name, rest) = same_Some b.0 (name, rest) g.1 in
      let s = name_sound bytes name rest (b.1 ∙ ap (λ (w : List ℕ × List ℕ). Some w) q) in
      let some : eqb (length name) 0 ≡ false = rw (← ap (λ (w : List ℕ × List ℕ). w.0) q) g.0 in
      (name ++ 10 ∷ [], record { spells = refl; named = record { some = some_bytes (length name) (eqb-false (length name) 0 some); no_end = s.0 } }, s.1 ∙ simp append_assoc);
  complete = λ front name rest r.
      let whole : front ++ rest ≡ name ++ 10 ∷ rest = rw r.spells (simp append_assoc) in
      rw (whole, name_complete name rest r.named.no_end, ne_eqb (length name) 0 (λ e. omega (arith, e, r.named.some))) refl;
}

-- such bytes are a name
pub taken_is_name : (text : List ℕ) (k : ℕ) → k < length text → k ≢ 0 → ((j : ℕ) → j < k → Passes (is_byte 10) text j → ⊥) → Passes (is_byte 10) text k → IsName (take k text)
taken_is_name text k lt some before here =
    let s = name_reads.sound text (take k text) (drop (k + 1) text) (name_taken text k lt some before here) in
    s.1.named
