-- Symbols and the comment are read as they are spelled.
use Rattle.std.proofs.Common.{◌≡◌, ℕ, zero, suc, ◌-◌, ◌^◌, ◌≤◌, ◌<◌, true, false, not, eqb, List, [], ◌∷◌, ◌++◌, length, Option, Some, None, refl, sym, ap, ◌∙◌, arith, append_assoc, inl, inr}
use Rattle.std.specs.Char.{is_ascii_digit}
use Rattle.std.specs.Prelude.{decimal}
use Rattle.std.proofs.lemmas.Bool.{ne_eqb, eqb-true, eqb-false, cases_Bool, and_parts, not-true, le-leb}
use Rattle.std.proofs.lemmas.List.{append-nil}
use Rattle.std.proofs.lemmas.Option.{same_Some}
use Rattle.scan.specs.Reading.{◌>>=◌}
use Rattle.scan.specs.Words.{any, IsField}
use Rattle.scan.specs.Lists.{Each}
use Rattle.scan.specs.Spelling.{Nothing, Then}
use Rattle.scan.proofs.NumberLaws.{decimal_first}
use Rattle.scan.proofs.Toolbox.{Reads, bind_some, reads_as, reads_nothing, reads_then}
use Rattle.scan.proofs.WordLaws.{field_reads}
use Rattle.graph.specs.declared.symbol.Symbol.{Symbol}
use Rattle.graph.specs.declared.symbol.SymbolKind.{SymbolKind}
use Rattle.graph.specs.declared.symbol.SymbolKind.TheVariants.{Input, Latch, Output, Bad, Constraint, Justice, Fairness}
use Rattle.graph.specs.Symbols.{IsName}
use Rattle.aag.specs.Symbols.{kind_of, kind_at, symbol_at, ends_symbols, symbols_in, comment_of}
use Rattle.aag.specs.Tail.{letter_of, IsSymbolLine, BeginsApart, IsComment}
use Rattle.aag.proofs.NameLaws.{IsNameLine, name_reads}

-- ---- kinds

-- a letter of a kind
abbrev IsLetter : List ℕ → SymbolKind → Type 0
IsLetter t k = t ≡ letter_of k ∷ []

kind_of_letter : (k : SymbolKind) → kind_of (letter_of k) ≡ Some k
kind_of_letter Input = refl
kind_of_letter Latch = refl
kind_of_letter Output = refl
kind_of_letter Bad = refl
kind_of_letter Constraint = refl
kind_of_letter Justice = refl
kind_of_letter Fairness = refl

is_kind : (c l : ℕ) (k kind : SymbolKind) → l ≡ letter_of k → eqb c l ≡ true → k ≡ kind → c ≡ letter_of kind
is_kind c l k kind e same one = eqb-true c l same ∙ e ∙ ap letter_of one

no_kind : (k : SymbolKind) → ◌≡◌ {A = Option SymbolKind} None (Some k) → ⊥
no_kind k e = absurd cc

letter_of_kind : (c : ℕ) (k : SymbolKind) → kind_of c ≡ Some k → c ≡ letter_of k
letter_of_kind c k e = elim (cases_Bool (eqb c 105)) [
  | inl y ↦ is_kind c 105 Input k refl y (same_Some Input k (rw y at e))
  | inr n0 ↦ elim (cases_Bool (eqb c 108)) [
    | inl y ↦ is_kind c 108 Latch k refl y (same_Some Latch k (rw (n0, y) at e))
    | inr n1 ↦ elim (cases_Bool (eqb c 111)) [
      | inl y ↦ is_kind c 111 Output k refl y (same_Some Output k (rw (n0, n1, y) at e))
      | inr n2 ↦ elim (cases_Bool (eqb c 98)) [
        | inl y ↦ is_kind c 98 Bad k refl y (same_Some Bad k (rw (n0, n1, n2, y) at e))
        | inr n3 ↦ elim (cases_Bool (eqb c 99)) [
          | inl y ↦ is_kind c 99 Constraint k refl y (same_Some Constraint k (rw (n0, n1, n2, n3, y) at e))
          | inr n4 ↦ elim (cases_Bool (eqb c 106)) [
            | inl y ↦ is_kind c 106 Justice k refl y (same_Some Justice k (rw (n0, n1, n2, n3, n4, y) at e))
            | inr n5 ↦ elim (cases_Bool (eqb c 102)) [
              | inl y ↦ is_kind c 102 Fairness k refl y (same_Some Fairness k (rw (n0, n1, n2, n3, n4, n5, y) at e))
              | inr n6 ↦ absurd (no_kind k (rw (n0, n1, n2, n3, n4, n5, n6) at e))
            ]
          ]
        ]
      ]
    ]
  ]
]

kind_takes : (bytes : List ℕ) (k : SymbolKind) (rest : List ℕ) → kind_at bytes ≡ Some (k, rest) → (front : List ℕ) × IsLetter front k × (bytes ≡ front ++ rest)
unfolding kind_at
kind_takes [] k rest e = absurd cc
kind_takes (c ∷ cs) k rest e =
    let b = bind_some (kind_of c) (λ kind. Some (kind, cs)) (k, rest) e in
    let q : ◌≡◌ {A = SymbolKind × List ℕ} (b.0, cs) (k, rest) = same_Some (b.0, cs) (k, rest) b.2 in
    let same : b.0 ≡ k = ap (λ (w : SymbolKind × List ℕ). w.0) q in
    let others : cs ≡ rest = ap (λ (w : SymbolKind × List ℕ). w.1) q in
    (letter_of k ∷ [], refl, ap (λ (d : ℕ). d ∷ cs) (letter_of_kind c b.0 b.1 ∙ ap letter_of same) ∙ ap (λ (w : List ℕ). letter_of k ∷ w) others)

kind_reads : Reads kind_at IsLetter
unfolding kind_at
kind_reads = record {
  sound = λ bytes k rest e. kind_takes bytes k rest e;
  complete = λ front k rest r. rw (r, kind_of_letter k) refl;
}

-- ---- one symbol

-- a text of a symbol, whatever it names
pub record IsSymbolText (t : List ℕ) (s : Symbol) : Type 0 where
  pub spells : IsSymbolLine t s
  pub named : IsName s.name
  pub small : s.position ≤ 2 ^ 32 - 1

abbrev OfSymbol : List ℕ → Symbol → Type 0
OfSymbol =
    Then IsLetter (λ kind.
    Then (IsField (2 ^ 32 - 1) any 32) (λ position.
    Then IsNameLine (λ name.
    Nothing {A = Symbol} (record { kind = kind; position = position; name = name }))))

symbol_to : (t : List ℕ) (s : Symbol) → OfSymbol t s → IsSymbolText t s
symbol_to t s (kind, a, b, letter, (position, c, d, field, (name, e, f, named, last, p3), p2), p1) =
    rw last.1 (record {
      spells = rw (p1, p2, p3, last.0, letter, field.spells, named.spells) (simp (append_assoc, append-nil));
      named = named.named;
      small = field.within;
    })

symbol_from : (t : List ℕ) (s : Symbol) → IsSymbolText t s → OfSymbol t s
symbol_from t s r = (
  s.kind,
  letter_of s.kind ∷ [],
  (decimal s.position ++ 32 ∷ []) ++ (s.name ++ 10 ∷ []),
  refl,
  (
    s.position,
    decimal s.position ++ 32 ∷ [],
    s.name ++ 10 ∷ [],
    record { spells = refl; within = r.small; is_good = refl },
    (
      s.name,
      s.name ++ 10 ∷ [],
      [],
      record { spells = refl; named = r.named },
      (refl, refl),
      sym (append-nil (s.name ++ 10 ∷ [])),
    ),
    refl,
  ),
  r.spells ∙ simp append_assoc,
)

pub symbol_reads : Reads symbol_at IsSymbolText
unfolding symbol_at
symbol_reads = reads_as IsSymbolText
    (reads_then kind_reads (λ kind.
    reads_then (field_reads (2 ^ 32 - 1) any 32 (omega arith) refl) (λ position.
    reads_then name_reads (λ name.
    reads_nothing {A = Symbol} (record { kind = kind; position = position; name = name })))))
    symbol_to symbol_from

-- ---- all symbols

-- where a symbol's line stands, the symbols don't end
letter_goes_on : (k : SymbolKind) (c : ℕ) (cs : List ℕ) → is_ascii_digit c ≡ true → ends_symbols (letter_of k ∷ c ∷ cs) ≡ false
letter_goes_on Input c cs d = refl
letter_goes_on Latch c cs d = refl
letter_goes_on Output c cs d = refl
letter_goes_on Bad c cs d = refl
letter_goes_on Constraint c cs d = rw d refl
letter_goes_on Justice c cs d = refl
letter_goes_on Fairness c cs d = refl

digit_is : (c : ℕ) → (48 ≤ c) × (c ≤ 57) → is_ascii_digit c ≡ true
digit_is c d = rw (le-leb 48 c d.0, le-leb c 57 d.1) refl

symbol_goes_on : (t : List ℕ) (s : Symbol) (rest : List ℕ) → IsSymbolText t s → ends_symbols (t ++ rest) ≡ false
symbol_goes_on t s rest r =
    let first = decimal_first (2 ^ 32 - 1) s.position r.small (omega arith) in
    rw (r.spells, first.3) (letter_goes_on s.kind first.0 (first.1 ++ 32 ∷ s.name ++ 10 ∷ [] ++ rest) (digit_is first.0 first.2))

symbols_stop : (bytes : List ℕ) (xs : List Symbol) (rest : List ℕ) → ends_symbols bytes ≡ true → ◌≡◌ {A = List Symbol × List ℕ} ([], bytes) (xs, rest) → (front : List ℕ) × Each IsSymbolText front xs × (ends_symbols rest ≡ true) × (bytes ≡ front ++ rest)
symbols_stop bytes xs rest ends q =
    let none : xs ≡ [] = sym (ap (λ (w : List Symbol × List ℕ). w.0) q) in
    let others : bytes ≡ rest = ap (λ (w : List Symbol × List ℕ). w.1) q in
    ([], rw none refl, ap ends_symbols (sym others) ∙ ends, others)

symbols_go_on : (bytes front more after : List ℕ) (s : Symbol) (ys xs : List Symbol) (end rest : List ℕ) → IsSymbolText front s → bytes ≡ front ++ after → Each IsSymbolText more ys → ends_symbols end ≡ true → after ≡ more ++ end
    → ◌≡◌ {A = List Symbol × List ℕ} (s ∷ ys, end) (xs, rest) → (front : List ℕ) × Each IsSymbolText front xs × (ends_symbols rest ≡ true) × (bytes ≡ front ++ rest)
symbols_go_on bytes front more after s ys xs end rest one whole others ends parts q =
    let all : xs ≡ s ∷ ys = sym (ap (λ (w : List Symbol × List ℕ). w.0) q) in
    let same : end ≡ rest = ap (λ (w : List Symbol × List ℕ). w.1) q in (
      front ++ more,
      rw all (front, more, one, others, refl),
      ap ends_symbols (sym same) ∙ ends,
      whole ∙ ap (λ (w : List ℕ). front ++ w) (parts ∙ ap (λ (w : List ℕ). more ++ w) same) ∙ sym (append_assoc front more rest),
    )

pub symbols_sound : (n : ℕ) (bytes : List ℕ) (xs : List Symbol) (rest : List ℕ) → symbols_in n bytes ≡ Some (xs, rest) → (front : List ℕ) × Each IsSymbolText front xs × (ends_symbols rest ≡ true) × (bytes ≡ front ++ rest)
unfolding symbols_in
symbols_sound zero bytes xs rest e = absurd cc
symbols_sound (suc n) bytes xs rest e = elim (cases_Bool (ends_symbols bytes)) [
  | inl y ↦ symbols_stop bytes xs rest y (same_Some ([], bytes) (xs, rest) (rw y at e))
  | inr n0 ↦
      let b = bind_some (symbol_at bytes) (λ s. symbols_in n s.1 >>= λ others. Some (s.0 ∷ others.0, others.1)) (xs, rest) (rw n0 at e) in
      let c = bind_some (symbols_in n b.0.1) (λ others. Some (b.0.0 ∷ others.0, others.1)) (xs, rest) b.2 in
      let one = symbol_reads.sound bytes b.0.0 b.0.1 b.1 in
      let others = symbols_sound n b.0.1 c.0.0 c.0.1 c.1 in
      symbols_go_on bytes one.0 others.0 b.0.1 b.0.0 c.0.0 xs c.0.1 rest one.1 one.2 others.1 others.2 others.3 (same_Some (b.0.0 ∷ c.0.0, c.0.1) (xs, rest) c.2)
]

pub symbols_complete : (n : ℕ) (front : List ℕ) (xs : List Symbol) (rest : List ℕ) → length xs < n → Each IsSymbolText front xs → ends_symbols rest ≡ true → symbols_in n (front ++ rest) ≡ Some (xs, rest)
unfolding symbols_in
symbols_complete zero front xs rest lt each ends = absurd (omega (arith, lt))
symbols_complete (suc n) front [] rest lt each ends = rw (each, ends) refl
symbols_complete (suc n) front (s ∷ xs) rest lt (a, b, one, others, p) ends =
    let whole : front ++ rest ≡ a ++ (b ++ rest) = rw p (append_assoc a b rest) in
    rw (whole, symbol_goes_on a s (b ++ rest) one, symbol_reads.complete a s (b ++ rest) one, symbols_complete n b xs rest (omega (arith, lt)) others ends) refl

-- ---- the comment

comment_begins : (c d : ℕ) (ds : List ℕ) → c ≡ 99 → is_ascii_digit d ≡ false → IsComment (c ∷ d ∷ ds) (comment_of (c ∷ d ∷ ds))
comment_begins c d ds letter apart = elim (cases_Bool (eqb d 10)) [
  | inl y ↦ rw y (inl (rw (letter, eqb-true d 10 y) refl))
  | inr n ↦ rw n (inr (rw letter refl, (apart, eqb-false d 10 n)))
]

comment_apart : (comment : List ℕ) → BeginsApart comment → (ends_symbols (99 ∷ comment) ≡ true) × (comment_of (99 ∷ comment) ≡ Some comment)
comment_apart [] apart = (refl, refl)
comment_apart (d ∷ ds) apart = (rw apart.0 refl, rw (ne_eqb d 10 apart.1) refl)

pub comment_sound : (bytes : List ℕ) → ends_symbols bytes ≡ true → IsComment bytes (comment_of bytes)
comment_sound [] e = refl
comment_sound (c ∷ []) e = let p = and_parts (eqb c 99) true e in inr (ap (λ (k : ℕ). k ∷ []) (eqb-true c 99 p.0), tt)
comment_sound (c ∷ d ∷ ds) e =
    let p = and_parts (eqb c 99) (not (is_ascii_digit d)) e in
    comment_begins c d ds (eqb-true c 99 p.0) (not-true (is_ascii_digit d) p.1)

pub comment_complete : (bytes : List ℕ) (o : Option (List ℕ)) → IsComment bytes o → (ends_symbols bytes ≡ true) × (comment_of bytes ≡ o)
comment_complete bytes None e = rw e (refl, refl)
comment_complete bytes (Some comment) (inl e) = rw e (refl, refl)
comment_complete bytes (Some comment) (inr (e, apart)) = rw e (comment_apart comment apart)
