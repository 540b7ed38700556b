-- The lines of hints are read as they are spelled: as those of clauses, whose literals have the ids' numbers.
use Rattle.std.proofs.Common.{◌≡◌, ℕ, zero, suc, ◌<◌, List, [], ◌∷◌, ◌++◌, map, Option, Some, None, All, refl, sym, ap, ◌∙◌, arith}
use Rattle.std.specs.Prelude.{decimal, codes, flat_map}
use Rattle.std.proofs.lemmas.List.{append-nil, length-map}
use Rattle.std.proofs.lemmas.List.Elements.{All-nil, All-cons, All-head, All-tail}
use Rattle.scan.specs.Reading.{◌>>=◌, Read}
use Rattle.scan.specs.Bytes.{byte_at}
use Rattle.scan.specs.Numbers.{number_at}
use Rattle.scan.specs.Lists.{many_at}
use Rattle.scan.specs.Spelling.{Nothing, Then}
use Rattle.scan.proofs.Toolbox.{Reads, reads_as, reads_same, reads_nothing, reads_then}
use Rattle.graph.specs.declared.circuit.Lit.{Lit}
use Rattle.certificate.specs.Reading.{greatest, literals_at, clause_at, spaced_at as spaced_literal_at}
use Rattle.certificate.specs.Texts.{clause_line}
use Rattle.certificate.proofs.HeadLaws.{AreSmall, IsClauseLine, clause_reads}
use Rattle.certificate3.specs.Reading.{spaced_at, ids_at, hints_at}
use Rattle.certificate3.specs.Texts.{hints_line, AreHints}

abbrev pub num : Lit → ℕ
num a = a.0

abbrev pub lit : ℕ → Lit
lit n = record { 0 = n }

-- the numbers of literals that were read
abbrev nums : Read (List Lit) → Read (List ℕ)
nums o = o >>= λ c. Some (map num c.0, c.1)

abbrev more : {A : Type 0} → A → Read (List A) → Read (List A)
more x o = o >>= λ xs. Some (x ∷ xs.0, xs.1)

nums_more : (n : ℕ) (o : Read (List Lit)) → more n (nums o) ≡ nums (more (lit n) o)
nums_more n None = refl
nums_more n (Some c) = refl

-- an id and those behind it, as an id is read
abbrev then_ids : ℕ → Read ℕ → Read (List ℕ)
then_ids n o = o >>= λ first. more first.0 (many_at spaced_at n first.1)

abbrev then_literals : ℕ → Read Lit → Read (List Lit)
then_literals n o = o >>= λ first. more first.0 (many_at spaced_literal_at n first.1)

abbrev one_literal : Read ℕ → Read Lit
one_literal o = o >>= λ n. Some (lit n.0, n.1)

same_number : (n : ℕ) (o : Read ℕ) → ((bytes : List ℕ) → many_at spaced_at n bytes ≡ nums (many_at spaced_literal_at n bytes)) → then_ids n o ≡ nums (then_literals n (one_literal o))
same_number n None same = refl
same_number n (Some a) same = ap (more a.0) (same a.1) ∙ nums_more a.0 (many_at spaced_literal_at n a.1)

same_spaced : (n : ℕ) (o : Option (List ℕ)) → ((bytes : List ℕ) → many_at spaced_at n bytes ≡ nums (many_at spaced_literal_at n bytes))
    → then_ids n (o >>= λ rest. number_at 4294967295 rest) ≡ nums (then_literals n (o >>= λ rest. one_literal (number_at 4294967295 rest)))
same_spaced n None same = refl
same_spaced n (Some rest) same = same_number n (number_at 4294967295 rest) same

same_ids : (n : ℕ) (bytes : List ℕ) → many_at spaced_at n bytes ≡ nums (many_at spaced_literal_at n bytes)
unfolding many_at spaced_at spaced_literal_at
same_ids zero bytes = refl
same_ids (suc n) bytes = same_spaced n (byte_at 32 bytes) (same_ids n)

abbrev ended_ids : Read (List ℕ) → Read (List ℕ)
ended_ids o = o >>= λ ids. (byte_at 10 ids.1 >>= λ rest. Some (ids.0, rest))

abbrev ended_literals : Read (List Lit) → Read (List Lit)
ended_literals o = o >>= λ c. (byte_at 10 c.1 >>= λ rest. Some (c.0, rest))

same_rest : (c : List Lit) (o : Option (List ℕ)) → (o >>= λ rest. Some (map num c, rest)) ≡ nums (o >>= λ rest. Some (c, rest))
same_rest c None = refl
same_rest c (Some rest) = refl

same_end : (o : Read (List Lit)) → ended_ids (nums o) ≡ nums (ended_literals o)
same_end None = refl
same_end (Some c) = same_rest c.0 (byte_at 10 c.1)

same_list : (n : ℕ) (bytes : List ℕ) → ids_at n bytes ≡ nums (literals_at n bytes)
unfolding ids_at literals_at
same_list n bytes = ap ended_ids (same_ids n bytes) ∙ same_end (many_at spaced_literal_at n bytes)

same_count : (o : Read ℕ) → (o >>= λ count. ids_at count.0 count.1) ≡ nums (o >>= λ count. literals_at count.0 count.1)
same_count None = refl
same_count (Some count) = same_list count.0 count.1

same_line : (bytes : List ℕ) → hints_at bytes ≡ nums (clause_at bytes)
unfolding hints_at clause_at
same_line bytes = same_count (number_at greatest bytes)

-- ---- the same in texts

texts_same : (c : List Lit) → flat_map (λ (a : Lit). codes " " ++ decimal a.0) c ≡ flat_map (λ (n : ℕ). codes " " ++ decimal n) (map num c)
texts_same [] = refl
texts_same (a ∷ c) = ap (λ (w : List ℕ). (codes " " ++ decimal a.0) ++ w) (texts_same c)

line_same : (c : List Lit) → clause_line c ≡ hints_line (map num c)
line_same c = rw (texts_same c, length-map c num) refl

nums_lits : (ids : List ℕ) → map num (map lit ids) ≡ ids
nums_lits [] = refl
nums_lits (n ∷ ids) = ap (λ (w : List ℕ). n ∷ w) (nums_lits ids)

small_nums : (c : List Lit) → AreSmall c → All (λ n. n < 4294967296) (map num c)
small_nums [] all = All-nil (λ n. n < 4294967296)
small_nums (a ∷ c) all =
    All-cons (λ n. n < 4294967296) a.0 (map num c) (All-head (λ (x : Lit). x.0 < 4294967296) a c all) (small_nums c (All-tail (λ (x : Lit). x.0 < 4294967296) a c all))

small_lits : (ids : List ℕ) → All (λ n. n < 4294967296) ids → AreSmall (map lit ids)
small_lits [] all = All-nil (λ (x : Lit). x.0 < 4294967296)
small_lits (n ∷ ids) all =
    All-cons (λ (x : Lit). x.0 < 4294967296) (lit n) (map lit ids) (All-head (λ n. n < 4294967296) n ids all) (small_lits ids (All-tail (λ n. n < 4294967296) n ids all))

-- the line of so many hints as the limits allow
abbrev pub IsHintsLine : List ℕ → List ℕ → Type 0
IsHintsLine t ids = (t ≡ hints_line ids) × AreHints ids

hints_to : (t ids : List ℕ) → Then IsClauseLine (λ c. Nothing {A = List ℕ} (map num c)) t ids → IsHintsLine t ids
hints_to t ids (c, a, b, (spells, (few, small)), last, whole) =
    rw last.1 (
      whole ∙ ap (λ (w : List ℕ). a ++ w) last.0 ∙ append-nil a ∙ spells ∙ line_same c,
      record { short = omega (arith, few, length-map c num); words = small_nums c small },
    )

hints_from : (t ids : List ℕ) → IsHintsLine t ids → Then IsClauseLine (λ c. Nothing {A = List ℕ} (map num c)) t ids
hints_from t ids (spells, hints) =
    let c : List Lit = map lit ids in
    let short = hints.short in (
      c,
      t,
      [],
      (spells ∙ ap hints_line (sym (nums_lits ids)) ∙ sym (line_same c), (omega (arith, short, length-map ids lit), small_lits ids hints.words)),
      (refl, sym (nums_lits ids)),
      sym (append-nil t),
    )

pub hints_reads : Reads hints_at IsHintsLine
hints_reads = reads_same hints_at same_line (reads_as IsHintsLine (reads_then clause_reads (λ c. reads_nothing {A = List ℕ} (map num c))) hints_to hints_from)
