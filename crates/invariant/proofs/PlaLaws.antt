-- A PLA is read as it is spelled.
use Rattle.base.specs.Witness.{witness}
use Rattle.std.proofs.Common.{◌≡◌, ℕ, suc, ◌^◌, ◌<◌, Bool, true, false, cond, eqb, List, [], ◌∷◌, ◌++◌, length, map, All, Option, Some, None, refl, sym, ap, subst, ◌∙◌, append_assoc, arith, inl, inr}
use Rattle.std.specs.Prelude.{decimal, codes, flat_map}
use Rattle.std.proofs.lemmas.Bool.{cases_Bool, eqb-true, eq-eqb}
use Rattle.std.proofs.lemmas.List.{append-nil, length-map}
use Rattle.std.proofs.lemmas.List.Elements.{All-nil, All-cons, All-head, All-tail}
use Rattle.std.proofs.lemmas.Option.{same_Some, none-some}
use Rattle.scan.specs.declared.fault.Fault.{Fault}
use Rattle.scan.specs.declared.fault.Fault.TheVariants.{Memory, Text}
use Rattle.scan.specs.Reading.{◌>>=◌, Read, Fails}
use Rattle.scan.specs.Bytes.{tag_at}
use Rattle.scan.specs.Lists.{Each, many_at}
use Rattle.scan.specs.Spelling.{Nothing, Then, After}
use Rattle.scan.specs.Words.{any, IsField}
use Rattle.scan.proofs.ListLaws.{many_reads}
use Rattle.scan.proofs.NumberLaws.{cond_some_to}
use Rattle.scan.proofs.Toolbox.{Reads, bind_some, reads_as, reads_nothing, reads_then, reads_after, skips_tag}
use Rattle.scan.proofs.WordLaws.{field_reads}
use Rattle.graph.specs.File.{File}
use Rattle.graph.specs.declared.circuit.Latch.{Latch}
use Rattle.graph.specs.declared.circuit.Lit.{Lit}
use Rattle.invariant.specs.Plas.{value_byte, cube_row, literals_against, clause_of, behind_comments, head, columns_at, SpellsPla}
use Rattle.invariant.specs.Refusals.{error_of}
use Rattle.invariant.specs.declared.invariant_error.InvariantError.TheVariants.{OutOfMemory}
use Rattle.invariant.specs.declared.invariant_fault.InvariantFault.{InvariantFault}
use Rattle.invariant.specs.PlaReading.{head_at, value_at, row_at, behind_lines, end_at, wide_at, pla_at}

-- ---- the counts

abbrev IsHead : List ℕ → ℕ × ℕ → Type 0
IsHead t x = (x.0 < 2 ^ 32) × (x.1 < 2 ^ 32) × (t ≡ head x.0 x.1)

abbrev OfHead : List ℕ → ℕ × ℕ → Type 0
OfHead =
    After (codes ".i ") (Then (IsField 4294967295 any 10) (λ columns.
    After (codes ".o 1\n.p ") (Then (IsField 4294967295 any 10) (λ cubes. Nothing {A = ℕ × ℕ} (columns, cubes)))))

head_to : (t : List ℕ) (x : ℕ × ℕ) → OfHead t x → IsHead t x
head_to t x (u, (columns, a, b, one, (v, (cubes, c, d, two, last, p), q), r), s) =
    let second : v ≡ decimal cubes ++ 10 ∷ [] = rw (p, last.0, two.spells) (append-nil (decimal cubes ++ 10 ∷ [])) in
    let first : u ≡ decimal columns ++ (codes "\n.o 1\n.p " ++ (decimal cubes ++ 10 ∷ [])) =
    rw (r, one.spells, q, second) (append_assoc (decimal columns) (10 ∷ []) (codes ".o 1\n.p " ++ (decimal cubes ++ 10 ∷ []))) in
    rw last.1 (omega (arith, one.within), omega (arith, two.within), s ∙ ap (λ (w : List ℕ). codes ".i " ++ w) first)

field_of : (n : ℕ) → n < 2 ^ 32 → IsField 4294967295 any 10 (decimal n ++ 10 ∷ []) n
field_of n small = record { spells = refl; within = omega (arith, small); is_good = refl }

head_from : (t : List ℕ) (x : ℕ × ℕ) → IsHead t x → OfHead t x
head_from t x (few, small, whole) = (
  decimal x.0 ++ (codes "\n.o 1\n.p " ++ (decimal x.1 ++ 10 ∷ [])),
  (
    x.0,
    decimal x.0 ++ 10 ∷ [],
    codes ".o 1\n.p " ++ (decimal x.1 ++ 10 ∷ []),
    field_of x.0 few,
    (decimal x.1 ++ 10 ∷ [], (x.1, decimal x.1 ++ 10 ∷ [], [], field_of x.1 small, (refl, refl), sym (append-nil (decimal x.1 ++ 10 ∷ []))), refl),
    sym (append_assoc (decimal x.0) (10 ∷ []) (codes ".o 1\n.p " ++ (decimal x.1 ++ 10 ∷ []))),
  ),
  whole,
)

head_reads : Reads head_at IsHead
unfolding head_at
head_reads =
    reads_as IsHead
    (reads_after (skips_tag (codes ".i ")) (reads_then (field_reads 4294967295 any 10 (omega arith) refl) (λ columns.
    reads_after (skips_tag (codes ".o 1\n.p ")) (reads_then (field_reads 4294967295 any 10 (omega arith) refl) (λ cubes. reads_nothing {A = ℕ × ℕ} (columns, cubes))))))
    head_to head_from

-- ---- a row

abbrev IsValue : List ℕ → Option Bool → Type 0
IsValue t v = t ≡ value_byte v ∷ []

value_is : (c : ℕ) (cs : List ℕ) (v : Option Bool) (rest : List ℕ) (w : Option Bool) → c ≡ value_byte w → ◌≡◌ {A = Option Bool × List ℕ} (w, cs) (v, rest) → c ∷ cs ≡ value_byte v ∷ rest
value_is c cs v rest w e q =
    rw (e, ap (λ (x : Option Bool × List ℕ). x.0) q, ap (λ (x : Option Bool × List ℕ). x.1) q) refl

value_takes : (bytes : List ℕ) (v : Option Bool) (rest : List ℕ) → value_at bytes ≡ Some (v, rest) → bytes ≡ value_byte v ∷ rest
value_takes [] v rest e = absurd cc
value_takes (c ∷ cs) v rest e = elim (cases_Bool (eqb c 45)) [
  | inl y ↦
      let q : ◌≡◌ {A = Option Bool × List ℕ} (None, cs) (v, rest) = same_Some (None, cs) (v, rest) (rw y at e) in
      value_is c cs v rest None (eqb-true c 45 y) q
  | inr n ↦ elim (cases_Bool (eqb c 48)) [
    | inl y ↦
        let q : ◌≡◌ {A = Option Bool × List ℕ} (Some false, cs) (v, rest) = same_Some (Some false, cs) (v, rest) (rw (n, y) at e) in
        value_is c cs v rest (Some false) (eqb-true c 48 y) q
    | inr m ↦
        let g = cond_some_to (eqb c 49) (Some (Some true, cs)) (v, rest) (rw (n, m) at e) in
        let q : ◌≡◌ {A = Option Bool × List ℕ} (Some true, cs) (v, rest) = same_Some (Some true, cs) (v, rest) g.1 in
        value_is c cs v rest (Some true) (eqb-true c 49 g.0) q
  ]
]

value_again : (v : Option Bool) (rest : List ℕ) → value_at (value_byte v ∷ rest) ≡ Some (v, rest)
value_again None rest = refl
value_again (Some false) rest = refl
value_again (Some true) rest = refl

value_reads : Reads value_at IsValue
value_reads = record {
  sound = λ bytes v rest e. (value_byte v ∷ [], refl, value_takes bytes v rest e);
  complete = λ front v rest r. rw r (value_again v rest);
}

-- a cube's row, and its clause
abbrev IsRow : List Latch → List ℕ → List Lit → Type 0
IsRow columns t c = (cube : List (Option Bool)) × (length cube ≡ length columns) × (t ≡ cube_row cube) × (c ≡ clause_of columns cube)

none_to : (t : List ℕ) (c : List Lit) → After (codes " 1\n") (Nothing []) t c → IsRow [] t c
none_to t c (rest, last, whole) = ([], refl, rw (whole, last.0) refl, last.1)

none_from : (t : List ℕ) (c : List Lit) → IsRow [] t c → After (codes " 1\n") (Nothing []) t c
none_from t c ([], len, whole, is) = ([], (refl, is), whole)
none_from t c (v ∷ cube, len, whole, is) = absurd (omega (arith, len))

abbrev OfRow : Latch → List Latch → List ℕ → List Lit → Type 0
OfRow l ls = Then IsValue (λ v. Then (IsRow ls) (λ others. Nothing (literals_against l v ++ others)))

one_to : (l : Latch) (ls : List Latch) (t : List ℕ) (c : List Lit) → OfRow l ls t c → IsRow (l ∷ ls) t c
one_to l ls t c (v, a, b, one, (others, d, e, (cube, len, spelled, is), last, parts), whole) =
    (v ∷ cube, ap suc len, rw (whole, one, parts, last.0, spelled) (ap (λ (w : List ℕ). value_byte v ∷ w) (append-nil (cube_row cube))), rw (last.1, is) refl)

one_from : (l : Latch) (ls : List Latch) (t : List ℕ) (c : List Lit) → IsRow (l ∷ ls) t c → OfRow l ls t c
one_from l ls t c ([], len, whole, is) = absurd (omega (arith, len))
one_from l ls t c (v ∷ cube, len, whole, is) =
    (v, value_byte v ∷ [], cube_row cube, refl, (clause_of ls cube, cube_row cube, [], (cube, omega (arith, len), refl, refl), (refl, is), sym (append-nil (cube_row cube))), whole)

row_reads : (columns : List Latch) → Reads (row_at columns) (IsRow columns)
unfolding row_at
row_reads [] = reads_as (IsRow []) (reads_after (skips_tag (codes " 1\n")) (reads_nothing [])) none_to none_from
row_reads (l ∷ ls) =
    reads_as (IsRow (l ∷ ls))
    (reads_then value_reads (λ v. reads_then (row_reads ls) (λ others. reads_nothing (literals_against l v ++ others))))
    (one_to l ls) (one_from l ls)

-- ---- all rows

-- these cubes have these rows and clauses
record Cubes (columns : List Latch) (t : List ℕ) (clauses : List (List Lit)) (cubes : List (List (Option Bool))) : Type 0 where
  pub many : length cubes ≡ length clauses
  pub spelled : t ≡ flat_map cube_row cubes
  pub wide : All (λ cube. length cube ≡ length columns) cubes
  pub negated : clauses ≡ map (clause_of columns) cubes

cubes_of : (columns : List Latch) (t : List ℕ) (clauses : List (List Lit)) → Each (IsRow columns) t clauses → (cubes : List (List (Option Bool))) × Cubes columns t clauses cubes
cubes_of columns t [] e = ([], record { many = refl; spelled = e; wide = All-nil (λ cube. length cube ≡ length columns); negated = refl })
cubes_of columns t (c ∷ cs) (a, b, (cube, len, spelled, is), others, whole) =
    let r = cubes_of columns b cs others in (
      cube ∷ r.0,
      record {
        many = ap suc r.1.many;
        spelled = whole ∙ ap (λ (w : List ℕ). w ++ b) spelled ∙ ap (λ (w : List ℕ). cube_row cube ++ w) r.1.spelled;
        wide = All-cons (λ cube. length cube ≡ length columns) cube r.0 len r.1.wide;
        negated = ap (λ (d : List Lit). d ∷ cs) is ∙ ap (λ (ds : List (List Lit)). clause_of columns cube ∷ ds) r.1.negated;
      },
    )

rows_of : (columns : List Latch) (cubes : List (List (Option Bool))) → All (λ cube. length cube ≡ length columns) cubes → Each (IsRow columns) (flat_map cube_row cubes) (map (clause_of columns) cubes)
rows_of columns [] wide = refl
rows_of columns (cube ∷ cubes) wide = (
  cube_row cube,
  flat_map cube_row cubes,
  (cube, All-head (λ cube. length cube ≡ length columns) cube cubes wide, refl, refl),
  rows_of columns cubes (All-tail (λ cube. length cube ≡ length columns) cube cubes wide),
  refl,
)

-- ---- the end

lines_all : (bytes : List ℕ) → length (behind_lines bytes) ≡ 0 → All (λ c. c ≡ 10) bytes
lines_all [] e = All-nil (λ (c : ℕ). c ≡ 10)
lines_all (c ∷ cs) e = elim (cases_Bool (eqb c 10)) [
  | inl y ↦ All-cons (λ (c : ℕ). c ≡ 10) c cs (eqb-true c 10 y) (lines_all cs (rw y at e))
  | inr n ↦ let f : suc (length cs) ≡ 0 = rw n at e in absurd (omega (arith, f))
]

all_lines : (bytes : List ℕ) → All (λ c. c ≡ 10) bytes → behind_lines bytes ≡ []
all_lines [] a = refl
all_lines (c ∷ cs) a =
    rw (eq-eqb c 10 (All-head (λ (c : ℕ). c ≡ 10) c cs a)) (all_lines cs (All-tail (λ (c : ℕ). c ≡ 10) c cs a))

end_takes : (bytes rest : List ℕ) → end_at bytes ≡ Some rest → (bytes ≡ codes ".e\n" ++ rest) × All (λ c. c ≡ 10) rest
unfolding end_at
end_takes bytes rest e =
    let b = bind_some (tag_at (codes ".e\n") bytes) (λ r. cond (eqb (length (behind_lines r)) 0) (Some r) None) rest e in
    let g = cond_some_to (eqb (length (behind_lines b.0)) 0) (Some b.0) rest b.2 in
    let same : b.0 ≡ rest = same_Some b.0 rest g.1 in
    ((skips_tag (codes ".e\n")).sound bytes rest (b.1 ∙ ap (λ (w : List ℕ). Some w) same), subst (λ (w : List ℕ). All (λ c. c ≡ 10) w) same (lines_all b.0 (eqb-true (length (behind_lines b.0)) 0 g.0)))

end_again : (blank : List ℕ) → All (λ c. c ≡ 10) blank → end_at (codes ".e\n" ++ blank) ≡ Some blank
unfolding end_at
end_again blank a = rw ((skips_tag (codes ".e\n")).complete blank, all_lines blank a) refl

-- ---- the columns

wide_takes : (file : File) (width : ℕ) (bytes : List ℕ) (x : List Latch × List ℕ) → wide_at file width bytes ≡ Some x → (columns_at file bytes ≡ Some x) × (length x.0 ≡ width)
unfolding wide_at
wide_takes file width bytes x e =
    let b = bind_some (columns_at file bytes) (λ c. cond (eqb (length c.0) width) (Some c) None) x e in
    let g = cond_some_to (eqb (length b.0.0) width) (Some b.0) x b.2 in
    let same : b.0 ≡ x = same_Some b.0 x g.1 in
    (b.1 ∙ ap (λ (c : List Latch × List ℕ). Some c) same, subst (λ (c : List Latch × List ℕ). length c.0 ≡ width) same (eqb-true (length b.0.0) width g.0))

wide_again : (file : File) (bytes : List ℕ) (columns : List Latch) (rest : List ℕ) → columns_at file bytes ≡ Some (columns, rest) → wide_at file (length columns) bytes ≡ Some (columns, rest)
unfolding wide_at
wide_again file bytes columns rest e =
    ap (λ (o : Read (List Latch)). o >>= λ c. cond (eqb (length c.0) (length columns)) (Some c) None) e ∙ rw (eq-eqb (length columns) (length columns) refl) refl

-- ---- the whole

spelled_by : (file : File) (text names rest after blank : List ℕ) (counts : ℕ × ℕ) (columns : List Latch) (cs : List (List Lit)) → head_at (behind_comments false text) ≡ Some (counts, names)
    → wide_at file counts.0 names ≡ Some (columns, rest) → many_at (row_at columns) counts.1 rest ≡ Some (cs, after) → end_at after ≡ Some blank → SpellsPla file text cs
spelled_by file text names rest after blank counts columns cs h w r t =
    let hs = head_reads.sound (behind_comments false text) counts names h in
    let ws = wide_takes file counts.0 names (columns, rest) w in
    let rs = (many_reads (row_reads columns) counts.1).sound rest cs after r in
    let es = end_takes after blank t in
    let k = cubes_of columns rs.0 cs rs.1.1 in
    let many : length k.0 ≡ counts.1 = k.1.many ∙ rs.1.0 in
    let counted : head counts.0 counts.1 ≡ head (length columns) (length k.0) = rw (ws.1, many) refl in
    let begins : behind_comments false text ≡ head counts.0 counts.1 ++ names = hs.2 ∙ ap (λ (u : List ℕ). u ++ names) hs.1.2 in
    let spelled : rest ≡ flat_map cube_row k.0 ++ after = rs.2 ∙ ap (λ (u : List ℕ). u ++ after) k.1.spelled in
    record {
      columns = columns;
      cubes = k.0;
      names = names;
      rest = rest;
      blank = blank;
      few = (omega (arith, ws.1, hs.1.0), omega (arith, many, hs.1.1));
      begins = begins ∙ ap (λ (u : List ℕ). u ++ names) counted;
      named = ws.0;
      rows = spelled ∙ ap (λ (u : List ℕ). flat_map cube_row k.0 ++ u) es.0;
      lines = es.1;
      wide = k.1.wide;
      negated = k.1.negated;
    }

pub pla_found : (file : File) (text : List ℕ) (cs : List (List Lit)) → pla_at file text ≡ Some cs → SpellsPla file text cs
unfolding pla_at
pla_found file text cs e =
    let h = bind_some (head_at (behind_comments false text)) (λ counts. wide_at file counts.0.0 counts.1 >>= λ columns. many_at (row_at columns.0) counts.0.1 columns.1 >>= λ rows. end_at rows.1 >>= λ end. Some rows.0) cs e in
    let w = bind_some (wide_at file h.0.0.0 h.0.1) (λ columns. many_at (row_at columns.0) h.0.0.1 columns.1 >>= λ rows. end_at rows.1 >>= λ end. Some rows.0) cs h.2 in
    let r = bind_some (many_at (row_at w.0.0) h.0.0.1 w.0.1) (λ rows. end_at rows.1 >>= λ end. Some rows.0) cs w.2 in
    let t = bind_some (end_at r.0.1) (λ end. Some r.0.0) cs r.2 in
    let spelled = spelled_by file text h.0.1 w.0.1 r.0.1 t.0 h.0.0 w.0.0 r.0.0 h.1 w.1 r.1 t.1 in
    subst (λ (ds : List (List Lit)). SpellsPla file text ds) {x = r.0.0} (same_Some r.0.0 cs t.2) spelled

pub pla_again : (file : File) (text : List ℕ) (cs : List (List Lit)) → SpellsPla file text cs → pla_at file text ≡ Some cs
unfolding pla_at
pla_again file text cs s =
    let clauses = map (clause_of s.columns) s.cubes in
    let h : head_at (behind_comments false text) ≡ Some ((length s.columns, length s.cubes), s.names) =
    ap head_at s.begins ∙ head_reads.complete (head (length s.columns) (length s.cubes)) (length s.columns, length s.cubes) s.names (s.few.0, s.few.1, refl) in
    let w = wide_again file s.names s.columns s.rest s.named in
    let r : many_at (row_at s.columns) (length s.cubes) s.rest ≡ Some (clauses, codes ".e\n" ++ s.blank) =
    ap (many_at (row_at s.columns) (length s.cubes)) s.rows
    ∙ (many_reads (row_reads s.columns) (length s.cubes)).complete (flat_map cube_row s.cubes) clauses (codes ".e\n" ++ s.blank) (length-map s.cubes (clause_of s.columns), rows_of s.columns s.cubes s.wide) in
    ap (λ (o : Read (ℕ × ℕ)). o >>= λ counts. wide_at file counts.0.0 counts.1 >>= λ columns. many_at (row_at columns.0) counts.0.1 columns.1 >>= λ rows. end_at rows.1 >>= λ end. Some rows.0) h
    ∙ ap (λ (o : Read (List Latch)). o >>= λ columns. many_at (row_at columns.0) (length s.cubes) columns.1 >>= λ rows. end_at rows.1 >>= λ end. Some rows.0) w
    ∙ ap (λ (o : Read (List (List Lit))). o >>= λ rows. end_at rows.1 >>= λ end. Some rows.0) r
    ∙ ap (λ (o : Option (List ℕ)). o >>= λ end. Some clauses) (end_again s.blank s.lines)
    ∙ ap (λ (ds : List (List Lit)). Some ds) (sym s.negated)

-- only when out of memory
pub pla_fails : (file : File) (text : List ℕ) (cs : List (List Lit)) (n : ℕ) (e : Fault InvariantFault) → Fails e (pla_at file text) → SpellsPla file text cs → error_of n e ≡ OutOfMemory witness
pla_fails file text cs n (Memory refused) f s = refl
pla_fails file text cs n (Text kind left) f s = absurd (none-some cs (sym f ∙ pla_again file text cs s))
