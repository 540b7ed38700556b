-- Texts without functions.
use Rattle.std.proofs.Common.{◌≡◌, ℕ, ◌+◌, ◌-◌, ◌≤◌, ◌<◌, ◌^◌, subst, Bool, true, false, cond, eqb, ltb, List, [], ◌∷◌, ◌++◌, Option, Some, None, inl, inr, length, take, arith, refl, sym, ap, ◌∙◌, append_assoc, Result, Ok, Err, IfErr}
use Rattle.std.specs.Prelude.{decimal, codes}
use Rattle.std.proofs.lemmas.Bool.{cases_Bool, eqb-true, or_cases}
use Rattle.std.proofs.lemmas.List.{append-nil, length-append}
use Rattle.std.proofs.Math.Seq.{take-append_seam}
use Rattle.std.proofs.lemmas.Option.{same_Some}
use Rattle.scan.specs.Reading.{◌>>=◌}
use Rattle.scan.specs.Words.{any, IsField}
use Rattle.scan.specs.Lists.{many_at}
use Rattle.scan.specs.Spelling.{Nothing, Then}
use Rattle.scan.proofs.Toolbox.{Reads, bind_some, reads_as, reads_nothing, reads_then, reads_if}
use Rattle.scan.proofs.NumberLaws.{cond_none_to}
use Rattle.scan.proofs.ListLaws.{many_reads}
use Rattle.scan.proofs.WordLaws.{field_reads}
use Rattle.graph.specs.declared.circuit.Lit.{Lit}
use Rattle.graph.specs.declared.error.ReadError.{ReadError}
use Rattle.base.specs.Witness.{witness}
use Rattle.graph.specs.declared.error.ReadError.TheVariants.{TooLong, Header as AtHeader, Number, Limit, Byte, Truncated, LiteralRange, Defining, DefinedTwice, Undefined, Cyclic, Reset, Delta, Symbol, Counts, NoProperty, OutOfMemory}
use Rattle.graph.specs.File.{File}
use Rattle.graph.specs.Refusals.{number_of}
use Rattle.aag.specs.declared.header.Header.{Header}
use Rattle.aag.specs.Lines.{greatest, lit, literal_at, most}
use Rattle.aag.specs.Sections.{header_at}
use Rattle.aag.proofs.HeaderLaws.{header_reads}
use Rattle.aag.proofs.LineLaws.{IsNext, literal_reads, next_reads, both}
use Rattle.aiger.specs.Layouts.{IsRefusalNumber, SpellsFile}
use Rattle.reset_functions.specs.declared.latch_lines.LineForm.{LineForm}
use Rattle.reset_functions.specs.declared.latch_lines.LatchText.{LatchText}
use Rattle.reset_functions.specs.Lines.{HasOwn, IsLine, front_at, header_in, is_binary, line_at, own_at, own_text, reset_at}
use Rattle.reset_functions.specs.Plain.{Replaces, functions_in, plain_at, plain_lines}
use Rattle.reset_functions.specs.Reading.{IsFaultOr, IsNoPlain, IsRefused, SpellsNone}
use Rattle.reset_functions.specs.declared.reading.Begun.{Begun}

-- ---- a latch's line

small : (max : ℕ) → max ≤ greatest → most max < 2 ^ 32
small max le = omega arith

-- a latch's literal, where it stands there
record IsOwn (b : Bool) (max : ℕ) (t : List ℕ) (own : Option Lit) : Type 0 where
  spells : t ≡ own_text own
  has : HasOwn b max own

own_from : (max : ℕ) (t : List ℕ) (own : Option Lit) → IsOwn true max t own → Nothing None t own
own_from max t None r = (r.spells, refl)
own_from max t (Some a) r = absurd r.has

abbrev OfOwn : ℕ → List ℕ → Option Lit → Type 0
OfOwn max = Then (IsField (most max) any 32) (λ n. Nothing (Some (lit n)))

stands_from : (max : ℕ) (t : List ℕ) (own : Option Lit) → IsOwn false max t own → OfOwn max t own
stands_from max t None r = absurd r.has
stands_from max t (Some a) r = (a.0, t, [], record { spells = r.spells; within = r.has; is_good = refl }, (refl, refl), sym (append-nil t))

own_reads : (b : Bool) (max : ℕ) → max ≤ greatest → Reads (own_at b max) (IsOwn b max)
own_reads true max le = reads_as (IsOwn true max) (reads_nothing None) (λ t own r. rw (r.0, r.1) (record { spells = refl; has = tt })) (own_from max)
own_reads false max le = reads_as (IsOwn false max)
    (reads_then (field_reads (most max) any 32 (small max le) refl) (λ n. reads_nothing (Some (lit n))))
    (λ t own (n, b, c, field, last, p). rw (p, last.0, last.1, append-nil b) (record { spells = field.spells; has = field.within }))
    (stands_from max)

-- what stands behind the byte that ends the next literal
abbrev OfReset : ℕ → ℕ → List ℕ → Option Lit → Type 0
OfReset max end t reset = cond (eqb end 10) (Nothing None t reset) (Then (IsField (most max) any 10) (λ n. Nothing (Some (lit n))) t reset)

reset_reads : (max end : ℕ) → max ≤ greatest → Reads (reset_at max end) (OfReset max end)
reset_reads max end le =
    reads_if (eqb end 10) (reads_nothing None)
    (reads_then (field_reads (most max) any 10 (small max le) refl) (λ n. reads_nothing (Some (lit n))))

abbrev OfLine : LineForm → List ℕ → LatchText → Type 0
OfLine form =
    Then (IsOwn form.is_binary form.max_var) (λ own.
    Then (IsNext form.max_var) (λ next.
    Then (OfReset form.max_var next.1) (λ reset.
    Nothing {A = LatchText} (record { own = own; next = next.0; reset = reset }))))

line_short : (form : LineForm) (own : Option Lit) (next : Lit × ℕ) (reset : Option Lit) (t a b c d e f : List ℕ) (l : LatchText) → IsOwn form.is_binary form.max_var a own → IsNext form.max_var c next → next.1 ≡ 10 → t ≡ a ++ b → b ≡ c ++ d → d ≡ e ++ f
    → Nothing None e reset → Nothing {A = LatchText} (record { own = own; next = next.0; reset = reset }) f l → IsLine form t l
line_short form own next reset t a b c d e f l is_own is_next end p1 p2 p3 none last =
    rw (last.1, none.1) (record {
      spells = rw (p1, p2, p3, last.0, none.0, is_own.spells, is_next.spells, end) (simp (append_assoc, append-nil));
      own = is_own.has;
      next = is_next.within;
      reset = tt;
    })

line_long : (form : LineForm) (own : Option Lit) (next : Lit × ℕ) (reset : Option Lit) (m : ℕ) (t a b c d e f g h : List ℕ) (l : LatchText) → IsOwn form.is_binary form.max_var a own → IsNext form.max_var c next → next.1 ≡ 32 → t ≡ a ++ b → b ≡ c ++ d → d ≡ e ++ f
    → IsField (most form.max_var) any 10 g m → Nothing (Some (lit m)) h reset → e ≡ g ++ h → Nothing {A = LatchText} (record { own = own; next = next.0; reset = reset }) f l → IsLine form t l
line_long form own next reset m t a b c d e f g h l is_own is_next space p1 p2 p3 field end p4 last =
    rw (last.1, end.1) (record {
      spells = rw (p1, p2, p3, p4, last.0, end.0, is_own.spells, is_next.spells, space, field.spells) (simp (append_assoc, append-nil));
      own = is_own.has;
      next = is_next.within;
      reset = field.within;
    })

line_to : (form : LineForm) (t : List ℕ) (l : LatchText) → OfLine form t l → IsLine form t l
line_to form t l (own, a, b, is_own, (next, c, d, is_next, (reset, e, f, is_reset, last, p3), p2), p1) =
    elim (cases_Bool (eqb next.1 10)) [
      | inl y ↦ line_short form own next reset t a b c d e f l is_own is_next (eqb-true next.1 10 y) p1 p2 p3 (rw y at is_reset) last
      | inr n ↦
          let space : next.1 ≡ 32 = elim (or_cases (eqb next.1 32) (eqb next.1 10) is_next.is_end) [ inl s ↦ eqb-true next.1 32 s | inr k ↦ absurd (both n k) ] in
          let long : Then (IsField (most form.max_var) any 10) (λ m. Nothing (Some (lit m))) e reset = rw n at is_reset in
          line_long form own next reset long.0 t a b c d e f long.1 long.2 l is_own is_next space p1 p2 p3 long.3 long.4 long.5 last
    ]

line_parts : (form : LineForm) (own : Option Lit) (next : Lit) (reset : Option Lit) (t : List ℕ) → IsLine form t (record { own = own; next = next; reset = reset }) → OfLine form t (record { own = own; next = next; reset = reset })
line_parts form own next None t r = (
  own,
  own_text own,
  decimal next.0 ++ 10 ∷ [],
  record { spells = refl; has = r.own },
  ((next, 10), decimal next.0 ++ 10 ∷ [], [], record { spells = refl; within = r.next; is_good = refl; is_end = refl }, (None, [], [], (refl, refl), (refl, refl), refl), sym (append-nil (decimal next.0 ++ 10 ∷ []))),
  r.spells ∙ simp append_assoc,
)
line_parts form own next (Some a) t r = (
  own,
  own_text own,
  (decimal next.0 ++ 32 ∷ []) ++ (decimal a.0 ++ 10 ∷ []),
  record { spells = refl; has = r.own },
  (
    (next, 32),
    decimal next.0 ++ 32 ∷ [],
    decimal a.0 ++ 10 ∷ [],
    record { spells = refl; within = r.next; is_good = refl; is_end = refl },
    (
      Some a,
      decimal a.0 ++ 10 ∷ [],
      [],
      (a.0, decimal a.0 ++ 10 ∷ [], [], record { spells = refl; within = r.reset; is_good = refl }, (refl, refl), sym (append-nil (decimal a.0 ++ 10 ∷ []))),
      (refl, refl),
      sym (append-nil (decimal a.0 ++ 10 ∷ [])),
    ),
    refl,
  ),
  r.spells ∙ simp append_assoc,
)

line_from : (form : LineForm) (t : List ℕ) (l : LatchText) → IsLine form t l → OfLine form t l
line_from form t l r = line_parts form l.own l.next l.reset t r

pub line_reads : (form : LineForm) → form.max_var ≤ greatest → Reads (line_at form) (IsLine form)
unfolding line_at
line_reads form le = reads_as (IsLine form)
    (reads_then (own_reads form.is_binary form.max_var le) (λ own.
    reads_then (next_reads form.max_var le) (λ next.
    reads_then (reset_reads form.max_var next.1 le) (λ reset.
    reads_nothing {A = LatchText} (record { own = own; next = next.0; reset = reset })))))
    (line_to form) (line_from form)

-- ---- what stands before the lines

-- the text ends with what is left, and the header's greatest variable is in its limit
record Leaves (text : List ℕ) (x : Header × List ℕ) : Type 0 where
  front : List ℕ
  whole : text ≡ front ++ x.1
  within : x.0.max_var ≤ greatest

header_leaves : (word text : List ℕ) (x : Header × List ℕ) → header_in word text ≡ Some x → Leaves text x
unfolding header_in
header_leaves word text x is =
    let b = bind_some (header_at word text) (λ h. cond (ltb h.0.max_var (h.0.inputs + h.0.latches)) None (Some h)) x is in
    let g = cond_none_to (ltb b.0.0.max_var (b.0.0.inputs + b.0.0.latches)) (Some b.0) x b.2 in
    let same : b.0 ≡ x = same_Some b.0 x g.1 in
    let s = (header_reads word).sound text x.0 x.1 (b.1 ∙ ap Some same) in
    record { front = s.0; whole = s.2; within = s.1.max_var }

lines_leave : (max n : ℕ) (text : List ℕ) (x : List Lit × List ℕ) → max ≤ greatest → many_at (literal_at max any 10) n text ≡ Some x → (lines : List ℕ) × (text ≡ lines ++ x.1)
lines_leave max n text x le is = let s = (many_reads (literal_reads max le) n).sound text x.0 x.1 is in (s.0, s.2)

leaves_more : (text rest : List ℕ) (h : Header) (x : Header × List ℕ) (lines : List ℕ) → Leaves text (h, lines ++ rest) → ◌≡◌ {A = Header × List ℕ} (h, rest) x → Leaves text x
leaves_more text rest h x lines one same =
    rw (← same) (record { front = one.front ++ lines; whole = one.whole ∙ simp append_assoc; within = one.within })

leaves_as : (text rest other : List ℕ) (h : Header) → rest ≡ other → Leaves text (h, rest) → Leaves text (h, other)
leaves_as text rest other h is one = subst (λ (q : List ℕ). Leaves text (h, q)) is one

front_leaves : (b : Bool) (text : List ℕ) (x : Header × List ℕ) → front_at b text ≡ Some x → Leaves text x
unfolding front_at
front_leaves true text x is = header_leaves (codes "aig ") text x is
front_leaves false text x is =
    let b = bind_some (header_in (codes "aag ") text) (λ h. many_at (literal_at h.0.max_var any 10) h.0.inputs h.1 >>= λ inputs. Some (h.0, inputs.1)) x is in
    let h : Header = b.0.0 in
    let rest : List ℕ = b.0.1 in
    let one : Leaves text (h, rest) = header_leaves (codes "aag ") text b.0 b.1 in
    let c = bind_some (many_at (literal_at h.max_var any 10) h.inputs rest) (λ inputs. Some (h, inputs.1)) x b.2 in
    let same : ◌≡◌ {A = Header × List ℕ} (h, c.0.1) x = same_Some (h, c.0.1) x c.2 in
    let lines = lines_leave h.max_var h.inputs rest c.0 one.within c.1 in
    leaves_more text c.0.1 h x lines.0 (leaves_as text rest (lines.0 ++ c.0.1) h lines.1 one) same

take_front : (front rest : List ℕ) → take (length (front ++ rest) - length rest) (front ++ rest) ≡ front
take_front front rest =
    let n : length (front ++ rest) - length rest ≡ length front = omega (arith, length-append front rest) in
    rw n (take-append_seam front rest)

front_is : (text front rest : List ℕ) → text ≡ front ++ rest → take (length text - length rest) text ≡ front
front_is text front rest is = rw is (take_front front rest)

-- ---- the whole

abbrev form_of : List ℕ → Header → LineForm
form_of text h = record { is_binary = is_binary text; max_var = h.max_var }

pub count : (text : List ℕ) (h : Header) (n : ℕ) (rest behind : List ℕ) (ls : List LatchText) → h.max_var ≤ greatest → many_at (line_at (form_of text h)) n rest ≡ Some (ls, behind) → length ls ≡ n
count text h n rest behind ls le is = ((many_reads (line_reads (form_of text h) le) n).sound rest ls behind is).1.0

pub replaces : (text plain : List ℕ) (resets : List (Option Lit)) → plain_at text ≡ Some (plain, resets) → Replaces text plain resets
unfolding plain_at
replaces text plain resets is =
    let b = bind_some (front_at (is_binary text) text) (λ front. many_at (line_at (form_of text front.0)) front.0.latches front.1 >>= λ lines. Some (take (length text - length front.1) text ++ plain_lines (front.0.inputs + 1) lines.0 ++ lines.1, functions_in (front.0.inputs + 1) lines.0)) (plain, resets) is in
    let h = b.0.0 in
    let rest = b.0.1 in
    let c = bind_some (many_at (line_at (form_of text h)) h.latches rest) (λ lines. Some (take (length text - length rest) text ++ plain_lines (h.inputs + 1) lines.0 ++ lines.1, functions_in (h.inputs + 1) lines.0)) (plain, resets) b.2 in
    let ls = c.0.0 in
    let behind = c.0.1 in
    let leaves = front_leaves (is_binary text) text b.0 b.1 in
    let lines = (many_reads (line_reads (form_of text h) leaves.within) h.latches).sound rest ls behind c.1 in
    let made : ◌≡◌ {A = List ℕ × List (Option Lit)} (take (length text - length rest) text ++ plain_lines (h.inputs + 1) ls ++ behind, functions_in (h.inputs + 1) ls) (plain, resets) = same_Some _ _ c.2 in
    let front : take (length text - length rest) text ≡ leaves.front = front_is text leaves.front rest leaves.whole in
    record {
      header = h;
      front = leaves.front;
      latches = lines.0;
      lines = ls;
      behind = behind;
      is_text = leaves.whole ∙ ap (λ (q : List ℕ). leaves.front ++ q) lines.2 ∙ sym (append_assoc leaves.front lines.0 behind);
      is_plain = sym (ap (λ (p : List ℕ × List (Option Lit)). p.0) made) ∙ ap (λ (q : List ℕ). q ++ plain_lines (h.inputs + 1) ls ++ behind) front;
      is_front = b.1 ∙ ap (λ (q : List ℕ). Some (h, q)) lines.2;
      count = lines.1.0;
      each_latch = lines.1.1;
      are = sym (ap (λ (p : List ℕ × List (Option Lit)). p.1) made);
    }

-- ---- refusals

-- no other refusal has the number of memory
pub only_memory : (e : ReadError) → number_of e ≡ 20 → e ≡ OutOfMemory witness
only_memory TooLong n = absurd (omega (arith, n))
only_memory (AtHeader p) n = absurd (omega (arith, n))
only_memory (Number p) n = absurd (omega (arith, n))
only_memory (Limit p) n = absurd (omega (arith, n))
only_memory (Byte p) n = absurd (omega (arith, n))
only_memory (Truncated p) n = absurd (omega (arith, n))
only_memory (LiteralRange p) n = absurd (omega (arith, n))
only_memory (Defining p) n = absurd (omega (arith, n))
only_memory (DefinedTwice p) n = absurd (omega (arith, n))
only_memory (Undefined p) n = absurd (omega (arith, n))
only_memory (Cyclic p) n = absurd (omega (arith, n))
only_memory (Reset p) n = absurd (omega (arith, n))
only_memory (Delta p) n = absurd (omega (arith, n))
only_memory (Symbol p) n = absurd (omega (arith, n))
only_memory (Counts p) n = absurd (omega (arith, n))
only_memory (NoProperty p) n = absurd (omega (arith, n))
only_memory (OutOfMemory r) n = refl

-- what keeps every file from being read, and is not memory
pub none_by : (text : List ℕ) (e : ReadError) (b : Bool) → ((f : File) → SpellsFile text f → e ≡ OutOfMemory witness) → (e ≡ OutOfMemory witness → b ≡ true) → b ≡ false → SpellsNone text
none_by text e b only memory off f spells = both off (memory (only f spells))

one_plain : (text plain : List ℕ) (resets : List (Option Lit)) → plain_at text ≡ Some (plain, resets) → SpellsNone plain → IsNoPlain text
one_plain text plain resets is none other others again f spells =
    let same : ◌≡◌ {A = List ℕ × List (Option Lit)} (other, others) (plain, resets) = same_Some (other, others) (plain, resets) (sym again ∙ is) in
    none f (subst (λ (t : List ℕ). SpellsFile t f) (ap (λ (p : List ℕ × List (Option Lit)). p.0) same) spells)

pub none_plain : (text plain : List ℕ) (resets : List (Option Lit)) (fault : ReadError) (result : Result Begun ReadError) → plain_at text ≡ Some (plain, resets) → IfErr result (IsFaultOr (SpellsNone plain) fault) → IfErr result (IsFaultOr (IsNoPlain text) fault)
none_plain text plain resets fault (Ok b) is h = tt
none_plain text plain resets fault (Err e) is (inl h) = inl (h.0, one_plain text plain resets is h.1)
none_plain text plain resets fault (Err e) is (inr h) = inr h

refused_so : (text : List ℕ) (fault e : ReadError) → SpellsNone text → IsFaultOr (IsNoPlain text) fault e → IsRefused text e
refused_so text fault e none (inl h) = inl (none, h.1)
refused_so text fault e none (inr h) = inr h

pub refused_of : (text : List ℕ) (fault : ReadError) (result : Result Begun ReadError) → SpellsNone text → IfErr result (IsFaultOr (IsNoPlain text) fault) → IfErr result (IsRefused text)
refused_of text fault (Ok b) none h = tt
refused_of text fault (Err e) none h = refused_so text fault e none h

memory_number : (text : List ℕ) (n : ℕ) → IsRefusalNumber text n → IsRefusalNumber text 20
memory_number text n (inl binary) = inl (binary.0, (11, omega arith, refl))
memory_number text n (inr ascii) = inr (ascii.0, (14, omega arith, refl))

pub refusal_number : (F : Type 0) (text : List ℕ) (fault e : ReadError) → IsRefusalNumber text (number_of fault) → IsFaultOr F fault e → IsRefusalNumber text (number_of e)
refusal_number F text fault e h (inl is) = subst (λ (x : ReadError). IsRefusalNumber text (number_of x)) (sym is.0) h
refusal_number F text fault e h (inr is) = subst (λ (x : ReadError). IsRefusalNumber text (number_of x)) (sym is) (memory_number text (number_of fault) h)
