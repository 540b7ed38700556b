-- Lines one after another are read as they are spelled.
use Rattle.base.specs.Witness.{witness}
use Rattle.std.proofs.Common.{◌≡◌, ℕ, ◌<◌, List, [], ◌∷◌, ◌++◌, length, Option, Some, None, All, refl, sym, ap, subst, ◌∙◌, append_assoc, arith}
use Rattle.std.proofs.lemmas.List.{append-nil, length-append}
use Rattle.std.proofs.lemmas.List.Elements.{All-head, All-tail}
use Rattle.std.proofs.lemmas.Option.{none-some}
use Rattle.scan.specs.Reading.{Read, Fails}
use Rattle.scan.specs.declared.fault.Fault.{Fault}
use Rattle.scan.specs.declared.fault.Fault.TheVariants.{Memory, Text}
use Rattle.scan.specs.Lists.{Each}
use Rattle.scan.proofs.Toolbox.{Reads, spells_once}
use Rattle.lrat.specs.Reading.{line_at}
use Rattle.lrat.specs.Limits.{IsLine}
use Rattle.lrat.specs.Texts.{line_text, proof_text, SpellsLine, SpellsProof, error_of}
use Rattle.lrat.specs.declared.line.Line.{Line}
use Rattle.lrat.specs.declared.lrat_error.LratError.TheVariants.{OutOfMemory}
use Rattle.lrat.specs.declared.text.LratFault.{LratFault}
use Rattle.lrat.proofs.TextLaws.{line_reads, line_takes}

-- each value has a byte
abbrev HasBytes : {A : Type 0} → (List ℕ → A → Type 0) → Type 0
HasBytes {A} R = (t : List ℕ) (x : A) → R t x → 0 < length t

none_spelled : {A : Type 0} (R : List ℕ → A → Type 0) → HasBytes R → (xs : List A) → Each R [] xs → xs ≡ []
none_spelled R some [] e = refl
none_spelled R some (x ∷ xs) (a, b, one, others, whole) = absurd (omega (arith, some a x one, ap length whole, length-append a b))

each_push : {A : Type 0} (R : List ℕ → A → Type 0) (t a : List ℕ) (xs : List A) (x : A) → Each R t xs → R a x → Each R (t ++ a) (xs ++ x ∷ [])
each_push R t a [] x e r = (a, [], r, refl, ap (λ (w : List ℕ). w ++ a) e ∙ sym (append-nil a))
each_push R t a (y ∷ ys) x (b, c, one, others, whole) r =
    (b, c ++ a, one, each_push R c a ys x others r, ap (λ (w : List ℕ). w ++ a) whole ∙ append_assoc b c a)

-- where the front of a text spells xs, what the whole text spells begins with xs
each_rest : {A : Type 0} {p : List ℕ → Read A} (R : List ℕ → A → Type 0) → Reads p R → HasBytes R → (done rest : List ℕ) (xs ys : List A) → Each R done xs → Each R (done ++ rest) ys
    → (zs : List A) × (ys ≡ xs ++ zs) × Each R rest zs
each_rest R law some done rest [] ys e all = (ys, refl, rw e at all)
each_rest R law some done rest (x ∷ xs) [] (a, b, one, others, whole) all =
    absurd (omega (arith, some a x one, ap length whole, length-append a b, length-append done rest, ap length all))
each_rest R law some done rest (x ∷ xs) (y ∷ ys) (a, b, one, others, whole) (c, d, two, more, parts) =
    let same = spells_once law a c x y (b ++ rest) d one two (sym (append_assoc a b rest) ∙ ap (λ (w : List ℕ). w ++ rest) (sym whole) ∙ parts) in
    let r = each_rest R law some b rest xs ys others (subst (λ (w : List ℕ). Each R w ys) (sym same.1) more) in
    (r.0, ap (λ z. z ∷ ys) (sym same.0) ∙ ap (λ zs. x ∷ zs) r.1, r.2)

-- ---- the loop over the lines

-- the front of a text that was read spells these lines, and the rest is still to be read
pub record HasRead (text rest : List ℕ) (lines : List Line) : Type 0 where
  pub front : List ℕ
  pub spelled : SpellsProof front lines
  pub whole : text ≡ front ++ rest

pub read_more : (text rest after : List ℕ) (lines : List Line) (line : Line) → HasRead text rest lines → line_at rest ≡ Some (line, after) → HasRead text after (lines ++ line ∷ [])
read_more text rest after lines line h e =
    let s = line_reads.sound rest line after e in
    record {
      front = h.front ++ s.0;
      spelled = each_push SpellsLine h.front s.0 lines line h.spelled s.1;
      whole = h.whole ∙ ap (λ (w : List ℕ). h.front ++ w) s.2 ∙ sym (append_assoc h.front s.0 after);
    }

-- a line that was read is without zeros and in the limits
pub read_line : (rest after : List ℕ) (line : Line) → line_at rest ≡ Some (line, after) → IsLine line
read_line rest after line e = (line_reads.sound rest line after e).1.within

pub read_shorter : (rest after : List ℕ) (line : Line) → line_at rest ≡ Some (line, after) → length after < length rest
read_shorter rest after line e =
    let s = line_reads.sound rest line after e in
    omega (arith, line_takes s.0 line s.1, ap length s.2, length-append s.0 after)

pub read_done : (text : List ℕ) (lines : List Line) → HasRead text [] lines → SpellsProof text lines
read_done text lines h = rw (h.whole ∙ append-nil h.front) h.spelled

pub read_only : (text : List ℕ) (lines others : List Line) → HasRead text [] lines → SpellsProof text others → lines ≡ others
read_only text lines others h s =
    let r = each_rest SpellsLine line_reads line_takes h.front [] lines others h.spelled (subst (λ (w : List ℕ). SpellsProof w others) h.whole s) in
    sym (r.1 ∙ ap (λ (zs : List Line). lines ++ zs) (none_spelled SpellsLine line_takes r.0 r.2) ∙ append-nil lines)

stuck : (rest : List ℕ) (lines : List Line) → 0 < length rest → line_at rest ≡ None → Each SpellsLine rest lines → ⊥
stuck rest [] lt e s = omega (arith, lt, ap length s)
stuck rest (line ∷ lines) lt e (a, b, one, others, whole) =
    none-some (line, b) (sym e ∙ ap line_at whole ∙ line_reads.complete a line b one)

pub read_stuck : (text rest : List ℕ) (lines others : List Line) → HasRead text rest lines → 0 < length rest → line_at rest ≡ None → SpellsProof text others → ⊥
read_stuck text rest lines others h lt e s =
    let r = each_rest SpellsLine line_reads line_takes h.front rest lines others h.spelled (subst (λ (w : List ℕ). SpellsProof w others) h.whole s) in
    stuck rest r.0 lt e r.2

-- only when out of memory
pub read_fails : (text rest : List ℕ) (lines others : List Line) (e : Fault LratFault) → HasRead text rest lines → 0 < length rest → Fails e (line_at rest) → SpellsProof text others → e ≡ Memory witness
read_fails text rest lines others (Memory refused) h lt f s = refl
read_fails text rest lines others (Text kind left) h lt f s = absurd (read_stuck text rest lines others h lt f s)

pub refused_for_memory : {A : Type 0} (n : ℕ) (e : Fault LratFault) (x : A) (r : Option A) → Fails e r → r ≡ Some x → error_of n e ≡ OutOfMemory witness
refused_for_memory n (Memory refused) x r f s = refl
refused_for_memory n (Text kind left) x r f s = absurd (none-some x (sym f ∙ s))

-- ---- what is written

-- the text of lines without zeros and in the limits spells them
pub proof_spelled : (lines : List Line) → All IsLine lines → SpellsProof (proof_text lines) lines
proof_spelled [] all = refl
proof_spelled (line ∷ lines) all =
    (line_text line, proof_text lines, record { spells = refl; within = All-head IsLine line lines all }, proof_spelled lines (All-tail IsLine line lines all), refl)
