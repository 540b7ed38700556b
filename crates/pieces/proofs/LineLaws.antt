-- Lines are read from the piece that comes next.
use Rattle.std.proofs.Common.{◌≡◌, ℕ, ◌-◌, ◌<◌, ◌≤◌, List, [], ◌∷◌, ◌++◌, length, take, drop, get_or, Option, Some, None, refl, sym, ap, subst, ◌∙◌, append_assoc, arith}
use Rattle.std.proofs.Math.Seq.{drop-append_seam}
use Rattle.std.proofs.lemmas.List.{length-append, length-drop, length-take-le, take-append-drop}
use Rattle.std.proofs.lemmas.Option.{none-some, same_Some}
use Rattle.scan.specs.Reading.{◌>>=◌, Read, Fails, ended}
use Rattle.scan.specs.declared.fault.Fault.{Fault}
use Rattle.scan.specs.declared.fault.Fault.TheVariants.{Memory, Text}
use Rattle.scan.proofs.Toolbox.{Reads, ended_takes, ended_again}
use Rattle.pieces.specs.Pieces.{piece_at, Lies}
use Rattle.pieces.specs.Lines.{ForText, IsOfPiece, end_at}
use Rattle.pieces.specs.declared.line_error.LineError.TheVariants.{Refused}
use Rattle.pieces.proofs.LineTexts.{IsLineText, piece_of_line}
use Rattle.pieces.proofs.PieceLaws.{nil_piece, piece_nil, piece_whole}

-- ---- a line is read from its piece

by_cases : {A : Type 0} (o : Read A) (e : Option A) (rest : List ℕ) → ((x : A) (r : List ℕ) → o ≡ Some (x, r) → (e ≡ Some x) × (r ≡ rest)) → ((x : A) → e ≡ Some x → o ≡ Some (x, rest)) → o ≡ (e >>= λ x. Some (x, rest))
by_cases (Some (x, r)) e rest f g = let q = f x r refl in rw (q.0, q.1) refl
by_cases None (Some x) rest f g = g x refl
by_cases None None rest f g = refl

-- what is a line is read from the piece that comes next
piece_reads : {A : Type 0} {p : List ℕ → Read A} {R : List ℕ → A → Type 0} → Reads p R → ((t : List ℕ) (x : A) → R t x → IsLineText t) → (bytes : List ℕ) → p bytes ≡ (ended (p (piece_at bytes).0) >>= λ x. Some (x, (piece_at bytes).1))
piece_reads {A} {p} {R} law lines bytes =
    by_cases (p bytes) (ended (p (piece_at bytes).0)) (piece_at bytes).1
    (λ x r e.
    let (front, spelled, whole) = law.sound bytes x r e in
    let (body, goes, is) = lines front x spelled in
    let cut : piece_at bytes ≡ (front, r) = ap piece_at (whole ∙ ap (λ (w : List ℕ). w ++ r) is) ∙ piece_of_line body r goes ∙ ap (λ (w : List ℕ). (w, r)) (sym is) in
    (ap (λ (w : List ℕ × List ℕ). ended (p w.0)) cut ∙ ended_again law front x spelled, sym (ap (λ (w : List ℕ × List ℕ). w.1) cut)))
    (λ x e. ap p (sym (piece_whole bytes)) ∙ law.complete (piece_at bytes).0 x (piece_at bytes).1 (ended_takes law (piece_at bytes).0 x e))

not_empty : (body : List ℕ) → [] ≡ body ++ 10 ∷ [] → ⊥
not_empty [] e = absurd (let n = ap length e in omega (arith, n))
not_empty (c ∷ cs) e = absurd (let n = ap length e in omega (arith, n))

not_nought : (body : List ℕ) → 0 ∷ [] ≡ body ++ 10 ∷ [] → ⊥
not_nought [] e = absurd (let n = ap (λ (w : List ℕ). get_or w 0 0) e in omega (arith, n))
not_nought (c ∷ cs) e = absurd (let n = ap length e in omega (arith, n, length-append cs (10 ∷ [])))

none_of : {A : Type 0} (o : Option A) → ((x : A) → o ≡ Some x → ⊥) → o ≡ None
none_of None f = refl
none_of (Some x) f = absurd (f x refl)

pub of_piece : {A : Type 0} {p : List ℕ → Read A} {R : List ℕ → A → Type 0} → Reads p R → ((t : List ℕ) (x : A) → R t x → IsLineText t) → IsOfPiece p
of_piece {A} {p} {R} law lines = record {
  from_piece = piece_reads law lines;
  takes = none_of (ended (p [])) (λ x e. let (body, goes, is) = lines [] x (ended_takes law [] x e) in not_empty body is);
  begins = none_of (ended (p (0 ∷ []))) (λ x e. let (body, goes, is) = lines (0 ∷ []) x (ended_takes law (0 ∷ []) x e) in not_nought body is);
}

-- ---- what is read of bytes that have the piece, and others behind it

bound_some : {A : Type 0} (read : Read A) (o : Option A) (after rest : List ℕ) (x : A) → read ≡ (o >>= λ x. Some (x, after)) → read ≡ Some (x, rest) → (o ≡ Some x) × (after ≡ rest)
bound_some read None after rest x is e = absurd (none-some (x, rest) (sym is ∙ e))
bound_some {A} read (Some y) after rest x is e = let same = same_Some (y, after) (x, rest) (sym is ∙ e) in (ap (λ (w : A × List ℕ). Some w.0) same, ap (λ (w : A × List ℕ). w.1) same)

bound_none : {A : Type 0} (read : Read A) (o : Option A) (after : List ℕ) → read ≡ (o >>= λ x. Some (x, after)) → read ≡ None → o ≡ None
bound_none read None after is e = refl
bound_none read (Some y) after is e = absurd (none-some (y, after) (sym e ∙ is))

-- it is read of the piece alone, and what follows is what follows the piece
pub read_alone : {A : Type 0} {p : List ℕ → Read A} → IsOfPiece p → (bytes : List ℕ) (x : A) (rest : List ℕ) → p bytes ≡ Some (x, rest) → (ended (p (piece_at bytes).0) ≡ Some x) × ((piece_at bytes).1 ≡ rest)
read_alone {A} {p} law bytes x rest e = bound_some (p bytes) (ended (p (piece_at bytes).0)) (piece_at bytes).1 rest x (law.from_piece bytes) e

pub none_alone : {A : Type 0} {p : List ℕ → Read A} → IsOfPiece p → (bytes : List ℕ) → p bytes ≡ None → ended (p (piece_at bytes).0) ≡ None
none_alone {A} {p} law bytes e = bound_none (p bytes) (ended (p (piece_at bytes).0)) (piece_at bytes).1 (law.from_piece bytes) e

-- so it is of a text, with nothing behind it
pub read_given : {A : Type 0} {p : List ℕ → Read A} → IsOfPiece p → (bytes : List ℕ) (x : A) (rest : List ℕ) → p bytes ≡ Some (x, rest) → (text : List ℕ) × (ended (p text) ≡ Some x)
read_given law bytes x rest e = ((piece_at bytes).0, (read_alone law bytes x rest e).0)

-- what follows are the last bytes
rest_behind : {A : Type 0} {p : List ℕ → Read A} → IsOfPiece p → (bytes : List ℕ) (x : A) (rest : List ℕ) → p bytes ≡ Some (x, rest) → (piece_at bytes).0 ++ rest ≡ bytes
rest_behind law bytes x rest e = ap (λ (w : List ℕ). (piece_at bytes).0 ++ w) (sym (read_alone law bytes x rest e).1) ∙ piece_whole bytes

some_front : {A : Type 0} {p : List ℕ → Read A} → IsOfPiece p → (front : List ℕ) (x : A) → ended (p front) ≡ Some x → 0 < length front
some_front law [] x e = absurd (none-some x (sym law.takes ∙ e))
some_front law (c ∷ cs) x e = omega arith

-- some byte was taken
pub rest_shorter : {A : Type 0} {p : List ℕ → Read A} → IsOfPiece p → (bytes : List ℕ) (x : A) (rest : List ℕ) → p bytes ≡ Some (x, rest) → length rest < length bytes
rest_shorter law bytes x rest e =
    let some = some_front law (piece_at bytes).0 x (read_alone law bytes x rest e).0 in
    omega (arith, some, ap length (rest_behind law bytes x rest e), length-append (piece_at bytes).0 rest)

pub rest_within : {A : Type 0} {p : List ℕ → Read A} → IsOfPiece p → (later : List ℕ) (n : ℕ) (x : A) (rest : List ℕ) → n ≤ length later → p (take n later) ≡ Some (x, rest) → length rest < n
rest_within law later n x rest within e = omega (arith, rest_shorter law (take n later) x rest e, length-take-le n later within)

-- where what was taken is skipped, less is left
pub rest_less : {A : Type 0} {p : List ℕ → Read A} → IsOfPiece p → (later now : List ℕ) (n : ℕ) (x : A) (rest : List ℕ) → n ≤ length later → p (take n later) ≡ Some (x, rest) → now ≡ drop (n - length rest) later → length now < length later
rest_less law later now n x rest within e is = omega (arith, rest_within law later n x rest within e, ap length is, length-drop (n - length rest) later, within)

-- and what follows is left
pub rest_skipped : {A : Type 0} {p : List ℕ → Read A} → IsOfPiece p → (later : List ℕ) (n : ℕ) (x : A) (rest : List ℕ) → n ≤ length later → p (take n later) ≡ Some (x, rest) → drop (n - length rest) later ≡ rest ++ drop n later
rest_skipped law later n x rest within e =
    let front : List ℕ = (piece_at (take n later)).0 in
    let behind : front ++ rest ≡ take n later = rest_behind law (take n later) x rest e in
    let whole : later ≡ front ++ (rest ++ drop n later) = sym (take-append-drop n later) ∙ ap (λ (w : List ℕ). w ++ drop n later) (sym behind) ∙ append_assoc front rest (drop n later) in
    let at : n - length rest ≡ length front = omega (arith, ap length behind, length-append front rest, length-take-le n later within) in
    ap (λ k. drop k later) at ∙ ap (λ (w : List ℕ). drop (length front) w) whole ∙ drop-append_seam front (rest ++ drop n later)

-- ---- a line that comes from a source

-- the first bytes under another name
pub of_first : {A : Type 0} (p : List ℕ → Read A) (later first rest : List ℕ) (n : ℕ) (x : A) → first ≡ take n later → p first ≡ Some (x, rest) → p (take n later) ≡ Some (x, rest)
of_first p later first rest n x is e = ap p (sym is) ∙ e

-- what was held under another name
pub lies_of : (inside held later ys zs : List ℕ) (n : ℕ) → inside ≡ held → Lies inside ys later zs n → Lies held ys later zs n
lies_of inside held later ys zs n is lies = subst (λ (w : List ℕ). Lies w ys later zs n) is lies

-- what the next piece says is what the whole text says there
from_held : {A : Type 0} (p : List ℕ → Read A) → IsOfPiece p → (held ys later zs : List ℕ) (n : ℕ) → Lies held ys later zs n → p (held ++ ys) ≡ (ended (p (piece_at (take n later)).0) >>= λ x. Some (x, (piece_at (take n later)).1 ++ (drop n later ++ zs)))
from_held p law held ys later zs n lies = law.from_piece (held ++ ys) ∙ ap (λ (w : List ℕ × List ℕ). ended (p w.0) >>= λ x. Some (x, w.1)) (ap piece_at lies.0 ∙ lies.1)

-- the first bytes that are held have the next piece, so the whole text is read as they are
whole_found : {A : Type 0} (p : List ℕ → Read A) → IsOfPiece p → (held ys later zs : List ℕ) (n : ℕ) (x : A) (rest : List ℕ) → Lies held ys later zs n → p (take n later) ≡ Some (x, rest) → p (held ++ ys) ≡ Some (x, rest ++ (drop n later ++ zs))
whole_found p law held ys later zs n x rest lies e =
    let (alone, after) = read_alone law (take n later) x rest e in
    from_held p law held ys later zs n lies ∙ ap (λ o. o >>= λ x. Some (x, (piece_at (take n later)).1 ++ (drop n later ++ zs))) alone ∙ ap (λ (w : List ℕ). Some (x, w ++ (drop n later ++ zs))) after

pub moves_from : {A : Type 0} (p : List ℕ → Read A) → IsOfPiece p → (held later now ys zs : List ℕ) (n : ℕ) (x : A) (rest : List ℕ) → Lies held ys later zs n → n ≤ length later → p (take n later) ≡ Some (x, rest) → now ≡ drop (n - length rest) later → p (held ++ ys) ≡ Some (x, now ++ zs)
moves_from p law held later now ys zs n x rest lies within e is =
    let left : now ≡ rest ++ drop n later = is ∙ rest_skipped law later n x rest within e in
    let behind : rest ++ (drop n later ++ zs) ≡ now ++ zs = sym (append_assoc rest (drop n later) zs) ∙ ap (λ (w : List ℕ). w ++ zs) (sym left) in
    whole_found p law held ys later zs n x rest lies e ∙ ap (λ (w : List ℕ). Some (x, w)) behind

stuck_from : {A : Type 0} (p : List ℕ → Read A) → IsOfPiece p → (held later ys zs : List ℕ) (n : ℕ) → Lies held ys later zs n → p (take n later) ≡ None → p (held ++ ys) ≡ None
stuck_from p law held later ys zs n lies e =
    from_held p law held ys later zs n lies ∙ ap (λ o. o >>= λ x. Some (x, (piece_at (take n later)).1 ++ (drop n later ++ zs))) (none_alone law (take n later) e)

-- a fault is reported of the text where nothing is read of it
pub stuck_text : {K A : Type 0} (p : List ℕ → Read A) → IsOfPiece p → (held later first ys zs : List ℕ) (n total : ℕ) (fault : Fault K) → Lies held ys later zs n → first ≡ take n later → Fails fault (p first) → ForText (Refused total fault) (p (held ++ ys) ≡ None)
stuck_text p law held later first ys zs n total (Memory refused) lies is e = tt
stuck_text p law held later first ys zs n total (Text kind left) lies is e = stuck_from p law held later ys zs n lies (ap p (sym is) ∙ e)

-- ---- the end of the text

-- no piece comes where no byte is left
none_left : (held later ys zs : List ℕ) (n : ℕ) → n ≡ 0 → Lies held ys later zs n → held ++ ys ≡ []
none_left held later ys zs n is lies =
    lies.0 ∙ piece_nil (later ++ zs) (ap (λ (w : List ℕ × List ℕ). w.0) lies.1 ∙ ap (λ k. (piece_at (take k later)).0) is ∙ nil_piece)

end_of : (bytes left : List ℕ) → bytes ≡ [] → left ≡ [] → end_at bytes ≡ Some (tt, left)
unfolding end_at
end_of bytes left none over = rw (none, over) refl

pub end_found : (held later ys zs : List ℕ) (n : ℕ) → n ≡ 0 → Lies held ys later zs n → end_at (held ++ ys) ≡ Some (tt {0}, later ++ zs)
end_found held later ys zs n is lies =
    let none = none_left held later ys zs n is lies in
    end_of (held ++ ys) (later ++ zs) none (sym lies.0 ∙ none)

-- the text goes on
no_end : (bytes : List ℕ) → (bytes ≡ [] → ⊥) → end_at bytes ≡ None
unfolding end_at
no_end [] some = absurd (some refl)
no_end (c ∷ cs) some = refl

pub end_missed : (held later ys zs : List ℕ) (n : ℕ) → Lies held ys later zs n → n ≤ length later → 0 < n → end_at (held ++ ys) ≡ None
end_missed held later ys zs n lies within some =
    no_end (held ++ ys) (λ none.
    let all = ap length (sym lies.0 ∙ none) in
    omega (arith, within, some, all, length-append later zs))

pub at_end : (bytes rest : List ℕ) (u : Unit {0}) → end_at bytes ≡ Some (u, rest) → bytes ≡ []
unfolding end_at
at_end [] rest u e = refl
at_end (c ∷ cs) rest u e = absurd (none-some (u, rest) e)

pub not_at_end : (bytes : List ℕ) → end_at bytes ≡ None → bytes ≡ [] → ⊥
unfolding end_at
not_at_end [] e none = none-some (tt {0}, []) (sym e)
not_at_end (c ∷ cs) e none = absurd cc

-- behind the end nothing is left
over_append : (held later : List ℕ) → held ++ later ≡ [] → later ≡ []
over_append [] later none = none
over_append (c ∷ held) later none = absurd (let n = ap length none in omega (arith, n))

pub over : (bytes held later : List ℕ) → end_at bytes ≡ Some (tt {0}, held ++ later) → later ≡ []
unfolding end_at
over [] held later e = over_append held later (ap (λ (w : Unit {0} × List ℕ). w.1) (same_Some (tt {0}, held ++ later) (tt {0}, []) (sym e)))
over (c ∷ cs) held later e = absurd (none-some (tt {0}, held ++ later) e)
