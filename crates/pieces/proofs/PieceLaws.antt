-- Texts are cut into pieces by their bytes alone.
use Rattle.std.proofs.Common.{◌≡◌, ℕ, ◌+◌, ◌-◌, ◌<◌, ◌≤◌, true, false, List, [], ◌∷◌, ◌++◌, length, take, drop, get_or, refl, sym, ap, subst, ◌∙◌, append_assoc, arith, inl, inr}
use Rattle.std.proofs.Math.Seq.{drop-length, drop-append_seam}
use Rattle.std.proofs.lemmas.Bool.{cases_Bool}
use Rattle.std.proofs.lemmas.Bool.Decides.{nat_tests}
use Rattle.std.proofs.lemmas.List.{append-nil, take_more, take_all, take-append-drop, get_or-drop, length-append, length-drop}
use Rattle.memchr.specs.Find.{is_byte, Passes}
use Rattle.pieces.specs.Pieces.{is_inner, piece_at, GoesOn, HoldsPiece, IsReady, Lies}

-- ---- bytes of one piece

pub goes_nil : GoesOn []
goes_nil more = refl

pub goes_one : (c : ℕ) → is_inner c ≡ true → GoesOn (c ∷ [])
unfolding piece_at
goes_one c inner more = rw inner refl

pub goes_append : (a b : List ℕ) → GoesOn a → GoesOn b → GoesOn (a ++ b)
goes_append a b one two more =
    ap piece_at (append_assoc a b more) ∙ one (b ++ more) ∙ rw (two more) (ap (λ (w : List ℕ). (w, (piece_at more).1)) (sym (append_assoc a b (piece_at more).0)))

-- the first bytes go on, and the next is an inner one
pub goes_more : (bytes : List ℕ) (i : ℕ) → i < length bytes → GoesOn (take i bytes) → is_inner (get_or bytes i 0) ≡ true → GoesOn (take (i + 1) bytes)
goes_more bytes i lt one inner = rw (take_more bytes i 0 lt) (goes_append (take i bytes) (get_or bytes i 0 ∷ []) one (goes_one (get_or bytes i 0) inner))

-- ---- a piece, and what follows it

pub piece_whole : (bytes : List ℕ) → (piece_at bytes).0 ++ (piece_at bytes).1 ≡ bytes
unfolding piece_at
piece_whole [] = refl
piece_whole (c ∷ cs) = elim (cases_Bool (is_inner c)) [
  | inl y ↦ rw y (ap (λ (w : List ℕ). c ∷ w) (piece_whole cs))
  | inr n ↦ rw n refl
]

pub piece_nil : (bytes : List ℕ) → (piece_at bytes).0 ≡ [] → bytes ≡ []
unfolding piece_at
piece_nil [] e = refl
piece_nil (c ∷ cs) e = elim (cases_Bool (is_inner c)) [
  | inl y ↦ absurd (let z = rw y at e in cc)
  | inr n ↦ absurd (let z = rw n at e in cc)
]

-- no bytes have none
pub nil_piece : (piece_at []).0 ≡ []
unfolding piece_at
nil_piece = refl

-- ---- bytes that are ready

-- the last byte ends each piece before it
holds_last : (front : List ℕ) (c : ℕ) → is_inner c ≡ false → HoldsPiece (front ++ c ∷ [])
unfolding piece_at
holds_last [] c other more = rw other refl
holds_last (d ∷ ds) c other more = elim (cases_Bool (is_inner d)) [
  | inl y ↦ rw (y, holds_last ds c other more) refl
  | inr n ↦ rw n refl
]

pub ready_at : (bytes : List ℕ) (i n : ℕ) → i < length bytes → n ≡ i + 1 → is_inner (get_or bytes i 0) ≡ false → IsReady bytes n
ready_at bytes i n lt is other =
    let at : n - 1 ≡ i = omega (arith, is) in
    record {
      within = omega (arith, is, lt);
      ends = λ some. ap (λ k. is_inner (get_or bytes k 0)) at ∙ other;
    }

-- the byte is a line end
pub ready_line : (bytes : List ℕ) (i : ℕ) → i < length bytes → Passes (is_byte 10) bytes i → IsReady bytes (i + 1)
ready_line bytes i lt end =
    let e : get_or bytes i 0 ≡ 10 = grind (arith, nat_tests) in
    ready_at bytes i (i + 1) lt refl (ap is_inner e)

-- the bytes behind the first are ready
pub ready_behind : (bytes : List ℕ) (start n : ℕ) → 0 < n → start ≤ length bytes → IsReady (drop start bytes) n → IsReady bytes (start + n)
ready_behind bytes start n some within ready =
    let fits = ready.within in
    let len = length-drop start bytes in
    let at : start + (n - 1) ≡ start + n - 1 = omega (arith, some) in
    let other : is_inner (get_or bytes (start + (n - 1)) 0) ≡ false = ap is_inner (sym (get_or-drop start bytes (n - 1) 0)) ∙ ready.ends some in
    record {
      within = omega (arith, fits, len, within);
      ends = λ more. subst (λ k. is_inner (get_or bytes k 0) ≡ false) at other;
    }

pub ready_behind_others : (a b : List ℕ) (n : ℕ) → 0 < n → IsReady b n → IsReady (a ++ b) (length a + n)
ready_behind_others a b n some ready =
    let len = length-append a b in
    ready_behind (a ++ b) (length a) n some (omega (arith, len)) (subst (λ (w : List ℕ). IsReady w n) (sym (drop-append_seam a b)) ready)

-- where a piece begins among bytes that are ready, it ends within them
pub ready_holds : (bytes : List ℕ) (start n : ℕ) → start < n → IsReady bytes n → HoldsPiece (take (n - start) (drop start bytes))
ready_holds bytes start n lt ready =
    let fits = ready.within in
    let len = length-drop start bytes in
    let i : ℕ = n - start - 1 in
    let one : i + 1 ≡ n - start = omega (arith, lt) in
    let at : start + i ≡ n - 1 = omega (arith, lt) in
    let inside : i < length (drop start bytes) = omega (arith, lt, fits, len) in
    let other : is_inner (get_or (drop start bytes) i 0) ≡ false = ap is_inner (get_or-drop start bytes i 0) ∙ ap (λ k. is_inner (get_or bytes k 0)) at ∙ ready.ends (omega (arith, lt)) in
    let last : take (n - start) (drop start bytes) ≡ take i (drop start bytes) ++ get_or (drop start bytes) i 0 ∷ [] = ap (λ k. take k (drop start bytes)) (sym one) ∙ take_more (drop start bytes) i 0 inside in
    subst HoldsPiece (sym last) (holds_last (take i (drop start bytes)) (get_or (drop start bytes) i 0) other)

pub ready_whole : (bytes : List ℕ) (n : ℕ) → 0 < n → IsReady bytes n → HoldsPiece (take n bytes)
ready_whole bytes n some ready =
    let all : n - 0 ≡ n = omega arith in
    subst (λ k. HoldsPiece (take k bytes)) all (ready_holds bytes 0 n some ready)

-- ---- what is held and what a source still gives

-- the first bytes that are held have the next piece
holds_first : (later zs : List ℕ) (n : ℕ) → HoldsPiece (take n later) → piece_at (later ++ zs) ≡ ((piece_at (take n later)).0, (piece_at (take n later)).1 ++ (drop n later ++ zs))
holds_first later zs n holds =
    ap (λ (w : List ℕ). piece_at (w ++ zs)) (sym (take-append-drop n later)) ∙ ap piece_at (append_assoc (take n later) (drop n later) zs) ∙ holds (drop n later ++ zs)

-- nothing was taken
pub lies_here : (held ys : List ℕ) (n : ℕ) → HoldsPiece (take n held) → Lies held ys held ys n
lies_here held ys n holds = (refl, holds_first held ys n holds)

-- what was taken behind what was held
whole_held : (old held taken y : List ℕ) → held ≡ old ++ taken → old ++ (taken ++ y) ≡ held ++ y
whole_held old held taken y is = sym (append_assoc old taken y) ∙ ap (λ (w : List ℕ). w ++ y) (sym is)

pub lies_at : (old held taken y : List ℕ) (n : ℕ) → held ≡ old ++ taken → HoldsPiece (take n held) → Lies old (taken ++ y) held y n
lies_at old held taken y n is holds = (whole_held old held taken y is, holds_first held y n holds)

-- all that is left is one piece
all_goes : (held zs : List ℕ) → zs ≡ [] → GoesOn held → piece_at (held ++ zs) ≡ ((piece_at (take (length held) held)).0, (piece_at (take (length held) held)).1 ++ (drop (length held) held ++ zs))
unfolding piece_at
all_goes held zs none goes =
    let whole : piece_at held ≡ (held, []) = ap piece_at (sym (append-nil held)) ∙ goes [] ∙ ap (λ (w : List ℕ). (w, [])) (append-nil held) in
    rw (none, take_all (length held) held (omega arith), drop-length held, append-nil held, whole) refl

pub lies_end : (old held taken y : List ℕ) → held ≡ old ++ taken → y ≡ [] → GoesOn held → Lies old (taken ++ y) held y (length held)
lies_end old held taken y is end goes = (whole_held old held taken y is, all_goes held y end goes)
