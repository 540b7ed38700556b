-- Widths of columns, and spaces.
use Rattle.std.proofs.Common.{◌≡◌, ℕ, zero, suc, ◌+◌, ◌-◌, ◌<◌, ◌≤◌, max, Bool, List, [], ◌∷◌, ◌++◌, length, get_or, take, drop, map, Option, refl, sym, ap, ◌∙◌, arith, subst}
use Rattle.std.specs.Io.KnownBytes.{Appends}
use Rattle.std.proofs.KnownBytes.{Appends-trans}
use Rattle.std.proofs.Math.Nat.{max_comm}
use Rattle.std.proofs.lemmas.List.{get_or-map, length-map, map_more, take_all, take-append-drop, take-replicate, drop-replicate, replicate_more}
use Rattle.base.specs.Devices.{PutsBeginning}
use Rattle.base.proofs.Putting.{begins_behind, begins_more}
use Rattle.wave_signals.specs.declared.signals.Signal.{Signal}
use Rattle.wave_texts.specs.Changes.{part_of}
use Rattle.wave_signals.specs.Columns.{rows_of}
use Rattle.trace.specs.Traces.{cell_text, number_cell, values_width}
use Rattle.trace.specs.Widths.{spaces, width_of}
use Rattle.wave_signals.proofs.ColumnLaws.{rows_long}

-- one text more
width_push : (texts : List (List ℕ)) (text : List ℕ) → width_of (texts ++ text ∷ []) ≡ max (width_of texts) (length text)
width_push [] text = max_comm (length text) 0
width_push (one ∷ texts) text = let h = width_push texts text in omega (arith, h)

pub width_more : {A : Type 0} (f : A → List ℕ) (xs : List A) (i : ℕ) (d : A) (now new : ℕ) → i < length xs → now ≡ width_of (map f (take i xs)) → new ≡ max now (length (f (get_or xs i d))) → new ≡ width_of (map f (take (i + 1) xs))
width_more f xs i d now new i_in is more =
    more ∙ ap (λ (n : ℕ). max n (length (f (get_or xs i d)))) is ∙ sym (ap width_of (map_more f xs i d i_in) ∙ width_push (map f (take i xs)) (f (get_or xs i d)))

pub width_all : {A : Type 0} (f : A → List ℕ) (xs : List A) (i now : ℕ) → length xs ≤ i → now ≡ width_of (map f (take i xs)) → now ≡ width_of (map f xs)
width_all {A} f xs i now all is = is ∙ ap (λ (ys : List A). width_of (map f ys)) (take_all i xs all)

pub widths_long : (width times : ℕ) (signals : List Signal) (values : List (Option Bool)) (widths : List ℕ) → widths ≡ map (values_width signals) (rows_of width times values) → length widths ≡ times
widths_long width times signals values widths is = ap (λ (xs : List ℕ). length xs) is ∙ length-map (rows_of width times values) (values_width signals) ∙ rows_long width times values

-- the value of a signal at time n, in its column
pub cell_now : (signals : List Signal) (rows : List (List (Option Bool))) (n : ℕ) (widths : List ℕ) (s : Signal) (now : List (Option Bool)) → n < length rows → widths ≡ map (values_width signals) rows → now ≡ get_or rows n [] →
    number_cell (get_or widths n 0) (part_of now s) ≡ cell_text signals s (get_or rows n [])
cell_now signals rows n widths s now n_in is_widths is_now =
    let row = get_or rows n [] in
    let wide : get_or widths n 0 ≡ values_width signals (get_or rows n []) = ap (λ (xs : List ℕ). get_or xs n 0) is_widths ∙ get_or-map (values_width signals) rows n [] 0 n_in in
    ap (λ (k : ℕ). number_cell k (part_of now s)) wide ∙ ap (λ (xs : List (Option Bool)). number_cell (values_width signals row) (part_of xs s)) is_now

-- ---- spaces

pub spaces_more : (n : ℕ) (a b c : Option (List ℕ)) → Appends a b (spaces n) → Appends b c (32 ∷ []) → Appends a c (spaces (n + 1))
spaces_more n a b c h more = subst (Appends a c) (replicate_more n 32) (Appends-trans a b c (spaces n) (32 ∷ []) h more)

spaces_split : (count n : ℕ) → n < count → spaces count ≡ spaces n ++ ((32 ∷ []) ++ spaces (count - (n + 1)))
spaces_split count n n_in =
    let rest : spaces (count - n) ≡ (32 ∷ []) ++ spaces (count - (n + 1)) = (let e : count - n ≡ suc (count - (n + 1)) = omega (arith, n_in) in rw e refl) in
    sym (take-append-drop n (spaces count)) ∙ ap (λ (xs : List ℕ). xs ++ drop n (spaces count)) (take-replicate n count 32 (omega (arith, n_in)))
    ∙ ap (λ (xs : List ℕ). spaces n ++ xs) (drop-replicate n count 32 ∙ rest)

pub spaces_cut : (count n : ℕ) (a b c : Option (List ℕ)) → n < count → Appends a b (spaces n) → PutsBeginning b c (32 ∷ []) → PutsBeginning a c (spaces count)
spaces_cut count n a b c n_in h more =
    subst (PutsBeginning a c) (sym (spaces_split count n n_in)) (begins_behind a b c (spaces n) ((32 ∷ []) ++ spaces (count - (n + 1))) h (begins_more b c (32 ∷ []) (spaces (count - (n + 1))) more))
