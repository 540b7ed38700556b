-- Lists come behind one another in a flat list.
use Rattle.std.proofs.Common.{◌≡◌, ℕ, ◌+◌, ◌-◌, ◌≤◌, ◌<◌, List, [], ◌∷◌, ◌++◌, take, drop, length, get_or, refl, sym, ◌∙◌, ap, subst, arith}
use Rattle.std.proofs.lemmas.List.{length-map, map-append, take-append-le, drop-append-le, take_all, length-drop, get_or-map}
use Rattle.std.proofs.lemmas.List.Elements.{All-head, All-tail}
use Rattle.base.specs.Lists.{list_at, lists_at, AreInside}
use Rattle.base.specs.declared.lists.Span.{Span}

part_same : {T : Type 0} (items xs : List T) (start len : ℕ) → start + len ≤ length items → take len (drop start (items ++ xs)) ≡ take len (drop start items)
part_same items xs start len le =
    ap (take len) (drop-append-le start items xs (omega arith)) ∙ take-append-le len (drop start items) xs (omega (arith, length-drop start items))

pub lists_same : {T : Type 0} (items xs : List T) (spans : List Span) → AreInside items spans → lists_at (items ++ xs) spans ≡ lists_at items spans
unfolding list_at
lists_same items xs [] all = refl
lists_same items xs (s ∷ spans) all =
    let e = part_same items xs s.start s.len (All-head (λ (s : Span). s.start + s.len ≤ length items) s spans all) in
    let f = lists_same items xs spans (All-tail (λ (s : Span). s.start + s.len ≤ length items) s spans all) in
    cc

drop_all : {T : Type 0} (items xs : List T) → drop (length items) (items ++ xs) ≡ xs
drop_all [] xs = refl
drop_all (x ∷ items) xs = drop_all items xs

-- a list more, behind the others
pub lists_push : {T : Type 0} (items xs : List T) (spans : List Span) → AreInside items spans → lists_at (items ++ xs) (spans ++ record { start = length items; len = length xs } ∷ []) ≡ lists_at items spans ++ xs ∷ []
unfolding list_at
lists_push items xs spans inside =
    let s : Span = record { start = length items; len = length xs } in
    let f : take (length xs) (drop (length items) (items ++ xs)) ≡ xs = ap (take (length xs)) (drop_all items xs) ∙ take_all (length xs) xs (omega arith) in
    map-append (list_at (items ++ xs)) spans (s ∷ [])
    ∙ ap (λ ls. ls ++ list_at (items ++ xs) s ∷ []) (lists_same items xs spans inside)
    ∙ ap (λ l. lists_at items spans ++ l ∷ []) f

-- the list of a span
pub list_here : {T : Type 0} (items : List T) (spans : List Span) (i : ℕ) (s : Span) → i < length (lists_at items spans) → s ≡ get_or spans i s → take (s.start + s.len - s.start) (drop s.start items) ≡ get_or (lists_at items spans) i []
unfolding list_at
list_here items spans i s lt at =
    let n : s.start + s.len - s.start ≡ s.len = omega arith in
    let few : i < length spans = subst (λ k. i < k) (length-map spans (list_at items)) lt in
    ap (λ k. take k (drop s.start items)) n ∙ ap (list_at items) at ∙ sym (get_or-map (list_at items) spans i s [] few)
