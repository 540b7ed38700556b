-- What is in the queue, where one frame changes.
use Rattle.std.proofs.Common.{◌≡◌, ℕ, ◌<◌, ◌≤◌, ◌∙◌, List, [], ◌∷◌, ◌++◌, Vec, Global, if◌then◌else◌, length, get_or, set, map, All, Some, None, Result, Ok, Err, OnOk, OnErr, is_ok, ◌+◌, inl, inr, sym, ap, subst, arith}
use Rattle.std.proofs.lemmas.Bool.{cases_lt}
use Rattle.std.proofs.lemmas.List.{get_or-map, get_or-set_same, get_or_default, set-set, set-get_or, map-set, length-map}
use Rattle.std.proofs.lemmas.List.Elements.{All-set, All-contains, Contains-push}
use Rattle.std.proofs.Math.Seq.{map-set_same}
use Rattle.graph.proofs.Evaluation.{All-left}
use Rattle.ic3_blocking.specs.Queue.{IsEnqueued, IsLowest, IsPopped}

-- the indices in each frame
abbrev pub items_in : List (Vec ℕ Global) → List (List ℕ)
items_in frames = map (λ frame. frame.items) frames

-- a frame with the same indices in a frame's place
pub same_items : (frames : List (Vec ℕ Global)) (i : ℕ) (old new : Vec ℕ Global) → old ≡ get_or frames i old → new.items ≡ old.items → items_in (set frames i new) ≡ items_in frames
same_items frames i old new at same = map-set_same (λ (frame : Vec ℕ Global). frame.items) frames i new old (same ∙ ap (λ (frame : Vec ℕ Global). frame.items) at)

-- a frame with one more
more_items : (frames : List (Vec ℕ Global)) (i index : ℕ) (old new : Vec ℕ Global) → i < length frames → old ≡ get_or frames i old → new.items ≡ old.items ++ index ∷ [] →
    IsEnqueued (items_in frames) (items_in (set frames i new)) i index
unfolding IsEnqueued
more_items frames i index old new inside at more =
    let Items : Vec ℕ Global → List ℕ = λ frame. frame.items in
    let here : old.items ≡ get_or (items_in frames) i [] = ap Items at ∙ sym (get_or-map Items frames i old [] inside) in
    map-set Items frames i new ∙ ap (set (items_in frames) i) (more ∙ ap (λ xs. xs ++ index ∷ []) here)

-- a frame without its last one: added there, it makes what was before
fewer_items : (frames : List (Vec ℕ Global)) (i index : ℕ) (old new : Vec ℕ Global) → i < length frames → old ≡ get_or frames i old → old.items ≡ new.items ++ index ∷ [] →
    IsEnqueued (items_in (set frames i new)) (items_in frames) i index
unfolding IsEnqueued
fewer_items frames i index old new inside at fewer =
    let Items : Vec ℕ Global → List ℕ = λ frame. frame.items in
    let all = items_in frames in
    let here : old.items ≡ get_or all i [] = ap Items at ∙ sym (get_or-map Items frames i old [] inside) in
    let now : items_in (set frames i new) ≡ set all i new.items = map-set Items frames i new in
    let left : get_or (set all i new.items) i [] ≡ new.items = get_or-set_same all i new.items [] (subst (λ n. i < n) (sym (length-map frames Items)) inside) in
    let back : set (set all i new.items) i (get_or (set all i new.items) i [] ++ index ∷ []) ≡ all =
    ap (λ xs. set (set all i new.items) i (xs ++ index ∷ [])) left ∙ set-set all i new.items (new.items ++ index ∷ []) ∙ ap (set all i) (sym fewer ∙ here) ∙ set-get_or all i [] in
    sym (ap (λ ws. set ws i (get_or ws i [] ++ index ∷ [])) now ∙ back)

-- a push that may be refused
pub added_there : {T E : Type 0} (r : Result T E) (frames : List (Vec ℕ Global)) (i index : ℕ) (old new : Vec ℕ Global) → i < length frames → old ≡ get_or frames i old →
    new.items ≡ (if is_ok r then old.items ++ index ∷ [] else old.items) → OnOk r (IsEnqueued (items_in frames) (items_in (set frames i new)) i index)
added_there (Ok x) frames i index old new inside at is = more_items frames i index old new inside at is
added_there (Err e) frames i index old new inside at is = tt

pub not_added : {T E : Type 0} (r : Result T E) (frames : List (Vec ℕ Global)) (i index : ℕ) (old new : Vec ℕ Global) → old ≡ get_or frames i old →
    new.items ≡ (if is_ok r then old.items ++ index ∷ [] else old.items) → OnErr r (items_in (set frames i new) ≡ items_in frames)
not_added (Ok x) frames i index old new at is = tt
not_added (Err e) frames i index old new at is = same_items frames i old new at is

-- the last of a frame is popped, below which there is none
pub last_popped : (before : List (List ℕ)) (frames : List (Vec ℕ Global)) (i index : ℕ) (old new : Vec ℕ Global) → items_in frames ≡ before → i < length frames → old ≡ get_or frames i old → old.items ≡ new.items ++ index ∷ [] →
    IsLowest before i → IsPopped before (items_in (set frames i new)) (Some (i, index))
unfolding IsPopped
last_popped before frames i index old new same inside at fewer lowest =
    let Items : Vec ℕ Global → List ℕ = λ frame. frame.items in
    let length_is : length before ≡ length frames = ap length (sym same) ∙ length-map frames Items in
    (subst (λ n. i < n) (sym length_is) inside, lowest, subst (λ ws. IsEnqueued (items_in (set frames i new)) ws i index) same (fewer_items frames i index old new inside at fewer))

-- no frame has one
pub none_popped : (before : List (List ℕ)) (frames : List (Vec ℕ Global)) (i : ℕ) → items_in frames ≡ before → length frames ≤ i → IsLowest before i → IsPopped before (items_in frames) None
unfolding IsPopped
none_popped before frames i same past lowest =
    let Items : Vec ℕ Global → List ℕ = λ frame. frame.items in
    let length_is : length before ≡ length frames = ap length (sym same) ∙ length-map frames Items in
    (λ k d k_in. get_or_default before k d [] k_in ∙ lowest k (omega (arith, k_in, length_is)), same)

-- a frame has none either
pub lowest_more : (before : List (List ℕ)) (frames : List (Vec ℕ Global)) (i : ℕ) (old : Vec ℕ Global) → items_in frames ≡ before → i < length frames → old ≡ get_or frames i old → old.items ≡ [] → IsLowest before i → IsLowest before (i + 1)
lowest_more before frames i old same inside at empty lowest k k_in =
    let Items : Vec ℕ Global → List ℕ = λ frame. frame.items in
    elim (cases_lt k i) [
      | inl below ↦ lowest k below
      | inr past ↦
          let here : k ≡ i = omega arith in
          ap (λ n. get_or before n []) here ∙ ap (λ ws. get_or ws i []) (sym same) ∙ get_or-map Items frames i old [] inside ∙ sym (ap Items at) ∙ empty
    ]

-- what is below a number without its last one, and that one
pub below_popped : (count : ℕ) (frames : List (Vec ℕ Global)) (i index : ℕ) (old new : Vec ℕ Global) → i < length frames → old ≡ get_or frames i old → old.items ≡ new.items ++ index ∷ [] →
    All (λ frame. All (λ k. k < count) frame.items) frames → All (λ frame. All (λ k. k < count) frame.items) (set frames i new) × (index < count)
below_popped count frames i index old new inside at fewer each =
    let IsBelow : ℕ → Type 0 = λ k. k < count in
    let Below : Vec ℕ Global → Type 0 = λ frame. All IsBelow frame.items in
    let here : Below old = subst Below (sym at) (each i old inside) in
    let both : All IsBelow (new.items ++ index ∷ []) = subst (All IsBelow) fewer here in
    (All-set Below frames i new (All-left IsBelow new.items (index ∷ []) both) each, All-contains IsBelow (new.items ++ index ∷ []) index both (Contains-push new.items index))
