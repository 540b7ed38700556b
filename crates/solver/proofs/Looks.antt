-- A look at one literal or clause more.
use Rattle.std.proofs.Common.{◌≡◌, ℕ, ◌+◌, ◌<◌, ◌≤◌, Bool, false, IsTrue, List, ◌++◌, length, take, get_or, All, Contains, subst}
use Rattle.std.proofs.lemmas.List.{take_more, take_all}
use Rattle.std.proofs.lemmas.List.Elements.{All-push, All-contains, All-contains_itself, Contains-append_left}

-- what holds of each element before the index, and of the one there
pub all_more : {X : Type 0} (P : X → Type 0) → (xs : List X) (i : ℕ) (d : X) → i < length xs → All P (take i xs) → P (get_or xs i d) → All P (take (i + 1) xs)
all_more P xs i d h all p = rw (take_more xs i d h) (All-push P (take i xs) (get_or xs i d) all p)

-- what holds up to the end
pub all_whole : {X : Type 0} (P : X → Type 0) → (xs : List X) (i : ℕ) → length xs ≤ i → All P (take i xs) → All P xs
all_whole P xs i h all = subst (All P) (take_all i xs h) all

-- what a core has in range is what the assumptions have
pub among_all : {X : Type 0} (P : X → Type 0) → (xs ys : List X) → All P xs → All (Contains xs) ys → All P ys
among_all P xs ys all among k d h = All-contains P xs (get_or ys k d) all (among k d h)

-- a list is among itself with more behind it
pub all_in_more : {X : Type 0} (xs ys : List X) → All (Contains (xs ++ ys)) xs
all_in_more xs ys k d h = Contains-append_left xs ys (get_or xs k d) (All-contains_itself xs k d h)

pub not_true : {P : Type 0} {b : Bool} → (P → IsTrue b) → b ≡ false → P → ⊥
not_true h e p = let t = h p in cc
