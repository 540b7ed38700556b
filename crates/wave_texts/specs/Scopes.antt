-- Names in a waveform: the scopes of a name, and what is behind its last dot.
use Rattle.std.specs.Prelude.{ℕ, zero, suc, ◌==◌, List, [], ◌∷◌, ◌++◌, map, take, drop, codes, nat_le, nat_lt, if◌then◌else◌}
use Rattle.std.specs.List.{flat_map}

-- a byte of a name: what is no printable character of ASCII, or is a space, becomes `_`
abbrev pub printable : ℕ → ℕ
printable c = if nat_le c 32 then 95 else (if nat_lt c 127 then c else 95)

-- what stands before a part of a name: `_` where it is empty, and a backslash where it begins with a dollar sign
abbrev pub start_text : List ℕ → List ℕ
start_text [] = codes "_"
start_text (c ∷ part) = if c == 36 then 92 ∷ [] else []

-- a part of a name
abbrev pub part_text : List ℕ → List ℕ
part_text part = start_text part ++ map printable part

-- a scope begins
abbrev pub scope_text : List ℕ → List ℕ
scope_text part = (codes "$scope module " ++ part_text part) ++ codes " $end\n"

-- the scopes of what is left of a path begin, where this stands before it behind the last dot
abbrev pub opened_from : List ℕ → List ℕ → List ℕ
opened_from part [] = []
opened_from part (c ∷ path) = if c == 46 then scope_text part ++ opened_from [] path else opened_from (part ++ c ∷ []) path

-- the scopes of a path begin: one for each dot, called by what stands before it
abbrev pub opened : List ℕ → List ℕ
opened path = opened_from [] path

-- a scope ends at a dot
abbrev pub up_text : ℕ → List ℕ
up_text c = if c == 46 then codes "$upscope $end\n" else []

-- the scopes of a path end
abbrev pub closed : List ℕ → List ℕ
closed path = flat_map up_text path

-- how many bytes two paths begin with alike
abbrev pub alike : List ℕ → List ℕ → ℕ
alike [] path = 0
alike (a ∷ before) [] = 0
alike (a ∷ before) (b ∷ path) = if a == b then suc (alike before path) else 0

-- how long a path is, behind whose first byte it is this long
abbrev pub path_more : ℕ → ℕ → ℕ
path_more c zero = if c == 46 then 1 else 0
path_more c (suc n) = suc (suc n)

-- how much of a name is its path: up to its last dot, this one included
abbrev pub path_length : List ℕ → ℕ
path_length [] = 0
path_length (c ∷ name) = path_more c (path_length name)

-- the path of a name
abbrev pub path_of : List ℕ → List ℕ
path_of name = take (path_length name) name

-- what is behind a name's path
abbrev pub last_of : List ℕ → List ℕ
last_of name = drop (path_length name) name

-- how much of two paths is their common path
abbrev pub common : List ℕ → List ℕ → ℕ
common before path = path_length (take (alike before path) path)

-- from the scopes of one path to those of another: those that are not common end, and the others begin
abbrev pub moved : List ℕ → List ℕ → List ℕ
moved before path = closed (drop (common before path) before) ++ opened (drop (common before path) path)
