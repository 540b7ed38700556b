-- Lists whose items lie one after the other in one list.
use Rattle.std.specs.Prelude.{◌+◌, ◌≤◌, List, All, drop, length, map, take}
use Rattle.base.specs.declared.lists.Span.{Span}

-- the list that lies at a span of the items
unfoldable pub list_at : {T : Type 0} → List T → Span → List T
list_at items s = take s.len (drop s.start items)

-- the lists that lie at these spans
abbrev pub lists_at : {T : Type 0} → List T → List Span → List (List T)
lists_at items spans = map (list_at items) spans

-- each span lies inside the items
abbrev pub AreInside : {T : Type 0} → List T → List Span → Type 0
AreInside items spans = All (λ (s : Span). s.start + s.len ≤ length items) spans
