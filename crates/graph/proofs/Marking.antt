-- Marks of positions, kind by kind, and the symbols that they are for.
use Rattle.std.proofs.Common.{◌≡◌, ◌≢◌, ℕ, ◌+◌, ◌<◌, Bool, true, false, List, [], ◌∷◌, ◌++◌, length, take, map, set, get_or, inl, inr, refl, arith, sym, ap, subst, ◌∙◌, length-append, get_or-set_other, get_or-set_same}
use Rattle.std.specs.Prelude.{slice_set, slice_index, Vec, replicate}
use Rattle.std.specs.declared.alloc.Global.{Global}
use Rattle.std.specs.Vec.{with_item}
use Rattle.std.proofs.Math.Seq.{map-set_same}
use Rattle.std.proofs.Math.ListN.{get_or-append}
use Rattle.std.proofs.lemmas.List.{map-set, get_or-map, length-set, length-map, get_or-append-add, get_or_default, get_or-replicate, length-replicate, get_or_past, take_more}
use Rattle.std.proofs.lemmas.Bool.{cases_lt}
use Rattle.std.proofs.lemmas.List.Elements.{All-push}
use Rattle.std.proofs.lemmas.List.Quantifiers.{all_pairs_push}
use Rattle.graph.specs.declared.symbol.Symbol.{Symbol}
use Rattle.graph.specs.declared.symbol.SymbolKind.{SymbolKind}
use Rattle.graph.specs.declared.symbol.SymbolKind.TheVariants.{Input, Latch, Output, Bad, Constraint, Justice, Fairness}
use Rattle.graph.specs.Symbols.{index_of, IsName, IsSymbol, AreSame, AreSymbols, IsFree, IsFirstWrong}
use Rattle.graph.specs.Taken.{IsAt, Tells, mark_at, rows_of, marked_at, IsUnmarked, AreTaken, labels_of}
use Rattle.graph.proofs.Filled.{same_or_not}
use Rattle.graph.proofs.Evaluation.{true_or_false}

-- one mark more, in the code's rows
pub rows_of-set : (taken : List (Vec Bool Global)) (kind position : ℕ) (d : Vec Bool Global) → kind < length taken →
    rows_of (set taken kind (with_item (get_or taken kind d) position true)) ≡ marked_at (rows_of taken) kind position
rows_of-set taken kind position d inside =
    map-set (λ row. row.items) taken kind (with_item (get_or taken kind d) position true)
    ∙ ap (λ row. set (rows_of taken) kind (slice_set row position true)) (sym (get_or-map (λ row. row.items) taken kind d [] inside))

-- a symbol of another kind or position changes nothing
Tells-more : (symbols : List Symbol) (s : Symbol) (kind position : ℕ) (b : Bool) → (IsAt kind position s → ⊥) → Tells symbols kind position b → Tells (symbols ++ s ∷ []) kind position b
Tells-more symbols s kind position true apart (k, t, k_in, is_t, here) =
    (k, t, omega (arith, length-append symbols (s ∷ [])), get_or-append symbols (s ∷ []) t k k_in ∙ is_t, here)
Tells-more symbols s kind position false apart none = All-push (λ t. IsAt kind position t → ⊥) symbols s none apart

Tells-here : (symbols : List Symbol) (s : Symbol) → Tells (symbols ++ s ∷ []) (index_of s.kind) s.position true
Tells-here symbols s =
    (length symbols, s, omega (arith, length-append symbols (s ∷ [])), ap (λ q. get_or (symbols ++ s ∷ []) q s) (omega arith) ∙ get_or-append-add symbols (s ∷ []) 0 s, (refl, refl))

-- the marks after one more
mark_at-same : (taken : List (List Bool)) (kind position : ℕ) → kind < length taken → position < length (get_or taken kind []) → mark_at (marked_at taken kind position) kind position ≡ true
mark_at-same taken kind position kind_in inside =
    ap (λ row. get_or row position false) (get_or-set_same taken kind (set (get_or taken kind []) position true) [] kind_in)
    ∙ get_or-set_same (get_or taken kind []) position true false inside

mark_at-kind : (taken : List (List Bool)) (kind position k p : ℕ) → k ≢ kind → mark_at (marked_at taken kind position) k p ≡ mark_at taken k p
mark_at-kind taken kind position k p apart = ap (λ row. get_or row p false) (get_or-set_other taken kind k (set (get_or taken kind []) position true) [] apart)

mark_at-position : (taken : List (List Bool)) (kind position p : ℕ) → kind < length taken → p ≢ position → mark_at (marked_at taken kind position) kind p ≡ mark_at taken kind p
mark_at-position taken kind position p kind_in apart =
    ap (λ row. get_or row p false) (get_or-set_same taken kind (set (get_or taken kind []) position true) [] kind_in)
    ∙ get_or-set_other (get_or taken kind []) position p true false apart

pub marked_counts : (taken : List (List Bool)) (kind position : ℕ) → map length (marked_at taken kind position) ≡ map length taken
marked_counts taken kind position = map-set_same length taken kind (set (get_or taken kind []) position true) [] (length-set (get_or taken kind []) position true)

tells_after : (taken : List (List Bool)) (symbols : List Symbol) (s : Symbol) → AreTaken taken symbols → index_of s.kind < length taken → IsUnmarked taken (index_of s.kind) s.position →
    (k p : ℕ) → Tells (symbols ++ s ∷ []) k p (mark_at (marked_at taken (index_of s.kind) s.position) k p)
tells_after taken symbols s h kind_in unmarked k p =
    let kind : ℕ = index_of s.kind in
    elim (same_or_not k kind) [
      | inr apart ↦ subst (Tells (symbols ++ s ∷ []) k p) (sym (mark_at-kind taken kind s.position k p apart)) (Tells-more symbols s k p (mark_at taken k p) (λ at. apart (sym at.0)) (h.tells k p))
      | inl same ↦ elim (same_or_not p s.position) [
        | inr apart ↦ subst (λ q. Tells (symbols ++ s ∷ []) q p (mark_at (marked_at taken kind s.position) q p)) (sym same)
            (subst (Tells (symbols ++ s ∷ []) kind p) (sym (mark_at-position taken kind s.position p kind_in apart)) (Tells-more symbols s kind p (mark_at taken kind p) (λ at. apart (sym at.1)) (h.tells kind p)))
        | inl here ↦ subst (λ q. Tells (symbols ++ s ∷ []) q p (mark_at (marked_at taken kind s.position) q p)) (sym same)
            (subst (λ q. Tells (symbols ++ s ∷ []) kind q (mark_at (marked_at taken kind s.position) kind q)) (sym here)
            (subst (Tells (symbols ++ s ∷ []) kind s.position) (sym (mark_at-same taken kind s.position kind_in unmarked.0)) (Tells-here symbols s)))
      ]
    ]

count_is : (taken : List (List Bool)) (kind : ℕ) → kind < length taken → slice_index (map length taken) kind ≡ length (get_or taken kind [])
count_is taken kind inside = get_or-map length taken kind [] 0 inside

-- what an unmarked position means
pub unmarked_free : (taken : List (List Bool)) (symbols : List Symbol) (s : Symbol) → AreTaken taken symbols → index_of s.kind < length taken → IsUnmarked taken (index_of s.kind) s.position →
    IsFree (map length taken) symbols s
unmarked_free taken symbols s h kind_in unmarked = record {
  inside = let i = unmarked.0 in let e = count_is taken (index_of s.kind) kind_in in omega (arith, i, e);
  others = subst (Tells symbols (index_of s.kind) s.position) unmarked.1 (h.tells (index_of s.kind) s.position);
}

pub free_unmarked : (taken : List (List Bool)) (symbols : List Symbol) (s : Symbol) → AreTaken taken symbols → index_of s.kind < length taken → IsFree (map length taken) symbols s →
    IsUnmarked taken (index_of s.kind) s.position
free_unmarked taken symbols s h kind_in free =
    let kind : ℕ = index_of s.kind in
    let e = count_is taken kind kind_in in
    let i = free.inside in (
      omega (arith, i, e),
      elim (true_or_false (mark_at taken kind s.position)) [
        | inr off ↦ off
        | inl on ↦ let (k, t, k_in, is_t, here) = subst (Tells symbols kind s.position) on (h.tells kind s.position) in
            absurd (free.others k t k_in (subst (λ q. AreSame q s) (sym is_t) here))
      ],
    )

-- the symbols with one more
pub AreTaken-more : (taken : List (List Bool)) (symbols : List Symbol) (s : Symbol) → AreTaken taken symbols → index_of s.kind < length taken → IsName s.name →
    IsUnmarked taken (index_of s.kind) s.position → AreTaken (marked_at taken (index_of s.kind) s.position) (symbols ++ s ∷ [])
AreTaken-more taken symbols s h kind_in named unmarked =
    let free : IsFree (map length taken) symbols s = unmarked_free taken symbols s h kind_in unmarked in
    let before : AreSymbols (map length taken) symbols = h.symbols_of in
    record {
      kinds = length-set taken (index_of s.kind) _ ∙ h.kinds;
      symbols_of = subst (λ counts. AreSymbols counts (symbols ++ s ∷ [])) (sym (marked_counts taken (index_of s.kind) s.position)) (record {
        each = All-push (IsSymbol (map length taken)) symbols s before.each (record { inside = free.inside; named = named });
        distinct = all_pairs_push (λ t u. AreSame t u → ⊥) symbols s before.distinct free.others;
      });
      tells = tells_after taken symbols s h kind_in unmarked;
    }

none_in : (n p : ℕ) → get_or (replicate n false) p false ≡ false
none_in n p = elim (cases_lt p n) [
  | inl inside ↦ get_or-replicate n p false false inside
  | inr past ↦ get_or_past (replicate n false) p false (omega (arith, past, length-replicate {A = Bool}))
]

none_marked : (counts : List ℕ) (k p : ℕ) → mark_at (map (λ n. replicate n false) counts) k p ≡ false
none_marked counts k p = elim (cases_lt k (length counts)) [
  | inl inside ↦ ap (λ row. get_or row p false) (get_or-map (λ n. replicate n false) counts k 0 [] inside) ∙ none_in (get_or counts k 0) p
  | inr past ↦ ap (λ row. get_or row p false) (get_or_past (map (λ n. replicate n false) counts) k [] (omega (arith, past, length-map counts (λ n. replicate n false))))
]

-- no marks and no symbols
pub AreTaken-none : (counts : List ℕ) (taken : List (List Bool)) → length counts ≡ 7 → taken ≡ map (λ n. replicate n false) counts → AreTaken taken []
AreTaken-none counts taken seven same = subst (λ rows. AreTaken rows []) (sym same) (record {
  kinds = length-map counts (λ n. replicate n false) ∙ seven;
  symbols_of = record { each = λ k d k_in. absurd (omega arith); distinct = λ i j d i_j j_in. absurd (omega arith) };
  tells = λ k p. subst (Tells [] k p) (sym (none_marked counts k p)) (λ i d i_in. absurd (omega arith));
})

pub index_below : (kind : SymbolKind) → index_of kind < 7
index_below Input = omega arith
index_below Latch = omega arith
index_below Output = omega arith
index_below Bad = omega arith
index_below Constraint = omega arith
index_below Justice = omega arith
index_below Fairness = omega arith

-- the labels after one more symbol
pub labels-more : (taken : List (List Bool)) (symbols : List Symbol) (s : Symbol) → labels_of (marked_at taken (index_of s.kind) s.position) (symbols ++ s ∷ []) ≡ record { counts = map length taken; symbols = symbols ++ s ∷ [] }
labels-more taken symbols s = ap (λ counts. record { counts = counts; symbols = symbols ++ s ∷ [] }) (marked_counts taken (index_of s.kind) s.position)

-- the last of some symbols
pub last_symbol : (counts : List ℕ) (before : List Symbol) (s : Symbol) → AreSymbols counts (before ++ s ∷ []) → IsName s.name × IsFree counts before s
last_symbol counts before s h =
    let n : ℕ = length before in
    let at_end : get_or (before ++ s ∷ []) n s ≡ s = ap (λ q. get_or (before ++ s ∷ []) q s) (omega arith) ∙ get_or-append-add before (s ∷ []) 0 s in
    let last : IsSymbol counts s = subst (IsSymbol counts) at_end (h.each n s (omega (arith, length-append before (s ∷ [])))) in (
      last.named,
      record {
        inside = last.inside;
        others = λ k d k_in same. h.distinct k n s k_in (omega (arith, length-append before (s ∷ [])))
            (subst (λ t. AreSame (get_or (before ++ s ∷ []) k s) t) (sym at_end) (subst (λ t. AreSame t s) (get_or_default before k d s k_in ∙ sym (get_or-append before (s ∷ []) s k k_in)) same));
      },
    )

pub with_next : (symbols : List Symbol) (i : ℕ) (s : Symbol) → i < length symbols → s ≡ get_or symbols i s → take (i + 1) symbols ≡ take i symbols ++ s ∷ []
with_next symbols i s i_in is_s = take_more symbols i s i_in ∙ ap (λ q. take i symbols ++ q ∷ []) (sym is_s)

-- the i-th of the symbols is the first that is wrong
pub wrong_name : (counts : List ℕ) (symbols : List Symbol) (i : ℕ) (s : Symbol) → i < length symbols → s ≡ get_or symbols i s → AreSymbols counts (take i symbols) → (IsName s.name → ⊥) → IsFirstWrong counts symbols i
wrong_name counts symbols i s i_in is_s before wrong = record {
  inside = i_in;
  before = before;
  wrong = λ h. wrong (last_symbol counts (take i symbols) s (subst (AreSymbols counts) (with_next symbols i s i_in is_s) h)).0;
}

pub wrong_place : (counts : List ℕ) (symbols : List Symbol) (i : ℕ) (s : Symbol) → i < length symbols → s ≡ get_or symbols i s → AreSymbols counts (take i symbols) → (IsFree counts (take i symbols) s → ⊥) → IsFirstWrong counts symbols i
wrong_place counts symbols i s i_in is_s before wrong = record {
  inside = i_in;
  before = before;
  wrong = λ h. wrong (last_symbol counts (take i symbols) s (subst (AreSymbols counts) (with_next symbols i s i_in is_s) h)).1;
}
