-- One symbol is read by its parts, and symbols one after the other as a loop reads them.
use Rattle.std.proofs.Common.{◌≡◌, ℕ, suc, ◌-◌, ◌+◌, ◌^◌, ◌≤◌, ◌<◌, true, false, List, [], ◌∷◌, ◌++◌, length, get_or, Option, Some, None, refl, sym, ap, ◌∙◌, arith}
use Rattle.std.proofs.lemmas.List.{append-nil, get_or_append_left, get_or-append-add, length-append}
use Rattle.std.proofs.lemmas.List.Elements.{All-push, All-nil}
use Rattle.std.proofs.lemmas.List.Quantifiers.{all_pairs_push}
use Rattle.std.proofs.lemmas.Option.{same_Some}
use Rattle.scan.specs.declared.fault.Fault.{Fault}
use Rattle.scan.specs.declared.fault.Fault.TheVariants.{Memory, Text}
use Rattle.scan.specs.Reading.{◌>>=◌, Read, Fails}
use Rattle.scan.specs.Numbers.{number_at}
use Rattle.scan.specs.Bytes.{byte_at}
use Rattle.scan.specs.Words.{field_at}
use Rattle.scan.proofs.Loops.{with_front, regroup}
use Rattle.scan.proofs.Toolbox.{bind_some}
use Rattle.graph.specs.declared.parts.Parts.{Parts}
use Rattle.graph.specs.declared.symbol.Symbol.{Symbol}
use Rattle.graph.specs.declared.symbol.SymbolKind.{SymbolKind}
use Rattle.graph.specs.Symbols.{symbol_counts, AreSame, IsSymbol, AreSymbols, IsFree, Labels}
use Rattle.aag.specs.Symbols.{kind_at, named_at, label_at, symbol_at, ends_symbols, symbols_in, symbols_at}
use Rattle.aag.specs.Whole.{Refuses, Adds}
use Rattle.aag.proofs.SymbolLaws.{symbol_reads}

-- ---- one symbol

pub never : false ≡ true → ⊥
never e = absurd cc

-- the symbol with the name that was read
abbrev named : SymbolKind → ℕ → List ℕ × List ℕ → Symbol × List ℕ
named kind n name = (record { kind = kind; position = n; name = name.0 }, name.1)

-- a position, where what follows it was read
abbrev placed : ℕ → List ℕ → Read ℕ
placed n rest = Some (n, rest)

regroup_label : (kind : SymbolKind) (n : ℕ) (o : Option (List ℕ)) → ((o >>= placed n) >>= λ p. named_at p.1 >>= λ name. Some (named kind p.0 name)) ≡ ((o >>= named_at) >>= λ name. Some (named kind n name))
regroup_label kind n (Some rest) = refl
regroup_label kind n None = refl

symbol_parts : (t a b : List ℕ) (kind : SymbolKind) (n : ℕ) → kind_at t ≡ Some (kind, a) → number_at (2 ^ 32 - 1) a ≡ Some (n, b) → symbol_at t ≡ (label_at b >>= λ name. Some (named kind n name))
unfolding symbol_at field_at
symbol_parts t a b kind n letter number = rw (letter, number) (regroup_label kind n (byte_at 32 b))

no_value : {Y : Type 0} (y : Y) → ◌≡◌ {A = Option Y} None (Some y) → ⊥
no_value y e = absurd cc

-- where nothing is read, anything is refused
pub refuses_none : {K Y : Type 0} (P : Y → Type 0) (e : Fault K) (read : Option Y) → Fails e read → Refuses P e read
refuses_none P (Memory refused) read fails = tt
refuses_none {K} {Y} P (Text kind left) read fails = λ y is keeps. no_value y (sym fails ∙ is)

pub fails_kind : {K : Type 0} (e : Fault K) (t : List ℕ) → Fails e (kind_at t) → Fails e (symbol_at t)
unfolding symbol_at
fails_kind (Memory refused) t fails = tt
fails_kind (Text kind left) t fails = rw fails refl

pub fails_number : {K : Type 0} (e : Fault K) (t a : List ℕ) (kind : SymbolKind) → kind_at t ≡ Some (kind, a) → Fails e (number_at (2 ^ 32 - 1) a) → Fails e (symbol_at t)
unfolding symbol_at field_at
fails_number (Memory refused) t a kind letter fails = tt
fails_number (Text k left) t a kind letter fails = rw (letter, fails) refl

pub fails_label : {K : Type 0} (e : Fault K) (t a b : List ℕ) (kind : SymbolKind) (n : ℕ) → kind_at t ≡ Some (kind, a) → number_at (2 ^ 32 - 1) a ≡ Some (n, b) → Fails e (label_at b) → Fails e (symbol_at t)
fails_label (Memory refused) t a b kind n letter number fails = tt
fails_label (Text k left) t a b kind n letter number fails = symbol_parts t a b kind n letter number ∙ ap (λ o. o >>= λ name. Some (named kind n name)) fails

pub symbol_made : (t a b name rest : List ℕ) (kind : SymbolKind) (n : ℕ) → kind_at t ≡ Some (kind, a) → number_at (2 ^ 32 - 1) a ≡ Some (n, b) → label_at b ≡ Some (name, rest) → symbol_at t ≡ Some (record { kind = kind; position = n; name = name }, rest)
symbol_made t a b name rest kind n letter number label = symbol_parts t a b kind n letter number ∙ ap (λ o. o >>= λ x. Some (named kind n x)) label

free_named : (counts : List ℕ) (xs : List Symbol) (kind : SymbolKind) (n : ℕ) (name other : List ℕ) → IsFree counts xs (record { kind = kind; position = n; name = name }) → IsFree counts xs (record { kind = kind; position = n; name = other })
free_named counts xs kind n name other f = record { inside = f.inside; others = f.others }

-- where the kind and position are taken, no symbol that is read is free
pub refuses_taken : (counts : List ℕ) (xs : List Symbol) (t a b : List ℕ) (kind : SymbolKind) (n : ℕ) (name : List ℕ) → kind_at t ≡ Some (kind, a) → number_at (2 ^ 32 - 1) a ≡ Some (n, b) → (IsFree counts xs (record { kind = kind; position = n; name = name }) → ⊥)
    → (y : Symbol × List ℕ) → symbol_at t ≡ Some y → IsFree counts xs y.0 → ⊥
refuses_taken counts xs t a b kind n name letter number taken y is free =
    let x = bind_some (label_at b) (λ x. Some (named kind n x)) y (sym (symbol_parts t a b kind n letter number) ∙ is) in
    let q : ◌≡◌ {A = Symbol × List ℕ} (named kind n x.0) y = same_Some (named kind n x.0) y x.2 in
    let same : y.0 ≡ record { kind = kind; position = n; name = x.0.0 } = sym (ap (λ (w : Symbol × List ℕ). w.0) q) in
    taken (free_named counts xs kind n x.0.0 name (rw same at free))

-- ---- all symbols

-- the symbols so far, and what is still read
pub record SoFar (m : Parts) (text : List ℕ) (labels : Labels) (counter : ℕ) (rest : List ℕ) : Type 0 where
  pub counts : labels.counts ≡ symbol_counts m
  pub are : AreSymbols (symbol_counts m) labels.symbols
  pub reading : with_front labels.symbols (symbols_in (suc (length text) - counter) rest) ≡ symbols_at text

with_none : (read : Read (List Symbol)) → with_front [] read ≡ read
with_none (Some x) = refl
with_none None = refl

no_symbols : (counts : List ℕ) → AreSymbols counts []
no_symbols counts = record { each = All-nil (IsSymbol counts); distinct = λ i j d before lt. absurd (omega (arith, lt)) }

pub begins : (m : Parts) (text : List ℕ) → SoFar m text (record { counts = symbol_counts m; symbols = [] }) 0 text
begins m text =
    let k : suc (length text) - 0 ≡ suc (length text) = omega arith in
    let whole : with_front [] (symbols_in (suc (length text) - 0) text) ≡ with_front [] (symbols_at text) = rw k refl in
    record { counts = refl; are = no_symbols (symbol_counts m); reading = whole ∙ with_none (symbols_at text) }

one_more : (counts : List ℕ) (xs : List Symbol) (s : Symbol) → AreSymbols counts xs → IsFree counts xs s → IsSymbol counts s → AreSymbols counts (xs ++ s ∷ [])
one_more counts xs s are free is = record {
  each = All-push (IsSymbol counts) xs s are.each is;
  distinct = all_pairs_push (λ a b. AreSame a b → ⊥) xs s are.distinct free.others;
}

pub goes_on : (m : Parts) (text : List ℕ) (before after : Labels) (counter : ℕ) (rest behind : List ℕ) → counter < suc (length text) → ends_symbols rest ≡ false → Adds before after (symbol_at rest) behind
    → SoFar m text before counter rest → SoFar m text after (counter + 1) behind
unfolding symbols_in
goes_on m text before after counter rest behind lt more adds so_far =
    let s = adds.symbol in
    let text_of = symbol_reads.sound rest s behind adds.was_read in
    let free : IsFree (symbol_counts m) before.symbols s = rw (← so_far.counts) adds.is_free in
    let are = one_more (symbol_counts m) before.symbols s so_far.are free (record { inside = free.inside; named = text_of.1.named }) in
    let left : ℕ = suc (length text) - (counter + 1) in
    let k : suc (length text) - counter ≡ suc left = omega arith in
    let step : with_front before.symbols (symbols_in (suc (length text) - counter) rest) ≡ with_front (before.symbols ++ s ∷ []) (symbols_in left behind) = rw (k, more, adds.was_read) (regroup before.symbols s (symbols_in left behind)) in
    rw adds.added (record { counts = so_far.counts; are = are; reading = sym step ∙ so_far.reading })

pub stops : (m : Parts) (text : List ℕ) (labels : Labels) (counter : ℕ) (rest : List ℕ) → counter < suc (length text) → ends_symbols rest ≡ true → SoFar m text labels counter rest
    → (symbols_at text ≡ Some (labels.symbols, rest)) × AreSymbols (symbol_counts m) labels.symbols
unfolding symbols_in
stops m text labels counter rest lt ends so_far =
    let k : suc (length text) - counter ≡ suc (suc (length text) - (counter + 1)) = omega arith in
    let step : with_front labels.symbols (symbols_in (suc (length text) - counter) rest) ≡ Some (labels.symbols, rest) = rw (k, ends) (ap (λ (xs : List Symbol). Some (xs, rest)) (append-nil labels.symbols)) in
    (sym so_far.reading ∙ step, so_far.are)

seam : (front : List Symbol) (s : Symbol) (others : List Symbol) (d : Symbol) → get_or (front ++ s ∷ others) (length front) d ≡ s
seam front s others d =
    let k : length front ≡ length front + 0 = omega arith in
    ap (λ i. get_or (front ++ s ∷ others) i d) k ∙ get_or-append-add front (s ∷ others) 0 d

free_before : (counts : List ℕ) (front : List Symbol) (s : Symbol) (others : List Symbol) → AreSymbols counts (front ++ s ∷ others) → IsFree counts front s
free_before counts front s others are =
    let inside : length front < length (front ++ s ∷ others) = omega (arith, length-append front (s ∷ others)) in
    let is : IsSymbol counts s = rw (seam front s others s) at (are.each (length front) s inside) in
    record {
      inside = is.inside;
      others = λ k d lt same. are.distinct k (length front) d lt inside (rw (get_or_append_left front (s ∷ others) d k lt, seam front s others d) same);
    }

-- the first of the symbols that are read
first_of : (n : ℕ) (rest : List ℕ) (x : List Symbol × List ℕ) → ends_symbols rest ≡ false → symbols_in (suc n) rest ≡ Some x → (s : Symbol × List ℕ) × (others : List Symbol) × (symbol_at rest ≡ Some s) × (x.0 ≡ s.0 ∷ others)
unfolding symbols_in
first_of n rest x more e =
    let s = bind_some (symbol_at rest) (λ s. symbols_in n s.1 >>= λ others. Some (s.0 ∷ others.0, others.1)) x (rw more at e) in
    let others = bind_some (symbols_in n s.0.1) (λ others. Some (s.0.0 ∷ others.0, others.1)) x s.2 in
    let q : ◌≡◌ {A = List Symbol × List ℕ} (s.0.0 ∷ others.0.0, others.0.1) x = same_Some (s.0.0 ∷ others.0.0, others.0.1) x others.2 in
    (s.0, others.0.0, s.1, sym (ap (λ (w : List Symbol × List ℕ). w.0) q))

-- a symbol that is refused is not free, whatever follows
refuses_front : (counts : List ℕ) (front : List Symbol) (n : ℕ) (rest : List ℕ) → ends_symbols rest ≡ false → ((y : Symbol × List ℕ) → symbol_at rest ≡ Some y → IsFree counts front y.0 → ⊥)
    → (y : List Symbol × List ℕ) → with_front front (symbols_in (suc n) rest) ≡ Some y → AreSymbols counts y.0 → ⊥
refuses_front counts front n rest more refuses y is are =
    let x = bind_some (symbols_in (suc n) rest) (λ x. Some (front ++ x.0, x.1)) y is in
    let s = first_of n rest x.0 more x.1 in
    let q : ◌≡◌ {A = List Symbol × List ℕ} (front ++ x.0.0, x.0.1) y = same_Some (front ++ x.0.0, x.0.1) y x.2 in
    let all : y.0 ≡ front ++ s.0.0 ∷ s.1 = sym (ap (λ (w : List Symbol × List ℕ). w.0) q) ∙ ap (λ (w : List Symbol). front ++ w) s.3 in
    refuses s.0 s.2 (free_before counts front s.0.0 s.1 (rw all at are))

pub refuses : {K : Type 0} (m : Parts) (text : List ℕ) (labels : Labels) (counter : ℕ) (rest : List ℕ) (e : Fault K) → counter < suc (length text) → ends_symbols rest ≡ false
    → Refuses (λ s. IsFree labels.counts labels.symbols s.0) e (symbol_at rest) → SoFar m text labels counter rest → Refuses (λ x. AreSymbols (symbol_counts m) x.0) e (symbols_at text)
refuses m text labels counter rest (Memory refused) lt more one so_far = tt
refuses m text labels counter rest (Text kind left) lt more one so_far =
    let k : suc (length text) - counter ≡ suc (suc (length text) - (counter + 1)) = omega arith in
    λ y is are. refuses_front (symbol_counts m) labels.symbols (suc (length text) - (counter + 1)) rest more (rw so_far.counts at one) y (rw (← k) (so_far.reading ∙ is)) are

pub runs_out : (m : Parts) (text : List ℕ) (labels : Labels) (counter : ℕ) (rest : List ℕ) → suc (length text) ≤ counter → SoFar m text labels counter rest
    → (y : List Symbol × List ℕ) → symbols_at text ≡ Some y → AreSymbols (symbol_counts m) y.0 → ⊥
unfolding symbols_in
runs_out m text labels counter rest le so_far y is are =
    let k : suc (length text) - counter ≡ 0 = omega arith in
    let none : with_front labels.symbols (symbols_in (suc (length text) - counter) rest) ≡ None = rw k refl in
    no_value y (sym none ∙ so_far.reading ∙ is)
