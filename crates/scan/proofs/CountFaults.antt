-- Which count of a header a fault is of.
use Rattle.std.proofs.Common.{◌≡◌, ℕ, ◌-◌, ◌+◌, ◌^◌, ◌≤◌, ◌<◌, List, [], ◌∷◌, ◌++◌, length, All, Option, Some, None, refl, ap, ◌∙◌, arith}
use Rattle.std.specs.Prelude.{decimal}
use Rattle.std.specs.List.{flat_map}
use Rattle.std.proofs.lemmas.Bool.{ne_eqb}
use Rattle.std.proofs.lemmas.List.{length-append}
use Rattle.std.proofs.lemmas.List.Elements.{All-nil, All-push}
use Rattle.std.proofs.lemmas.Grind.{flat_map-append, common_steps}
use Rattle.scan.specs.declared.fault.Fault.{Fault}
use Rattle.scan.specs.declared.fault.Kinds.{Kinds}
use Rattle.scan.specs.Reading.{Read, Fails}
use Rattle.scan.specs.Numbers.{number_at}
use Rattle.scan.specs.Words.{any}
use Rattle.scan.specs.Refusals.{number_fault, byte_fault, fault_behind, word_fault}
use Rattle.scan.specs.Counts.{ends_count, IsCountsFault}
use Rattle.scan.proofs.CountLoop.{count_at}
use Rattle.scan.proofs.CountLaws.{end_more, end_digit}
use Rattle.scan.proofs.WordLaws.{word_reads}

-- counts, each with the space behind it
abbrev pub spaced_behind : List ℕ → List ℕ
spaced_behind ns = flat_map (λ n. decimal n ++ 32 ∷ []) ns

-- the rest is behind i counts with their spaces
pub record IsBehind (limit i : ℕ) (text rest : List ℕ) : Type 0 where
  pub before : List ℕ
  pub many : length before ≡ i
  pub within : All (λ n. n ≤ limit) before
  pub begins : text ≡ spaced_behind before ++ rest

pub behind_none : (limit : ℕ) (text : List ℕ) → IsBehind limit 0 text text
behind_none limit text = record { before = []; many = refl; within = All-nil (λ n. n ≤ limit); begins = refl }

spaced_more : (before : List ℕ) (n : ℕ) (after : List ℕ) → spaced_behind before ++ ((decimal n ++ 32 ∷ []) ++ after) ≡ spaced_behind (before ++ n ∷ []) ++ after
spaced_more before n after = grind (arith, common_steps, flat_map-append)

pub behind_more : (limit i n e : ℕ) (text rest after : List ℕ) → limit < 2 ^ 32 → i < 8 → (e ≡ 10 → ⊥) → count_at limit i rest ≡ Some ((n, e), after) → IsBehind limit i text rest → IsBehind limit (i + 1) text after
behind_more limit i n e text rest after small lt more w b =
    let read = (word_reads limit any (ends_count (7 - i)) small (end_digit (7 - i))).sound rest (n, e) after w in
    let is_space : e ≡ 32 = (end_more (7 - i) e read.1.is_end (ne_eqb e 10 more)).0 in
    let front : read.0 ≡ decimal n ++ 32 ∷ [] = rw (← is_space) read.1.spells in
    record {
      before = b.before ++ n ∷ [];
      many = length-append b.before (n ∷ []) ∙ omega (arith, b.many);
      within = All-push (λ m. m ≤ limit) b.before n b.within read.1.within;
      begins = b.begins ∙ ap (λ (t : List ℕ). spaced_behind b.before ++ t) (read.2 ∙ ap (λ (t : List ℕ). t ++ after) front) ∙ spaced_more b.before n after;
    }

number_fails : {K Y : Type 0} (kinds : Kinds K) (left : ℕ) (text : List ℕ) (o : Option Y) → Fails (number_fault kinds left text) o → o ≡ None
number_fails kinds left [] o f = f
number_fails kinds left (c ∷ cs) o f = f

byte_fails : {K Y : Type 0} (kinds : Kinds K) (text : List ℕ) (o : Option Y) → Fails (byte_fault kinds text) o → o ≡ None
byte_fails kinds [] o f = f
byte_fails kinds (c ∷ cs) o f = f

behind_fails : {K Y : Type 0} (kinds : Kinds K) (text : List ℕ) (n : Read ℕ) (o : Option Y) → Fails (fault_behind kinds text n) o → o ≡ None
behind_fails kinds text None o f = number_fails kinds (length text) text o f
behind_fails kinds text (Some n) o f = byte_fails kinds n.1 o f

none_read : {K : Type 0} (kinds : Kinds K) (limit i : ℕ) (rest : List ℕ) (e : Fault K) → e ≡ word_fault kinds limit rest → Fails e (count_at limit i rest) → count_at limit i rest ≡ None
none_read kinds limit i rest e is f = behind_fails kinds rest (number_at limit rest) (count_at limit i rest) (rw (← is) f)

pub count_refused : {K : Type 0} (kinds : Kinds K) (limit i : ℕ) (text rest : List ℕ) (e : Fault K) → i < 8 → Fails e (count_at limit i rest) → e ≡ word_fault kinds limit rest → IsBehind limit i text rest → IsCountsFault kinds limit text e
count_refused kinds limit i text rest e lt f is b = record {
  before = b.before;
  rest = rest;
  few = rw b.many lt;
  within = b.within;
  begins = b.begins;
  none = rw b.many (none_read kinds limit i rest e is f);
  fault = is;
}
