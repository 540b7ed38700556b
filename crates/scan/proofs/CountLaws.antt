-- The counts of a header are read as they are spelled.
use Rattle.std.proofs.Common.{◌≡◌, ℕ, zero, suc, ◌-◌, ◌+◌, ◌^◌, ◌≤◌, ◌<◌, Bool, true, false, cond, eqb, ltb, leb, ◌&&◌, List, [], ◌∷◌, ◌++◌, length, replicate, refl, sym, ap, ◌∙◌, arith, inl, inr, append_assoc}
use Rattle.std.specs.Prelude.{decimal}
use Rattle.std.specs.Char.{is_ascii_digit}
use Rattle.std.specs.List.{flat_map, AllByRecursion}
use Rattle.std.proofs.lemmas.Bool.{eqb-true, or_cases, and_parts, leb-true, le-leb, ltb-true, lt-ltb, cases_Bool}
use Rattle.std.proofs.lemmas.List.{append-nil}
use Rattle.std.proofs.lemmas.List.Elements.{All-from_recursion, recursion_from_All}
use Rattle.scan.specs.Words.{any, IsWord}
use Rattle.scan.specs.Counts.{ends_count, counts_at}
use Rattle.scan.specs.Lists.{spaced, IsCounts}
use Rattle.scan.specs.Spelling.{Nothing, Then}
use Rattle.scan.proofs.Toolbox.{Reads, reads_as, reads_then, reads_nothing, reads_if}
use Rattle.scan.proofs.WordLaws.{word_reads}

-- what is behind the space in front of the counts
record Counted (limit k : ℕ) (text counts : List ℕ) : Type 0 where
  written : List ℕ
  few : length written ≤ k
  enough : k ≤ length written + 4
  some : 0 < k → 0 < length written
  padded : counts ≡ written ++ replicate (k - length written) 0
  within : AllByRecursion (λ n. n ≤ limit) written
  spells : 32 ∷ text ≡ flat_map spaced written ++ 10 ∷ []

abbrev OfCounts : ℕ → ℕ → List ℕ → List ℕ → Type 0
OfCounts limit zero t xs = Nothing [] t xs
OfCounts limit (suc j) t xs = Counted limit (suc j) t xs

abbrev OfOthers : ℕ → ℕ → ℕ × ℕ → List ℕ → List ℕ → Type 0
OfOthers limit j w t xs = cond (eqb w.1 10) (Nothing (w.0 ∷ replicate j 0) t xs) (Then (OfCounts limit j) (λ ns. Nothing (w.0 ∷ ns)) t xs)

abbrev OfParts : ℕ → ℕ → List ℕ → List ℕ → Type 0
OfParts limit j = Then (IsWord limit any (ends_count j)) (OfOthers limit j)

both : {b : Bool} → b ≡ false → b ≡ true → ⊥
both f t = absurd cc

end_few : (j c : ℕ) → ends_count j c ≡ true → c ≡ 10 → j ≤ 4
end_few j c e ten = elim (or_cases (eqb c 32 && ltb 0 j) (eqb c 10 && leb j 4) e) [
  | inl s ↦ absurd (let p = and_parts (eqb c 32) (ltb 0 j) s in let q = eqb-true c 32 p.0 in omega arith)
  | inr n ↦ leb-true j 4 (and_parts (eqb c 10) (leb j 4) n).1
]

pub end_more : (j c : ℕ) → ends_count j c ≡ true → eqb c 10 ≡ false → (c ≡ 32) × (0 < j)
end_more j c e off = elim (or_cases (eqb c 32 && ltb 0 j) (eqb c 10 && leb j 4) e) [
  | inl s ↦ let p = and_parts (eqb c 32) (ltb 0 j) s in (eqb-true c 32 p.0, ltb-true 0 j p.1)
  | inr n ↦ absurd (both off (and_parts (eqb c 10) (leb j 4) n).0)
]

pub end_digit : (j c : ℕ) → ends_count j c ≡ true → is_ascii_digit c ≡ false
end_digit j c e = elim (or_cases (eqb c 32 && ltb 0 j) (eqb c 10 && leb j 4) e) [
  | inl s ↦ rw (eqb-true c 32 (and_parts (eqb c 32) (ltb 0 j) s).0) refl
  | inr n ↦ rw (eqb-true c 10 (and_parts (eqb c 10) (leb j 4) n).0) refl
]

last_to : (limit j : ℕ) (w : ℕ × ℕ) (t a b xs : List ℕ) → IsWord limit any (ends_count j) a w → w.1 ≡ 10 → t ≡ a ++ b → Nothing (w.0 ∷ replicate j 0) b xs → Counted limit (suc j) t xs
last_to limit j w t a b xs one ten p last =
    let z : suc j - suc zero ≡ j = omega arith in
    record {
      written = w.0 ∷ [];
      few = omega arith;
      enough = let h = end_few j w.1 one.is_end ten in omega arith;
      some = λ _. omega arith;
      padded = last.1 ∙ ap (λ (m : ℕ). w.0 ∷ replicate m 0) (sym z);
      within = (one.within, tt);
      spells = rw (p, one.spells, last.0, ten) (simp (append_assoc, append-nil));
    }

more_to : (limit j : ℕ) (w : ℕ × ℕ) (t a b xs : List ℕ) → IsWord limit any (ends_count j) a w → w.1 ≡ 32 → 0 < j → t ≡ a ++ b → Then (OfCounts limit j) (λ ns. Nothing (w.0 ∷ ns)) b xs → Counted limit (suc j) t xs
more_to limit zero w t a b xs one space pos p others = absurd (omega arith)
more_to limit (suc i) w t a b xs one space pos p (ns, c, d, inner, last, q) =
    let z : suc (suc i) - suc (length inner.written) ≡ suc i - length inner.written = omega arith in
    let h : 32 ∷ c ≡ flat_map spaced inner.written ++ 10 ∷ [] = inner.spells in
    let e1 : 32 ∷ t ≡ spaced w.0 ++ (32 ∷ c) = rw (p, one.spells, space, q, last.0) (simp (append_assoc, append-nil)) in
    record {
      written = w.0 ∷ inner.written;
      few = let f = inner.few in omega arith;
      enough = let f = inner.enough in omega arith;
      some = λ _. omega arith;
      padded = last.1 ∙ ap (λ (m : List ℕ). w.0 ∷ m) (inner.padded ∙ ap (λ (m : ℕ). inner.written ++ replicate m 0) (sym z));
      within = (one.within, inner.within);
      spells = e1 ∙ ap (λ (m : List ℕ). spaced w.0 ++ m) h ∙ sym (append_assoc (spaced w.0) (flat_map spaced inner.written) (10 ∷ []));
    }

parts_to : (limit j : ℕ) (t xs : List ℕ) → OfParts limit j t xs → Counted limit (suc j) t xs
parts_to limit j t xs (w, a, b, one, after, p) = elim (cases_Bool (eqb w.1 10)) [
  | inl e ↦ last_to limit j w t a b xs one (eqb-true w.1 10 e) p (rw e at after)
  | inr e ↦ let m = end_more j w.1 one.is_end e in more_to limit j w t a b xs one m.0 m.1 p (rw e at after)
]

from_last : (limit j n : ℕ) (t xs : List ℕ) → j ≤ 4 → n ≤ limit → xs ≡ (n ∷ []) ++ replicate (suc j - 1) 0 → 32 ∷ t ≡ ((32 ∷ decimal n) ++ []) ++ 10 ∷ [] → OfParts limit j t xs
from_last limit j n t xs few within padded spells =
    let z : suc j - 1 ≡ j = omega arith in
    let t_is : t ≡ (decimal n ++ []) ++ 10 ∷ [] = cc in (
      (n, 10),
      decimal n ++ 10 ∷ [],
      [],
      record { spells = refl; within = within; is_good = refl; is_end = rw (le-leb j 4 few) refl },
      (refl, padded ∙ ap (λ (m : ℕ). n ∷ replicate m 0) z),
      t_is ∙ simp append-nil,
    )

from_more : (limit i n m : ℕ) (ms t xs : List ℕ) → length (n ∷ m ∷ ms) ≤ suc (suc i) → suc (suc i) ≤ length (n ∷ m ∷ ms) + 4 → AllByRecursion (λ n. n ≤ limit) (n ∷ m ∷ ms)
    → xs ≡ (n ∷ m ∷ ms) ++ replicate (suc (suc i) - length (n ∷ m ∷ ms)) 0 → 32 ∷ t ≡ flat_map spaced (n ∷ m ∷ ms) ++ 10 ∷ [] → OfParts limit (suc i) t xs
from_more limit i n m ms t xs few enough within padded spells =
    let rest : List ℕ = flat_map spaced ms ++ 10 ∷ [] in
    let e : 32 ∷ t ≡ 32 ∷ (decimal n ++ (32 ∷ (decimal m ++ rest))) = spells ∙ simp append_assoc in
    let t_is : t ≡ decimal n ++ (32 ∷ (decimal m ++ rest)) = cc in
    let z : suc (suc i) - length (n ∷ m ∷ ms) ≡ suc i - length (m ∷ ms) = omega arith in (
      (n, 32),
      decimal n ++ 32 ∷ [],
      decimal m ++ rest,
      record { spells = refl; within = within.0; is_good = refl; is_end = rw (lt-ltb 0 (suc i) (omega arith)) refl },
      (
        (m ∷ ms) ++ replicate (suc i - length (m ∷ ms)) 0,
        decimal m ++ rest,
        [],
        record {
          written = m ∷ ms;
          few = omega arith;
          enough = omega arith;
          some = λ _. omega arith;
          padded = refl;
          within = within.1;
          spells = simp append_assoc;
        },
        (refl, padded ∙ ap (λ (k : ℕ). n ∷ (m ∷ ms) ++ replicate k 0) z),
        sym (append-nil (decimal m ++ rest)),
      ),
      t_is ∙ simp append_assoc,
    )

parts_of : (limit j : ℕ) (t xs ns : List ℕ) → length ns ≤ suc j → suc j ≤ length ns + 4 → 0 < length ns → xs ≡ ns ++ replicate (suc j - length ns) 0 → AllByRecursion (λ n. n ≤ limit) ns → 32 ∷ t ≡ flat_map spaced ns ++ 10 ∷ [] → OfParts limit j t xs
parts_of limit j t xs [] few enough some padded within spells = absurd (omega arith)
parts_of limit j t xs (n ∷ []) few enough some padded within spells = from_last limit j n t xs (omega arith) within.0 padded spells
parts_of limit zero t xs (n ∷ m ∷ ms) few enough some padded within spells = absurd (omega arith)
parts_of limit (suc i) t xs (n ∷ m ∷ ms) few enough some padded within spells = from_more limit i n m ms t xs few enough within padded spells

parts_from : (limit j : ℕ) (t xs : List ℕ) → Counted limit (suc j) t xs → OfParts limit j t xs
parts_from limit j t xs c = parts_of limit j t xs c.written c.few c.enough (c.some (omega arith)) c.padded c.within c.spells

counts_raw : (limit k : ℕ) → limit < 2 ^ 32 → Reads (counts_at limit k) (OfCounts limit k)
unfolding counts_at
counts_raw limit zero small = reads_nothing []
counts_raw limit (suc j) small = reads_as (Counted limit (suc j))
    (reads_then (word_reads limit any (ends_count j) small (end_digit j)) (λ w.
    reads_if (eqb w.1 10) (reads_nothing (w.0 ∷ replicate j 0)) (reads_then (counts_raw limit j small) (λ ns. reads_nothing (w.0 ∷ ns)))))
    (parts_to limit j) (parts_from limit j)

-- the counts behind the space that follows the first number of a header
pub counts_reads : (limit : ℕ) → limit < 2 ^ 32 → Reads (counts_at limit 8) (λ t ns. IsCounts limit (32 ∷ t) ns)
counts_reads limit small = reads_as (λ t ns. IsCounts limit (32 ∷ t) ns) (counts_raw limit 8 small)
    (λ t ns c. record {
      written = c.written;
      enough = let e = c.enough in omega arith;
      few = c.few;
      within = All-from_recursion (λ n. n ≤ limit) c.written c.within;
      padded = c.padded;
      spells = c.spells;
    })
    (λ t ns c. record {
      written = c.written;
      few = c.few;
      enough = let e = c.enough in omega arith;
      some = λ _. let e = c.enough in omega arith;
      padded = c.padded;
      within = recursion_from_All (λ n. n ≤ limit) c.written c.within;
      spells = c.spells;
    })
