-- The values that literals give.
use Rattle.std.proofs.Common.{◌≡◌, ◌≢◌, ◌∙◌, ◌+◌, ◌≤◌, ◌<◌, ℕ, zero, suc, Bool, true, false, List, [], ◌∷◌, ◌++◌, replicate, length, take, get_or, set, slice_index_or, All, ℤ, pos, negsuc, unsigned_abs, refl, sym, ap, subst, arith, add-one}
use Rattle.std.proofs.lemmas.List.{take_more, set_past, length-set, length-replicate, get_or-set_same, get_or-set_other, get_or-replicate}
use Rattle.std.proofs.lemmas.List.Elements.{All-head, All-tail}
use Rattle.std.proofs.lemmas.Bool.Decides.{nat_tests}
use Rattle.solver.specs.Answers.{IsModel}
use Rattle.solver.specs.Parts.{IsPartModel}
use Rattle.solver.specs.declared.part.Part.{Part}
use Rattle.cdcl_kernel.specs.Valued.{is_positive, with_value, with_values, valued, IsLastValue, AreLastValues}
use Rattle.solver.specs.Values.{AreTrueBy, IsAndBy}
use Rattle.cdcl_kernel.specs.Verdicts.{IsSatisfiedBy}
use lib.Signed.{lt_z}

-- ---- one literal more

signed : (l : ℤ) → lt_z (pos 0) l ≡ is_positive l
signed (pos zero) = refl
signed (pos (suc n)) = grind (arith, nat_tests)
signed (negsuc n) = refl

values_push : (b : List Bool) (ls : List ℤ) (l : ℤ) → with_values b (ls ++ l ∷ []) ≡ with_value (with_values b ls) l
values_push b [] l = refl
values_push b (k ∷ ls) l = values_push (with_value b k) ls l

valued_next : (n : ℕ) (ls : List ℤ) (i : ℕ) → i < length ls → valued n (take (i + 1) ls) ≡ with_value (valued n (take i ls)) (get_or ls i (pos 0))
valued_next n ls i lt = ap (valued n) (take_more ls i (pos 0) lt) ∙ values_push (replicate (n + 1) false) (take i ls) (get_or ls i (pos 0))

pub valued_more : (n : ℕ) (ls : List ℤ) (i : ℕ) (b : List Bool) → i < length ls → b ≡ valued n (take i ls) → set b (unsigned_abs (get_or ls i (pos 0))) (lt_z (pos 0) (get_or ls i (pos 0))) ≡ valued n (take (i + 1) ls)
valued_more n ls i b lt e =
    let l : ℤ = get_or ls i (pos 0) in
    ap (λ (c : List Bool). set c (unsigned_abs l) (lt_z (pos 0) l)) e
    ∙ ap (λ (p : Bool). set (valued n (take i ls)) (unsigned_abs l) p) (signed l)
    ∙ sym (valued_next n ls i lt)

-- a literal of a variable that has no index
pub valued_same : (n : ℕ) (ls : List ℤ) (i : ℕ) (b : List Bool) → i < length ls → length b ≤ unsigned_abs (get_or ls i (pos 0)) → b ≡ valued n (take i ls) → b ≡ valued n (take (i + 1) ls)
valued_same n ls i b lt out e =
    let l : ℤ = get_or ls i (pos 0) in
    sym (set_past b (unsigned_abs l) (is_positive l) out)
    ∙ ap (λ (c : List Bool). with_value c l) e
    ∙ sym (valued_next n ls i lt)

-- ---- the length

values_length : (b : List Bool) (ls : List ℤ) → length (with_values b ls) ≡ length b
values_length b [] = refl
values_length b (l ∷ ls) = values_length (with_value b l) ls ∙ length-set b (unsigned_abs l) (is_positive l)

valued_length : (n : ℕ) (ls : List ℤ) → length (valued n ls) ≡ n + 1
valued_length n ls = values_length (replicate (n + 1) false) ls ∙ length-replicate (n + 1) false

value_none : (b : List Bool) (l : ℤ) → slice_index_or b 0 true ≡ false → slice_index_or (with_value b l) 0 true ≡ false
value_none [] l e = e
value_none (x ∷ b) (pos zero) e = refl
value_none (x ∷ b) (pos (suc n)) e = e
value_none (x ∷ b) (negsuc n) e = e

values_none : (b : List Bool) (ls : List ℤ) → slice_index_or b 0 true ≡ false → slice_index_or (with_values b ls) 0 true ≡ false
values_none b [] e = e
values_none b (l ∷ ls) e = values_none (with_value b l) ls (value_none b l e)

all_false : (n : ℕ) → slice_index_or (replicate (n + 1) false) 0 true ≡ false
all_false n = rw add-one refl

valued_none : (n : ℕ) (ls : List ℤ) → slice_index_or (valued n ls) 0 true ≡ false
valued_none n ls = values_none (replicate (n + 1) false) ls (all_false n)

-- ---- the last literal of a variable

values_after : (b : List Bool) (before after : List ℤ) → with_values b (before ++ after) ≡ with_values (with_values b before) after
values_after b [] after = refl
values_after b (k ∷ before) after = values_after (with_value b k) before after

values_other : (b : List Bool) (ls : List ℤ) (v : ℕ) → All (λ k. unsigned_abs k ≢ v) ls → get_or (with_values b ls) v false ≡ get_or b v false
values_other b [] v others = refl
values_other b (k ∷ ls) v others =
    values_other (with_value b k) ls v (All-tail (λ k. unsigned_abs k ≢ v) k ls others)
    ∙ get_or-set_other b (unsigned_abs k) v (is_positive k) false (λ e. All-head (λ k. unsigned_abs k ≢ v) k ls others (sym e))

value_last : (b : List Bool) (before after : List ℤ) (l : ℤ) (v : ℕ) → v < length b → unsigned_abs l ≡ v → All (λ k. unsigned_abs k ≢ v) after → get_or (with_values b (before ++ l ∷ after)) v false ≡ is_positive l
value_last b before after l v inside is others =
    ap (λ (c : List Bool). get_or c v false) (values_after b before (l ∷ after))
    ∙ values_other (with_value (with_values b before) l) after v others
    ∙ subst (λ w. get_or (with_value (with_values b before) l) w false ≡ is_positive l) is
    (get_or-set_same (with_values b before) (unsigned_abs l) (is_positive l) false (rw (is, values_length b before) inside))

valued_is : (n : ℕ) (ls : List ℤ) (v : ℕ) → v ≤ n → IsLastValue ls v (get_or (valued n ls) v false)
valued_is n ls v le =
    let inside : v < n + 1 = omega (arith, le) in
    record {
      last = λ before after l parts is others. rw parts (value_last (replicate (n + 1) false) before after l v (rw length-replicate inside) is others);
      none = λ others. values_other (replicate (n + 1) false) ls v others ∙ get_or-replicate (n + 1) v false false inside;
    }

pub last_values : (n : ℕ) (ls : List ℤ) (b : List Bool) → b ≡ valued n ls → AreLastValues n ls b
last_values n ls b e = record {
  places = ap length e ∙ valued_length n ls;
  each = λ v le. subst (λ (c : List Bool). IsLastValue ls v (get_or c v false)) (sym e) (valued_is n ls v le);
}

-- ---- models

pub model_from : (n : ℕ) (cs : List (List ℤ)) (assume ls : List ℤ) (b : List Bool) → b ≡ valued n ls → All (IsSatisfiedBy b) cs → AreTrueBy b assume → IsModel n cs assume b
model_from n cs assume ls b e satisfied assumed = record {
  places = ap length e ∙ valued_length n ls;
  none = subst (λ (c : List Bool). slice_index_or c 0 true ≡ false) (sym e) (valued_none n ls);
  satisfied = satisfied;
  assumed = assumed;
}

pub part_model_from : (n : ℕ) (part : Part) (assume ls : List ℤ) (b : List Bool) → b ≡ valued n ls → All (IsAndBy b) part.gates.items → AreTrueBy b part.literals.items → AreTrueBy b assume → IsPartModel n part assume b
part_model_from n part assume ls b e gates wanted assumed = record {
  places = ap length e ∙ valued_length n ls;
  none = subst (λ (c : List Bool). slice_index_or c 0 true ≡ false) (sym e) (valued_none n ls);
  gates = gates;
  wanted = wanted;
  assumed = assumed;
}
