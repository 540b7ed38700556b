-- The literals of the next time.
use Rattle.std.proofs.Common.{◌≡◌, ℕ, ◌+◌, ◌*◌, ◌<◌, Bool, true, false, List, [], ◌∷◌, ◌++◌, length, Option, inl, inr, refl, sym, ◌∙◌, ap, arith, if◌then◌else◌}
use Rattle.std.proofs.lemmas.Bool.{cases_eq}
use Rattle.std.proofs.lemmas.List.{get_or_append_left, get_or_push}
use Rattle.graph.specs.declared.circuit.Lit.{Lit}
use Rattle.graph.specs.declared.parts.Parts.{Parts}
use Rattle.cnf.specs.Tables.{IsTableOf, is_latch_in, next_in}
use Rattle.signal_classes.specs.Paired.{AreLater, later_in, lit_at}

chosen : (b : Bool) (x y : Lit) → b ≡ true → (if b then x else y) ≡ x
chosen true x y is = refl
chosen false x y is = (cc)

other : (b : Bool) (x y : Lit) → (b ≡ true → ⊥) → (if b then x else y) ≡ y
other true x y none = absurd (none refl)
other false x y none = refl

-- one more literal, of the next variable
pub placed_more : (f : ℕ → Lit) (xs : List Lit) (y : Lit) (n : ℕ) → length xs ≡ n → y ≡ f n → ((v : ℕ) → 0 < v → v < n → lit_at xs v ≡ f v) → (v : ℕ) → 0 < v → v < n + 1 → lit_at (xs ++ y ∷ []) v ≡ f v
placed_more f xs y n long is h v positive within = elim (cases_eq v n) [
  | inl last ↦ get_or_push xs y (record { 0 = 0 }) v (long ∙ sym last) ∙ is ∙ ap f (sym last)
  | inr apart ↦
      let earlier : v < n = omega (arith, within, apart) in
      get_or_append_left xs (y ∷ []) (record { 0 = 0 }) v (omega (arith, earlier, long)) ∙ h v positive earlier
]

-- what the table gives for each variable is its literal at the next time
pub later_of_table : (m : Parts) (t : List (Option Lit)) (later : List Lit) → IsTableOf m.latches t → length later ≡ m.max_var + 1 → lit_at later 0 ≡ record { 0 = 0 } →
    ((v : ℕ) → 0 < v → v < m.max_var + 1 → lit_at later v ≡ later_in t m.max_var v) → AreLater m later
later_of_table m t later table long constant each = record {
  places = long;
  constant = constant;
  latches = λ v positive within found.
      let next : Lit = record { 0 = 2 * v } in
      each v positive (omega (arith, within)) ∙ chosen (is_latch_in t v) (next_in t next) (record { 0 = 2 * (v + m.max_var) }) ((table.latches v).1 found) ∙ table.nexts next;
  others = λ v positive within none.
      let next : Lit = record { 0 = 2 * v } in
      each v positive (omega (arith, within)) ∙ other (is_latch_in t v) (next_in t next) (record { 0 = 2 * (v + m.max_var) }) (λ held. none ((table.latches v).0 held));
}
