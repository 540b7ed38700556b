-- Leaves of a gate's cut, and its value.
use Rattle.std.proofs.Common.{◌≡◌, ℕ, ◌<◌, ◌⊎◌, ◌&&◌, Bool, false, Option, Some, None, IfSome, inl, inr, refl, sym, ◌∙◌, ap, subst}
use Rattle.graph.specs.declared.circuit.Gate.{Gate}
use Rattle.graph.specs.Circuits.{Valuation, place}
use Rattle.truth_tables.specs.Tables.{value}
use Rattle.truth_tables.proofs.Tabled.{value_first, value_second, value_third, value_fourth, value_none}
use Rattle.cuts.specs.declared.cut.Cut.{Cut}
use Rattle.cuts.specs.Joining.{Leaves, IsAmong, Adds, IsUnion, IsJoined, IsInside, side_of, value_over}

-- ---- the variables of both

pub union_of : (a b l0 l1 l2 l3 : Leaves) → Adds a b.0 l0 → Adds l0 b.1 l1 → Adds l1 b.2 l2 → Adds l2 b.3 l3 → IsUnion a b l3
union_of a b l0 l1 l2 l3 h0 h1 h2 h3 = record {
  first = λ u h. h3.kept u (h2.kept u (h1.kept u (h0.kept u h)));
  second = second;
  only = only;
}
  where
    second : (u : ℕ) → IsAmong b u → IsAmong l3 u
    second u (inl zero) = inl zero
    second u (inr (inl here)) = subst (IsAmong l3) here (h3.kept b.0 (h2.kept b.0 (h1.kept b.0 h0.added)))
    second u (inr (inr (inl here))) = subst (IsAmong l3) here (h3.kept b.1 (h2.kept b.1 h1.added))
    second u (inr (inr (inr (inl here)))) = subst (IsAmong l3) here (h3.kept b.2 h2.added)
    second u (inr (inr (inr (inr here)))) = subst (IsAmong l3) here h3.added

    only : (u : ℕ) → IsAmong l3 u → IsAmong a u ⊎ IsAmong b u
    only u h = elim (h3.only u h) [
      | inl in2 ↦ elim (h2.only u in2) [
        | inl in1 ↦ elim (h1.only u in1) [
          | inl in0 ↦ elim (h0.only u in0) [ inl old ↦ inl old | inr here ↦ inr (inr (inl here)) ]
          | inr here ↦ inr (inr (inr (inl here)))
        ]
        | inr here ↦ inr (inr (inr (inr (inl here))))
      ]
      | inr here ↦ inr (inr (inr (inr (inr here))))
    ]

-- ---- values

pub in_none : (w : Valuation) (l : Leaves) (v : ℕ) → v ≡ 0 → place w 0 ≡ false → value_over w l 0 ≡ place w v
in_none w l v is constant = value_none (place w l.0) (place w l.1) (place w l.2) (place w l.3) ∙ sym constant ∙ ap (place w) (sym is)

pub in_first : (w : Valuation) (l : Leaves) (v : ℕ) → l.0 ≡ v → value_over w l 43690 ≡ place w v
in_first w l v is = value_first (place w l.0) (place w l.1) (place w l.2) (place w l.3) ∙ ap (place w) is

pub in_second : (w : Valuation) (l : Leaves) (v : ℕ) → l.1 ≡ v → value_over w l 52428 ≡ place w v
in_second w l v is = value_second (place w l.0) (place w l.1) (place w l.2) (place w l.3) ∙ ap (place w) is

pub in_third : (w : Valuation) (l : Leaves) (v : ℕ) → l.2 ≡ v → value_over w l 61680 ≡ place w v
in_third w l v is = value_third (place w l.0) (place w l.1) (place w l.2) (place w l.3) ∙ ap (place w) is

pub in_fourth : (w : Valuation) (l : Leaves) (v : ℕ) → l.3 ≡ v → value_over w l 65280 ≡ place w v
in_fourth w l v is = value_fourth (place w l.0) (place w l.1) (place w l.2) (place w l.3) ∙ ap (place w) is

-- what is none of the first is the last
pub last_of : (l : Leaves) (v : ℕ) → IsAmong l v → (v ≡ 0 → ⊥) → (l.0 ≡ v → ⊥) → (l.1 ≡ v → ⊥) → (l.2 ≡ v → ⊥) → l.3 ≡ v
last_of l v (inl here) zero first second third = absurd (zero here)
last_of l v (inr (inl here)) zero first second third = absurd (first here)
last_of l v (inr (inr (inl here))) zero first second third = absurd (second here)
last_of l v (inr (inr (inr (inl here)))) zero first second third = absurd (third here)
last_of l v (inr (inr (inr (inr here)))) zero first second third = here

pub composed_over : (w : Valuation) (l : Leaves) (c : Cut) (t t0 t1 t2 t3 : ℕ) →
    ((a0 a1 a2 a3 : Bool) → value t a0 a1 a2 a3 ≡ value c.table (value t0 a0 a1 a2 a3) (value t1 a0 a1 a2 a3) (value t2 a0 a1 a2 a3) (value t3 a0 a1 a2 a3)) →
    value_over w l t0 ≡ place w c.leaves.0 → value_over w l t1 ≡ place w c.leaves.1 → value_over w l t2 ≡ place w c.leaves.2 → value_over w l t3 ≡ place w c.leaves.3 →
    value_over w l t ≡ value_over w c.leaves c.table
composed_over w l c t t0 t1 t2 t3 composed h0 h1 h2 h3 = composed (place w l.0) (place w l.1) (place w l.2) (place w l.3) ∙ (rw (h0, h1, h2, h3) refl)

-- ---- a cut of two

pub joined_of : (g : Gate) (one other : Cut) (l : Leaves) (t t0 t1 : ℕ) → IsUnion one.leaves other.leaves l →
    ((a0 a1 a2 a3 : Bool) → value t a0 a1 a2 a3 ≡ (value t0 a0 a1 a2 a3 && value t1 a0 a1 a2 a3)) →
    ((w : Valuation) → place w 0 ≡ false → value_over w l t0 ≡ side_of w g.rhs0 one) → ((w : Valuation) → place w 0 ≡ false → value_over w l t1 ≡ side_of w g.rhs1 other) →
    IsJoined g one other (record { table = t; leaves = l })
joined_of g one other l t t0 t1 union both first second = record {
  value = λ w constant. both (place w l.0) (place w l.1) (place w l.2) (place w l.3) ∙ (rw (first w constant, second w constant) refl);
  leaves = λ u leaf. elim (union.only u (inr leaf)) [
    | inl of_one ↦ elim of_one [ inl zero ↦ inl zero | inr here ↦ inr (inl here) ]
    | inr of_other ↦ elim of_other [ inl zero ↦ inl zero | inr here ↦ inr (inr here) ]
  ];
}

pub joined_inside : (g : Gate) (one other c : Cut) (n : ℕ) → 0 < n → IsJoined g one other c → IsInside n one → IsInside n other → IsInside n c
joined_inside g one other c n positive joined first second u leaf = elim (joined.leaves u leaf) [
  | inl zero ↦ subst (λ q. q < n) (sym zero) positive
  | inr of_side ↦ elim of_side [ inl here ↦ first u here | inr here ↦ second u here ]
]

pub union_some : (a b l0 l1 l2 : Leaves) (l3 : Option Leaves) → Adds a b.0 l0 → Adds l0 b.1 l1 → Adds l1 b.2 l2 → IfSome l3 (Adds l2 b.3) → IfSome l3 (IsUnion a b)
union_some a b l0 l1 l2 None h0 h1 h2 h3 = tt
union_some a b l0 l1 l2 (Some l3) h0 h1 h2 h3 = union_of a b l0 l1 l2 l3 h0 h1 h2 h3
