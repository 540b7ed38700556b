-- What is spelled in order is well formed.
use Rattle.std.proofs.Common.{◌≡◌, ℕ, zero, suc, ◌-◌, ◌%◌, ◌≤◌, List, [], ◌∷◌, ◌++◌, length, map, get_or, replicate, All, arith}
use Rattle.std.proofs.lemmas.List.Elements.{All-nil, All-cons, All-append, All-map, recursion_from_All}
use Rattle.scan.specs.Lists.{IsCounts, Each}
use Rattle.graph.specs.declared.circuit.Lit.{Lit}
use Rattle.graph.specs.declared.circuit.Latch.{Latch}
use Rattle.graph.specs.declared.circuit.Gate.{Gate}
use Rattle.graph.specs.declared.parts.Parts.{Parts}
use Rattle.graph.specs.Circuits.{defining, justice_literals, HasReset, IsDescending, IsOrdered}
use Rattle.graph.specs.WellFormed.{used, IsInLimits, IsWellFormed}
use Rattle.graph.proofs.Ordered.{defined_once, is_defined, no_cycle_below}
use Rattle.aag.specs.Lines.{greatest}
use Rattle.aag.specs.Spelling.{IsCircuitLiteral, IsLiteralLine, counts_of}
use Rattle.aag.proofs.WritingLaws.{all_right, all_of_map}
use Rattle.aig.specs.Binary.{IsBinaryLatchLine, SpellsOrdered}

-- ---- limits

zeros_within : (limit k : ℕ) → All (λ n. n ≤ limit) (replicate k 0)
zeros_within limit zero = All-nil (λ n. n ≤ limit)
zeros_within limit (suc k) = All-cons (λ n. n ≤ limit) 0 (replicate k 0) (omega arith) (zeros_within limit k)

counts_within : (limit : ℕ) (t ns : List ℕ) → IsCounts limit t ns → All (λ n. n ≤ limit) ns
counts_within limit t ns c =
    rw c.padded (All-append (λ n. n ≤ limit) c.written (replicate (8 - length c.written) 0) c.within (zeros_within limit (8 - length c.written)))

limits_of : (t : List ℕ) (c : Parts) → SpellsOrdered t c → IsInLimits c
limits_of t c s =
    let (i, (l, (o, (a, (b, (e, (j, (f, end)))))))) = recursion_from_All (λ n. n ≤ greatest) (counts_of c) (counts_within greatest s.head (counts_of c) s.counts) in
    record {
      max_var = s.max_var;
      inputs = i;
      latches = l;
      outputs = o;
      gates = a;
      bad = b;
      constraints = e;
      justice = j;
      fairness = f;
      justice_sum = s.justice_room;
    }

-- ---- literals

all_literals : (max : ℕ) (t : List ℕ) (xs : List Lit) → Each (IsLiteralLine max) t xs → All (IsCircuitLiteral max) xs
all_literals max t [] e = All-nil (IsCircuitLiteral max)
all_literals max t (x ∷ xs) (a, b, one, others, p) = All-cons (IsCircuitLiteral max) x xs one.literal (all_literals max b xs others)

all_nexts : (max : ℕ) (t : List ℕ) (ls : List Latch) → Each (IsBinaryLatchLine max) t ls → All (IsCircuitLiteral max) (map (λ l. l.next) ls)
all_nexts max t [] e = All-nil (IsCircuitLiteral max)
all_nexts max t (l ∷ ls) (a, b, one, others, p) = All-cons (IsCircuitLiteral max) l.next (map (λ l. l.next) ls) one.next (all_nexts max b ls others)

all_resets : (max : ℕ) (t : List ℕ) (ls : List Latch) → Each (IsBinaryLatchLine max) t ls → All HasReset ls
all_resets max t [] e = All-nil HasReset
all_resets max t (l ∷ ls) (a, b, one, others, p) = All-cons HasReset l ls one.reset (all_resets max b ls others)

low_left : (max : ℕ) (g : Gate) → IsCircuitLiteral max g.lhs → IsDescending g → IsCircuitLiteral max g.rhs0
low_left max g le d = omega (arith, le, d.0)

low_right : (max : ℕ) (g : Gate) → IsCircuitLiteral max g.lhs → IsDescending g → IsCircuitLiteral max g.rhs1
low_right max g le d = omega (arith, le, d.0, d.1)

defining_within : (c : Parts) → IsOrdered c → All (IsCircuitLiteral c.max_var) (defining c)
defining_within c o = λ k d lt. omega (arith, o.numbered k d lt, o.all_defined, lt)

used_within : (t : List ℕ) (c : Parts) → SpellsOrdered t c → All (IsCircuitLiteral c.max_var) (used c)
used_within t c s =
    let P = IsCircuitLiteral c.max_var in
    let lefts = all_of_map P (λ g. g.lhs) c.gates (all_right P (c.inputs ++ map (λ l. l.lit) c.latches) (map (λ g. g.lhs) c.gates) (defining_within c s.ordered)) in
    let descend = s.ordered.descending in
    let nexts = map (λ l. l.next) c.latches in
    let rights0 = map (λ g. g.rhs0) c.gates in
    let rights1 = map (λ g. g.rhs1) c.gates in
    let u0 = all_nexts c.max_var s.latches c.latches s.each_latch in
    let u1 = All-append P nexts c.outputs u0 (all_literals c.max_var s.outputs c.outputs s.each_output) in
    let u2 = All-append P (nexts ++ c.outputs) c.bad u1 (all_literals c.max_var s.bad c.bad s.each_bad) in
    let u3 = All-append P (nexts ++ c.outputs ++ c.bad) c.constraints u2 (all_literals c.max_var s.constraints c.constraints s.each_constraint) in
    let u4 = All-append P (nexts ++ c.outputs ++ c.bad ++ c.constraints) (justice_literals c.justice) u3 (all_literals c.max_var s.justice (justice_literals c.justice) s.each_justice) in
    let u5 = All-append P (nexts ++ c.outputs ++ c.bad ++ c.constraints ++ justice_literals c.justice) c.fairness u4 (all_literals c.max_var s.fairness c.fairness s.each_fairness) in
    let r0 = All-map P (λ g. g.rhs0) c.gates (λ k d lt. low_left c.max_var (get_or c.gates k d) (lefts k d lt) (descend k d lt)) in
    let r1 = All-map P (λ g. g.rhs1) c.gates (λ k d lt. low_right c.max_var (get_or c.gates k d) (lefts k d lt) (descend k d lt)) in
    let u6 = All-append P (nexts ++ c.outputs ++ c.bad ++ c.constraints ++ justice_literals c.justice ++ c.fairness) rights0 u5 r0 in
    All-append P (nexts ++ c.outputs ++ c.bad ++ c.constraints ++ justice_literals c.justice ++ c.fairness ++ rights0) rights1 u6 r1

-- ---- the whole

pub well_formed_of : (t : List ℕ) (c : Parts) → SpellsOrdered t c → IsWellFormed c
well_formed_of t c s =
    let o = s.ordered in
    let even : All (λ a. a.0 % 2 ≡ 0) (defining c) = λ k d lt. omega (arith, o.numbered k d lt) in
    let lefts = all_of_map (λ a. a.0 % 2 ≡ 0) (λ g. g.lhs) c.gates (all_right (λ a. a.0 % 2 ≡ 0) (c.inputs ++ map (λ l. l.lit) c.latches) (map (λ g. g.lhs) c.gates) even) in
    let within = used_within t c s in
    record {
      limits = limits_of t c s;
      defining_even = λ k d lt. (omega (arith, o.numbered k d lt), even k d lt);
      defining_in_range = defining_within c o;
      used_in_range = within;
      resets = all_resets c.max_var s.latches c.latches s.each_latch;
      defined_once = defined_once c o;
      used_defined = λ k d lt. is_defined c o (get_or (used c) k d) (within k d lt);
      no_cycle = no_cycle_below c.gates o.descending lefts;
    }
