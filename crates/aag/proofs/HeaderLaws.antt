-- A header is read as it is spelled.
use Rattle.std.proofs.Common.{◌≡◌, ℕ, ◌-◌, ◌≤◌, List, [], ◌∷◌, ◌++◌, length, replicate, refl, sym, ap, ◌∙◌, arith, append_assoc}
use Rattle.std.specs.Prelude.{decimal}
use Rattle.std.specs.List.{flat_map}
use Rattle.std.proofs.lemmas.List.{append-nil, length-append, length-replicate}
use Rattle.scan.specs.Words.{any, IsField}
use Rattle.scan.specs.Lists.{spaced, IsCounts}
use Rattle.scan.specs.Spelling.{Nothing, Then, After}
use Rattle.scan.proofs.Toolbox.{Reads, reads_as, reads_nothing, reads_then, reads_after, skips_tag}
use Rattle.scan.proofs.WordLaws.{field_reads}
use Rattle.scan.proofs.CountLaws.{counts_reads}
use Rattle.aag.specs.declared.header.Header.{Header}
use Rattle.aag.specs.Lines.{greatest}
use Rattle.aag.specs.Sections.{header_of, header_at}

-- the counts of a header, in their order
abbrev pub stated : Header → List ℕ
stated h = h.inputs ∷ h.latches ∷ h.outputs ∷ h.gates ∷ h.bad ∷ h.constraints ∷ h.justice ∷ h.fairness ∷ []

-- a text is a header that begins with this word
pub record IsHeader (word t : List ℕ) (h : Header) : Type 0 where
  pub head : List ℕ
  pub spells : t ≡ word ++ decimal h.max_var ++ head
  pub max_var : h.max_var ≤ greatest
  pub counts : IsCounts greatest head (stated h)

abbrev OfHeader : List ℕ → List ℕ → Header → Type 0
OfHeader word = After word (Then (IsField greatest any 32) (λ max. Then (λ t ns. IsCounts greatest (32 ∷ t) ns) (λ ns. Nothing (header_of max ns))))

eight : (ns : List ℕ) (max : ℕ) → length ns ≡ 8 → ns ≡ stated (header_of max ns)
eight (a ∷ b ∷ c ∷ d ∷ e ∷ f ∷ g ∷ h ∷ []) max len = refl
eight [] max len = absurd (omega (arith, len))
eight (a ∷ []) max len = absurd (omega (arith, len))
eight (a ∷ b ∷ []) max len = absurd (omega (arith, len))
eight (a ∷ b ∷ c ∷ []) max len = absurd (omega (arith, len))
eight (a ∷ b ∷ c ∷ d ∷ []) max len = absurd (omega (arith, len))
eight (a ∷ b ∷ c ∷ d ∷ e ∷ []) max len = absurd (omega (arith, len))
eight (a ∷ b ∷ c ∷ d ∷ e ∷ f ∷ []) max len = absurd (omega (arith, len))
eight (a ∷ b ∷ c ∷ d ∷ e ∷ f ∷ g ∷ []) max len = absurd (omega (arith, len))
eight (a ∷ b ∷ c ∷ d ∷ e ∷ f ∷ g ∷ h ∷ i ∷ is) max len = absurd (omega (arith, len))

counts_long : {limit : ℕ} {t ns : List ℕ} → IsCounts limit t ns → length ns ≡ 8
counts_long c =
    let few = c.few in
    omega (arith, ap length c.padded, length-append c.written (replicate (8 - length c.written) 0), length-replicate {A = ℕ} (8 - length c.written) 0)

regroup : (w m c : List ℕ) → w ++ ((m ++ 32 ∷ []) ++ (c ++ [])) ≡ w ++ m ++ 32 ∷ c
regroup w m c = simp (append_assoc, append-nil)

header_to : (word t : List ℕ) (h : Header) → OfHeader word t h → IsHeader word t h
header_to word t h (rest, (max, a, b, field, (ns, c, d, counted, last, p2), p1), p0) =
    rw last.1 (record {
      head = 32 ∷ c;
      spells = rw (p0, p1, field.spells, p2, last.0) (regroup word (decimal max) c);
      max_var = field.within;
      counts = rw (← eight ns max (counts_long counted)) counted;
    })

starts : (written : List ℕ) → 4 ≤ length written → (c : List ℕ) × (flat_map spaced written ++ 10 ∷ [] ≡ 32 ∷ c)
starts [] long = absurd (omega (arith, long))
starts (n ∷ ns) long = (decimal n ++ (flat_map spaced ns ++ 10 ∷ []), simp append_assoc)

begins : (w m c : List ℕ) → m ++ 32 ∷ c ≡ (m ++ 32 ∷ []) ++ c
begins w m c = simp append_assoc

header_from : (word t : List ℕ) (h : Header) → IsHeader word t h → OfHeader word t h
header_from word t h r =
    let s = starts r.counts.written r.counts.enough in
    let head : r.head ≡ 32 ∷ s.0 = r.counts.spells ∙ s.1 in (
      decimal h.max_var ++ r.head,
      (
        h.max_var,
        decimal h.max_var ++ 32 ∷ [],
        s.0,
        record { spells = refl; within = r.max_var; is_good = refl },
        (stated h, s.0, [], rw (← head) r.counts, (refl, refl), sym (append-nil s.0)),
        rw head (begins [] (decimal h.max_var) s.0),
      ),
      r.spells ∙ append_assoc word (decimal h.max_var) r.head,
    )

pub header_reads : (word : List ℕ) → Reads (header_at word) (IsHeader word)
unfolding header_at
header_reads word = reads_as (IsHeader word)
    (reads_after (skips_tag word)
    (reads_then (field_reads greatest any 32 (omega arith) refl) (λ max.
    reads_then (counts_reads greatest (omega arith)) (λ ns. reads_nothing (header_of max ns)))))
    (header_to word) (header_from word)
