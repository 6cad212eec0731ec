-- Even lines, blank lines behind them or not: the complete rule's numbers are the first line's, and lead to every base.
use Rattle.std.specs.Prelude.{ℕ, ◌+◌, ◌<◌, ◌≡◌}
use Rattle.std.proofs.Math.Path.{refl}
use Rattle.std.proofs.Common.{ap, ◌∙◌, ne_eqb, arith}
use mathlib.Core.List.{List, [], ◌∷◌}
use Rattle.std.proofs.Math.ListN.{length, get_or}
use Rattle.lines.specs.Lines.{bases_of, first_line, sum_bases, bases_at}
use Rattle.record.specs.EvenLines.{EvenLines, length-bases_at, even_place}
use Rattle.record.specs.EvenLines.EvenLines.{none as no_more, last as last_Line, more as line-more}
use Rattle.indexer.specs.Rule.{good}
use Rattle.fitting.specs.Complete.{distance, from_bases, numbers_at, fit}
use Rattle.fitting.specs.Leads.{place-zero, leads-good}
use Rattle.fitting.specs.FirstLine.{Terminated, numbers-line}

module _ (start : ℕ) where
  -- lines without a base have no offsets
  no-offsets : (at : ℕ) (ls : List (List ℕ)) → sum_bases ls ≡ 0 → bases_at at ls ≡ []
  no-offsets at ls e = go (bases_at at ls) (length-bases_at at ls ∙ e)
    where
      go : (os : List ℕ) → length os ≡ 0 → os ≡ []
      go [] h = refl
      go (o ∷ os) h = absurd (omega arith)

  -- behind a first line of width w, the next base is w further on
  next-line : (b w : ℕ) (ls : List (List ℕ)) → 0 < b → EvenLines b w ls → distance w start (bases_at (start + w) ls) ≡ w
  unfolding distance
  next-line b w ls z e = go (bases_at (start + w) ls) refl
    where
      go : (os : List ℕ) → bases_at (start + w) ls ≡ os → distance w start os ≡ w
      go [] q = refl
      go (o ∷ os) q =
          let k : get_or (bases_at (start + w) ls) 0 0 ≡ start + w = even_place b w z (start + w) ls e 0 (rw q (omega arith)) ∙ place-zero (start + w) b w z in
          let v : get_or (bases_at (start + w) ls) 0 0 ≡ o = rw q in
          omega (arith, k, v)

  even-numbers : (l : List ℕ) (ls : List (List ℕ)) → EvenLines (length (bases_of l)) (length l) (l ∷ ls) → 0 < length (bases_of l) → Terminated (l ∷ ls)
      → numbers_at start (l ∷ ls) ≡ record { position = start; bases = length (bases_of l); width = length l }
  unfolding numbers_at from_bases distance sum_bases
  even-numbers l ls e z b =
      rw (ne_eqb (length (bases_of l)) 0 (λ q. omega arith), numbers-line start (length l) start l ls z b)
      (ap (λ (w : ℕ). record { position = start; bases = length (bases_of l); width = w }) (behind e))
    where
      behind : EvenLines (length (bases_of l)) (length l) (l ∷ ls) → distance (length l) start (bases_at (start + length l) ls) ≡ length l
      behind (no_more q) = absurd (omega (arith, q, z))
      behind (last_Line p q) = rw (no-offsets (start + length l) ls q)
      behind (line-more p q r) = next-line (length (bases_of l)) (length l) ls z r

  -- the numbers are those of the first line, and lead to every base
  pub record FirstLineFits (ls : List (List ℕ)) : Type 0 where
    pub numbers : numbers_at start ls ≡ record { position = start; bases = (first_line ls).bases; width = (first_line ls).width }
    pub fits : fit start ls ≡ good

  pub even-fits : (l : List ℕ) (ls : List (List ℕ)) → EvenLines (length (bases_of l)) (length l) (l ∷ ls) → 0 < length (bases_of l) → Terminated (l ∷ ls) → FirstLineFits (l ∷ ls)
  unfolding fit
  even-fits l ls e z b =
      let n = even-numbers l ls e z b in
      record { numbers = n; fits = rw n (leads-good _ (bases_at start (l ∷ ls)) (λ j m. even_place (length (bases_of l)) (length l) z start (l ∷ ls) e j m)) }
