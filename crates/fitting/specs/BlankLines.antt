-- Over blank lines: what the code finds of the first line that has a base, and of the numbers from there on.
use Rattle.std.specs.Prelude.{ℕ, zero, suc, ◌+◌, ◌-◌, ◌≤◌, ◌≡◌, Bool, true, false, cond, eqb}
use Rattle.std.proofs.Math.Path.{refl, sym}
use Rattle.std.proofs.Common.{◌∙◌, eq-eqb, ne_eqb, arith, add-zero}
use mathlib.Core.List.{List, [], ◌∷◌, ◌++◌}
use Rattle.std.proofs.Math.ListN.{length}
use Rattle.std.proofs.lemmas.Bool.{eqb-false}
use Rattle.lines.specs.Lines.{bases_of, seq_at, first_line, tail_of, sum_widths, up_from, bases_at}
use Rattle.lines.specs.Laws.{seq_at-next, first-within, first-grows}
use Rattle.lines.specs.declared.Line.{Line}
use Rattle.fitting.specs.declared.Numbers.{Numbers}
use Rattle.fitting.specs.declared.LineAt.{LineAt}
use Rattle.fitting.specs.Complete.{distance, numbers_for, from_bases, numbers_at}
use Rattle.fitting.specs.FirstLine.{terminated-here, numbers-line}

-- ---- what is said

-- a sequence may as well begin at p: its bases and its end are the same
pub record SameFrom (s : List ℕ) (at p : ℕ) : Type 0 where
  pub offsets : bases_at p (seq_at s p) ≡ bases_at at (seq_at s at)
  pub next : p + sum_widths (seq_at s p) ≡ at + sum_widths (seq_at s at)
  pub behind : at ≤ p
  pub within : p ≤ length s

-- the first line from an offset on that has a base; where there is none, the end of the sequence
pub record PastBlank (s : List ℕ) (at : ℕ) (r : LineAt) : Type 0 where
  pub same : SameFrom s at r.at
  pub lines : seq_at s r.at ≡ from_bases (seq_at s at)
  pub line : r.line ≡ first_line (seq_at s r.at)

-- the numbers of the sequence from an offset on, which may as well begin at their position
pub record NumbersAt (s : List ℕ) (at : ℕ) (r : Numbers) : Type 0 where
  pub numbers : r ≡ numbers_at at (seq_at s at)
  pub same : SameFrom s at r.position

-- ---- over blank lines

module _ (s : List ℕ) (at : ℕ) where
  -- lines without a base are passed
  pub record Passed (i : ℕ) : Type 0 where
    pub same : SameFrom s at i
    pub left : from_bases (seq_at s i) ≡ from_bases (seq_at s at)

  pub same_start : at ≤ length s → SameFrom s at at
  same_start h = record { offsets = refl; next = refl; behind = omega arith; within = h }

  pub passed_start : at ≤ length s → Passed at
  passed_start h = record { same = same_start h; left = refl }

  module _ (i : ℕ) (p : Passed i) (l : Line) (e : l ≡ first_line (seq_at s i)) where
    pub passed-blank : l.bases ≡ 0 → Passed (i + l.width)
    unfolding from_bases bases_at up_from sum_widths
    passed-blank z = rw e (go (seq_at s i) refl (rw e at z))
      where
        n : seq_at s (i + (first_line (seq_at s i)).width) ≡ tail_of (seq_at s i)
        n = seq_at-next s i p.same.within

        f : i + (first_line (seq_at s i)).width ≤ length s
        f = first-within s i p.same.within

        go : (ls : List (List ℕ)) → seq_at s i ≡ ls → (first_line ls).bases ≡ 0 → Passed (i + (first_line ls).width)
        go [] q b = rw (add-zero i) p
        go (m ∷ ls) q b =
            let t : seq_at s (i + length m) ≡ ls = rw q at n in
            let o : bases_at (i + length m) ls ≡ bases_at at (seq_at s at) = rw (q, b) at p.same.offsets in
            let g : from_bases ls ≡ from_bases (seq_at s at) = rw (q, eq-eqb (length (bases_of m)) 0 b) at p.left in
            record {
              same = record { offsets = rw t o; next = rw t (omega (arith, rw q at p.same.next)); behind = omega (arith, p.same.behind); within = rw q at f };
              left = rw t g;
            }

    -- the line at i has a base, or there is none
    found : seq_at s i ≡ from_bases (seq_at s i) → PastBlank s at (record { at = i; line = l })
    found q = record { same = p.same; lines = q ∙ p.left; line = e }

    pub found-bases : (l.bases ≡ 0 → ⊥) → PastBlank s at (record { at = i; line = l })
    unfolding from_bases
    found-bases n = found (go (seq_at s i) (rw e at n))
      where
        go : (ls : List (List ℕ)) → ((first_line ls).bases ≡ 0 → ⊥) → ls ≡ from_bases ls
        go [] k = refl
        go (m ∷ ls) k = rw (ne_eqb (length (bases_of m)) 0 k)

    pub found_none : l.width ≡ 0 → PastBlank s at (record { at = i; line = l })
    unfolding from_bases
    found_none z = found (go (seq_at s i) refl)
      where
        w : (first_line (seq_at s i)).width ≡ 0
        w = rw e at z

        go : (ls : List (List ℕ)) → seq_at s i ≡ ls → ls ≡ from_bases ls
        go [] q = refl
        go (m ∷ ls) q = absurd (omega (arith, first-grows s i p.same.within (rw q), w))

    pub line-fits : (i + l.width ≤ length s)
    line-fits = rw e (first-within s i p.same.within)

-- ---- the numbers

-- where the first line with a base has none, there is no base
none_left : (ls : List (List ℕ)) → (first_line (from_bases ls)).bases ≡ 0 → from_bases ls ≡ []
unfolding from_bases
none_left [] h = refl
none_left (l ∷ ls) h = go (eqb (length (bases_of l)) 0) refl h (none_left ls)
  where
    go : (t : Bool) → eqb (length (bases_of l)) 0 ≡ t → (first_line (cond t (from_bases ls) (l ∷ ls))).bases ≡ 0 → ((first_line (from_bases ls)).bases ≡ 0 → from_bases ls ≡ []) → cond t (from_bases ls) (l ∷ ls) ≡ []
    go true e h r = r h
    go false e h r = absurd (eqb-false (length (bases_of l)) 0 e h)

pub no_lines : (s : List ℕ) (at : ℕ) (a : LineAt) → PastBlank s at a → a.line.bases ≡ 0 → seq_at s a.at ≡ []
no_lines s at a b z = b.lines ∙ none_left (seq_at s at) (rw (← b.lines, ← b.line) z)

pub no-bases : (s : List ℕ) (at : ℕ) (a : LineAt) → PastBlank s at a → a.line.bases ≡ 0 → bases_at at (seq_at s at) ≡ []
unfolding bases_at
no-bases s at a b z = sym b.same.offsets ∙ rw (no_lines s at a b z)

-- how far a line with a base is
distance-line : (line p q : ℕ) (ls : List (List ℕ)) → ((first_line ls).bases ≡ 0 → ⊥) → distance line p (bases_at q ls) ≡ q - p
unfolding distance bases_at up_from
distance-line line p q [] n = absurd (n refl)
distance-line line p q (m ∷ ls) n = go (length (bases_of m)) n
  where
    go : (k : ℕ) → (k ≡ 0 → ⊥) → distance line p (up_from q k ++ bases_at (q + length m) ls) ≡ q - p
    go zero h = absurd (h refl)
    go (suc k) h = refl

module _ (s : List ℕ) (at : ℕ) (h : at ≤ length s) (a : LineAt) (b : PastBlank s at a) where
  pub numbers-none : a.line.bases ≡ 0 → NumbersAt s at (record { position = at; bases = 1; width = 2 })
  unfolding numbers_at numbers_for
  numbers-none z = record { numbers = rw (no-bases s at a b z); same = same_start s at h }

  pub behind-fits : a.at + a.line.width ≤ length s
  behind-fits = rw b.line (first-within s a.at b.same.within)

  -- the numbers, by the first line and how far the bases behind it are
  first-numbers : (a.line.bases ≡ 0 → ⊥)
      → numbers_at at (seq_at s at)
      ≡ record { position = a.at; bases = a.line.bases; width = distance a.line.width a.at (bases_at (a.at + a.line.width) (seq_at s (a.at + a.line.width))) }
  unfolding numbers_at
  first-numbers n = rw (← b.lines, ← b.same.offsets, b.line) (go (seq_at s a.at) refl (rw b.line at n))
    where
      go : (ls : List (List ℕ)) → seq_at s a.at ≡ ls → ((first_line ls).bases ≡ 0 → ⊥)
          → numbers_for at (first_line ls).width (bases_at a.at ls)
          ≡ record { position = a.at; bases = (first_line ls).bases; width = distance (first_line ls).width a.at (bases_at (a.at + (first_line ls).width) (seq_at s (a.at + (first_line ls).width))) }
      go [] q k = absurd (k refl)
      go (m ∷ ls) q k =
          let t : seq_at s (a.at + length m) ≡ ls = rw q at (seq_at-next s a.at b.same.within) in
          rw t (numbers-line at (length m) a.at m ls (omega (arith, k)) (rw q at (terminated-here s a.at b.same.within)))

  module _ (n : a.line.bases ≡ 0 → ⊥) (c : LineAt) (d : PastBlank s (a.at + a.line.width) c) where
    pub numbers-run : c.line.bases ≡ 0 → NumbersAt s at (record { position = a.at; bases = a.line.bases; width = a.line.width })
    unfolding distance
    numbers-run z = record { numbers = sym (first-numbers n ∙ rw (no-bases s (a.at + a.line.width) c d z)); same = b.same }

    pub numbers-gap : (c.line.bases ≡ 0 → ⊥) → NumbersAt s at (record { position = a.at; bases = a.line.bases; width = c.at - a.at })
    numbers-gap z =
        let e = distance-line a.line.width a.at c.at (seq_at s c.at) (rw d.line at z) in
        record { numbers = sym (first-numbers n ∙ rw (← d.same.offsets, e)); same = b.same }
