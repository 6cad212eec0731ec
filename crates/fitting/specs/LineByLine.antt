-- The complete rule line by line, for a feeder: a small value takes the lines one by one, by where each begins, its width and its bases,
-- and tells at the end what the rule says of all of them.
use Rattle.std.specs.Prelude.{ℕ, zero, suc, ◌+◌, ◌-◌, ◌≤◌, ◌<◌, ◌≡◌, refl, List, [], ◌∷◌, ◌++◌, Bool, true, cond, eqb, Option, Some, None}
use Rattle.std.proofs.Common.{ap, sym, ◌∙◌, ne_eqb, eqb-true, arith, add-zero, add_assoc}
use Rattle.std.proofs.Math.Bool.{false}
use Rattle.std.proofs.Math.ListN.{length}
use Rattle.std.proofs.lemmas.Bool.{eqb-false}
use Rattle.std.proofs.Math.Nat.{zero-add}
use Rattle.record.specs.declared.Offset.{Offset}
use Rattle.record.specs.declared.Position.{Position}
use Rattle.lines.specs.Lines.{bases_of, seq_at, first_line, sum_bases, up_from, bases_at}
use Rattle.lines.specs.Laws.{seq_at-next, first-within}
use Rattle.record.specs.Place.{place_of}
use Rattle.record.specs.Laws.{place-first}
use Rattle.record.specs.EvenLines.{length-up_from, get_or-up_from, length-bases_at}
use Rattle.indexer.specs.Rule.{Verdict, good}
use Rattle.walking.specs.Places.{first_elsewhere}
use Rattle.walking.specs.PlaceLaws.{first_of, all_there, elsewhere-append}
use Rattle.fitting.specs.declared.Numbers.{Numbers}
use Rattle.fitting.specs.Complete.{distance, numbers_for, from_bases, numbers_at, place_by, places_say, fit}
use Rattle.fitting.specs.FirstLine.{Terminated, terminated-here, numbers-line}

-- ---- the value

-- no base so far; one run, from p on, of b bases, in a line of some width; or rows by position, line bases and line width, with how many
-- bases they have, and the first that is elsewhere
pub data SoFar : Type 0 where
  blank : SoFar
  run : (p b line : ℕ) → SoFar
  rows : (n : Numbers) (bases : ℕ) (placed : Option (Position × Offset)) → SoFar

-- bases from an offset on, behind i others
unfoldable pub more : Numbers → ℕ → Option (Position × Offset) → ℕ → ℕ → SoFar
more n i v at b = rows n (i + b) (first_of v (first_elsewhere (place_by n) i (up_from at b)))

-- a line with a base, which begins at an offset
unfoldable pub take_bases : SoFar → ℕ → ℕ → ℕ → SoFar
take_bases blank at w b = run at b w
take_bases (run p k line) at w b = more (record { position = p; bases = k; width = at - p }) k None at b
take_bases (rows n i v) at w b = more n i v at b

-- a line: without a base it changes nothing
unfoldable pub take_line : SoFar → ℕ → ℕ → ℕ → SoFar
take_line t at w b = cond (eqb b 0) t (take_bases t at w b)

-- some lines, the first of which begins at an offset
unfoldable pub take_lines : SoFar → ℕ → List (List ℕ) → SoFar
take_lines t at [] = t
take_lines t at (l ∷ ls) = take_lines (take_line t at (length l) (length (bases_of l))) (at + length l) ls

-- its answer for a sequence that begins at an offset
abbrev pub numbers_told : ℕ → SoFar → Numbers
numbers_told start blank = record { position = start; bases = 1; width = 2 }
numbers_told start (run p b line) = record { position = p; bases = b; width = line }
numbers_told start (rows n i v) = n

abbrev pub bases_told : SoFar → ℕ
bases_told blank = 0
bases_told (run p b line) = b
bases_told (rows n i v) = i

abbrev pub verdict_told : SoFar → Verdict
verdict_told blank = good
verdict_told (run p b line) = good
verdict_told (rows n i v) = places_say v

-- ---- lines behind a gap

more-on : (n : Numbers) (i : ℕ) (v : Option (Position × Offset)) (at : ℕ) (b : ℕ) (rest : List ℕ)
    → first_of (first_of v (first_elsewhere (place_by n) i (up_from at b))) (first_elsewhere (place_by n) (i + b) rest) ≡ first_of v (first_elsewhere (place_by n) i (up_from at b ++ rest))
more-on n i None at b rest = sym (elsewhere-append (place_by n) i (up_from at b) rest ∙ rw (length-up_from at b))
more-on n i (Some (p, o)) at b rest = refl

rows-told : (ls : List (List ℕ)) (n : Numbers) (i : ℕ) (v : Option (Position × Offset)) (at : ℕ)
    → take_lines (rows n i v) at ls ≡ rows n (i + sum_bases ls) (first_of v (first_elsewhere (place_by n) i (bases_at at ls)))
unfolding take_lines take_line take_bases more sum_bases bases_at first_elsewhere
rows-told [] n i v at = rw (add-zero i) (ap (rows n i) (go v))
  where
    go : (v : Option (Position × Offset)) → v ≡ first_of v None
    go None = refl
    go (Some (p, o)) = refl
rows-told (l ∷ ls) n i v at = go (eqb (length (bases_of l)) 0) refl (λ k u. rows-told ls n k u (at + length l))
  where
    go : (t : Bool) → eqb (length (bases_of l)) 0 ≡ t
        → ((k : ℕ) (u : Option (Position × Offset)) → take_lines (rows n k u) (at + length l) ls ≡ rows n (k + sum_bases ls) (first_of u (first_elsewhere (place_by n) k (bases_at (at + length l) ls))))
        → take_lines (cond t (rows n i v) (rows n (i + length (bases_of l)) (first_of v (first_elsewhere (place_by n) i (up_from at (length (bases_of l))))))) (at + length l) ls
        ≡ rows n (i + (length (bases_of l) + sum_bases ls)) (first_of v (first_elsewhere (place_by n) i (up_from at (length (bases_of l)) ++ bases_at (at + length l) ls)))
    go true e r = rw (eqb-true (length (bases_of l)) 0 e) (unfold up_from in rw zero-add (r i v))
    go false e r = r _ _ ∙ rw (add_assoc, more-on n i v at (length (bases_of l)) (bases_at (at + length l) ls))

-- ---- lines behind the first run

abbrev run_on : ℕ → ℕ → ℕ → List ℕ → ℕ → SoFar
run_on p k line [] n = run p k line
run_on p k line (q ∷ os) n = rows (record { position = p; bases = k; width = q - p }) (k + n) (first_elsewhere (place_of p k (q - p)) k (q ∷ os))

run-told : (ls : List (List ℕ)) (p k line at : ℕ) → take_lines (run p k line) at ls ≡ run_on p k line (bases_at at ls) (sum_bases ls)
unfolding take_lines take_line take_bases more sum_bases bases_at up_from
run-told [] p k line at = refl
run-told (l ∷ ls) p k line at = go (length (bases_of l)) (run-told ls p k line (at + length l))
  where
    go : (b : ℕ) → take_lines (run p k line) (at + length l) ls ≡ run_on p k line (bases_at (at + length l) ls) (sum_bases ls)
        → take_lines (take_line (run p k line) at (length l) b) (at + length l) ls ≡ run_on p k line (up_from at b ++ bases_at (at + length l) ls) (b + sum_bases ls)
    go zero r = rw zero-add r
    go (suc b) r =
        let n : Numbers = record { position = p; bases = k; width = at - p } in
        rw (ne_eqb (suc b) 0 (λ e. omega arith))
        (rows-told ls n (k + suc b) (first_elsewhere (place_by n) k (up_from at (suc b))) (at + length l)
        ∙ rw (add_assoc, more-on n k None at (suc b) (bases_at (at + length l) ls)))

-- ---- all lines

-- each line has a byte behind its bases, if another follows
pub data AllTerminated : List (List ℕ) → Type 0 where
  no-line : AllTerminated []
  one_more : {l : List ℕ} {ls : List (List ℕ)} → Terminated (l ∷ ls) → AllTerminated ls → AllTerminated (l ∷ ls)

pub all-terminated : (s : List ℕ) (ls : List (List ℕ)) (at : ℕ) → at ≤ length s → seq_at s at ≡ ls → AllTerminated ls
all-terminated s [] at h e = no-line
all-terminated s (l ∷ ls) at h e = one_more (rw e at (terminated-here s at h)) (all-terminated s ls (at + length l) (rw e at (first-within s at h)) (rw e at (seq_at-next s at h)))

-- its answer is what the rule says
pub record Told (start at : ℕ) (ls : List (List ℕ)) (t : SoFar) : Type 0 where
  pub numbers : numbers_told start t ≡ numbers_for start (first_line (from_bases ls)).width (bases_at at ls)
  pub verdict : verdict_told t ≡ places_say (first_elsewhere (place_by (numbers_told start t)) 0 (bases_at at ls))
  pub bases : bases_told t ≡ sum_bases ls

-- a first run is at its places
run-there : (p b w : ℕ) → None ≡ first_elsewhere (place_of p b w) 0 (up_from p b)
run-there p b w =
    all_there (place_of p b w) 0 (up_from p b)
    (λ j m.
    let k : j < b = rw length-up_from at m in
    get_or-up_from p b j k ∙ rw zero-add (sym (place-first p b w j k)))

run-then : (p b w : ℕ) (rest : List ℕ) → first_elsewhere (place_of p b w) 0 (up_from p b ++ rest) ≡ first_elsewhere (place_of p b w) b rest
run-then p b w rest = elsewhere-append (place_of p b w) 0 (up_from p b) rest ∙ rw (← run-there p b w, length-up_from p b, zero-add b)

none_elsewhere : (f : ℕ → ℕ) (i : ℕ) → first_elsewhere f i [] ≡ None
unfolding first_elsewhere
none_elsewhere f i = refl

lines-told : (start at : ℕ) (ls : List (List ℕ)) → AllTerminated ls → Told start at ls (take_lines blank at ls)
unfolding take_lines take_line take_bases numbers_for distance from_bases bases_at up_from sum_bases
lines-told start at [] b = record { numbers = refl; verdict = rw none_elsewhere; bases = refl }
lines-told start at (l ∷ ls) (one_more b bs) = go (eqb (length (bases_of l)) 0) refl (lines-told start (at + length l) ls bs)
  where
    first : 0 < length (bases_of l) → Told start at (l ∷ ls) (take_lines (run at (length (bases_of l)) (length l)) (at + length l) ls)
    first z = rw (run-told ls at (length (bases_of l)) (length l) (at + length l)) (rest (bases_at (at + length l) ls) refl)
      where
        numbered : numbers_for start (first_line (from_bases (l ∷ ls))).width (bases_at at (l ∷ ls)) ≡ record { position = at; bases = length (bases_of l); width = distance (length l) at (bases_at (at + length l) ls) }
        numbered = rw (ne_eqb (length (bases_of l)) 0 (λ q. omega arith)) (numbers-line start (length l) at l ls z b)

        rest : (os : List ℕ) → bases_at (at + length l) ls ≡ os → Told start at (l ∷ ls) (run_on at (length (bases_of l)) (length l) os (sum_bases ls))
        rest [] e = record {
          numbers = sym (numbered ∙ rw e);
          verdict = rw (e, run-then at (length (bases_of l)) (length l) [], none_elsewhere);
          bases = omega (arith, length-bases_at (at + length l) ls, ap length e);
        }
        rest (q ∷ os) e = record {
          numbers = sym (numbered ∙ rw e);
          verdict = rw (e, run-then at (length (bases_of l)) (q - at) (q ∷ os));
          bases = refl;
        }

    go : (t : Bool) → eqb (length (bases_of l)) 0 ≡ t → Told start (at + length l) ls (take_lines blank (at + length l) ls)
        → Told start at (l ∷ ls) (take_lines (cond t blank (run at (length (bases_of l)) (length l))) (at + length l) ls)
    go true e r =
        let z = eqb-true (length (bases_of l)) 0 e in
        record { numbers = rw z r.numbers; verdict = rw z r.verdict; bases = omega (arith, z, r.bases) }
    go false e r = first (omega (arith, eqb-false (length (bases_of l)) 0 e))

-- of the sequence lines of a file from an offset on
pub record ToldOf (start : ℕ) (ls : List (List ℕ)) (t : SoFar) : Type 0 where
  pub numbers : numbers_told start t ≡ numbers_at start ls
  pub verdict : verdict_told t ≡ fit start ls
  pub bases : bases_told t ≡ sum_bases ls

pub line-by-line : (s : List ℕ) (start : ℕ) → start ≤ length s → ToldOf start (seq_at s start) (take_lines blank start (seq_at s start))
unfolding numbers_at fit
line-by-line s start h =
    let r = lines-told start start (seq_at s start) (all-terminated s (seq_at s start) start h refl) in
    record { numbers = r.numbers; verdict = r.verdict ∙ rw r.numbers; bases = r.bases }
