-- What the indexer keeps of a line that waits for more bytes: seven numbers. They are enough to judge the line, and follow from those of an
-- open line and further bytes; so a file fed in pieces needs no memory of a line's bytes.
use Prim.Native.Nat.{ℕ, zero, suc, ◌+◌, ◌-◌, ◌≤◌, ◌<◌}
use Rattle.std.specs.Prelude.{◌≡◌, Bool, not, ◌⊎◌, length, take, drop, Result, Ok, Err}
use Rattle.std.proofs.Math.Path.{refl, ap}
use Rattle.std.proofs.Common.{sym, ◌∙◌, length-append}
use mathlib.Core.List.{List, [], ◌∷◌, ◌++◌, append_assoc}
use Rattle.std.proofs.Math.Bool.{true, false, cond}
use Rattle.std.proofs.Math.Logic.{inl, inr}
use Rattle.std.proofs.Math.Dec.{eqb, eqb-suc-zero, eqb-suc-suc}
use borrow.Author.Tests.{eqb-true, eqb-false, ne_eqb}
use native.Mathlib.Omega.{arith}
use Rattle.definition.specs.declared.Definition.{Definition}
use Rattle.definition.specs.declared.Fault.{Fault}
use Rattle.lines.specs.declared.Line.{Line}
use Rattle.lines.specs.declared.Span.{Span}
use Rattle.lines.specs.Lines.{chop, ends, bases_of, content_of, begins}
use Rattle.lines.specs.Laws.{content-front}
use Rattle.lines.specs.Pieces.{ends-append, bases-append}
use Rattle.lines.specs.Feeding.{joined, FedSum, Summing, Sums, feed_sum, feed_sums, finish_sum, sums-whole, feed-moved, feeds-moved, finish-moved}
use Rattle.definition.specs.declared.Fault.TheVariants.{Empty, NoPrefix, NoName}
use Rattle.definition.specs.Definition.{is_space, spaced, run, kept, keep, described, named_of, content_says, definition_says}
use Rattle.definition.specs.Laws.{described-none, keep-drop}
use Rattle.record.specs.declared.Record.{Record}
use Rattle.table.specs.Fill.{held_in}
use Rattle.indexer.specs.Index.{line_of}
use Rattle.indexer.specs.File.{file_at}
use Rattle.indexer.specs.ByLines.{Phase, wants-definition, wants-first, wants-line, halted, Out, keeps, emits, definition_out, out_of, State, state, applied, step_line, start, found, by_lines}

-- ---- the sum of a line

-- width and bases; whether its LF has come; whether it begins with '>'; how many bytes behind the first are the name's; the place behind them and
-- the whitespace that follows; and how many bytes there are up to the last that is no whitespace
pub record Sum : Type 0 where
  pub line : Line
  pub whole : Bool
  pub starts : Bool
  pub name : ℕ
  pub text : ℕ
  pub kept : ℕ

-- how many bytes of a line, behind the first, are before a whitespace
abbrev pub name_in : List ℕ → ℕ
name_in l = run (spaced false) (drop 1 l)

-- how many bytes a name and the whitespace behind it have; or the whitespace alone, if the name has ended
unfoldable pub skip : Bool → List ℕ → ℕ
skip named [] = 0
skip true (b ∷ s) = suc (skip (not (is_space b)) s)
skip false (b ∷ s) = cond (is_space b) (suc (skip false s)) 0

-- where a description would begin
abbrev pub text_in : List ℕ → ℕ
text_in l = suc (skip true (drop 1 l))

unfoldable pub sum_of : List ℕ → Sum
sum_of l = record { line = line_of l; whole = ends 10 l; starts = begins l; name = name_in l; text = text_in l; kept = keep is_space l }

-- an open line's sum with more bytes
unfoldable pub grow : Sum → List ℕ → Sum
grow t l = record {
  line = record {
    width = t.line.width + length l;
    bases = cond (eqb (length (chop 10 l)) 0) t.line.bases (t.line.width + length (bases_of l));
  };
  whole = ends 10 l;
  starts = cond (eqb t.line.width 0) (begins l) t.starts;
  name = cond (eqb t.line.width 0) (name_in l) (cond (eqb (suc t.name) t.line.width) (t.name + run (spaced false) l) t.name);
  text =
      cond (eqb t.line.width 0) (text_in l)
      (cond (eqb (suc t.name) t.line.width) (t.line.width + skip true l) (cond (eqb t.text t.line.width) (t.line.width + skip false l) t.text));
  kept = cond (eqb (keep is_space l) 0) t.kept (t.line.width + keep is_space l);
}

-- what the sum says as a definition: the places of the name and of the description
abbrev pub named_as : ℕ → ℕ → ℕ → Result Definition Fault
named_as zero text kept = Err NoName
named_as (suc n) text kept = Ok (record { name = record { start = 1; length = suc n }; description = described text (kept - text) })

-- is nothing left of the line without its end
abbrev pub blank : Sum → Bool
blank t = cond t.whole (eqb t.line.bases 0) (eqb t.line.width 0)

unfoldable pub sum_says : Sum → Result Definition Fault
sum_says t = cond (blank t) (Err Empty) (cond t.starts (named_as t.name t.text t.kept) (Err NoPrefix))

-- ---- the sum says what the line says

kept_next : (t : Bool) (n : ℕ) → kept t n ≤ suc n
kept_next true zero = omega arith
kept_next false zero = omega arith
kept_next t (suc n) = omega arith

kept-some : (t : Bool) (n : ℕ) → (n ≡ 0 → ⊥) → kept t n ≡ suc n
kept-some t zero h = absurd (h refl)
kept-some t (suc n) h = refl

kept_less : (t : Bool) (n k : ℕ) → kept t n - suc k ≡ n - k
kept_less true zero k = omega arith
kept_less false zero k = omega arith
kept_less t (suc n) k = omega arith

-- a final whitespace is no byte of a name
run-chop : (b : ℕ) (s : List ℕ) → is_space b ≡ true → run (spaced false) (chop b s) ≡ run (spaced false) s
unfolding run chop
run-chop b [] e = refl
run-chop b (x ∷ []) e = go (eqb x b) refl
  where
    go : (t : Bool) → eqb x b ≡ t → run (spaced false) (cond t [] (x ∷ [])) ≡ run (spaced false) (x ∷ [])
    go true h = rw (eqb-true x b h, e)
    go false h = refl
run-chop b (x ∷ y ∷ s) e = ap (λ (n : ℕ). cond (spaced false x) (suc n) 0) (run-chop b (y ∷ s) e)

name-chop : (b : ℕ) (l : List ℕ) → is_space b ≡ true → name_in (chop b l) ≡ name_in l
unfolding chop
name-chop b [] e = refl
name-chop b (x ∷ []) e = go (eqb x b)
  where
    go : (t : Bool) → name_in (cond t [] (x ∷ [])) ≡ name_in (x ∷ [])
    go true = refl
    go false = refl
name-chop b (x ∷ y ∷ l) e = run-chop b (y ∷ l) e

name-content : (l : List ℕ) → name_in (content_of l) ≡ name_in l
unfolding content_of is_space
name-content l = go (ends 10 l)
  where
    go : (t : Bool) → name_in (cond t (chop 13 (chop 10 l)) l) ≡ name_in l
    go true = name-chop 13 (chop 10 l) refl ∙ name-chop 10 l refl
    go false = refl

blank-content : (l : List ℕ) → blank (sum_of l) ≡ eqb (length (content_of l)) 0
unfolding content_of sum_of
blank-content l = go (ends 10 l)
  where
    go : (t : Bool) → cond t (eqb (length (bases_of l)) 0) (eqb (length l) 0) ≡ eqb (length (cond t (chop 13 (chop 10 l)) l)) 0
    go true = refl
    go false = refl

-- the first byte of what is left is the line's
begins-content : (l s : List ℕ) (b : ℕ) → content_of l ≡ b ∷ s → begins l ≡ eqb b 62
begins-content l s b e = go l (sym (rw e at (content-front l)))
  where
    go : (l : List ℕ) → b ∷ s ≡ take (suc (length s)) l → begins l ≡ eqb b 62
    go [] h = let z : ◌≡◌ {A = ℕ} 0 1 = cc in absurd (omega arith)
    go (x ∷ l) h = let q : b ≡ x = cc in rw q

-- where a name and whitespace end, by the two runs
skip-space : (s : List ℕ) → skip false s ≡ run (spaced true) s
unfolding skip run
skip-space [] = refl
skip-space (b ∷ s) = rw (skip-space s)

skip-two : (s : List ℕ) → skip true s ≡ run (spaced false) s + run (spaced true) (drop (run (spaced false) s) s)
unfolding skip run
skip-two [] = refl
skip-two (b ∷ s) = go (is_space b) (skip-two s) refl
  where
    go : (t : Bool) → skip true s ≡ run (spaced false) s + run (spaced true) (drop (run (spaced false) s) s) → is_space b ≡ t
        → suc (skip (not t) s) ≡ cond (not t) (suc (run (spaced false) s)) 0 + run (spaced true) (drop (cond (not t) (suc (run (spaced false) s)) 0) (b ∷ s))
    go true h e = rw (e, skip-space s) (omega arith)
    go false h e = omega (arith, h)

-- a description's span does not change with whitespace at the end: it begins at the same place, or has no bytes
module _ (b : ℕ) (w : is_space b ≡ true) where
  keep-chop : (s : List ℕ) → keep is_space (chop b s) ≡ keep is_space s
  unfolding keep chop
  keep-chop [] = refl
  keep-chop (x ∷ []) = go (eqb x b) refl
    where
      go : (t : Bool) → eqb x b ≡ t → keep is_space (cond t [] (x ∷ [])) ≡ keep is_space (x ∷ [])
      go true h = rw (eqb-true x b h, w)
      go false h = refl
  keep-chop (x ∷ y ∷ s) = ap (kept (is_space x)) (keep-chop (y ∷ s))

  skip-chop : (named : Bool) (s : List ℕ) → (skip named (chop b s) ≡ skip named s) ⊎ ((keep is_space s ≤ skip named (chop b s)) × (keep is_space s ≤ skip named s))
  unfolding skip chop keep
  skip-chop named [] = inl refl
  skip-chop named (x ∷ []) = go (eqb x b) refl
    where
      go : (t : Bool) → eqb x b ≡ t
          → (skip named (cond t [] (x ∷ [])) ≡ skip named (x ∷ [])) ⊎ ((keep is_space (x ∷ []) ≤ skip named (cond t [] (x ∷ []))) × (keep is_space (x ∷ []) ≤ skip named (x ∷ [])))
      go true h = let z : keep is_space (x ∷ []) ≡ 0 = rw (eqb-true x b h, w) in inr (omega (arith, z), omega (arith, z))
      go false h = inl refl
  skip-chop true (x ∷ y ∷ s) = go (is_space x) (skip-chop (not (is_space x)) (y ∷ s))
    where
      go : (t : Bool) → (skip (not (is_space x)) (chop b (y ∷ s)) ≡ skip (not (is_space x)) (y ∷ s))
          ⊎ ((keep is_space (y ∷ s) ≤ skip (not (is_space x)) (chop b (y ∷ s))) × (keep is_space (y ∷ s) ≤ skip (not (is_space x)) (y ∷ s)))
          → (suc (skip (not (is_space x)) (chop b (y ∷ s))) ≡ suc (skip (not (is_space x)) (y ∷ s)))
          ⊎ ((kept t (keep is_space (y ∷ s)) ≤ suc (skip (not (is_space x)) (chop b (y ∷ s)))) × (kept t (keep is_space (y ∷ s)) ≤ suc (skip (not (is_space x)) (y ∷ s))))
      go t (inl e) = inl (ap suc e)
      go t (inr e) = inr (omega (arith, kept_next t (keep is_space (y ∷ s)), e), omega (arith, kept_next t (keep is_space (y ∷ s)), e))
  skip-chop false (x ∷ y ∷ s) = go (is_space x) (skip-chop false (y ∷ s))
    where
      go : (t : Bool) → (skip false (chop b (y ∷ s)) ≡ skip false (y ∷ s)) ⊎ ((keep is_space (y ∷ s) ≤ skip false (chop b (y ∷ s))) × (keep is_space (y ∷ s) ≤ skip false (y ∷ s)))
          → (cond t (suc (skip false (chop b (y ∷ s)))) 0 ≡ cond t (suc (skip false (y ∷ s))) 0)
          ⊎ ((kept t (keep is_space (y ∷ s)) ≤ cond t (suc (skip false (chop b (y ∷ s)))) 0) × (kept t (keep is_space (y ∷ s)) ≤ cond t (suc (skip false (y ∷ s))) 0))
      go true (inl e) = inl (ap suc e)
      go true (inr e) = inr (omega (arith, kept_next true (keep is_space (y ∷ s)), e), omega (arith, kept_next true (keep is_space (y ∷ s)), e))
      go false e = inl refl

-- a description, by the whole line
abbrev described_in : List ℕ → Span
described_in l = described (text_in l) (keep is_space l - text_in l)

described-far : (t k : ℕ) → k ≤ t → described t (k - t) ≡ record { start = 0; length = 0 }
described-far t k h = described-none t (k - t) (omega arith)

text-chop : (b : ℕ) (l : List ℕ) → is_space b ≡ true → described_in (chop b l) ≡ described_in l
unfolding chop keep
text-chop b [] w = refl
text-chop b (x ∷ []) w = go (eqb x b) refl
  where
    go : (t : Bool) → eqb x b ≡ t → described_in (cond t [] (x ∷ [])) ≡ described_in (x ∷ [])
    go true h = rw (eqb-true x b h, w)
    go false h = refl
text-chop b (x ∷ y ∷ s) w = go (skip-chop b w true (y ∷ s))
  where
    same : keep is_space (chop b (x ∷ y ∷ s)) ≡ keep is_space (x ∷ y ∷ s)
    same = keep-chop b w (x ∷ y ∷ s)

    near : keep is_space (x ∷ y ∷ s) ≤ suc (keep is_space (y ∷ s))
    near = kept_next (is_space x) (keep is_space (y ∷ s))

    go : (skip true (chop b (y ∷ s)) ≡ skip true (y ∷ s)) ⊎ ((keep is_space (y ∷ s) ≤ skip true (chop b (y ∷ s))) × (keep is_space (y ∷ s) ≤ skip true (y ∷ s)))
        → described_in (chop b (x ∷ y ∷ s)) ≡ described_in (x ∷ y ∷ s)
    go (inl e) = rw (same, e)
    go (inr e) =
        described-far (text_in (chop b (x ∷ y ∷ s))) (keep is_space (chop b (x ∷ y ∷ s))) (omega (arith, same, near, e))
        ∙ sym (described-far (text_in (x ∷ y ∷ s)) (keep is_space (x ∷ y ∷ s)) (omega (arith, near, e)))

text-content : (l : List ℕ) → described_in (content_of l) ≡ described_in l
unfolding content_of is_space
text-content l = go (ends 10 l)
  where
    go : (t : Bool) → described_in (cond t (chop 13 (chop 10 l)) l) ≡ described_in l
    go true = text-chop 13 (chop 10 l) refl ∙ text-chop 10 l refl
    go false = refl

sum-says : (l : List ℕ) → definition_says l ≡ sum_says (sum_of l)
unfolding definition_says sum_says keep
sum-says l = rw (blank-content l) (go (content_of l) refl)
  where
    named : (b : ℕ) (s : List ℕ) (n : ℕ) → run (spaced false) s ≡ n → described_in (b ∷ s) ≡ described_in l → named_of s n ≡ named_as n (text_in l) (keep is_space l)
    named b s zero e h = refl
    named b s (suc n) e h =
        let r : ℕ = run (spaced true) (drop (suc n) s) in
        let q : skip true s ≡ suc n + r = rw e at (skip-two s) in
        let k : keep is_space (drop r (drop (suc n) s)) ≡ keep is_space (b ∷ s) - text_in (b ∷ s) =
        omega (arith, keep-drop is_space r (drop (suc n) s), keep-drop is_space (suc n) s, kept_less (is_space b) (keep is_space s) (skip true s), q) in
        let t : suc (suc n) + r ≡ text_in (b ∷ s) = omega (arith, q) in
        ap (λ (p : Span). Ok (record { name = record { start = 1; length = suc n }; description = p })) (rw (t, k) h)

    go : (c : List ℕ) → content_of l ≡ c → content_says c ≡ cond (eqb (length c) 0) (Err Empty) (cond (sum_of l).starts (named_as (sum_of l).name (sum_of l).text (sum_of l).kept) (Err NoPrefix))
    go [] e = unfold content_says in refl
    go (b ∷ s) e = unfold content_says sum_of in rw (eqb-suc-zero (length s), begins-content l s b e, ← name-content l, e) (turn (eqb b 62))
      where
        turn : (t : Bool) → cond t (named_of s (run (spaced false) s)) (Err NoPrefix) ≡ cond t (named_as (run (spaced false) s) (text_in l) (keep is_space l)) (Err NoPrefix)
        turn true = named b s (run (spaced false) s) refl (rw e at (text-content l))
        turn false = refl

-- ---- judging by the sum

module _ (all : ℕ) where
  unfoldable pub step_sum : State → Sum → Bool → State
  step_sum st t last = applied all st.free st.rows (out_of st.phase t.line (sum_says t) last)

  sum-judges : (st : State) (l : List ℕ) (last : Bool) → step_line all st l last ≡ step_sum st (sum_of l) last
  unfolding step_sum
  sum-judges st l last = ap (applied all st.free st.rows) (go st.phase)
    where
      go : (p : Phase) → out_of p (line_of l) (definition_says l) last ≡ out_of p (sum_of l).line (sum_says (sum_of l)) last
      go (wants-definition at) = ap (definition_out at (length l) last) (sum-says l) ∙ (unfold sum_of in refl)
      go (wants-first d) = unfold sum_of in refl
      go (wants-line d first m z) = unfold sum_of in refl
      go (halted s) = refl

  -- ---- the sum of a line that grows

  run-append : (s l : List ℕ) → run (spaced false) (s ++ l) ≡ cond (eqb (run (spaced false) s) (length s)) (run (spaced false) s + run (spaced false) l) (run (spaced false) s)
  unfolding run
  run-append [] l = omega arith
  run-append (x ∷ s) l = go (spaced false x) (run-append s l)
    where
      turn : (t : Bool) (a b : ℕ) → suc (cond t (a + b) a) ≡ cond t (suc a + b) (suc a)
      turn true a b = omega arith
      turn false a b = refl

      go : (t : Bool) → run (spaced false) (s ++ l) ≡ cond (eqb (run (spaced false) s) (length s)) (run (spaced false) s + run (spaced false) l) (run (spaced false) s)
          → cond t (suc (run (spaced false) (s ++ l))) 0
          ≡ cond (eqb (cond t (suc (run (spaced false) s)) 0) (suc (length s))) (cond t (suc (run (spaced false) s)) 0 + run (spaced false) l) (cond t (suc (run (spaced false) s)) 0)
      go true h = rw (eqb-suc-suc (run (spaced false) s) (length s), h) (turn (eqb (run (spaced false) s) (length s)) (run (spaced false) s) (run (spaced false) l))
      go false h = rw (ne_eqb 0 (suc (length s)) (λ e. omega arith))

  name-append : (q l : List ℕ) → name_in (q ++ l) ≡ cond (eqb (length q) 0) (name_in l) (cond (eqb (suc (name_in q)) (length q)) (name_in q + run (spaced false) l) (name_in q))
  name-append [] l = refl
  name-append (x ∷ s) l = rw (eqb-suc-zero (length s), eqb-suc-suc (run (spaced false) s) (length s)) (run-append s l)

  next : (t : Bool) (a b c : ℕ) → suc (cond t (a + b) c) ≡ cond t (suc a + b) (suc c)
  next true a b c = omega arith
  next false a b c = refl

  next-two : (t u : Bool) (a b c d : ℕ) → suc (cond t (a + b) (cond u (a + c) d)) ≡ cond t (suc a + b) (cond u (suc a + c) (suc d))
  next-two true u a b c d = omega arith
  next-two false u a b c d = next u a c d

  skip-append : (s l : List ℕ) → skip false (s ++ l) ≡ cond (eqb (skip false s) (length s)) (length s + skip false l) (skip false s)
  unfolding skip
  skip-append [] l = omega arith
  skip-append (x ∷ s) l = go (is_space x) (skip-append s l)
    where
      go : (t : Bool) → skip false (s ++ l) ≡ cond (eqb (skip false s) (length s)) (length s + skip false l) (skip false s)
          → cond t (suc (skip false (s ++ l))) 0 ≡ cond (eqb (cond t (suc (skip false s)) 0) (suc (length s))) (suc (length s) + skip false l) (cond t (suc (skip false s)) 0)
      go true h = rw (eqb-suc-suc (skip false s) (length s), h) (next (eqb (skip false s) (length s)) (length s) (skip false l) (skip false s))
      go false h = rw (ne_eqb 0 (suc (length s)) (λ e. omega arith))

  name-skip : (s l : List ℕ) → skip true (s ++ l) ≡ cond (eqb (run (spaced false) s) (length s)) (length s + skip true l) (cond (eqb (skip true s) (length s)) (length s + skip false l) (skip true s))
  unfolding skip run
  name-skip [] l = omega arith
  name-skip (x ∷ s) l = go (is_space x) (name-skip s l)
    where
      go : (t : Bool)
          → skip true (s ++ l) ≡ cond (eqb (run (spaced false) s) (length s)) (length s + skip true l) (cond (eqb (skip true s) (length s)) (length s + skip false l) (skip true s))
          → suc (skip (not t) (s ++ l))
          ≡ cond (eqb (cond (not t) (suc (run (spaced false) s)) 0) (suc (length s))) (suc (length s) + skip true l)
          (cond (eqb (suc (skip (not t) s)) (suc (length s))) (suc (length s) + skip false l) (suc (skip (not t) s)))
      go true h =
          rw (ne_eqb 0 (suc (length s)) (λ e. omega arith), eqb-suc-suc (skip false s) (length s), skip-append s l)
          (next (eqb (skip false s) (length s)) (length s) (skip false l) (skip false s))
      go false h =
          rw (eqb-suc-suc (run (spaced false) s) (length s), eqb-suc-suc (skip true s) (length s), h)
          (next-two (eqb (run (spaced false) s) (length s)) (eqb (skip true s) (length s)) (length s) (skip true l) (skip false l) (skip true s))

  text-append : (q l : List ℕ)
      → text_in (q ++ l) ≡ cond (eqb (length q) 0) (text_in l) (cond (eqb (suc (name_in q)) (length q)) (length q + skip true l) (cond (eqb (text_in q) (length q)) (length q + skip false l) (text_in q)))
  text-append [] l = refl
  text-append (x ∷ s) l =
      rw (eqb-suc-zero (length s), eqb-suc-suc (run (spaced false) s) (length s), eqb-suc-suc (skip true s) (length s), name-skip s l)
      (next-two (eqb (run (spaced false) s) (length s)) (eqb (skip true s) (length s)) (length s) (skip true l) (skip false l) (skip true s))

  keep_append : (q l : List ℕ) → keep is_space (q ++ l) ≡ cond (eqb (keep is_space l) 0) (keep is_space q) (length q + keep is_space l)
  unfolding keep
  keep_append [] l = go (eqb (keep is_space l) 0) refl
    where
      go : (t : Bool) → eqb (keep is_space l) 0 ≡ t → keep is_space l ≡ cond t 0 (0 + keep is_space l)
      go true e = eqb-true _ _ e
      go false e = omega arith
  keep_append (x ∷ q) l = rw (keep_append q l) (go (eqb (keep is_space l) 0) refl)
    where
      go : (t : Bool) → eqb (keep is_space l) 0 ≡ t
          → kept (is_space x) (cond t (keep is_space q) (length q + keep is_space l)) ≡ cond t (kept (is_space x) (keep is_space q)) (suc (length q) + keep is_space l)
      go true e = refl
      go false e = kept-some (is_space x) (length q + keep is_space l) (λ z. eqb-false (keep is_space l) 0 e (omega arith)) ∙ omega arith

  begins-append : (q l : List ℕ) → begins (q ++ l) ≡ cond (eqb (length q) 0) (begins l) (begins q)
  begins-append [] l = refl
  begins-append (x ∷ s) l = rw (eqb-suc-zero (length s))

  sum-grows : (q l : List ℕ) → ends 10 q ≡ false → 0 < length l → sum_of (q ++ l) ≡ grow (sum_of q) l
  unfolding sum_of grow
  sum-grows q l e h = simp (length-append q l, bases-append q l e h, ends-append q l h, begins-append q l, name-append q l, text-append q l, keep_append q l)

  -- ---- the indexer fed with pieces

  abbrev pub sums : Summing State Sum
  sums = record { sum = sum_of; judge = step_sum; whole = λ t. t.whole; empty = λ t. eqb t.line.width 0; grow = grow }

  pub sums-law : Sums (step_line all) sums
  sums-law =
      record {
        judges = sum-judges;
        ended = λ l. (unfold sum_of in refl);
        none = unfold sum_of in refl;
        some = λ b l. (unfold sum_of in eqb-suc-zero (length l));
        grows = sum-grows;
      }

  -- R57 of docs/RULES.md, over definitions: a file that comes in any pieces, and then ends, gives the rows of the whole file, and why there are no more
  pub pieces-found : (ps : List (List ℕ)) → found (finish_sum sums (feed_sums sums (record { state = start all; waiting = sum_of [] }) ps)) ≡ held_in all all (file_at (joined ps) 0)
  pieces-found ps = ap found (sums-whole sums (step_line all) sums-law (start all) ps) ∙ by_lines all (joined ps)

  -- rows that were written before a piece stay in front of those that it gives
  abbrev pub behind : List Record → State → State
  behind rs st = state st.phase st.free (rs ++ st.rows)

  sum-behind : (rs : List Record) (st : State) (t : Sum) (last : Bool) → step_sum (behind rs st) t last ≡ behind rs (step_sum st t last)
  unfolding step_sum
  sum-behind rs st t last = go (out_of st.phase t.line (sum_says t) last) st.free
    where
      go : (o : Out) (f : ℕ) → applied all f (rs ++ st.rows) o ≡ behind rs (applied all f st.rows o)
      go (keeps p) f = refl
      go (emits x z) zero = refl
      go (emits x z) (suc k) = ap (state (wants-definition z) k) (append_assoc rs st.rows (x ∷ []))

  pub piece-behind : (rs : List Record) (x : FedSum State Sum) (p : List ℕ)
      → feed_sum sums (record { state = behind rs x.state; waiting = x.waiting }) p ≡ record { state = behind rs (feed_sum sums x p).state; waiting = (feed_sum sums x p).waiting }
  piece-behind rs x p = feed-moved sums (behind rs) (sum-behind rs) x p

  pub pieces-behind : (rs : List Record) (x : FedSum State Sum) (ps : List (List ℕ))
      → feed_sums sums (record { state = behind rs x.state; waiting = x.waiting }) ps ≡ record { state = behind rs (feed_sums sums x ps).state; waiting = (feed_sums sums x ps).waiting }
  pieces-behind rs x ps = feeds-moved sums (behind rs) (sum-behind rs) ps x

  pub end-behind : (rs : List Record) (x : FedSum State Sum) → finish_sum sums (record { state = behind rs x.state; waiting = x.waiting }) ≡ behind rs (finish_sum sums x)
  end-behind rs x = finish-moved sums (behind rs) (sum-behind rs) x
