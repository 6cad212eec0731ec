-- The lines of a FASTQ record with one byte replaced: behind the record, or a base of it. Either way the record says the same.
use Prim.Native.Nat.{ℕ, zero, suc, ◌+◌, ◌-◌, ◌≤◌, ◌<◌}
use Rattle.std.proofs.Math.Path.{◌≡◌, refl}
use Rattle.std.proofs.Common.{ap, sym, ◌∙◌, length-set, Result, Ok, Err}
use mathlib.Core.List.{List, [], ◌∷◌, map}
use Rattle.std.specs.Prelude.{Bool, set, eqb, ⊤}
use Rattle.std.proofs.Math.Bool.{true, false, cond}
use Rattle.std.proofs.Math.ListN.{length, take, length-map}
use Rattle.std.proofs.Math.Dec.{ltb}
use borrow.Author.Tests.{ne_eqb, ltb-false}
use native.Mathlib.Omega.{arith}
use Rattle.std.proofs.Math.Nat.{zero-add}
use Rattle.refusal.specs.declared.Refusal.{Refusal}
use Rattle.refusal.specs.declared.Refusal.TheVariants.{NoBases, QualityLine}
use Rattle.lines.specs.declared.Line.{Line}
use Rattle.lines.specs.declared.Span.{Span}
use Rattle.lines.specs.Lines.{chop, bases_of, none, first_line, sum_bases, sum_widths}
use Rattle.lines.specs.Laws.{chop-le}
use Rattle.lines.specs.Mending.{set_in, set_first, set-later, bases-set, widths-set, BaseOf, first, later, base-byte-within, sums-set}
use Rattle.indexer.specs.Index.{line_of}
use Rattle.fastq.specs.Fastq.{plus, body_of, from_plus, line_says, and_then, rest_of, sequence_of, fits_partner, qualities_of, qualities_judged, sequence_judged, sequence_says}
use Rattle.fastq.specs.declared.QualityRow.{QualityRow}
use Rattle.fastq_index.specs.Taken.{GoodLines}

-- ---- a byte behind the record

module _ (b : ℕ) where
  -- the sequence lines and the '+' line are as they were
  body-past : (ls : List (List ℕ)) (p : List ℕ) (qs : List (List ℕ)) → from_plus ls ≡ p ∷ qs → (d : ℕ)
      → (body_of (set_in ls (sum_widths (body_of ls) + (length p + d)) b) ≡ body_of ls) × (from_plus (set_in ls (sum_widths (body_of ls) + (length p + d)) b) ≡ p ∷ set_in qs d b)
  unfolding body_of from_plus sum_widths
  body-past [] p qs e d = let z : ◌≡◌ {A = ℕ} 0 1 = cc in absurd (omega arith)
  body-past (l ∷ ls) p qs e d = go (plus l) refl e (λ h. body-past ls p qs h d)
    where
      go : (t : Bool) → plus l ≡ t → cond t (l ∷ ls) (from_plus ls) ≡ p ∷ qs
          → (from_plus ls ≡ p ∷ qs → (body_of (set_in ls (sum_widths (body_of ls) + (length p + d)) b) ≡ body_of ls) × (from_plus (set_in ls (sum_widths (body_of ls) + (length p + d)) b) ≡ p ∷ set_in qs d b))
          → (body_of (set_in (l ∷ ls) (sum_widths (cond t [] (l ∷ body_of ls)) + (length p + d)) b) ≡ cond t [] (l ∷ body_of ls))
          × (from_plus (set_in (l ∷ ls) (sum_widths (cond t [] (l ∷ body_of ls)) + (length p + d)) b) ≡ p ∷ set_in qs d b)
      go true h q more =
          let here : l ≡ p = cc in
          let rest : ls ≡ qs = cc in
          rw (← here, ← rest, zero-add (length l + d), set-later l ls d b, h) (refl, refl)
      go false h q more =
          let w : length l + sum_widths (body_of ls) + (length p + d) ≡ length l + (sum_widths (body_of ls) + (length p + d)) = omega arith in
          rw (w, set-later l ls (sum_widths (body_of ls) + (length p + d)) b, h) (ap (λ (k : List (List ℕ)). l ∷ k) (more q).0, (more q).1)

  -- and so are the quality lines
  qualities-past : (ps : List Line) (qs : List (List ℕ)) (d : ℕ) → qualities_of ps qs ≡ Ok tt
      → (qualities_of ps (set_in qs (sum_widths (take (length ps) qs) + d) b) ≡ Ok tt) × (take (length ps) (set_in qs (sum_widths (take (length ps) qs) + d) b) ≡ take (length ps) qs)
  unfolding qualities_of sum_widths
  qualities-past [] qs d e = (refl, refl)
  qualities-past (p ∷ ps) [] d e = let z : ◌≡◌ {A = ℕ} 0 1 = cc in absurd (omega arith)
  qualities-past (p ∷ ps) (q ∷ qs) d e = go (fits_partner p q) refl e (qualities-past ps qs d)
    where
      w : length q + sum_widths (take (length ps) qs) + d ≡ length q + (sum_widths (take (length ps) qs) + d)
      w = omega arith

      go : (t : Bool) → fits_partner p q ≡ t → cond t (qualities_of ps qs) (Err (QualityLine (length (bases_of q)) p.bases)) ≡ Ok tt
          → (qualities_of ps qs ≡ Ok tt
          → (qualities_of ps (set_in qs (sum_widths (take (length ps) qs) + d) b) ≡ Ok tt) × (take (length ps) (set_in qs (sum_widths (take (length ps) qs) + d) b) ≡ take (length ps) qs))
          → (qualities_of (p ∷ ps) (set_in (q ∷ qs) (length q + sum_widths (take (length ps) qs) + d) b) ≡ Ok tt)
          × (take (suc (length ps)) (set_in (q ∷ qs) (length q + sum_widths (take (length ps) qs) + d) b) ≡ q ∷ take (length ps) qs)
      go true f k more = rw (w, set-later q qs (sum_widths (take (length ps) qs) + d) b, f) ((more k).0, ap (λ (m : List (List ℕ)). q ∷ m) (more k).1)
      go false f k more = let z : ◌≡◌ {A = ℕ} 0 1 = cc in absurd (omega arith)

  -- so the record says the same
  pub said-past : (at n : ℕ) (name : Span) (ls : List (List ℕ)) (x : QualityRow) (next : ℕ) → GoodLines at n name ls x next → (c : ℕ) → next ≤ at + n + c
      → sequence_says at n name (set_in ls c b) ≡ sequence_says at n name ls
  unfolding sequence_says
  said-past at n name ls x next g c h =
      let m : length (map line_of (body_of ls)) ≡ length (body_of ls) = length-map (body_of ls) line_of in
      let d : ℕ = c - (sum_widths (body_of ls) + length g.plus_line + sum_widths (take (length (body_of ls)) g.behind)) in
      let w : c ≡ sum_widths (body_of ls) + (length g.plus_line + (sum_widths (take (length (body_of ls)) g.behind) + d)) = omega (arith, g.on) in
      let q = rw m at (qualities-past (map line_of (body_of ls)) g.behind d g.fit) in
      let s = body-past ls g.plus_line g.behind g.plus (sum_widths (take (length (body_of ls)) g.behind) + d) in
      rw (w, s.0, s.1, g.plus) (go (sequence_of (at + n) (body_of ls)) _ q.0 q.1)
    where
      go : (v : Result ⊤ Refusal) (qs : List (List ℕ)) → qualities_of (map line_of (body_of ls)) qs ≡ Ok tt → take (length (body_of ls)) qs ≡ take (length (body_of ls)) g.behind
          → sequence_judged at n name (body_of ls) (g.plus_line ∷ qs) v ≡ sequence_judged at n name (body_of ls) (g.plus_line ∷ g.behind) v
      go (Err y) qs e k = refl
      go (Ok tt) qs e k = rw (e, g.fit, k)

-- ---- a base of the record

plus-set : (l : List ℕ) (c b : ℕ) → (b ≡ 43 → ⊥) → plus l ≡ false → plus (set l c b) ≡ false
plus-set [] c b n h = refl
plus-set (x ∷ l) zero b n h = ne_eqb b 43 n
plus-set (x ∷ l) (suc c) b n h = h

-- a byte of the sequence lines, which does not become a '+'
module _ (b : ℕ) (n : b ≡ 43 → ⊥) where
  body-set : (ls : List (List ℕ)) (o : ℕ) → o < sum_widths (body_of ls) → (body_of (set_in ls o b) ≡ set_in (body_of ls) o b) × (from_plus (set_in ls o b) ≡ from_plus ls)
  unfolding body_of from_plus set_in sum_widths
  body-set [] o h = (refl, refl)
  body-set (l ∷ ls) o h = go (plus l) refl h (ltb o (length l)) refl (body-set ls (o - length l))
    where
      go : (t : Bool) → plus l ≡ t → o < sum_widths (cond t [] (l ∷ body_of ls)) → (u : Bool) → ltb o (length l) ≡ u
          → (o - length l < sum_widths (body_of ls) → (body_of (set_in ls (o - length l) b) ≡ set_in (body_of ls) (o - length l) b) × (from_plus (set_in ls (o - length l) b) ≡ from_plus ls))
          → (body_of (cond u (set l o b ∷ ls) (l ∷ set_in ls (o - length l) b)) ≡ set_in (cond t [] (l ∷ body_of ls)) o b)
          × (from_plus (cond u (set l o b ∷ ls) (l ∷ set_in ls (o - length l) b)) ≡ cond t (l ∷ ls) (from_plus ls))
      go true e k u v r = absurd (omega arith)
      go false e k true v r = rw (plus-set l o b n e, v) (refl, refl)
      go false e k false v r =
          let more = r (omega (arith, ltb-false o (length l) v)) in
          rw (e, v) (ap (λ (m : List (List ℕ)). l ∷ m) more.0, more.1)

-- lines of the same widths and bases
none_alike : (ls ms : List (List ℕ)) → map line_of ls ≡ map line_of ms → none ls ≡ none ms
none_alike [] [] e = refl
none_alike [] (m ∷ ms) e = let z : ◌≡◌ {A = ℕ} 0 1 = cc in absurd (omega arith)
none_alike (l ∷ ls) [] e = let z : ◌≡◌ {A = ℕ} 0 1 = cc in absurd (omega arith)
none_alike (l ∷ ls) (m ∷ ms) e = refl

rest-alike : (x : Line) (ls ms : List (List ℕ)) → map line_of ls ≡ map line_of ms → rest_of x ls ≡ rest_of x ms
unfolding rest_of
rest-alike x [] [] e = refl
rest-alike x [] (m ∷ ms) e = let z : ◌≡◌ {A = ℕ} 0 1 = cc in absurd (omega arith)
rest-alike x (l ∷ ls) [] e = let z : ◌≡◌ {A = ℕ} 0 1 = cc in absurd (omega arith)
rest-alike x (l ∷ ls) (m ∷ ms) e =
    let here : line_of l ≡ line_of m = cc in
    let more : map line_of ls ≡ map line_of ms = cc in
    ap (λ (y : Line). and_then (line_says x (none ls) y) (rest_of x ls)) here
    ∙ ap (λ (t : Bool). and_then (line_says x t (line_of m)) (rest_of x ls)) (none_alike ls ms more)
    ∙ ap (and_then (line_says x (none ms) (line_of m))) (rest-alike x ls ms more)

sequence-alike : (at : ℕ) (ls ms : List (List ℕ)) → map line_of ls ≡ map line_of ms → sequence_of at ls ≡ sequence_of at ms
unfolding sequence_of
sequence-alike at [] [] e = refl
sequence-alike at [] (m ∷ ms) e = let z : ◌≡◌ {A = ℕ} 0 1 = cc in absurd (omega arith)
sequence-alike at (l ∷ ls) [] e = let z : ◌≡◌ {A = ℕ} 0 1 = cc in absurd (omega arith)
sequence-alike at (l ∷ ls) (m ∷ ms) e =
    let here : line_of l ≡ line_of m = cc in
    let more : map line_of ls ≡ map line_of ms = cc in
    ap (λ (y : Line). cond (eqb y.bases 0) (Err (NoBases (at + y.width))) (rest_of y ls)) here
    ∙ ap (cond (eqb (line_of m).bases 0) (Err (NoBases (at + length m)))) (rest-alike (line_of m) ls ms more)

first_alike : (ls ms : List (List ℕ)) → map line_of ls ≡ map line_of ms → first_line ls ≡ first_line ms
first_alike [] [] e = refl
first_alike [] (m ∷ ms) e = let z : ◌≡◌ {A = ℕ} 0 1 = cc in absurd (omega arith)
first_alike (l ∷ ls) [] e = let z : ◌≡◌ {A = ℕ} 0 1 = cc in absurd (omega arith)
first_alike (l ∷ ls) (m ∷ ms) e = let here : line_of l ≡ line_of m = cc in here

count-alike : (ls ms : List (List ℕ)) → map line_of ls ≡ map line_of ms → length ls ≡ length ms
count-alike ls ms e = sym (length-map ls line_of) ∙ ap length e ∙ length-map ms line_of

module _ (b : ℕ) (lf : b ≡ 10 → ⊥) (cr : b ≡ 13 → ⊥) (n : b ≡ 43 → ⊥) where
  alike_set : {ls : List (List ℕ)} {c j : ℕ} → BaseOf ls c j → map line_of (set_in ls c b) ≡ map line_of ls
  alike_set (first {l} {ls} {c} h q) =
      let few : length (bases_of l) ≤ length l = omega (arith, chop-le 13 (chop 10 l), chop-le 10 l) in
      let same : length (bases_of (set l c b)) ≡ length (bases_of l) = ap length (bases-set l c b lf cr h) ∙ length-set (bases_of l) c b in
      rw (set_first l ls c b (omega arith), same, length-set l c b)
  alike_set (later {l} {ls} {c} {j} {d} {i} r p q) = rw (p, set-later l ls d b) (ap (λ (k : List Line). line_of l ∷ k) (alike_set r))

  -- the record says the same
  pub said_here : (at m : ℕ) (name : Span) (ls : List (List ℕ)) (c j : ℕ) → BaseOf (body_of ls) c j → sequence_says at m name (set_in ls c b) ≡ sequence_says at m name ls
  unfolding sequence_says
  said_here at m name ls c j base =
      let s = body-set b n ls c (base-byte-within base) in
      rw (s.0, s.1, sequence-alike (at + m) (set_in (body_of ls) c b) (body_of ls) (alike_set base)) (go (from_plus ls) (sequence_of (at + m) (body_of ls)))
    where
      sums : sum_bases (set_in (body_of ls) c b) ≡ sum_bases (body_of ls)
      sums = sums-set b lf cr base

      row : (p : ℕ) (qs : List (List ℕ)) (v : Result ⊤ Refusal) → qualities_judged at m name (set_in (body_of ls) c b) p qs v ≡ qualities_judged at m name (body_of ls) p qs v
      row p qs (Err y) = refl
      row p qs (Ok tt) =
          rw (
            sums,
            widths-set (body_of ls) c b,
            first_alike (set_in (body_of ls) c b) (body_of ls) (alike_set base),
            count-alike (set_in (body_of ls) c b) (body_of ls) (alike_set base),
          )

      go : (qs : List (List ℕ)) (v : Result ⊤ Refusal) → sequence_judged at m name (set_in (body_of ls) c b) qs v ≡ sequence_judged at m name (body_of ls) qs v
      go qs (Err y) = refl
      go [] (Ok tt) = refl
      go (p ∷ qs) (Ok tt) =
          ap (λ (ps : List Line). qualities_judged at m name (set_in (body_of ls) c b) (length p) qs (qualities_of ps qs)) (alike_set base)
          ∙ row (length p) qs (qualities_of (map line_of (body_of ls)) qs)
