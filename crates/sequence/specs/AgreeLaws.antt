-- Laws for Agree.antt: a clean line begins with a base or is blank; then a scan goes line by line.
use Prim.Native.Nat.{ℕ, zero, suc, ◌+◌, ◌-◌, ◌≤◌, ◌<◌}
use Rattle.std.specs.Prelude.{◌≡◌, refl, Bool, true, false, cond, ◌⊎◌, eqb, leb}
use Rattle.std.proofs.Math.Path.{ap, sym}
use Rattle.std.proofs.Common.{◌∙◌, subst, true≢false, inl, inr, eqb-true, leb-true, leb-false}
use mathlib.Core.List.{List, [], ◌∷◌, ◌++◌}
use Rattle.std.proofs.Math.ListN.{length, take}
use Rattle.std.proofs.lemmas.List.{take-append-le}
use Rattle.std.proofs.Math.Seq.{take-append-add}
use native.Mathlib.Omega.{arith}
use Rattle.lines.specs.Lines.{lines, onto, chop, bases_of, begins, seq_of, all_bases, sum_bases, sum_widths}
use Rattle.lines.specs.Mending.{BaseOf, base-within}
use Rattle.lines.specs.Mending.BaseOf.{first, later}
use Rattle.sequence.specs.Scan.{ends_line, skipped, bare, Scan, nothing, joined, scan_from}
use Rattle.sequence.specs.Laws.{chop-first}
use Rattle.sequence.specs.Clean.{has, CleanLine, Clean, ByLines}

-- ---- the lines of a file hold no LF but the one at their end

abbrev pub Lined : List (List ℕ) → Type 0
Lined [] = Unit
Lined (l ∷ ls) = (has 10 (chop 10 l) ≡ false) × Lined ls

lined-onto : (b : ℕ) → eqb b 10 ≡ false → (ls : List (List ℕ)) → Lined ls → Lined (onto b ls)
unfolding has chop
lined-onto b e [] h = (rw (e, e), tt)
lined-onto b e (l ∷ ls) h = (rw (chop-first b 10 l e, e) h.0, h.1)

pub lined : (s : List ℕ) → Lined (lines s)
unfolding lines has chop
lined [] = tt
lined (b ∷ s) = go (eqb b 10) refl (lined s)
  where
    go : (t : Bool) → eqb b 10 ≡ t → Lined (lines s) → Lined (cond t ((b ∷ []) ∷ lines s) (onto b (lines s)))
    go true e h = (rw e, h)
    go false e h = lined-onto b e (lines s) h

-- ---- a clean line that begins with a CR or an LF is blank

chop-lead : (c b : ℕ) (k : List ℕ) → eqb b c ≡ true → has c (chop c (b ∷ k)) ≡ false → k ≡ []
unfolding has chop
chop-lead c b [] e h = refl
chop-lead c b (y ∷ k) e h = absurd (true≢false (rw e at h))

blank : (k : List ℕ) → chop 10 k ≡ [] → bare k ≡ []
unfolding chop skipped ends_line
blank [] h = refl
blank (x ∷ []) h = go (eqb x 10) refl h
  where
    go : (t : Bool) → eqb x 10 ≡ t → cond t [] (x ∷ []) ≡ [] → bare (x ∷ []) ≡ []
    go true e q = rw (eqb-true x 10 e)
    go false e q = absurd (omega (arith, ap length q))
blank (x ∷ y ∷ k) h = absurd (omega (arith, ap length h))

blank-lf : (k : List ℕ) → has 10 (chop 10 (10 ∷ k)) ≡ false → (bare (10 ∷ k) ≡ []) × (bases_of (10 ∷ k) ≡ [])
unfolding chop skipped ends_line
blank-lf k line = rw (chop-lead 10 10 k refl line) (refl, refl)

blank-cr : (k : List ℕ) → has 13 (bases_of (13 ∷ k)) ≡ false → (bare (13 ∷ k) ≡ []) × (bases_of (13 ∷ k) ≡ [])
unfolding chop skipped ends_line
blank-cr k clean = (blank k empty, rw (chop-first 13 10 k refl, empty))
  where
    empty : chop 10 k ≡ []
    empty = chop-lead 13 13 (chop 10 k) refl (rw (chop-first 13 10 k refl) at clean)

has_first : (c b : ℕ) (k : List ℕ) → has c (b ∷ k) ≡ false → eqb b c ≡ false
unfolding has
has_first c b k h = go (eqb b c) h
  where
    go : (t : Bool) → cond t true (has c k) ≡ false → t ≡ false
    go true q = q
    go false q = refl

-- so a line begins with a base, or is blank
front : (l : List ℕ) → CleanLine l → has 10 (chop 10 l) ≡ false → ((bare l ≡ []) × (bases_of l ≡ [])) ⊎ ((skipped l ≡ 0) × (begins l ≡ false))
unfolding skipped ends_line chop
front [] clean line = inl (refl, refl)
front (b ∷ k) clean line = lf (eqb b 10) refl
  where
    cr : (t : Bool) → eqb b 13 ≡ t → eqb b 10 ≡ false → ((bare (b ∷ k) ≡ []) × (bases_of (b ∷ k) ≡ [])) ⊎ ((skipped (b ∷ k) ≡ 0) × (begins (b ∷ k) ≡ false))
    cr true e q =
        let z = eqb-true b 13 e in
        inl (subst (λ (x : ℕ). (bare (x ∷ k) ≡ []) × (bases_of (x ∷ k) ≡ [])) (sym z) (blank-cr k (subst (λ (x : ℕ). has 13 (bases_of (x ∷ k)) ≡ false) z clean.no_return)))
    cr false e q = inr (rw (e, q) (refl, has_first 62 b k clean.no-prefix))

    lf : (t : Bool) → eqb b 10 ≡ t → ((bare (b ∷ k) ≡ []) × (bases_of (b ∷ k) ≡ [])) ⊎ ((skipped (b ∷ k) ≡ 0) × (begins (b ∷ k) ≡ false))
    lf true e =
        let z = eqb-true b 10 e in
        inl (subst (λ (x : ℕ). (bare (x ∷ k) ≡ []) × (bases_of (x ∷ k) ≡ [])) (sym z) (blank-lf k (subst (λ (x : ℕ). has 10 (chop 10 (x ∷ k)) ≡ false) z line)))
    lf false e = cr (eqb b 13) refl e

module _ (l : List ℕ) (clean : CleanLine l) (line : has 10 (chop 10 l) ≡ false) where
  -- its leading CR and LF hide nothing of it
  bare-bases : (begins (bare l) ≡ false) × (bases_of (bare l) ≡ bases_of l)
  unfolding chop
  bare-bases = go (front l clean line)
    where
      go : ((bare l ≡ []) × (bases_of l ≡ [])) ⊎ ((skipped l ≡ 0) × (begins l ≡ false)) → (begins (bare l) ≡ false) × (bases_of (bare l) ≡ bases_of l)
      go (inl z) = (ap begins z.0, ap bases_of z.0 ∙ sym z.1)
      go (inr z) = rw z.0 (z.1, refl)

  -- and if it has bases there are none
  based : 0 < length (bases_of l) → skipped l ≡ 0
  based h = go (front l clean line)
    where
      go : ((bare l ≡ []) × (bases_of l ≡ [])) ⊎ ((skipped l ≡ 0) × (begins l ≡ false)) → skipped l ≡ 0
      go (inl z) = absurd (omega (arith, ap length z.1))
      go (inr z) = z.0

-- a line that begins with '>' has nothing in front of it
prefix-first : (l : List ℕ) → begins l ≡ true → skipped l ≡ 0
unfolding skipped ends_line
prefix-first [] e = refl
prefix-first (b ∷ k) e = rw (eqb-true b 62 e)

none_left : (m at place : ℕ) → place ≡ at → ByLines (nothing place) [] m at
unfolding all_bases sum_bases sum_widths
none_left m at place e = record { bases = none m; unmoved = λ z. e; reached = λ c j b q. absurd (omega (arith, base-within b)); short = λ q. (refl, omega arith) }
  where
    none : (m : ℕ) → ◌≡◌ {A = List ℕ} [] (take m [])
    none zero = refl
    none (suc m) = refl

none-wanted : (ls : List (List ℕ)) (at : ℕ) → ByLines (nothing at) ls 0 at
none-wanted ls at = record { bases = refl; unmoved = λ z. refl; reached = λ c j b q. absurd (omega arith); short = λ q. absurd (omega arith) }

module _ (l : List ℕ) (ls : List (List ℕ)) (n at : ℕ) where
  -- a line that has as many bases as are wanted
  enough : skipped l ≡ 0 → suc n ≤ length (bases_of l) → ByLines (record { bases = take (suc n) (bases_of l); place = at + skipped l + suc n }) (l ∷ ls) (suc n) at
  unfolding all_bases sum_bases
  enough z h =
      record {
        bases = sym (take-append-le (suc n) (bases_of l) (all_bases ls) h);
        unmoved = λ q. absurd (omega arith);
        reached = reached;
        short = λ q. absurd (omega arith);
      }
    where
      reached : (c j : ℕ) → BaseOf (l ∷ ls) c j → suc n ≡ suc j → at + skipped l + suc n ≡ at + suc c
      reached c j (first k e) q = omega arith
      reached c j (later r p e) q = absurd (omega arith)

  -- a line that has fewer, and what follows
  fewer : (rest : Scan) → length (bases_of l) < suc n → ByLines rest ls (suc n - length (bases_of l)) (at + length l) → ByLines (joined (bases_of l) rest) (l ∷ ls) (suc n) at
  unfolding all_bases sum_bases sum_widths
  fewer rest h ih =
      record {
        bases = rw ih.bases (sym (take-append-add (bases_of l) (all_bases ls) (suc n - length (bases_of l))) ∙ ap (λ (k : ℕ). take k (bases_of l ++ all_bases ls)) whole);
        unmoved = λ q. absurd (omega arith);
        reached = reached;
        short = λ q. (let z = ih.short (omega arith) in (ap (λ (k : List ℕ). bases_of l ++ k) z.0, z.1 ∙ omega arith));
      }
    where
      whole : length (bases_of l) + (suc n - length (bases_of l)) ≡ suc n
      whole = omega arith

      reached : (c j : ℕ) → BaseOf (l ∷ ls) c j → suc n ≡ suc j → rest.place ≡ at + suc c
      reached c j (first k e) q = absurd (omega arith)
      reached c j (later {d = d} {i = i} r p e) q = ih.reached d i r (omega arith) ∙ omega arith

pub agree : (ls : List (List ℕ)) (m at : ℕ) → Lined ls → Clean (seq_of ls) → ByLines (scan_from ls m at) (seq_of ls) m at
unfolding scan_from seq_of Clean
agree [] m at lined clean = none_left m at at refl
agree (l ∷ ls) zero at lined clean = none-wanted (seq_of (l ∷ ls)) at
agree (l ∷ ls) (suc n) at lined clean = go (begins l) refl clean (agree ls (suc n - length (bases_of l)) (at + length l) lined.1)
  where
    limited : CleanLine l → (t : Bool) → leb (suc n) (length (bases_of l)) ≡ t → ByLines (scan_from ls (suc n - length (bases_of l)) (at + length l)) (seq_of ls) (suc n - length (bases_of l)) (at + length l)
        → ByLines (cond t (record { bases = take (suc n) (bases_of l); place = at + skipped l + suc n }) (joined (bases_of l) (scan_from ls (suc n - length (bases_of l)) (at + length l)))) (l ∷ seq_of ls) (suc n) at
    limited c true e ih = let h = leb-true _ _ e in enough l (seq_of ls) n at (based l c lined.0 (omega arith)) h
    limited c false e ih = fewer l (seq_of ls) n at _ (leb-false _ _ e) ih

    go : (t : Bool) → begins l ≡ t → Clean (cond t [] (l ∷ seq_of ls))
        → (Clean (seq_of ls) → ByLines (scan_from ls (suc n - length (bases_of l)) (at + length l)) (seq_of ls) (suc n - length (bases_of l)) (at + length l))
        → ByLines (scan_from (l ∷ ls) (suc n) at) (cond t [] (l ∷ seq_of ls)) (suc n) at
    go true e c ih = let z = prefix-first l e in rw (z, e) (none_left (suc n) at (at + 0) (omega arith))
    go false e c ih = let z = bare-bases l c.0 lined.0 in rw (z.0, z.1) (limited c.0 (leb (suc n) (length (bases_of l))) refl (ih c.1))

pub scan-is : (c : Scan) (bs : List ℕ) (place : ℕ) → c.bases ≡ bs → c.place ≡ place → c ≡ record { bases = bs; place = place }
scan-is c bs place e q = rw (← e, ← q)
