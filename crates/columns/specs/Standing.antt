-- Numbers, and a whole line, as they are written, where they stand in some bytes: what the quick way through a line finds, and that it is what the
-- fields say.
use Rattle.std.specs.Prelude.{ℕ, suc, ◌+◌, ◌-◌, ◌^◌, ◌≤◌, ◌<◌, ◌≡◌, refl, List, [], ◌∷◌, ◌++◌, map, true, length, take, drop, get_or}
use Rattle.std.proofs.Common.{sym, ap, ◌∙◌, ⊎_elim, arith, add-one, add-zero, eq-or-lt_of_le, length-append, length-drop, drop-cons, drop-drop, take-add, take_all, get_or-append-add, ne_eqb}
use Rattle.std.proofs.Math.ListN.{get_or-append}
use Rattle.columns.specs.Bytes.{is, first_where}
use Rattle.columns.specs.Decimal.{decimal_of}
use Rattle.columns.specs.Fields.{tabbed, numbers_text, text_of, splits, numbers_from}
use Rattle.columns.specs.Fields.Numbers.{Are}
use Rattle.columns.specs.Lacks.{Lacks, first-lacks, decimal-lacks}
use Rattle.columns.specs.Cut.{text-cut}
use Rattle.columns.specs.Numbers.{text-reads, reads_say}
use Rattle.columns.specs.Reading.{behind}
use Rattle.columns.specs.Writing.{text-snoc}
use Rattle.columns.specs.Quick.{DigitsAt, digits-written}

-- a number that is not 0, and fits 64 bits
abbrev pub Some : ℕ → Type 0
Some v = (0 < v) × (v < 2 ^ 64)

-- from a place up to another stand numbers as they are written, each with a tab before it
pub record NumbersAt (s : List ℕ) (place : ℕ) (ns : List ℕ) (end : ℕ) : Type 0 where
  pub from : place ≤ end
  pub text : take (end - place) (drop place s) ≡ numbers_text ns
  pub some : (j : ℕ) → j < length ns → Some (get_or ns j 0)

-- from a place up to another stands a line as it is written: a name of n bytes, without a tab and without an LF, and numbers
pub record LineAt (s : List ℕ) (at n end : ℕ) (ns : List ℕ) : Type 0 where
  pub within : end ≤ length s
  pub inside : at + n ≤ length s
  pub whole : Lacks splits (take n (drop at s))
  pub text : take (end - at) (drop at s) ≡ text_of (take n (drop at s)) ns
  pub some : (j : ℕ) → j < length ns → Some (get_or ns j 0)

-- the numbers are all that the fields behind a name say, and are plain
unfoldable pub ReadAll : List ℕ → ℕ → List ℕ → Type 0
ReadAll s name vs = (line : ℕ) → Are vs true ≡ numbers_from line 2 (length vs) (behind (length vs) (drop name s))

-- ---- numbers, one after another

pub numbers-none : (s : List ℕ) (place : ℕ) (ns : List ℕ) → NumbersAt s place (take 0 ns) place
unfolding tabbed
numbers-none s place ns =
    let z : place - place ≡ 0 = omega arith in
    record { from = omega arith; text = rw z; some = λ j h. absurd (omega arith) }

-- one more of some numbers
some_more : (vs : List ℕ) (v : ℕ) → ((j : ℕ) → j < length vs → Some (get_or vs j 0)) → Some v → (j : ℕ) → j < length (vs ++ (v ∷ [])) → Some (get_or (vs ++ (v ∷ [])) j 0)
some_more vs v h k j l =
    let m : j ≤ length vs = omega (arith, length-append vs (v ∷ [])) in
    ⊎_elim
    (λ (e : j ≡ length vs).
    let g : get_or (vs ++ (v ∷ [])) j 0 ≡ v = ap (λ (i : ℕ). get_or (vs ++ (v ∷ [])) i 0) (e ∙ sym (add-zero (length vs))) ∙ get_or-append-add vs (v ∷ []) 0 0 in
    rw g k)
    (λ (q : j < length vs). rw (get_or-append vs (v ∷ []) 0 j q) (h j q))
    (eq-or-lt_of_le m)

-- the byte at a place is a tab, and digits stand behind it
pub numbers_more : (s : List ℕ) (place : ℕ) (vs : List ℕ) (tab v end : ℕ) → NumbersAt s place vs tab → tab < length s → get_or s tab 0 ≡ 9 → DigitsAt s (tab + 1) v end → tab + 1 < end
    → NumbersAt s place (vs ++ (v ∷ [])) end
numbers_more s place vs tab v end h l t d more =
    let w = digits-written s (tab + 1) v end d more in
    let a : ℕ = tab - place in
    let b : ℕ = end - tab in
    let e : end - place ≡ a + b = omega (arith, h.from) in
    let k : place + a ≡ tab = omega (arith, h.from) in
    let m : b ≡ suc (end - (tab + 1)) = omega arith in
    let step : take b (get_or s tab 0 ∷ drop (suc tab) s) ≡ 9 ∷ decimal_of v = rw (m, t, w.0, add-one tab) in
    let here : take b (drop a (drop place s)) ≡ 9 ∷ decimal_of v = ap (take b) (drop-drop a place s ∙ ap (λ (x : ℕ). drop x s) k ∙ drop-cons s tab 0 l) ∙ step in
    record {
      from = omega (arith, h.from);
      text = rw (e, take-add a b (drop place s), h.text, here) (sym (text-snoc vs v));
      some = some_more vs v h.some (w.1, d.digits.small);
    }

-- ---- numbers that are all the rest

behind-text : (ns : List ℕ) → behind (length ns) (numbers_text ns) ≡ map decimal_of ns
unfolding behind tabbed
behind-text [] = refl
behind-text (n ∷ ns) = text-cut (decimal_of n) ns (decimal-lacks (is 9) (λ b l. ne_eqb b 9 (λ e. omega arith)) n)

pub numbers-all : (s : List ℕ) (name : ℕ) (ns : List ℕ) (end : ℕ) → NumbersAt s name ns end → end ≡ length s → ReadAll s name ns
unfolding ReadAll
numbers-all s name ns end h e line =
    let all : drop name s ≡ numbers_text ns = sym (take_all (end - name) (drop name s) (omega (arith, length-drop name s))) ∙ h.text in
    rw (all, behind-text ns)
    (sym (reads_say line (text-reads ns 2 (λ i q. ((h.some i q).1, rw (ne_eqb (get_or ns i 0) 0 (λ z. omega (arith, (h.some i q).0))))))))

-- ---- a line

-- numbers stand behind the first tab or LF, and an LF behind them
pub line_made : (s : List ℕ) (at place : ℕ) (ns : List ℕ) (end : ℕ) → place ≡ at + first_where splits (drop at s) → NumbersAt s place ns end → end < length s → get_or s end 0 ≡ 10
    → LineAt s at (place - at) (end + 1) ns
unfolding text_of
line_made s at place ns end p h l e =
    let n : ℕ = place - at in
    let m : ℕ = end - place in
    let f : n ≡ first_where splits (drop at s) = omega arith in
    let k : at + n ≡ place = omega arith in
    let q : place + m ≡ end = omega (arith, h.from) in
    let c : end + 1 - at ≡ n + (m + 1) = omega (arith, h.from) in
    let name : drop n (drop at s) ≡ drop place s = drop-drop n at s ∙ ap (λ (x : ℕ). drop x s) k in
    let last : take 1 (drop m (drop place s)) ≡ 10 ∷ [] = ap (take 1) (drop-drop m place s ∙ ap (λ (x : ℕ). drop x s) q ∙ drop-cons s end 0 l) ∙ rw e in
    record {
      within = omega arith;
      inside = omega (arith, h.from);
      whole = rw f (first-lacks splits (drop at s));
      text = rw (c, take-add n (m + 1) (drop at s), name, take-add m 1 (drop place s), h.text, last);
      some = h.some;
    }
