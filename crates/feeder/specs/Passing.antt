-- Lines alike, passed at once: lines that are like a record's rows, and even with them, bring the machine to where it comes line by line, by
-- either rule.
use Rattle.std.specs.Prelude.{ℕ, suc, ◌+◌, ◌*◌, ◌/◌, ◌%◌, ◌^◌, ◌≤◌, ◌<◌, ◌≡◌, List, [], ◌∷◌, Bool, true, false, cond, not, ◌&&◌, length, drop, eqb, None}
use Rattle.std.proofs.Math.Path.{refl}
use Rattle.std.proofs.Common.{ap, sym, ◌∙◌, arith, add-one, add-zero, one-mul, zero-mul, mul-le-mul_left}
use borrow.Author.Tests.{eq-eqb, ne_eqb, eqb-true}
use Rattle.std.proofs.Math.Nat.{add-mul, add-mul-div_right, add-mul-mod_self_right}
use Rattle.lines.specs.Lines.{part, lines, line_end, ends, begins, seq_of, seq_at, up_from}
use Rattle.lines.specs.Laws.{lines_at-cut, line_end-gt, line_end-le, part_length}
use Rattle.lines.specs.Alike.{is_like, alike, both_left, like-width, like-bases, LineLike, alike-passes, alike-within}
use Rattle.lines.specs.Feeding.{FedSum, absorb_sum, absorb_sums}
use Rattle.indexer.specs.Index.{fits_last}
use Rattle.indexer.specs.LineSums.{sum_of}
use Rattle.record.specs.Place.{place_of}
use Rattle.table.specs.Numbers.{numbers_in, rest_of}
use Rattle.walking.specs.Places.{first_elsewhere}
use Rattle.fitting.specs.declared.Numbers.{Numbers}
use Rattle.fitting.specs.declared.Rule.{Rule}
use Rattle.fitting.specs.declared.Rule.TheVariants.{Strict, Complete}
use Rattle.fitting.specs.Complete.{place_by}
use Rattle.feeder.specs.declared.Waiting.{Waiting}
use Rattle.feeder.specs.declared.Opened.{Opened}
use Rattle.feeder.specs.declared.SoFar.{SoFar}
use Rattle.feeder.specs.declared.SoFar.TheVariants.{Rows}
use Rattle.feeder.specs.declared.Phase.{Phase}
use Rattle.feeder.specs.declared.Phase.TheVariants.{Lines}
use Rattle.feeder.specs.declared.Out.TheVariants.{Keeps}
use Rattle.feeder.specs.declared.Fed.{Fed}
use Rattle.feeder.specs.Waiting.{waiting_of}
use Rattle.feeder.specs.Machine.{line_by, further_out, strict_out, passed_out, rows_out, bases_out, complete_out, line_out, out_of, Filling, filling, applied, step_by, machine, fed_in, AbsorbDone}
use Rattle.feeder.specs.Small.{SmallPhase, SmallNumbers, FitsWithin}
use Rattle.feeder.specs.SmallLaws.{opened-weak, numbers-weak, two, six}
use Rattle.feeder.specs.CodeLaws.{bases-there, feed-line, FeedOn, feed-fits}

-- ---- lines that are passed

-- is a line that waits a whole one with the bytes and the bases of some rows, and no definition
unfoldable pub same_line : Waiting → Numbers → Bool
same_line t n = (((((t.whole && not t.starts) && eqb t.width n.width) && eqb t.bases n.bases) && eqb t.name 0) && eqb t.text 0) && eqb t.kept 0

-- k lines from i on that are passed: the line that waits is like the rows; its first base begins a row, and lies where the rows put the base
-- behind m others; and so many lines are like it
pub record EvenLines (n : Numbers) (m z : ℕ) (t : Waiting) (p : List ℕ) (i k : ℕ) : Type 0 where
  pub same : same_line t n ≡ true
  pub column : m % n.bases ≡ 0
  pub place : z ≡ place_by n m
  pub count : k ≡ alike (line_by n) (seq_at p i)

-- a part of a piece: what is left from j on leaves what was left from i on
pub record TurnDone (rule : Rule) (f : Fed) (p : List ℕ) (i : ℕ) (before : List ℕ) (g : Fed) (j : ℕ) (after : List ℕ) : Type 0 where
  pub is : absorb_sums (machine rule) (fed_in g (numbers_in after)) (lines (drop j p)) ≡ absorb_sums (machine rule) (fed_in f (numbers_in before)) (lines (drop i p))
  pub rest : rest_of after ≡ rest_of before
  pub within : j ≤ length p
  pub fits : FitsWithin (2 ^ 41 + j) g.phase g.waiting

-- the same by any rule, with the table as it was
pub record PassDone (f : Fed) (p : List ℕ) (i : ℕ) (g : Fed) (j : ℕ) : Type 0 where
  pub on : i ≤ j
  pub turn : (rule : Rule) (t : List ℕ) → TurnDone rule f p i t g j t

-- ---- a line that is like some rows

abbrev pub waiting_like : Numbers → Waiting
waiting_like n = record { width = n.width; bases = n.bases; whole = true; starts = false; name = 0; text = 0; kept = 0 }

pub seven : (a b c d f g h : Bool) → ((((((a && b) && c) && d) && f) && g) && h) ≡ true
    → (a ≡ true) × (b ≡ true) × (c ≡ true) × (d ≡ true) × (f ≡ true) × (g ≡ true) × (h ≡ true)
seven a b c d f g h e = let x = two (((((a && b) && c) && d) && f) && g) h e in let y = six a b c d f g x.0 in (y.0, y.1, y.2, y.3, y.4, y.5, x.1)

pub off : (b : Bool) → not b ≡ true → b ≡ false
off true e = sym e
off false e = refl

same-waiting : (t : Waiting) (n : Numbers) → same_line t n ≡ true → t ≡ waiting_like n
unfolding same_line
same-waiting t n e =
    let x = seven t.whole (not t.starts) (eqb t.width n.width) (eqb t.bases n.bases) (eqb t.name 0) (eqb t.text 0) (eqb t.kept 0) e in
    same t.width t.bases t.whole t.starts t.name t.text t.kept (eqb-true _ _ x.2) (eqb-true _ _ x.3) x.0 (off t.starts x.1) (eqb-true _ _ x.4) (eqb-true _ _ x.5) (eqb-true _ _ x.6)
  where
    same : (w b : ℕ) (u v : Bool) (x y z : ℕ) → w ≡ n.width → b ≡ n.bases → u ≡ true → v ≡ false → x ≡ 0 → y ≡ 0 → z ≡ 0
        → record { width = w; bases = b; whole = u; starts = v; name = x; text = y; kept = z } ≡ waiting_like n
    same w b u v x y z p q r s i j k = rw (p, q, r, s, i, j, k)

pub like-waiting : (n : Numbers) (l : List ℕ) → is_like (line_by n) l ≡ true → begins l ≡ false → waiting_of l ≡ waiting_like n
unfolding waiting_of sum_of is_like
like-waiting n l e g = rw (g, both_left (ends 10 l) _ (both_left (ends 10 l && eqb (length l) n.width) _ e), like-width (line_by n) l e, like-bases (line_by n) l e)

-- a sequence line is a line, which begins with no '>'
pub seq-line : (s : List ℕ) (i : ℕ) (l : List ℕ) (ls : List (List ℕ)) → i < length s → seq_at s i ≡ l ∷ ls → (begins l ≡ false) × (lines (drop i s) ≡ l ∷ lines (drop (i + length l) s))
unfolding seq_at seq_of
seq-line s i l ls h e = go (begins (part s i (line_end s i))) refl (rw (lines_at-cut s i h) at e)
  where
    go : (t : Bool) → begins (part s i (line_end s i)) ≡ t → cond t [] (part s i (line_end s i) ∷ seq_of (lines (drop (line_end s i) s))) ≡ l ∷ ls
        → (begins l ≡ false) × (lines (drop i s) ≡ l ∷ lines (drop (i + length l) s))
    go true b q = let z : ◌≡◌ {A = ℕ} 0 1 = cc in absurd (omega arith)
    go false b q =
        let x : part s i (line_end s i) ≡ l = cc in
        let w : line_end s i ≡ i + length l = omega (arith, ap length x, part_length s i (line_end s i) (line_end-le s i (omega arith)), line_end-gt s i h) in
        (ap begins (sym x) ∙ b, lines_at-cut s i h ∙ ap (λ (k : List ℕ). k ∷ lines (drop (line_end s i) s)) x ∙ ap (λ (j : ℕ). l ∷ lines (drop j s)) w)

pub next-times : (k a : ℕ) → suc k * a ≡ k * a + a
next-times k a = rw (← add-one k, add-mul k 1 a, one-mul a)

-- ---- lines like the one that waits, whatever the machine awaits behind k of them

module _ (rule : Rule) (n : Numbers) (some : 0 < n.width) (F : ℕ → Phase) (c : ℕ) (on : (k : ℕ) → k * n.width ≤ c → out_of rule (F k) (waiting_like n) false ≡ Keeps (F (suc k))) (r : ℕ) (b p : List ℕ) where
  abbrev pub fed_at : ℕ → FedSum Filling Waiting
  fed_at k = record { state = filling (F k) r b; waiting = waiting_like n }

  pub step-on : (k : ℕ) → k * n.width ≤ c → step_by rule (filling (F k) r b) (waiting_like n) false ≡ filling (F (suc k)) r b
  unfolding step_by applied
  step-on k h = rw (on k h)

  absorb-on : (k : ℕ) (l : List ℕ) → k * n.width ≤ c → is_like (line_by n) l ≡ true → begins l ≡ false → absorb_sum (machine rule) (fed_at k) l ≡ fed_at (suc k)
  unfolding absorb_sum
  absorb-on k l h e g = rw (g, step-on k h, like-waiting n l e g)

  turn_on : (k i : ℕ) (l : List ℕ) → LineLike p (line_by n) i l → k * n.width ≤ c
      → absorb_sums (machine rule) (fed_at (suc k)) (lines (drop (i + n.width) p)) ≡ absorb_sums (machine rule) (fed_at k) (lines (drop i p))
  turn_on k i l y h =
      let q = seq-line p i l _ (omega (arith, y.within, some)) y.here in
      sym (ap (absorb_sums (machine rule) (fed_at k)) (rw y.width at q.1) ∙ again l (lines (drop (i + n.width) p)) ∙ ap (λ (x : FedSum Filling Waiting). absorb_sums (machine rule) x (lines (drop (i + n.width) p))) (absorb-on k l h y.like q.0))
    where
      again : (l : List ℕ) (ls : List (List ℕ)) → absorb_sums (machine rule) (fed_at k) (l ∷ ls) ≡ absorb_sums (machine rule) (absorb_sum (machine rule) (fed_at k) l) ls
      again l ls = unfold absorb_sums in refl

  pub record Behind (i : ℕ) (k j : ℕ) : Type 0 where
    pub far : k * n.width ≤ j
    pub is : absorb_sums (machine rule) (fed_at k) (lines (drop j p)) ≡ absorb_sums (machine rule) (fed_at 0) (lines (drop i p))

  -- all of them
  pub all-on : (i : ℕ) → i ≤ length p → length p ≤ c → Behind i (alike (line_by n) (seq_at p i)) (i + alike (line_by n) (seq_at p i) * n.width)
  all-on i h v =
      alike-passes p (line_by n) (Behind i)
      (λ k j l y q. record {
        far = rw (next-times k n.width) (omega (arith, q.far));
        is = turn_on k j l y (omega (arith, q.far, y.within, v)) ∙ q.is;
      })
      i h (record { far = rw (zero-mul n.width) (omega arith); is = refl })

-- ---- behind k of a record's rows

module _ (d : Opened) (n : Numbers) (m z : ℕ) (some : 0 < n.bases) (apart : n.bases < n.width) (column : m % n.bases ≡ 0) (place : z ≡ place_by n m) where
  pub column-on : (k : ℕ) → (m + k * n.bases) % n.bases ≡ 0
  column-on k = add-mul-mod_self_right m k n.bases ∙ column

  pub place-on : (k : ℕ) → z + k * n.width ≡ place_by n (m + k * n.bases)
  unfolding place_of
  place-on k = rw (add-mul-div_right m k some, add-mul-mod_self_right m k n.bases, add-mul (m / n.bases) k n.width) (omega (arith, place))

  abbrev rows_at : ℕ → Phase
  rows_at k = Lines d (Rows n (m + k * n.bases)) (z + k * n.width)

  -- one more of them is fine by either rule
  even-out : (rule : Rule) (k : ℕ) → z + k * n.width + n.bases < 2 ^ 62 → out_of rule (rows_at k) (waiting_like n) false ≡ Keeps (Lines d (Rows n (m + k * n.bases + n.bases)) (z + k * n.width + n.width))
  unfolding out_of line_out strict_out further_out fits_last
  even-out Strict k h = rw (eq-eqb n.bases n.bases refl, eq-eqb n.width n.width refl)
  even-out Complete k h = unfold complete_out bases_out rows_out passed_out in rw (ne_eqb n.bases 0 (λ e. omega arith), ← there)
    where
      there : None ≡ first_elsewhere (place_by n) (m + k * n.bases) (up_from (z + k * n.width) n.bases)
      there = bases-there n (m + k * n.bases) (z + k * n.width) n.bases some apart some h (eqb (z + k * n.width) (place_by n (m + k * n.bases))) refl
          (eq-eqb _ _ (place-on k)) (omega (arith, column-on k))

  pub even-next : (rule : Rule) (k : ℕ) → z + k * n.width + n.bases < 2 ^ 62 → out_of rule (rows_at k) (waiting_like n) false ≡ Keeps (rows_at (suc k))
  even-next rule k h = even-out rule k h ∙ rw (next-times k n.bases, next-times k n.width) (rw (next-sum m k n.bases, next-sum z k n.width))
    where
      next-sum : (a k c : ℕ) → a + k * c + c ≡ a + (k * c + c)
      next-sum a k c = omega arith

-- ---- the pass

module _ (f : Fed) (p : List ℕ) (i : ℕ) (h : i ≤ length p) (fits : FitsWithin (2 ^ 41 + i) f.phase f.waiting) where
  pub pass-none : PassDone f p i f i
  pass-none = record { on = omega arith; turn = λ rule t. record { is = refl; rest = refl; within = h; fits = fits } }

  module _ (d : Opened) (so : SoFar) (n : Numbers) (m z : ℕ) (a : f.phase ≡ Lines d so z) (b : so ≡ Rows n m) where
    awaits : f.phase ≡ Lines d (Rows n m) z
    awaits = a ∙ ap (λ (x : SoFar). Lines d x z) b

    small : SmallPhase fits.most (Lines d (Rows n m) z)
    small = rw awaits at fits.phase

    numbers-small : SmallNumbers fits.most n
    unfolding SmallPhase
    numbers-small = small.1.0

    place-small : z ≤ fits.most
    unfolding SmallPhase
    place-small = small.2

    count_small : m ≤ fits.most
    unfolding SmallPhase
    count_small = small.1.1

    pub rows-some : (0 < n.bases) × (0 < n.width)
    rows-some = (numbers-small.some, omega (arith, numbers-small.apart))

    module _ (k : ℕ) (v : length p ≤ 2 ^ 40) (e : EvenLines n m z f.waiting p i k) where
      pub lines-within : i + k * n.width ≤ length p
      lines-within = rw (← e.count) at (alike-within p (line_by n) i h)

      pub bases-within : k * n.bases ≤ k * n.width
      bases-within = mul-le-mul_left k (omega (arith, numbers-small.apart))

      pub pass-small : (m + k * n.bases < 2 ^ 63) × (z + k * n.width < 2 ^ 63) × (i + k * n.width < 2 ^ 63)
      pass-small = (
        omega (arith, count_small, fits.both, v, h, lines-within, bases-within),
        omega (arith, place-small, fits.both, v, h, lines-within),
        omega (arith, v, lines-within),
      )

      abbrev behind : Fed
      behind = record { phase = Lines d (Rows n (m + k * n.bases)) (z + k * n.width); rows = f.rows; waiting = f.waiting }

      behind-fits : FitsWithin (2 ^ 41 + (i + k * n.width)) behind.phase behind.waiting
      behind-fits = record {
        most = fits.most + k * n.width;
        phase = unfold SmallPhase in (
          opened-weak fits.most (fits.most + k * n.width) (omega arith) d small.0,
          (numbers-weak fits.most (fits.most + k * n.width) (omega arith) n numbers-small, omega (arith, count_small, bases-within)),
          omega (arith, place-small),
        );
        waiting = fits.waiting;
        both = omega (arith, fits.both);
      }

      abbrev rows : ℕ → Phase
      rows = rows_at d n m z numbers-small.some numbers-small.apart e.column e.place

      rows_next : (rule : Rule) (j : ℕ) → j * n.width ≤ 2 ^ 40 → out_of rule (rows j) (waiting_like n) false ≡ Keeps (rows (suc j))
      rows_next rule j q = even-next d n m z numbers-small.some numbers-small.apart e.column e.place rule j (omega (arith, q, place-small, fits.both, v, numbers-small.bases, h))

      abbrev rows_fed : Rule → List ℕ → ℕ → FedSum Filling Waiting
      rows_fed rule t = fed_at rule n rows-some.1 rows (2 ^ 40) (rows_next rule) f.rows (numbers_in t) p

      start_is : (rule : Rule) (t : List ℕ) → fed_in f (numbers_in t) ≡ rows_fed rule t 0
      start_is rule t = rw (awaits, same-waiting f.waiting n e.same, zero-mul n.bases, zero-mul n.width, add-zero m, add-zero z)

      end_is : (rule : Rule) (t : List ℕ) → fed_in behind (numbers_in t) ≡ rows_fed rule t k
      end_is rule t = rw (same-waiting f.waiting n e.same)

      pub pass-some : PassDone f p i behind (i + k * n.width)
      pass-some = record {
        on = omega arith;
        turn = λ rule t. record {
          is =
              let r = rw (← e.count) at (all-on rule n rows-some.1 rows (2 ^ 40) (rows_next rule) f.rows (numbers_in t) p i h v) in
              ap (λ (x : FedSum Filling Waiting). absorb_sums (machine rule) x (lines (drop (i + k * n.width) p))) (end_is rule t)
              ∙ r.is
              ∙ ap (λ (x : FedSum Filling Waiting). absorb_sums (machine rule) x (lines (drop i p))) (sym (start_is rule t));
          rest = refl;
          within = lines-within;
          fits = behind-fits;
        };
      }

-- ---- parts of a piece, one after another

module _ (rule : Rule) (f : Fed) (p : List ℕ) (i : ℕ) (t : List ℕ) where
  -- a line
  pub turn-line : (e : ℕ) (g : Fed) (u : List ℕ) → i < length p → e ≡ line_end p i → FitsWithin (2 ^ 41 + i) f.phase f.waiting → AbsorbDone rule f (part p i e) t g u → TurnDone rule f p i t g e u
  turn-line e g u h q fits d = record {
    is = feed-line rule f p i t e g u h q d;
    rest = d.rest;
    within = ends-within;
    fits = feed-fits rule f p i t (2 ^ 41) e g u (omega (arith, q, line_end-gt p i h)) ends-within fits d;
  }
    where
      ends-within : e ≤ length p
      ends-within = omega (arith, q, line_end-le p i (omega arith))

  -- and a pass behind it
  pub turn-passed : (g : Fed) (j : ℕ) (u : List ℕ) (r : Fed) (k : ℕ) → TurnDone rule f p i t g j u → PassDone g p j r k → TurnDone rule f p i t r k u
  turn-passed g j u r k a b = let c = b.turn rule u in record { is = c.is ∙ a.is; rest = a.rest; within = c.within; fits = c.fits }

  -- from the start of the piece
  pub feed-turn : (f₀ : Fed) (t₀ : List ℕ) (g : Fed) (j : ℕ) (u : List ℕ) → FeedOn rule f₀ p t₀ f i t → TurnDone rule f p i t g j u → FeedOn rule f₀ p t₀ g j u
  feed-turn f₀ t₀ g j u o d = record { is = d.is ∙ o.is; rest = d.rest ∙ o.rest }
