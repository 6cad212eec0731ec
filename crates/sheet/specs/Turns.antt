-- How a sheet goes on, turn by turn, and why it leaves in the end what the definition says: a turn for each region to judge it, then one for
-- each to write it.
use Prim.Native.Nat.{ℕ, suc, ◌+◌, ◌-◌, ◌≤◌, ◌<◌}
use Rattle.std.specs.Prelude.{◌≡◌, get_or, set, None, Result, Ok, Err}
use Rattle.std.proofs.Math.Path.{refl, ap, sym}
use Rattle.std.proofs.Common.{◌∙◌, drop_of_length-le, drop-cons, drop-drop, take_at, drop_at, zero-add, add-one}
use mathlib.Core.List.{List, [], ◌++◌, append_assoc, append-nil}
use Rattle.std.proofs.Math.Bool.{Bool, true, false, cond}
use Rattle.std.proofs.Math.ListN.{length, take, drop, length-append, length-drop}
use Rattle.std.proofs.Math.Seq.{append_snoc, take_all, length-take-le}
use Rattle.std.proofs.lemmas.List.{set_at}
use Rattle.std.proofs.Math.Dec.{ltb}
use borrow.Author.Tests.{ltb-true, ltb-false, lt-ltb, le-ltb}
use native.Mathlib.Omega.{arith}
use Rattle.record.specs.declared.Record.{Record}
use Rattle.sheet.specs.declared.RegionRefused.{RegionRefused}
use Rattle.refusal.specs.Numbers.{over_limit}
use Rattle.refusal.specs.declared.Refusal.{Refusal}
use Rattle.refusal.specs.declared.Refusal.TheVariants.{TooLong, NoRoom, TooManyRegions, TooFewStarts}
use Rattle.output.specs.Outcome.{Outcome, leaves}
use Rattle.table.specs.Rows.{used_at, held_of, held_at}
use Rattle.region.specs.Exact.{exact_held, exact_read}
use Rattle.region.specs.Answer.{exact_answer, answer-same, read-gave}
use Rattle.sheet.specs.declared.Region.{Region}
use Rattle.sheet.specs.declared.going.Pass.{Pass}
use Rattle.sheet.specs.declared.going.Pass.TheVariants as pass
use Rattle.sheet.specs.declared.going.Going.{Going}
use Rattle.sheet.specs.Sheet.{SheetOutcome, leaves_both, refuses_at, given, pieces, joined, starts_from, capped, poured, sheet_of, most, read_of, sheet_read}
use Rattle.sheet.specs.Laws.{pieces-length, pieces-at, joined-more, joined-all, joined-part, starts-length, starts_more, capped-add, capped-more, capped_fits, sheet-empty, first-refused, none-refused, Good, good_none, good_more}

-- what lies behind the last region
abbrev pub no_region : Region
no_region = record { row = 0; start = None; end = None }

-- ---- a turn

-- where a sheet stands, and the two lent lists
pub record Stage : Type 0 where
  pub going : Going
  pub output : List ℕ
  pub starts : List ℕ

abbrev pub stage : Going → List ℕ → List ℕ → Stage
stage g out starts = record { going = g; output = out; starts = starts }

-- no turn is left: the region at a place is refused
unfoldable pub stops : ℕ → ℕ → Refusal → Going
stops count place f = record { left = 0; count = count; place = place; pass = pass.Refused f }

-- before the first turn
unfoldable pub started : ℕ → ℕ → ℕ → Going
started bytes count starts =
    cond (over_limit bytes) (stops count count TooLong)
    (cond (ltb most count) (stops count count TooManyRegions)
    (cond (ltb starts count) (stops count count TooFewStarts)
    (record { left = count + count; count = count; place = 0; pass = pass.Judging 0 })))

-- the region at the place is good, and with it the regions judged have so many bytes
unfoldable pub weighed : Going → ℕ → ℕ → Going
weighed g total room =
    cond (ltb (g.place + 1) g.count) (record { left = g.left - 1; count = g.count; place = g.place + 1; pass = pass.Judging total })
    (cond (ltb room total) (stops g.count g.count (NoRoom total)) (record { left = g.left - 1; count = g.count; place = 0; pass = pass.Writing 0 }))

-- it is judged
unfoldable pub judged_as : Going → ℕ → Result ℕ Refusal → ℕ → Going
judged_as g total (Ok n) room = weighed g (capped (total + n)) room
judged_as g total (Err f) room = stops g.count g.place f

-- it is written, and the output is filled up to a place
unfoldable pub wrote_to : Going → ℕ → Going
wrote_to g at = record { left = g.left - 1; count = g.count; place = g.place + 1; pass = pass.Writing at }

unfoldable pub wrote_as : Going → ℕ → Result ℕ Refusal → Going
wrote_as g at (Ok n) = wrote_to g (at + n)
wrote_as g at (Err f) = stops g.count g.place f

unfoldable pub writes : List ℕ → Result Record Refusal → Region → Going → ℕ → List ℕ → List ℕ → Stage
writes s h r g at out starts =
    let w : Outcome (Result ℕ Refusal) = exact_held s h r.start r.end (drop at out) in
    stage (wrote_as g at w.answer) (take at out ++ w.output) (set starts g.place at)

abbrev turned_at : Pass → List ℕ → Result Record Refusal → Region → Going → List ℕ → List ℕ → Stage
turned_at (pass.Refused f) s h r g out starts = stage (stops g.count g.place f) out starts
turned_at (pass.Judging total) s h r g out starts = stage (judged_as g total (exact_answer (length s) h r.start r.end (length out)) (length out)) out starts
turned_at (pass.Writing at) s h r g out starts = writes s h r g at out starts

-- a turn on a region, whose row holds h
unfoldable pub turned : List ℕ → Result Record Refusal → Region → Going → List ℕ → List ℕ → Stage
turned s h r g out starts = turned_at g.pass s h r g out starts

-- the answer in the end
abbrev told_at : Pass → ℕ → Result ℕ RegionRefused
told_at (pass.Judging total) place = Ok 0
told_at (pass.Writing at) place = Ok at
told_at (pass.Refused f) place = Err (record { place = place; refusal = f })

unfoldable pub told_of : Going → Result ℕ RegionRefused
told_of g = told_at g.pass g.place

-- ---- what each test says

module _ (bytes count starts : ℕ) where
  pub starts-long : over_limit bytes ≡ true → stops count count TooLong ≡ started bytes count starts
  unfolding started
  starts-long l = rw l

  module _ (l : over_limit bytes ≡ false) where
    pub starts-many : most < count → stops count count TooManyRegions ≡ started bytes count starts
    unfolding started
    starts-many m = rw (l, lt-ltb most count m)

    pub starts-few : count ≤ most → starts < count → stops count count TooFewStarts ≡ started bytes count starts
    unfolding started
    starts-few m f = rw (l, le-ltb most count m, lt-ltb starts count f)

    pub starts-go : count ≤ most → count ≤ starts → record { left = count + count; count = count; place = 0; pass = pass.Judging 0 } ≡ started bytes count starts
    unfolding started
    starts-go m f = rw (l, le-ltb most count m, le-ltb starts count f)

module _ (g : Going) (total room : ℕ) where
  pub weighed-next : g.place + 1 < g.count → record { left = g.left - 1; count = g.count; place = g.place + 1; pass = pass.Judging total } ≡ weighed g total room
  unfolding weighed
  weighed-next h = rw (lt-ltb (g.place + 1) g.count h)

  module _ (h : g.count ≤ g.place + 1) where
    pub weighed-over : room < total → stops g.count g.count (NoRoom total) ≡ weighed g total room
    unfolding weighed
    weighed-over m = rw (le-ltb (g.place + 1) g.count h, lt-ltb room total m)

    pub weighed-fits : total ≤ room → record { left = g.left - 1; count = g.count; place = 0; pass = pass.Writing 0 } ≡ weighed g total room
    unfolding weighed
    weighed-fits m = rw (le-ltb (g.place + 1) g.count h, le-ltb room total m)

  pub judged-stops : (w : Result ℕ Refusal) (f : Refusal) → w ≡ Err f → stops g.count g.place f ≡ judged_as g total w room
  unfolding judged_as
  judged-stops w f e = rw e

  pub judged-goes : (w : Result ℕ Refusal) (n : ℕ) → w ≡ Ok n → (m : ℕ) → m ≡ capped (total + n) → weighed g m room ≡ judged_as g total w room
  unfolding judged_as
  judged-goes w n e m q = rw (e, q)

-- a piece that is written to a part of the output: it ends inside of it, and nothing is behind the part
module _ (s : List ℕ) (h : Result Record Refusal) (r : Region) (g : Going) (at : ℕ) (out starts : List ℕ) (fits : at ≤ length out) (w : Result ℕ Refusal) (bs : List ℕ)
    (e : leaves w bs ≡ exact_held s h r.start r.end (take (length out - at) (drop at out))) where
  part : take (length out - at) (drop at out) ≡ drop at out
  part = take_all (length out - at) (drop at out) (omega (arith, length-drop at out))

  none : drop (length out - at) (drop at out) ≡ []
  none = drop_of_length-le (drop at out) {i = length out - at} (omega (arith, length-drop at out))

  did : leaves w bs ≡ exact_held s h r.start r.end (drop at out)
  did = e ∙ ap (exact_held s h r.start r.end) part

  wrote-all : (n : Going) → n ≡ wrote_as g at w → stage n (take at out ++ (bs ++ drop (length out - at) (drop at out))) (set starts g.place at) ≡ writes s h r g at out starts
  unfolding writes
  wrote-all n q = rw (none, append-nil bs, q, ← did)

  pub wrote-stops : (f : Refusal) → w ≡ Err f → (n : Going) → n ≡ stops g.count g.place f
      → stage n (take at out ++ (bs ++ drop (length out - at) (drop at out))) (set starts g.place at) ≡ writes s h r g at out starts
  wrote-stops f q n m = wrote-all n (unfold wrote_as in rw q m)

  pub wrote-goes : (k : ℕ) → w ≡ Ok k → (n : Going) → n ≡ wrote_to g (at + k)
      → stage n (take at out ++ (bs ++ drop (length out - at) (drop at out))) (set starts g.place at) ≡ writes s h r g at out starts
  wrote-goes k q n m = wrote-all n (unfold wrote_as in rw q m)

  pub wrote-inside : (k : ℕ) → w ≡ Ok k → at + k ≤ length out
  wrote-inside k q =
      let a : (exact_held s h r.start r.end (drop at out)).answer ≡ Ok k = sym (ap (λ (o : Outcome (Result ℕ Refusal)). o.answer) did) ∙ q in
      omega (arith, length-drop at out, (read-gave s h r.start r.end (drop at out) k a).room)

-- a turn, by its pass
module _ (s : List ℕ) (h : Result Record Refusal) (r : Region) (g : Going) (out starts : List ℕ) where
  pub turns_stopped : (f : Refusal) → g.pass ≡ pass.Refused f → (n : Going) → n ≡ stops g.count g.place f → stage n out starts ≡ turned s h r g out starts
  unfolding turned
  turns_stopped f e n m = ap (λ (k : Going). stage k out starts) m ∙ sym (ap (λ (p : Pass). turned_at p s h r g out starts) e)

  pub turns-judging : (total : ℕ) → g.pass ≡ pass.Judging total → (n : Going) → n ≡ judged_as g total (exact_answer (length s) h r.start r.end (length out)) (length out)
      → stage n out starts ≡ turned s h r g out starts
  unfolding turned
  turns-judging total e n m = ap (λ (k : Going). stage k out starts) m ∙ sym (ap (λ (p : Pass). turned_at p s h r g out starts) e)

  pub turns-writing : (at : ℕ) → g.pass ≡ pass.Writing at → writes s h r g at out starts ≡ turned s h r g out starts
  unfolding turned
  turns-writing at e = sym (ap (λ (p : Pass). turned_at p s h r g out starts) e)

-- the row that a table has
pub turned-row : (s t : List ℕ) (u : ℕ) (w : Result (ℕ × Record) Refusal) (r : Region) (g : Going) (out starts : List ℕ) → w ≡ used_at t u r.row → turned s (held_of w) r g out starts ≡ turned s (held_at t u r.row) r g out starts
unfolding held_at
turned-row s t u w r g out starts e = ap (λ (v : Result (ℕ × Record) Refusal). turned s (held_of v) r g out starts) e

-- what a turn asks: there is a region at the place; one that is to be written has a start, and begins inside the output
abbrev pub filled_to : Pass → ℕ → ℕ → ℕ → Type 0
filled_to (pass.Writing at) place room starts = (at ≤ room) × (place < starts)
filled_to (pass.Judging total) place room starts = 0 ≤ room
filled_to (pass.Refused f) place room starts = 0 ≤ room

pub record Ready (g : Going) (room starts : ℕ) : Type 0 where
  pub some : 0 < g.left
  pub inside : g.place < g.count
  pub filled : filled_to g.pass g.place room starts

-- what a turn that writes is asked
pub ready-writes : (g : Going) (room starts at : ℕ) → Ready g room starts → g.pass ≡ pass.Writing at → (0 < g.left) × (g.place < g.count) × (at ≤ room) × (g.place < starts)
ready-writes g room starts at y e =
    let f : filled_to (pass.Writing at) g.place room starts = rw e at y.filled in
    (y.some, y.inside, f.0, f.1)

-- ---- where it stands is on the way to what the sheet leaves

module _ (s t : List ℕ) (u : ℕ) (rs : List Region) (out₀ starts₀ : List ℕ) where
  -- each region's own read, with all the room, and what it gives
  abbrev read : Region → Outcome (Result ℕ Refusal)
  read = read_of s t u out₀

  abbrev ps : List (List ℕ)
  ps = pieces read rs

  abbrev whole : SheetOutcome (Result ℕ RegionRefused)
  whole = sheet_read s t u rs out₀ starts₀

  -- while it judges: the regions before the place are good, and have so many bytes
  pub record JudgesAt (g : Going) (total : ℕ) (out starts : List ℕ) : Type 0 where
    pub count : g.count ≡ length rs
    pub left : g.left + g.place ≡ length rs + length rs
    pub inside : 0 < length rs → g.place < length rs
    pub good : Good read rs no_region g.place
    pub sum : total ≡ capped (length (joined (take g.place ps)))
    pub output : out ≡ out₀
    pub same : starts ≡ starts₀
    pub wide : length rs ≤ length starts₀
    pub answer : whole ≡ sheet_of read rs out₀ starts₀

  -- while it writes: all regions are good and have room, and those before the place are written
  pub record WritesAt (g : Going) (at : ℕ) (out starts : List ℕ) : Type 0 where
    pub count : g.count ≡ length rs
    pub left : g.left + g.place ≡ length rs
    pub good : Good read rs no_region (length rs)
    pub room : length (joined ps) ≤ length out₀
    pub filled : at ≡ length (joined (take g.place ps))
    pub output : out ≡ joined (take g.place ps) ++ drop at out₀
    pub begun : starts ≡ take g.place (starts_from 0 ps) ++ drop g.place starts₀
    pub wide : length rs ≤ length starts₀
    pub answer : whole ≡ sheet_of read rs out₀ starts₀

  -- when it is refused: that is the sheet's refusal
  pub record RefusedAt (g : Going) (f : Refusal) (out starts : List ℕ) : Type 0 where
    pub left : g.left ≡ 0
    pub output : out ≡ out₀
    pub same : starts ≡ starts₀
    pub answer : whole ≡ refuses_at g.place f out₀ starts₀

  abbrev stands_at : Pass → Going → List ℕ → List ℕ → Type 0
  stands_at (pass.Judging total) g out starts = JudgesAt g total out starts
  stands_at (pass.Writing at) g out starts = WritesAt g at out starts
  stands_at (pass.Refused f) g out starts = RefusedAt g f out starts

  unfoldable pub Stands : Stage → Type 0
  Stands z = stands_at z.going.pass z.going z.output z.starts

  -- before the first turn
  pub stands-started : Stands (stage (started (length s) (length rs) (length starts₀)) out₀ starts₀)
  unfolding Stands started joined capped
  stands-started = go (over_limit (length s)) refl (ltb most (length rs)) refl (ltb (length starts₀) (length rs)) refl
    where
      first : ℕ → Bool → Bool → Bool → Going
      first n a b c = cond a (stops n n TooLong) (cond b (stops n n TooManyRegions) (cond c (stops n n TooFewStarts) (record { left = n + n; count = n; place = 0; pass = pass.Judging 0 })))

      go : (a : Bool) → over_limit (length s) ≡ a → (b : Bool) → ltb most (length rs) ≡ b → (c : Bool) → ltb (length starts₀) (length rs) ≡ c
          → stands_at (first (length rs) a b c).pass (first (length rs) a b c) out₀ starts₀
      go true p b q c r = unfold stops sheet_read in record { left = refl; output = refl; same = refl; answer = rw p }
      go false p true q c r = unfold stops sheet_read in record { left = refl; output = refl; same = refl; answer = rw (p, q) }
      go false p false q true r = unfold stops sheet_read in record { left = refl; output = refl; same = refl; answer = rw (p, q, r) }
      go false p false q false r =
          unfold sheet_read in
          record {
            count = refl;
            left = omega arith;
            inside = λ h. h;
            good = good_none read rs no_region;
            sum = refl;
            output = refl;
            same = refl;
            wide = ltb-false _ _ r;
            answer = rw (p, q, r);
          }

  pub stands-begun : (n : ℕ) → n ≡ length rs → (g : Going) → g ≡ started (length s) n (length starts₀) → Stands (stage g out₀ starts₀)
  stands-begun n e g q = rw (q, e) stands-started

  -- the bytes that a region's read gives, by its answer
  pub read-size : (r : Region) (n : ℕ) → (read r).answer ≡ Ok n → length (given (read r)) ≡ n
  unfolding read_of exact_read given
  read-size r n q = rw q (read-gave s (held_at t u r.row) r.start r.end out₀ n q).size

  -- and to every output that has room for them
  read-elsewhere : (r : Region) (n : ℕ) → (read r).answer ≡ Ok n → (other : List ℕ) → n ≤ length other
      → exact_held s (held_at t u r.row) r.start r.end other ≡ leaves (Ok n) (given (read r) ++ drop n other)
  unfolding read_of exact_read given
  read-elsewhere r n q other h = rw q ((read-gave s (held_at t u r.row) r.start r.end out₀ n q).elsewhere other h)

  read_answer : (r : Region) → (read r).answer ≡ exact_answer (length s) (held_at t u r.row) r.start r.end (length out₀)
  unfolding read_of exact_read
  read_answer r = answer-same s (held_at t u r.row) r.start r.end out₀

  -- all are good: the pieces are poured
  sheet-poured : Good read rs no_region (length rs) → whole ≡ sheet_of read rs out₀ starts₀ → whole ≡ poured ps out₀ starts₀
  unfolding sheet_of
  sheet-poured g a = a ∙ none-refused read no_region out₀ starts₀ (poured ps out₀ starts₀) rs 0 g

  -- piece number i, which is that of region i
  module _ (i : ℕ) (h : i < length rs) where
    piece-more : joined (take (i + 1) ps) ≡ joined (take i ps) ++ given (read (get_or rs i no_region))
    piece-more = joined-more ps i (omega (arith, pieces-length read rs)) ∙ ap (λ (p : List ℕ). joined (take i ps) ++ p) (pieces-at read rs i no_region h)

    piece-size : length (joined (take (i + 1) ps)) ≡ length (joined (take i ps)) + length (given (read (get_or rs i no_region)))
    piece-size = ap length piece-more ∙ length-append (joined (take i ps)) (given (read (get_or rs i no_region)))

  module _ (small : length out₀ < 18446744073709551615) (g : Going) (some : 0 < g.left) (out starts : List ℕ) where
    abbrev here : Region
    here = get_or rs g.place no_region

    -- ---- a turn that judges

    module _ (total : ℕ) (j : JudgesAt g total out starts) where
      judges-inside : g.place < length rs
      judges-inside = j.inside (omega (arith, j.left))

      weighs : (n : ℕ) → (read here).answer ≡ Ok n → Stands (stage (weighed g (capped (total + n)) (length out₀)) out₀ starts₀)
      unfolding Stands weighed
      weighs n q = go (ltb (g.place + 1) g.count) refl (ltb (length out₀) (capped (total + n))) refl
        where
          size : length (given (read here)) ≡ n
          size = read-size here n q

          good : Good read rs no_region (g.place + 1)
          good = good_more read rs no_region g.place j.good (q ∙ ap Ok (sym size))

          sum : capped (total + n) ≡ capped (length (joined (take (g.place + 1) ps)))
          sum = ap (λ (k : ℕ). capped (k + n)) j.sum ∙ capped-add (length (joined (take g.place ps))) n ∙ ap capped (omega (arith, piece-size g.place judges-inside, size))

          next : Bool → Bool → Going
          next a b = cond a (record { left = g.left - 1; count = g.count; place = g.place + 1; pass = pass.Judging (capped (total + n)) })
              (cond b (stops g.count g.count (NoRoom (capped (total + n)))) (record { left = g.left - 1; count = g.count; place = 0; pass = pass.Writing 0 }))

          go : (a : Bool) → ltb (g.place + 1) g.count ≡ a → (b : Bool) → ltb (length out₀) (capped (total + n)) ≡ b → stands_at (next a b).pass (next a b) out₀ starts₀
          go true p b r =
              record {
                count = j.count;
                left = omega (arith, j.left);
                inside = λ h. omega (arith, ltb-true (g.place + 1) g.count p, j.count);
                good = good;
                sum = sum;
                output = refl;
                same = refl;
                wide = j.wide;
                answer = j.answer;
              }
          go false p b r =
              let last : g.place + 1 ≡ length rs = omega (arith, ltb-false (g.place + 1) g.count p, j.count, judges-inside) in
              let all : Good read rs no_region (length rs) = rw last at good in
              let w : whole ≡ poured ps out₀ starts₀ = sheet-poured all j.answer in
              let e : joined (take (g.place + 1) ps) ≡ joined ps = joined-all ps (g.place + 1) (omega (arith, pieces-length read rs)) in
              let c : capped (total + n) ≡ capped (length (joined ps)) = sum ∙ ap (λ (l : List ℕ). capped (length l)) e in
              end b r last all w c
            where
              end : (b : Bool) → ltb (length out₀) (capped (total + n)) ≡ b → g.place + 1 ≡ length rs → Good read rs no_region (length rs) → whole ≡ poured ps out₀ starts₀
                  → capped (total + n) ≡ capped (length (joined ps)) → stands_at (next false b).pass (next false b) out₀ starts₀
              end true r last all w c =
                  unfold stops in
                  record {
                    left = refl;
                    output = refl;
                    same = refl;
                    answer = w ∙ (unfold poured in rw (lt-ltb (length out₀) (length (joined ps)) (capped-more (length (joined ps)) (length out₀) small (rw c at (ltb-true (length out₀) (capped (total + n)) r))), c, pieces-length read rs, j.count));
                  }
              end false r last all w c =
                  record {
                    count = j.count;
                    left = omega (arith, j.left);
                    good = all;
                    room = (capped_fits (length (joined ps)) (length out₀) small (rw c at (ltb-false (length out₀) (capped (total + n)) r))).0;
                    filled = unfold joined in refl;
                    output = unfold joined in refl;
                    begun = refl;
                    wide = j.wide;
                    answer = j.answer;
                  }

      stands-judged : Stands (stage (judged_as g total (exact_answer (length s) (held_at t u here.row) here.start here.end (length out)) (length out)) out starts)
      unfolding judged_as Stands stops sheet_of
      stands-judged = rw (j.output, j.same) (go (exact_answer (length s) (held_at t u here.row) here.start here.end (length out₀)) (read_answer here))
        where
          go : (w : Result ℕ Refusal) → (read here).answer ≡ w → Stands (stage (judged_as g total w (length out₀)) out₀ starts₀)
          go (Ok n) q = weighs n q
          go (Err f) q =
              record {
                left = refl;
                output = refl;
                same = refl;
                answer = j.answer ∙ first-refused read no_region out₀ starts₀ (poured ps out₀ starts₀) rs 0 g.place j.good judges-inside f q ∙ ap (λ (n : ℕ). refuses_at n f out₀ starts₀) (zero-add g.place);
              }

    -- ---- a turn that writes

    module _ (at : ℕ) (w : WritesAt g at out starts) where
      abbrev i : ℕ
      i = g.place

      abbrev k : ℕ
      k = length (given (read here))

      writes-inside : i < length rs
      writes-inside = omega (arith, w.left)

      behind : at + k ≡ length (joined (take (i + 1) ps))
      behind = omega (arith, w.filled, piece-size i writes-inside)

      fits : at + k ≤ length out₀
      fits = omega (arith, behind, joined-part ps (i + 1), w.room)

      rest : drop at out ≡ drop at out₀
      rest = ap (drop at) w.output ∙ drop_at (joined (take i ps)) (drop at out₀) at (sym w.filled)

      kept : take at out ≡ joined (take i ps)
      kept = ap (take at) w.output ∙ take_at (joined (take i ps)) (drop at out₀) at (sym w.filled)

      reads : exact_held s (held_at t u here.row) here.start here.end (drop at out) ≡ leaves (Ok k) (given (read here) ++ drop (at + k) out₀)
      reads =
          ap (λ (l : List ℕ). exact_held s (held_at t u here.row) here.start here.end l) rest
          ∙ read-elsewhere here k (w.good i writes-inside) (drop at out₀) (omega (arith, length-drop at out₀, fits))
          ∙ ap (λ (l : List ℕ). leaves (Ok k) (given (read here) ++ l)) (drop-drop k at out₀)

      begins : set starts i at ≡ take (i + 1) (starts_from 0 ps) ++ drop (i + 1) starts₀
      begins =
          ap (λ (l : List ℕ). set l i at) (w.begun ∙ ap (λ (l : List ℕ). take i (starts_from 0 ps) ++ l) (drop-cons starts₀ i 0 (omega (arith, w.wide, writes-inside))))
          ∙ set_at (take i (starts_from 0 ps)) (get_or starts₀ i 0) (drop (suc i) starts₀) at i (length-take-le i (starts_from 0 ps) (omega (arith, starts-length 0 ps, pieces-length read rs, writes-inside)))
          ∙ sym (append_snoc (take i (starts_from 0 ps)) at (drop (suc i) starts₀))
          ∙ rw (w.filled, ← starts_more ps i (omega (arith, pieces-length read rs, writes-inside)), add-one i)

      stands-written : Stands (writes s (held_at t u here.row) here g at out starts)
      unfolding Stands writes wrote_as wrote_to
      stands-written =
          rw (reads, kept)
          record {
            count = w.count;
            left = omega (arith, w.left);
            good = w.good;
            room = w.room;
            filled = behind;
            output = sym (append_assoc (joined (take i ps)) (given (read here)) (drop (at + k) out₀)) ∙ ap (λ (l : List ℕ). l ++ drop (at + k) out₀) (sym (piece-more i writes-inside));
            begun = begins;
            wide = w.wide;
            answer = w.answer;
          }

    -- ---- a turn

    pub stands-turned : Stands (stage g out starts) → Stands (turned s (held_at t u here.row) here g out starts)
    unfolding Stands turned
    stands-turned = go g.pass refl
      where
        go : (p : Pass) → g.pass ≡ p → stands_at p g out starts → Stands (turned_at p s (held_at t u here.row) here g out starts)
        go (pass.Judging total) e z = stands-judged total z
        go (pass.Writing at) e z = stands-written at z
        go (pass.Refused f) e z = absurd (omega (arith, z.left))

    pub stands-ready : Stands (stage g out starts) → Ready g (length out) (length starts)
    unfolding Stands
    stands-ready = go g.pass refl
      where
        go : (p : Pass) → g.pass ≡ p → stands_at p g out starts → Ready g (length out) (length starts)
        go (pass.Judging total) e z = record { some = some; inside = omega (arith, judges-inside total z, z.count); filled = rw e (omega arith) }
        go (pass.Writing at) e z =
            let a = ap length z.output ∙ length-append (joined (take g.place ps)) (drop at out₀) in
            let b = ap length z.begun ∙ length-append (take g.place (starts_from 0 ps)) (drop g.place starts₀) in
            record {
              some = some;
              inside = omega (arith, writes-inside at z, z.count);
              filled = rw e (omega (arith, a, z.filled), omega (arith, b, writes-inside at z, z.wide, length-take-le g.place (starts_from 0 ps) (omega (arith, starts-length 0 ps, pieces-length read rs, writes-inside at z)), length-drop g.place starts₀));
            }
        go (pass.Refused f) e z = absurd (omega (arith, z.left))

    pub stands-place : Stands (stage g out starts) → g.place < length rs
    unfolding Stands
    stands-place = go g.pass
      where
        go : (p : Pass) → stands_at p g out starts → g.place < length rs
        go (pass.Judging total) z = judges-inside total z
        go (pass.Writing at) z = writes-inside at z
        go (pass.Refused f) z = absurd (omega (arith, z.left))

  -- when no turn is left, what is there is what the sheet leaves
  pub stands-told : (g : Going) (out starts : List ℕ) → g.left ≤ 0 → Stands (stage g out starts) → leaves_both (told_of g) out starts ≡ whole
  unfolding Stands told_of
  stands-told g out starts none = go g.pass
    where
      go : (p : Pass) → stands_at p g out starts → leaves_both (told_at p g.place) out starts ≡ whole
      go (pass.Judging total) z = rw (z.output, z.same) (sym (z.answer ∙ sheet-empty read rs out₀ starts₀ (empty z)))
        where
          empty : JudgesAt g total out starts → length rs ≡ 0
          empty z = no (ltb 0 (length rs)) refl
            where
              no : (b : Bool) → ltb 0 (length rs) ≡ b → length rs ≡ 0
              no true h = absurd (omega (arith, z.left, z.inside (ltb-true 0 (length rs) h)))
              no false h = omega (arith, ltb-false 0 (length rs) h)
      go (pass.Writing at) z =
          let n : g.place ≡ length rs = omega (arith, z.left) in
          let e : joined (take g.place ps) ≡ joined ps = joined-all ps g.place (omega (arith, pieces-length read rs)) in
          let a : at ≡ length (joined ps) = z.filled ∙ ap length e in
          let b : take g.place (starts_from 0 ps) ≡ starts_from 0 ps = take_all g.place (starts_from 0 ps) (omega (arith, starts-length 0 ps, pieces-length read rs)) in
          let o : out ≡ joined ps ++ drop (length (joined ps)) out₀ = z.output ∙ rw (e, a) in
          let m : starts ≡ starts_from 0 ps ++ drop (length ps) starts₀ = z.begun ∙ rw (b, n, pieces-length read rs) in
          rw (a, o, m) (sym (sheet-poured z.good z.answer ∙ (unfold poured in rw (le-ltb (length out₀) (length (joined ps)) z.room))))
      go (pass.Refused f) z = rw (z.output, z.same) (sym z.answer)

-- ---- a turn less is left

module _ (g : Going) (some : 0 < g.left) where
  weighed-less : (total room : ℕ) → (weighed g total room).left < g.left
  unfolding weighed stops
  weighed-less total room = go (ltb (g.place + 1) g.count) (ltb room total)
    where
      go : (a b : Bool)
          → (cond a (record { left = g.left - 1; count = g.count; place = g.place + 1; pass = pass.Judging total }) (cond b (stops g.count g.count (NoRoom total)) (record { left = g.left - 1; count = g.count; place = 0; pass = pass.Writing 0 }))).left < g.left
      go true b = omega arith
      go false true = some
      go false false = omega arith

  judged-less : (total : ℕ) (w : Result ℕ Refusal) (room : ℕ) → (judged_as g total w room).left < g.left
  unfolding judged_as stops
  judged-less total (Ok n) room = weighed-less (capped (total + n)) room
  judged-less total (Err f) room = some

  wrote-less : (at : ℕ) (w : Result ℕ Refusal) → (wrote_as g at w).left < g.left
  unfolding wrote_as wrote_to stops
  wrote-less at (Ok n) = omega arith
  wrote-less at (Err f) = some

pub turned-less : (s : List ℕ) (h : Result Record Refusal) (r : Region) (g : Going) (out starts : List ℕ) → 0 < g.left → (turned s h r g out starts).going.left < g.left
unfolding turned writes stops
turned-less s h r g out starts some = go g.pass
  where
    go : (p : Pass) → (turned_at p s h r g out starts).going.left < g.left
    go (pass.Judging total) = judged-less g some total (exact_answer (length s) h r.start r.end (length out)) (length out)
    go (pass.Writing at) = wrote-less g some at (exact_held s h r.start r.end (drop at out)).answer
    go (pass.Refused f) = some

-- a turn on the region at the place, whose row is that of the table: it stands as before, and a turn less is left
module _ (s t : List ℕ) (u : ℕ) (rs : List Region) (out₀ starts₀ : List ℕ) (small : length out₀ < 18446744073709551615) (g : Going) (some : 0 < g.left) (out starts : List ℕ)
    (z : Stands s t u rs out₀ starts₀ (stage g out starts)) where
  pub stands-next : (r : Region) → r ≡ get_or rs g.place no_region → (n : Stage) → n ≡ turned s (held_at t u r.row) r g out starts → Stands s t u rs out₀ starts₀ n × (n.going.left < g.left)
  stands-next r e n q =
      let m : n ≡ turned s (held_at t u (get_or rs g.place no_region).row) (get_or rs g.place no_region) g out starts = q ∙ ap (λ (x : Region). turned s (held_at t u x.row) x g out starts) e in
      (rw m (stands-turned s t u rs out₀ starts₀ small g some out starts z), rw q (turned-less s (held_at t u r.row) r g out starts some))
