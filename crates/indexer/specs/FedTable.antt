-- The fed indexer's calls over one table. Each call knows its own piece and what the last call kept; together they leave what one whole-file
-- call leaves.
use Rattle.std.specs.Prelude.{ℕ, ◌+◌, ◌-◌, ◌≡◌, refl, List, [], ◌∷◌, ◌++◌, length}
use Rattle.std.proofs.Math.Path.{ap, sym}
use Rattle.std.proofs.Common.{◌∙◌, append-nil, arith, add-zero}
use Rattle.std.proofs.Math.ListN.{length-append}
use Rattle.std.proofs.Math.Nat.{sub-zero}
use Rattle.lines.specs.Feeding.{joined, FedSum, feed_sum, feed_sums, finish_sum}
use Rattle.record.specs.declared.Record.{Record}
use Rattle.table.specs.Rows.{with_rows}
use Rattle.table.specs.RowLaws.{rows_append, rows_none}
use Rattle.table.specs.declared.Filled.{Filled}
use Rattle.table.specs.Fill.{held_in, FilledAs}
use Rattle.indexer.specs.File.{file_at}
use Rattle.indexer.specs.ByLines.{Phase, wants-definition, State, state, stop_of, start, found}
use Rattle.indexer.specs.LineSums.{Sum, sum_of, sums, behind, pieces-found, pieces-behind, end-behind}

-- what is kept between two calls: what it awaits, the sum of the line that waits, and how many rows are written
pub record Kept : Type 0 where
  pub phase : Phase
  pub waiting : Sum
  pub rows : ℕ

abbrev pub begun : Kept
begun = record { phase = wants-definition 0; waiting = sum_of []; rows = 0 }

module _ (all : ℕ) where
  -- the machine from there on, with some rows of its own
  abbrev pub fed_with : Kept → List Record → FedSum State Sum
  fed_with g rs = record { state = state g.phase (all - g.rows) rs; waiting = g.waiting }

  -- what a call with a piece leaves: its rows behind those before it
  pub record Eaten (f : Kept) (p before after : List ℕ) (g : Kept) : Type 0 where
    pub new : List Record
    pub is : feed_sum (sums all) (fed_with f []) p ≡ fed_with g new
    pub rows : g.rows ≡ f.rows + length new
    pub table : after ≡ with_rows before f.rows new

  -- and what the end call answers and leaves
  pub record Closed (f : Kept) (before after : List ℕ) (told : Filled) : Type 0 where
    pub new : List Record
    pub is : (finish_sum (sums all) (fed_with f [])).rows ≡ new
    pub rows : told.rows ≡ f.rows + length new
    pub stop : told.stop ≡ stop_of (finish_sum (sums all) (fed_with f [])).phase
    pub table : after ≡ with_rows before f.rows new

  -- calls one after another
  pub data Calls : Kept → List (List ℕ) → List ℕ → List ℕ → Kept → Type 0 where
    none : {f : Kept} {t : List ℕ} → Calls f [] t t f
    more : {f g h : Kept} {p : List ℕ} {ps : List (List ℕ)} {t u v : List ℕ} → Eaten f p t u g → Calls g ps u v h → Calls f (p ∷ ps) t v h

  -- all their rows
  record Joined (f : Kept) (ps : List (List ℕ)) (t v : List ℕ) (h : Kept) : Type 0 where
    new : List Record
    is : feed_sums (sums all) (fed_with f []) ps ≡ fed_with h new
    rows : h.rows ≡ f.rows + length new
    table : v ≡ with_rows t f.rows new

  from-rows : (g : Kept) (rs : List Record) → fed_with g rs ≡ record { state = behind all rs (fed_with g []).state; waiting = g.waiting }
  from-rows g rs = rw (append-nil rs)

  twice : (t u v : List ℕ) (n m : ℕ) (xs ys : List Record) → u ≡ with_rows t n xs → m ≡ n + length xs → v ≡ with_rows u m ys → v ≡ with_rows t n (xs ++ ys)
  twice t u v n m xs ys a b c = c ∙ rw (a, b) (sym (rows_append t n xs ys))

  one_more : (f g h : Kept) (p : List ℕ) (ps : List (List ℕ)) (t u v : List ℕ) → Eaten f p t u g → Joined g ps u v h → Joined f (p ∷ ps) t v h
  unfolding feed_sums
  one_more f g h p ps t u v e r =
      record {
        new = e.new ++ r.new;
        is =
            ap (λ (y : FedSum State Sum). feed_sums (sums all) y ps) (e.is ∙ from-rows g e.new)
            ∙ pieces-behind all e.new (fed_with g []) ps
            ∙ ap (λ (y : FedSum State Sum). record { state = behind all e.new y.state; waiting = y.waiting }) r.is;
        rows = omega (arith, e.rows, r.rows, length-append e.new r.new);
        table = twice t u v f.rows g.rows e.new r.new e.table e.rows r.table;
      }

  calls-joined : {f h : Kept} {ps : List (List ℕ)} {t v : List ℕ} → Calls f ps t v h → Joined f ps t v h
  calls-joined (none {f = f} {t = t}) = record { new = []; is = unfold feed_sums in refl; rows = sym (add-zero f.rows); table = sym (rows_none t f.rows) }
  calls-joined (more {f = f} {g = g} {h = h} {p = p} {ps = ps} {t = t} {u = u} {v = v} e c) = one_more f g h p ps t u v e (calls-joined c)

  -- R57 of docs/RULES.md: the calls and the end call answer and leave what the whole-file call does
  pub calls-filled : (ps : List (List ℕ)) (t u v : List ℕ) (g : Kept) (told : Filled) → Calls begun ps t u g → Closed g u v told → FilledAs (held_in all all (file_at (joined ps) 0)) t v told
  calls-filled ps t u v g told c e =
      rw (sym (pieces-found all ps) ∙ w)
      (record {
        rows = e.rows ∙ omega (arith, r.rows, length-append r.new e.new);
        stop = e.stop;
        table = twice t u v 0 g.rows r.new e.new r.table r.rows e.table;
      })
    where
      r : Joined begun ps t u g
      r = calls-joined c

      w : found (finish_sum (sums all) (feed_sums (sums all) (record { state = start all; waiting = sum_of [] }) ps))
          ≡ record { rows = r.new ++ e.new; stop = stop_of (finish_sum (sums all) (fed_with g [])).phase }
      w =
          ap (λ (n : ℕ). found (finish_sum (sums all) (feed_sums (sums all) (record { state = state (wants-definition 0) n []; waiting = sum_of [] }) ps))) (sym (sub-zero all))
          ∙ ap (λ (y : FedSum State Sum). found (finish_sum (sums all) y)) (r.is ∙ from-rows g r.new)
          ∙ ap found (end-behind all r.new (fed_with g []))
          ∙ ap (λ (rs : List Record). record { rows = r.new ++ rs; stop = stop_of (finish_sum (sums all) (fed_with g [])).phase }) e.is
