-- A file that is indexed while it arrives (request K1), where a host meets it: what wakeluri_feed_start, wakeluri_feed_piece and wakeluri_feed_end
-- hand out (`callTold`), for pieces that come one after another with one table. What is handed out as a state is the feeder when it comes
-- back (`handed-back`), so the calls one after another are `allPieces`.
--
-- `fed-whole`: any pieces within the size limit, and the end, answer the count and the refusal of the call on the joined bytes, and leave its
-- table, to the byte, for each rule. `fed-told`: before the end, those of all lines but the last. `split-same`: two ways of splitting the same
-- bytes hand out the same. `refusal-repeated`, `ended-first`: what a later call answers.
use Rattle.std.specs.Prelude.{ℕ, ◌≤◌, ◌≡◌, refl, List, ◌∷◌, length, Result, Ok, Err, ⊤}
use Rattle.std.proofs.Math.Path.{ap}
use Rattle.std.proofs.Common.{◌∙◌}
use Rattle.refusal.specs.declared.Refusal.{Refusal}
use Rattle.refusal.specs.Numbers.{numbers_of}
use Rattle.refusal.specs.declared.Numbers as refused
use Rattle.refusal.specs.declared.Refusal.TheVariants.{AlreadyEnded}
use Rattle.lines.specs.Feeding.{joined}
use Rattle.table.specs.Numbers.{numbers_in, with_numbers}
use Rattle.table.specs.Rows.{row_count}
use Rattle.table.specs.Fill.{Found}
use Rattle.fitting.specs.declared.Rule.{Rule}
use Rattle.fitting.specs.Rules.{rows_in}
use Rattle.output.specs.Outcome.{Outcome}
use Rattle.feeder.specs.declared.Phase.{Phase}
use Rattle.feeder.specs.declared.Phase.TheVariants.{Definition, Lines, Halted, Ended}
use Rattle.feeder.specs.declared.Feeder.{Feeder}
use Rattle.feeder.specs.Machine.{Filling}
use Rattle.feeder.specs.Calls.{limit, begun_by, refused_by, With, with, piece_of, end_of, refusal_in}
use Rattle.feeder.specs.Split.{all_pieces, judged_so_far}
use Rattle.feeder.specs.Split as split
use Rattle.feeder.specs.Whole.{stop_numbers}
use Rattle.feeder.specs.Ends as ends
use Rattle.wakeluri.specs.declared.answer.Answer.{Answer}
use Rattle.wakeluri.specs.declared.feeding.Feed.{Feed}
use Rattle.wakeluri.specs.Answer.{filled_answer}
use Rattle.wakeluri.specs.Told.{filled_told}
use Rattle.wakeluri.specs.Feeding.{rule_by, lines_told, feeder_by, feed_in, feed_told, call_told, feeder-back}

-- ---- what a host gets

-- a refusal, and a count of rows
pub record Tells (a : Feed) (n : refused.Numbers) (count : ℕ) : Type 0 where
  pub refusal : a.refusal ≡ n.refusal
  pub first : a.first ≡ n.first
  pub second : a.second ≡ n.second
  pub rows : a.rows ≡ count

-- what a call on the whole file answers, and leaves
pub record AsWhole (fed : Outcome Feed) (whole : Outcome Answer) : Type 0 where
  pub refusal : fed.answer.refusal ≡ whole.answer.refusal
  pub first : fed.answer.first ≡ whole.answer.first
  pub second : fed.answer.second ≡ whole.answer.second
  pub count : fed.answer.rows ≡ whole.answer.count
  pub table : fed.output ≡ whole.output

-- a feeder's state as it is handed out has the refusal that stands, and the rows
feed-tells : (f : Feeder) → Tells (feed_told f) (refusal_in f.phase) f.rows
unfolding feed_told refusal_in lines_told
feed-tells f = go f.phase
  where
    go : (p : Phase) → Tells (feed_in f p) (refusal_in p) f.rows
    go (Definition at) = record { refusal = refl; first = refl; second = refl; rows = refl }
    go (Lines d t z) = record { refusal = refl; first = refl; second = refl; rows = refl }
    go (Halted n) = record { refusal = refl; first = refl; second = refl; rows = refl }
    go Ended = record { refusal = refl; first = refl; second = refl; rows = refl }

filled-tells : (rows : ℕ) (s : Result ⊤ Refusal)
    → ((stop_numbers s).refusal ≡ (filled_answer rows s).refusal) × ((stop_numbers s).first ≡ (filled_answer rows s).first) × ((stop_numbers s).second ≡ (filled_answer rows s).second) × (rows ≡ (filled_answer rows s).count)
unfolding stop_numbers filled_answer
filled-tells rows (Ok tt) = (refl, refl, refl, refl)
filled-tells rows (Err f) = (refl, refl, refl, refl)

-- ---- the calls, one after another

-- a state that is handed out is the feeder, when it comes back
pub handed-back : (w : With) (t : List ℕ) → feeder_by (call_told w t).answer ≡ w.feeder
unfolding call_told
handed-back w t = feeder-back w.feeder

module _ (complete : ℕ) (table : List ℕ) where
  abbrev rule : Rule
  rule = rule_by complete

  -- from the start, with some pieces
  abbrev pub fed : List (List ℕ) → With
  fed ps = all_pieces (with (begun_by rule) (numbers_in table)) ps

  -- what the last piece's call hands out, and the end's
  abbrev pub piece_told : List (List ℕ) → Outcome Feed
  piece_told ps = call_told (fed ps) table

  abbrev pub end_told : List (List ℕ) → Outcome Feed
  end_told ps = call_told (end_of (fed ps).feeder (fed ps).table) table

  whole-as : (f : Found) (w : With) → ends.WholeTold f (numbers_in table) w → AsWhole (call_told w table) (filled_told f table)
  unfolding call_told filled_told
  whole-as f w o =
      let a = feed-tells w.feeder in
      let b = filled-tells (length f.rows) f.stop in
      record {
        refusal = a.refusal ∙ ap (λ (n : refused.Numbers). n.refusal) o.refusal ∙ b.0;
        first = a.first ∙ ap (λ (n : refused.Numbers). n.first) o.refusal ∙ b.1;
        second = a.second ∙ ap (λ (n : refused.Numbers). n.second) o.refusal ∙ b.2;
        count = a.rows ∙ o.rows ∙ b.3;
        table = ap (with_numbers table) o.table;
      }

  pub fed-whole : (ps : List (List ℕ)) → length (joined ps) ≤ limit → AsWhole (end_told ps) (filled_told (rows_in rule (joined ps) (row_count (numbers_in table))) table)
  fed-whole ps h = whole-as _ (end_of (fed ps).feeder (fed ps).table) (ends.fed-whole rule (numbers_in table) ps h)

  -- before the end
  pub record ToldSoFar (fed : Outcome Feed) (st : Filling) : Type 0 where
    pub told : Tells fed.answer (refusal_in st.phase) st.rows
    pub output : fed.output ≡ with_numbers table st.table

  pub fed-told : (ps : List (List ℕ)) → length (joined ps) ≤ limit → ToldSoFar (piece_told ps) (judged_so_far rule (numbers_in table) (joined ps))
  unfolding call_told
  fed-told ps h =
      let o = split.fed-told rule (numbers_in table) ps h in
      let a = feed-tells (fed ps).feeder in
      record {
        told =
            record {
              refusal = a.refusal ∙ ap (λ (n : refused.Numbers). n.refusal) o.refusal;
              first = a.first ∙ ap (λ (n : refused.Numbers). n.first) o.refusal;
              second = a.second ∙ ap (λ (n : refused.Numbers). n.second) o.refusal;
              rows = a.rows ∙ o.rows;
            };
        output = ap (with_numbers table) o.table;
      }

  -- two ways of splitting
  pub split-same : (ps qs : List (List ℕ)) → joined ps ≡ joined qs → length (joined ps) ≤ limit → piece_told ps ≡ piece_told qs
  split-same ps qs e h = ap (λ (w : With). call_told w table) (split.split-same rule (numbers_in table) ps qs e h)

-- ---- a later call, with any bytes and any table

module _ (feed : Feed) (table : List ℕ) where
  -- behind a refusal
  pub refusal-repeated : (n : refused.Numbers) → (feeder_by feed).phase ≡ Halted n → (p : List ℕ)
      → (call_told (piece_of (feeder_by feed) p (numbers_in table)) table ≡ call_told (with (feeder_by feed) (numbers_in table)) table)
      × (call_told (end_of (feeder_by feed) (numbers_in table)) table ≡ call_told (with (feeder_by feed) (numbers_in table)) table)
  refusal-repeated n e p =
      let o = split.stays-refused (feeder_by feed) n p (numbers_in table) e in
      (ap (λ (w : With). call_told w table) o.0, ap (λ (w : With). call_told w table) o.1)

  -- behind a good end: 26, whatever the bytes, and for a second end
  ended-tells : (w : With) → w ≡ with (refused_by (feeder_by feed) AlreadyEnded) (numbers_in table) → Tells (call_told w table).answer (numbers_of AlreadyEnded) (feeder_by feed).rows
  unfolding call_told refusal_in
  ended-tells w e = rw e (feed-tells (refused_by (feeder_by feed) AlreadyEnded))

  pub ended-first : (feeder_by feed).phase ≡ Ended → (c : ℕ) (p : List ℕ)
      → Tells (call_told (piece_of (feeder_by feed) (c ∷ p) (numbers_in table)) table).answer (numbers_of AlreadyEnded) (feeder_by feed).rows
      × Tells (call_told (end_of (feeder_by feed) (numbers_in table)) table).answer (numbers_of AlreadyEnded) (feeder_by feed).rows
  ended-first e c p =
      let o = split.ended-refused (feeder_by feed) c p (numbers_in table) e in
      (ended-tells (piece_of (feeder_by feed) (c ∷ p) (numbers_in table)) o.0, ended-tells (end_of (feeder_by feed) (numbers_in table)) o.1)
