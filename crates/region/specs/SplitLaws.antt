-- Laws for Split.antt: a look-up, and then any read of the row that it gives.
use Rattle.std.specs.Prelude.{ℕ, ◌≡◌, List, false, length, Option, Result, Ok, Err}
use Rattle.std.proofs.Common.{◌∙◌}
use Rattle.record.specs.declared.Position.{Position}
use Rattle.refusal.specs.Numbers.{over_limit}
use Rattle.refusal.specs.declared.Refusal.{Refusal}
use Rattle.record.specs.declared.Record.{Record}
use Rattle.table.specs.Rows.{held_at}
use Rattle.table.specs.RowLaws.{named-known}
use Rattle.index.specs.Find.{row_read}
use Rattle.index.specs.FirstNamed.{wins-only-if}
use Rattle.output.specs.Outcome.{Outcome, refuses}
use Rattle.region.specs.Refusals.{ReadRefuses, look-up-refuses}
use Rattle.region.specs.ByName.{row_for, read_found, Split, Small}

module _ (s names t : List ℕ) (u : ℕ) (name : List ℕ) (a e : Option Position) (out : List ℕ) where
  row-for : over_limit (length s) ≡ false → row_for (length s) names t u name ≡ row_read names t u name
  unfolding row_for
  row-for h = rw h

  read-refused : (d : Result ℕ Refusal) (second : ℕ → Outcome (Result ℕ Refusal)) (f : Refusal) → d ≡ Err f → read_found d second out ≡ refuses f out
  unfolding read_found
  read-refused d second f q = rw q

  read-row : (d : Result ℕ Refusal) (second : ℕ → Outcome (Result ℕ Refusal)) (r : ℕ) → d ≡ Ok r → read_found d second out ≡ second r
  unfolding read_found
  read-row d second r q = rw q

  -- a row that is found is sound
  found-sound : (r : ℕ) → row_read names t u name ≡ Ok r → (x : Record) × (held_at t u r ≡ Ok x)
  found-sound r q = let w = (wins-only-if names t u name r q).is-first.here in (w.row, (named-known t u r (length names) w.row w.sound).0)

  module _ (small : Small s names name) where
    pub split : (second : ℕ → Outcome (Result ℕ Refusal)) → ((r : ℕ) (x : Record) → held_at t u r ≡ Ok x → ReadRefuses (second r))
        → Split (read_found (row_for (length s) names t u name) second out) (row_read names t u name) second out
    split second refuse =
        let same = row-for small.file in
        record {
          refused = λ f q. (look-up-refuses names t u name f small.rows small.wanted q, read-refused _ second f (same ∙ q));
          read = λ r q. (read-row _ second r (same ∙ q), let x = found-sound r q in refuse r x.0 x.1);
        }
