-- A record in pieces: bases that fill whole lines, and then more, are written one behind the other as all of them are at once. So a record of
-- any size is written with a small output: `write_record` with the first bases, and `write_sequence` with those that follow.
use Rattle.std.specs.Prelude.{ℕ, zero, suc, ◌*◌, ◌<◌, ◌≤◌, ◌≡◌, refl, List, [], ◌∷◌, ◌++◌, Bool, length, take, drop}
use Rattle.std.proofs.Common.{append_assoc, length-append, length-drop, arith}
use Rattle.std.proofs.lemmas.List.{take-append-le, drop-append-le}
use Rattle.writer.specs.Text.{line_of, sequence_text, record_text}
use Rattle.writer.specs.Laws.{text-none, text-step}

-- k whole lines, and more bases behind them
pub sequence-joins : (w : ℕ) → 0 < w → (k : ℕ) (a b : List ℕ) → length a ≡ k * w → sequence_text w (a ++ b) ≡ sequence_text w a ++ sequence_text w b
sequence-joins w h zero [] b e = rw (text-none w [] refl)
sequence-joins w h zero (x ∷ a) b e = absurd (omega arith)
sequence-joins w h (suc k) a b e =
    let some : w ≤ length a = omega arith in
    let rest = sequence-joins w h k (drop w a) b (omega (arith, length-drop w a)) in
    rw (
      text-step w h (a ++ b) (omega (arith, length-append a b)),
      take-append-le w a b some,
      drop-append-le w a b some,
      rest,
      text-step w h a (omega arith),
      append_assoc (line_of (take w a)) (sequence_text w (drop w a)) (sequence_text w b),
    )

-- the same behind a definition line
pub record-joins : (name : List ℕ) (t : Bool) (d : List ℕ) (w : ℕ) → 0 < w → (k : ℕ) (a b : List ℕ) → length a ≡ k * w
    → record_text name t d (a ++ b) w ≡ record_text name t d a w ++ sequence_text w b
unfolding record_text
record-joins name t d w h k a b e = rw (sequence-joins w h k a b e, append_assoc)
