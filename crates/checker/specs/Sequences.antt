-- Where the records of a file stand: the sequence of each is the sequence lines from its place on, and in an accepted pair the byte at
-- the place that a line's numbers give for a base is that base.
use Rattle.std.specs.Prelude.{ℕ, zero, suc, ◌+◌, ◌≤◌, ◌<◌, ◌≡◌, List, [], ◌∷◌, map, Bool, true, false, cond, length, drop, get_or}
use Rattle.std.proofs.Math.Path.{refl}
use Rattle.std.proofs.Common.{ap, sym, ◌∙◌, drop-drop, arith, zero-add}
use Rattle.lines.specs.Lines.{lines, begins, seq_of, seq_at, sum_bases, sum_widths, all_bases, bases_at}
use Rattle.lines.specs.Groups.{Group, attach, groups}
use Rattle.lines.specs.GroupLaws.{after_seq, groups-cut, lines-behind, lines_next}
use Rattle.record.specs.Place.{place_in}
use Rattle.record.specs.EvenLines.{length-bases_at}
use Rattle.record.specs.Bases.{byte_at, bases-bytes}
use Rattle.lines.specs.Sums.{widths-lines}
use Rattle.checker.specs.Accepts.{bytes_of, record_at, sequence_at, Matches}

-- record k of some groups, which are those of the lines from an offset on
sequence-from : (k : ℕ) (f : List ℕ) (at : ℕ) (ls : List (List ℕ)) → lines (drop at f) ≡ ls → k < length (groups ls) → seq_at f (at + sequence_at (groups ls) k) ≡ (record_at (groups ls) k).seq
unfolding bytes_of seq_at
sequence-from zero f at [] h m = absurd (unfold groups in omega arith)
sequence-from zero f at (l ∷ ls) h m = rw (groups-cut l ls, zero-add (length l), ← drop-drop (length l) at f, lines-behind (drop at f) l ls h)
sequence-from (suc k) f at [] h m = absurd (unfold groups in omega arith)
sequence-from (suc k) f at (l ∷ ls) h m =
    rw (groups-cut l ls)
    (ap (seq_at f) q ∙ sequence-from k f (at + length l + sum_widths (seq_of ls)) (after_seq ls) (lines_next f at l ls h) (omega (arith, ap length (groups-cut l ls))))
  where
    q : at + sequence_at (record { def = l; seq = seq_of ls } ∷ groups (after_seq ls)) (suc k) ≡ at + length l + sum_widths (seq_of ls) + sequence_at (groups (after_seq ls)) k
    q = omega arith

-- the sequence of record k of a file
pub sequence-here : (f : List ℕ) (k : ℕ) → k < length (groups (lines f)) → seq_at f (sequence_at (groups (lines f)) k) ≡ (record_at (groups (lines f)) k).seq
sequence-here f k m = rw zero-add at (sequence-from k f 0 (lines f) refl m)

-- records have all bytes of their lines
bytes-attach : (l : List ℕ) (gs : List Group) → bytes_of (attach l gs) ≡ length l + bytes_of gs
unfolding bytes_of sum_widths
bytes-attach l [] = omega arith
bytes-attach l (g ∷ gs) = go (begins g.def)
  where
    go : (t : Bool) → bytes_of (cond t (record { def = l; seq = [] } ∷ g ∷ gs) (record { def = l; seq = g.def ∷ g.seq } ∷ gs)) ≡ length l + bytes_of (g ∷ gs)
    go true = omega arith
    go false = omega arith

pub bytes-lines : (ls : List (List ℕ)) → bytes_of (groups ls) ≡ sum_widths ls
unfolding groups sum_widths
bytes-lines [] = unfold bytes_of in refl
bytes-lines (l ∷ ls) = bytes-attach l (groups ls) ∙ ap (λ (n : ℕ). length l + n) (bytes-lines ls)

sequence-within : (gs : List Group) (k : ℕ) → k < length gs → sequence_at gs k ≤ bytes_of gs
unfolding bytes_of
sequence-within [] k m = absurd (omega arith)
sequence-within (g ∷ gs) zero m = omega arith
sequence-within (g ∷ gs) (suc k) m = omega (arith, sequence-within gs k (omega arith))

pub sequence-inside : (f : List ℕ) (k : ℕ) → k < length (groups (lines f)) → sequence_at (groups (lines f)) k ≤ length f
sequence-inside f k m = omega (arith, sequence-within (groups (lines f)) k m, bytes-lines (lines f), widths-lines f)

-- the byte at the place of a base is that base
get_or-bytes : (f os : List ℕ) (j : ℕ) → j < length os → get_or (map (byte_at f) os) j 0 ≡ byte_at f (get_or os j 0)
get_or-bytes f [] j h = absurd (omega arith)
get_or-bytes f (o ∷ os) zero h = refl
get_or-bytes f (o ∷ os) (suc j) h = get_or-bytes f os j (omega arith)

pub base-here : (f : List ℕ) (k : ℕ) → k < length (groups (lines f)) → (j : ℕ) → j < sum_bases (record_at (groups (lines f)) k).seq
    → byte_at f (get_or (bases_at (sequence_at (groups (lines f)) k) (record_at (groups (lines f)) k).seq) j 0) ≡ get_or (all_bases (record_at (groups (lines f)) k).seq) j 0
base-here f k h j q =
    let start = sequence_at (groups (lines f)) k in
    let seq = (record_at (groups (lines f)) k).seq in
    sym (get_or-bytes f (bases_at start seq) j (rw length-bases_at q))
    ∙ ap (λ (bs : List ℕ). get_or bs j 0) (bases-bytes f seq start (sequence-inside f k h) (sequence-here f k h))

pub base-byte : (f : List ℕ) (k n : ℕ) (l : List ℕ) → k < length (groups (lines f)) → (m : Matches n (sequence_at (groups (lines f)) k) (record_at (groups (lines f)) k) l)
    → (j : ℕ) → j < sum_bases (record_at (groups (lines f)) k).seq → byte_at f (place_in m.both.entry.«record» j) ≡ get_or (all_bases (record_at (groups (lines f)) k).seq) j 0
base-byte f k n l h m j q = ap (byte_at f) (sym (m.places j q)) ∙ base-here f k h j q
