-- Laws of copies.
use Rattle.std.specs.Prelude.{ℕ, ◌+◌, ◌-◌, ◌≤◌, min, ◌≡◌, List, ◌++◌, length, take, drop}
use Rattle.std.proofs.Common.{ap, sym, append_assoc, drop_of_length-le, length-drop, drop-drop, take_all, arith}
use Rattle.std.proofs.Math.Seq.{paste}
use Rattle.copying.specs.Copied.{after_copy}

-- as many bytes as are there and have room
pub copy-fitting : (out : List ℕ) (to : ℕ) (s : List ℕ) (start n : ℕ) (after : List ℕ) (count : ℕ) → count ≡ min n (min (length s - start) (length out - to)) → after ≡ paste out to (drop start s) count
    → after ≡ after_copy out to (drop start s) n
unfolding after_copy
copy-fitting out to s start n after count e h = rw (length-drop start s, ← e) h

-- where all n bytes are there and have room, all are copied
pub copy-whole : (out : List ℕ) (to : ℕ) (s : List ℕ) (start n : ℕ) → start + n ≤ length s → to + n ≤ length out
    → after_copy out to (drop start s) n ≡ paste out to (drop start s) n
unfolding after_copy
copy-whole out to s start n h r = ap (paste out to (drop start s)) fits
  where
    fits : min n (min (length (drop start s)) (length out - to)) ≡ n
    fits = simp length-drop (omega arith)

-- a place that is cut where the bytes end
take-cut : (l : List ℕ) (i j : ℕ) → i ≡ min j (length l) → take i l ≡ take j l
take-cut l i j e = grind (arith, take_all)

drop-cut : (l : List ℕ) (i j : ℕ) → i ≡ min j (length l) → drop i l ≡ drop j l
drop-cut l i j e = grind (arith, drop_of_length-le)

-- both places are cut where the bytes end, and then no more is copied than is behind them
pub copy-cut : (out : List ℕ) (to : ℕ) (s : List ℕ) (start n first place count : ℕ) → first ≡ min start (length s) → place ≡ min to (length out)
    → count ≡ min n (min (length s - first) (length out - place)) → take place out ++ (take count (drop first s) ++ drop count (drop place out)) ≡ after_copy out to (drop start s) n
copy-cut out to s start n first place count e f g =
    copy-fitting out to s start n _ count (omega arith)
    (rw (take-cut out place to f, drop-cut out place to f, drop-drop count to out, drop-cut s first start e) (sym (append_assoc (take to out) (take count (drop start s)) (drop (to + count) out))))
