-- Laws for Reads.antt: the bytes of a record's bases, and the exact read of a row that is about a record.
use Rattle.std.specs.Prelude.{ℕ, zero, suc, ◌+◌, ◌-◌, ◌≤◌, ◌<◌, ◌≡◌, refl, List, [], ◌∷◌, ◌++◌, map, Bool, true, false, length, take, drop, get_or, ltb, Option, Ok}
use Rattle.std.proofs.Common.{ap, sym, ◌∙◌, length-drop, length-append, ext_get_or, get_or-take, get_or-drop, length-take-le, get_or-append-add, ltb-true, ltb-false, arith}
use Rattle.std.proofs.Math.ListN.{get_or-append}
use Rattle.std.proofs.Math.Seq.{take-nil}
use Rattle.record.specs.declared.Position.{Position}
use Rattle.lines.specs.Lines.{chop, bases_of, seq_at, all_bases, sum_bases, sum_widths, up_from, bases_at}
use Rattle.lines.specs.Laws.{chop-le}
use Rattle.lines.specs.Sums.{widths-within}
use Rattle.record.specs.declared.Record.{Record}
use Rattle.record.specs.Place.{place_in}
use Rattle.record.specs.Bases.{byte_at, bases-bytes}
use Rattle.record.specs.EvenLines.{length-up_from, get_or-up_from, length-bases_at}
use Rattle.record.specs.Laws.{length-places, get_or-places}
use Rattle.output.specs.Outcome.{leaves}
use Rattle.region.specs.Region.{start_of, end_of, bases_to}
use Rattle.region.specs.Exact.{offsets_of, exact_of}
use Rattle.region.specs.Laws.{good-bounds}
use Rattle.region.specs.Dependence.{exact-reads}
use Rattle.checker.specs.Accepts.{record_at, sequence_at}
use Rattle.checker.specs.Sequences.{sequence-here, sequence-inside}
use Rattle.mission.specs.TableOf.{record_count, base_count, RowOf}
use Rattle.mission.specs.Asked.{bases_between, last_of, asked_count, Asked, gives_asked}
use Rattle.lines.specs.Lines.{lines}
use Rattle.lines.specs.Groups.{groups}

-- ---- the bytes of a record's bases

-- a list by its elements, from a place on
pub taken-same : (xs ys : List ℕ) (i n : ℕ) → i + n ≤ length ys → length xs ≡ n → ((k : ℕ) → k < n → get_or xs k 0 ≡ get_or ys (i + k) 0) → xs ≡ take n (drop i ys)
taken-same xs ys i n h l e =
    ext_get_or 0 xs (take n (drop i ys)) (l ∙ sym (length-take-le n (drop i ys) (omega (arith, length-drop i ys))))
    (λ k m. e k (omega arith) ∙ sym (get_or-take n (drop i ys) k 0 (omega arith) ∙ get_or-drop i ys k 0))

-- the map of a part is a part of the map
pub map-part : (f : ℕ → ℕ) (i n : ℕ) (xs : List ℕ) → map f (take n (drop i xs)) ≡ take n (drop i (map f xs))
map-part f zero zero xs = refl
map-part f zero (suc n) [] = refl
map-part f zero (suc n) (x ∷ xs) = ap (λ (k : List ℕ). f x ∷ k) (map-part f zero n xs)
map-part f (suc i) n [] = rw (take-nil {A = ℕ} n)
map-part f (suc i) n (x ∷ xs) = map-part f i n xs

-- every base of some lines lies in them
pub bases-below : (ls : List (List ℕ)) (at j : ℕ) → j < length (bases_at at ls) → get_or (bases_at at ls) j 0 < at + sum_widths ls
unfolding bases_at sum_widths
bases-below [] at j h = absurd (omega arith)
bases-below (l ∷ ls) at j h = go (ltb j n) refl (bases-below ls (at + length l) (j - n))
  where
    n : ℕ
    n = length (bases_of l)

    short : length (bases_of l) ≤ length l
    short = omega (arith, chop-le 13 (chop 10 l), chop-le 10 l)

    whole : length (up_from at (length (bases_of l)) ++ bases_at (at + length l) ls) ≡ length (bases_of l) + length (bases_at (at + length l) ls)
    whole = length-append (up_from at (length (bases_of l))) (bases_at (at + length l) ls) ∙ rw (length-up_from at (length (bases_of l)))

    go : (t : Bool) → ltb j (length (bases_of l)) ≡ t
        → (j - length (bases_of l) < length (bases_at (at + length l) ls) → get_or (bases_at (at + length l) ls) (j - length (bases_of l)) 0 < at + length l + sum_widths ls)
        → get_or (up_from at (length (bases_of l)) ++ bases_at (at + length l) ls) j 0 < at + (length l + sum_widths ls)
    go true e r =
        let k : j < length (bases_of l) = ltb-true _ _ e in
        let q : get_or (up_from at (length (bases_of l)) ++ bases_at (at + length l) ls) j 0 ≡ at + j =
        get_or-append (up_from at (length (bases_of l))) (bases_at (at + length l) ls) 0 j (omega (arith, length-up_from at (length (bases_of l)))) ∙ get_or-up_from at (length (bases_of l)) j k in
        rw q (omega (arith, short))
    go false e r =
        let k : length (bases_of l) ≤ j = ltb-false _ _ e in
        let i : length (up_from at (length (bases_of l))) + (j - length (bases_of l)) ≡ j = omega (arith, length-up_from at (length (bases_of l))) in
        let q : get_or (up_from at (length (bases_of l)) ++ bases_at (at + length l) ls) j 0 ≡ get_or (bases_at (at + length l) ls) (j - length (bases_of l)) 0 =
        ap (λ (m : ℕ). get_or (up_from at (length (bases_of l)) ++ bases_at (at + length l) ls) m 0) (sym i)
        ∙ get_or-append-add (up_from at (length (bases_of l))) (bases_at (at + length l) ls) (j - length (bases_of l)) 0 in
        rw q (omega (arith, r (omega (arith, whole, h))))

-- the bytes at some offsets that are those of bases in a row
module _ (f : List ℕ) (at : ℕ) (ls : List (List ℕ)) (h : at ≤ length f) (q : seq_at f at ≡ ls) where
  pub base-inside : (j : ℕ) → j < sum_bases ls → get_or (bases_at at ls) j 0 < length f
  base-inside j m = omega (arith, bases-below ls at j (omega (arith, length-bases_at at ls)), rw q at (widths-within f at h))

  pub bases-part : (os : List ℕ) (i n : ℕ) → i + n ≤ sum_bases ls → length os ≡ n → ((k : ℕ) → k < n → get_or os k 0 ≡ get_or (bases_at at ls) (i + k) 0)
      → map (byte_at f) os ≡ take n (drop i (all_bases ls))
  bases-part os i n m l e =
      ap (map (byte_at f)) (taken-same os (bases_at at ls) i n (omega (arith, length-bases_at at ls)) l e)
      ∙ map-part (byte_at f) i n (bases_at at ls)
      ∙ ap (λ (xs : List ℕ). take n (drop i xs)) (bases-bytes f ls at h q)

-- ---- a row that is about record r of a file

module _ (f : List ℕ) (r : ℕ) (h : r < record_count f) (x : Record) (about : RowOf f r x) where
  -- its bases from a to e lie in the file, and their bytes are the record's bases
  module _ (a e : ℕ) (from_one : 1 ≤ a) (in_order : a ≤ e) (inside : e ≤ base_count f r) where
    in-file : (p : ℕ) → a ≤ p → p ≤ e → place_in x (p - 1) < length f
    in-file p u v =
        let j : p - 1 < base_count f r = omega arith in
        rw (about.places (p - 1) j) (base-inside f (sequence_at (groups (lines f)) r) (record_at (groups (lines f)) r).seq (sequence-inside f r h) (sequence-here f r h) (p - 1) j)

    bytes : map (byte_at f) (offsets_of x a (bases_to a e)) ≡ bases_between f r a e
    unfolding bases_between
    bytes =
        bases-part f (sequence_at (groups (lines f)) r) (record_at (groups (lines f)) r).seq (sequence-inside f r h) (sequence-here f r h)
        (offsets_of x a (bases_to a e)) (a - 1) (bases_to a e) (omega arith) (length-places _ _ _ (a - 1) (bases_to a e))
        (λ k m. get_or-places x.position.0 x.line_bases x.line_width (a - 1) (bases_to a e) k m ∙ about.places (a - 1 + k) (omega arith))

  -- so the exact read of it gives just those that are asked for
  pub row_reads : (a e : Option Position) (out : List ℕ) → Asked f r a e out → exact_of (length f) (byte_at f) (Ok x) a e out ≡ gives_asked f r a e out
  row_reads a e out q =
      let c : x.length ≡ base_count f r = about.count in
      let g = good-bounds a e (base_count f r) q.bounds in
      let o = g.in_order q.start in
      exact-reads (length f) (byte_at f) x a e out
      (record { bounds = q.bounds; start = rw c q.start; end = rw c q.end; room = rw c q.room; inside = rw c (in-file (start_of a) (last_of f r e) g.from_one o q.end) })
      ∙ ap (λ (n : ℕ). leaves (Ok (bases_to (start_of a) (end_of n e))) (map (byte_at f) (offsets_of x (start_of a) (bases_to (start_of a) (end_of n e))) ++ drop (bases_to (start_of a) (end_of n e)) out)) c
      ∙ ap (λ (bs : List ℕ). leaves (Ok (asked_count f r a e)) (bs ++ drop (asked_count f r a e) out)) (bytes (start_of a) (last_of f r e) g.from_one o q.end)
