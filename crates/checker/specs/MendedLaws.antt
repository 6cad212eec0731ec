-- Laws for Mended.antt: the records of a file with one base replaced. Every base stays where it was.
use Rattle.std.specs.Prelude.{ℕ, zero, suc, ◌+◌, ◌-◌, ◌<◌, ◌≡◌, refl, List, [], ◌∷◌, Bool, true, false, cond, length, take, drop, set, eqb}
use Rattle.std.proofs.Math.Path.{ap}
use Rattle.std.proofs.Common.{sym, ◌∙◌, length-set, get_or-set_same, get_or-set_other, get_or-drop, eqb-true, zero-add}
use Rattle.std.proofs.Math.ListN.{get_or}
use Rattle.std.proofs.lemmas.Bool.{eqb-false}
use native.Mathlib.Omega.{arith}
use Rattle.lines.specs.Lines.{lines, begins, seq_of, seq_at, all_bases, sum_bases, sum_widths, bases_at}
use Rattle.lines.specs.Groups.{Group, groups}
use Rattle.lines.specs.GroupLaws.{after_seq, groups-cut}
use Rattle.lines.specs.Mending.{set_in, set-later, lines-set, widths-set, BaseOf, base-byte-within, sums-set, places-set, bases-changed, seq-set, after-set, past-set, base-seq, base-no-lf}
use Rattle.record.specs.Bases.{byte_at}
use Rattle.record.specs.EvenLines.{length-all_bases}
use Rattle.record.specs.BasePlaces.{place-from, base-of}
use Rattle.checker.specs.Accepts.{bytes_of, record_at, sequence_at, Matches}
use Rattle.checker.specs.Sequences.{sequence-here, base-here}
use Rattle.checker.specs.Mend.{BaseAt, Plain, mended_at}

-- ---- the records of some lines, with one byte of a sequence replaced

-- behind a sequence there is a '>' before the next one
past-start : (ls : List (List ℕ)) (k : ℕ) → k < length (groups (after_seq ls)) → 0 < sequence_at (groups (after_seq ls)) k
unfolding after_seq
past-start [] k h = absurd (unfold groups in omega arith)
past-start (l ∷ ls) k h = go (begins l) refl h (past-start ls k)
  where
    some : (l : List ℕ) → begins l ≡ true → 0 < length l
    some [] e = let z : ◌≡◌ {A = ℕ} 0 1 = cc in absurd (omega arith)
    some (x ∷ l) e = omega arith

    here : (k : ℕ) (g : Group) (gs : List Group) → 0 < length g.def → 0 < sequence_at (g ∷ gs) k
    here zero g gs z = unfold bytes_of in omega arith
    here (suc k) g gs z = unfold bytes_of in omega arith

    go : (t : Bool) → begins l ≡ t → k < length (groups (cond t (l ∷ ls) (after_seq ls))) → (k < length (groups (after_seq ls)) → 0 < sequence_at (groups (after_seq ls)) k)
        → 0 < sequence_at (groups (cond t (l ∷ ls) (after_seq ls))) k
    go true e m r = rw (groups-cut l ls) (here k _ _ (some l e))
    go false e m r = r m

pub groups-set : (k : ℕ) (ls : List (List ℕ)) (c b : ℕ) → (b ≡ 62 → ⊥) → k < length (groups ls) → c < sum_widths (record_at (groups ls) k).seq
    → groups (set_in ls (sequence_at (groups ls) k + c) b) ≡ set (groups ls) k (mended_at (record_at (groups ls) k) c b)
unfolding bytes_of
groups-set zero [] c b n h m = absurd (unfold groups in omega arith)
groups-set zero (l ∷ ls) c b n h m =
    let w : c < sum_widths (seq_of ls) = rw (groups-cut l ls) at m in
    rw (groups-cut l ls, zero-add (length l), set-later l ls c b, groups-cut l (set_in ls c b), seq-set b n ls c w, after-set b n ls c w)
groups-set (suc k) [] c b n h m = absurd (unfold groups in omega arith)
groups-set (suc k) (l ∷ ls) c b n h m =
    let i : k < length (groups (after_seq ls)) = omega (arith, ap length (groups-cut l ls)) in
    let w : c < sum_widths (record_at (groups (after_seq ls)) k).seq = rw (groups-cut l ls) at m in
    let p = past-set b (sequence_at (groups (after_seq ls)) k + c) (omega (arith, past-start ls k i)) ls in
    rw (
      groups-cut l ls,
      q,
      set-later l ls (sum_widths (seq_of ls) + (sequence_at (groups (after_seq ls)) k + c)) b,
      groups-cut l (set_in ls (sum_widths (seq_of ls) + (sequence_at (groups (after_seq ls)) k + c)) b),
      p.0,
      p.1,
      groups-set k (after_seq ls) c b n i w,
    )
  where
    q : sequence_at (record { def = l; seq = seq_of ls } ∷ groups (after_seq ls)) (suc k) + c ≡ length l + (sum_widths (seq_of ls) + (sequence_at (groups (after_seq ls)) k + c))
    q = omega arith

-- ---- the records of a file

-- what replacing the byte at an offset by b makes of a file whose base j + 1 of record k is there
pub record Mended (f : List ℕ) (k j o b : ℕ) : Type 0 where
  -- the byte's number in the sequence lines of record k
  pub byte : ℕ
  pub here : o ≡ sequence_at (groups (lines f)) k + byte
  pub base : BaseOf (record_at (groups (lines f)) k).seq byte j
  -- only record k is another
  pub records : groups (lines (set f o b)) ≡ set (groups (lines f)) k (mended_at (record_at (groups (lines f)) k) byte b)

pub mended : (f : List ℕ) (k j o b : ℕ) → BaseAt f k j o → Plain b → Mended f k j o b
mended f k j o b x p =
    record {
      byte = o - sequence_at (groups (lines f)) k;
      here = q;
      base = r;
      records =
          lines-records
          ∙ ap (λ (n : ℕ). groups (set_in (lines f) n b)) q
          ∙ groups-set k (lines f) (o - sequence_at (groups (lines f)) k) b p.no_start x.record' (base-byte-within r);
    }
  where
    q : o ≡ sequence_at (groups (lines f)) k + (o - sequence_at (groups (lines f)) k)
    q = omega (arith, place-from (record_at (groups (lines f)) k).seq (sequence_at (groups (lines f)) k) j x.base, x.place)

    r : BaseOf (record_at (groups (lines f)) k).seq (o - sequence_at (groups (lines f)) k) j
    r = base-of (record_at (groups (lines f)) k).seq (sequence_at (groups (lines f)) k) j (o - sequence_at (groups (lines f)) k) x.base (x.place ∙ q)

    no-lf : get_or f o 0 ≡ 10 → ⊥
    no-lf e =
        let s : BaseOf (seq_at f (sequence_at (groups (lines f)) k)) (o - sequence_at (groups (lines f)) k) j = rw (sequence-here f k x.record') r in
        base-no-lf (drop (sequence_at (groups (lines f)) k) f) (o - sequence_at (groups (lines f)) k) j (base-seq (lines (drop (sequence_at (groups (lines f)) k) f)) _ j (unfold seq_at in s))
        (get_or-drop (sequence_at (groups (lines f)) k) f (o - sequence_at (groups (lines f)) k) 0 ∙ ap (λ (n : ℕ). get_or f n 0) (sym q) ∙ e)

    lines-records : groups (lines (set f o b)) ≡ groups (set_in (lines f) o b)
    lines-records = ap groups (lines-set f o b (λ h. no-lf) p.no-lf)

-- ---- an index is accepted still

-- records of the same sizes stand where those did
bytes_same : (gs : List Group) (k : ℕ) (g : Group) → length g.def + sum_widths g.seq ≡ length (record_at gs k).def + sum_widths (record_at gs k).seq
    → (r : ℕ) → bytes_of (take r (set gs k g)) ≡ bytes_of (take r gs)
unfolding bytes_of
bytes_same [] k g h r = refl
bytes_same (y ∷ gs) k g h zero = refl
bytes_same (y ∷ gs) zero g h (suc r) = omega arith
bytes_same (y ∷ gs) (suc k) g h (suc r) = rw (bytes_same gs k g h r)

-- two records have the same definition line, and as many bases, which lie alike wherever the sequence begins
pub record SamePlaces (g h : Group) : Type 0 where
  pub def : h.def ≡ g.def
  pub count : sum_bases h.seq ≡ sum_bases g.seq
  pub places : (at : ℕ) → bases_at at h.seq ≡ bases_at at g.seq

-- what matches the one matches the other
pub matches-same : {n start : ℕ} {g h : Group} {l : List ℕ} → SamePlaces g h → Matches n start g l → Matches n start h l
matches-same {n} {start} {g} {h} {l} s m =
    record {
      both = record { said = m.both.said; defined = rw s.def m.both.defined; entry = m.both.entry; reads = m.both.reads };
      name = rw s.def m.name;
      count = rw s.count m.count;
      places = λ j q. rw (s.places start) (m.places j (rw s.count at q));
    }

module _ (f : List ℕ) (k j o b : ℕ) (x : BaseAt f k j o) (p : Plain b) where
  -- the records afterwards: as many, the other ones as they were, in record k one base another, every base where it was
  pub records-count : length (groups (lines (set f o b))) ≡ length (groups (lines f))
  records-count = let m = mended f k j o b x p in rw m.records (length-set (groups (lines f)) k _)

  pub record-other : (r : ℕ) → (r ≡ k → ⊥) → record_at (groups (lines (set f o b))) r ≡ record_at (groups (lines f)) r
  record-other r n = let m = mended f k j o b x p in rw m.records (get_or-set_other (groups (lines f)) k r _ _ n)

  record-here : record_at (groups (lines (set f o b))) k ≡ mended_at (record_at (groups (lines f)) k) (mended f k j o b x p).byte b
  record-here = let m = mended f k j o b x p in rw m.records (get_or-set_same (groups (lines f)) k _ _ x.record')

  pub bases-here : all_bases (record_at (groups (lines (set f o b))) k).seq ≡ set (all_bases (record_at (groups (lines f)) k).seq) j b
  bases-here = rw record-here (bases-changed b p.no-lf p.no-cr (mended f k j o b x p).base)

  pub record_same : (r : ℕ) → SamePlaces (record_at (groups (lines f)) r) (record_at (groups (lines (set f o b))) r)
  record_same r = go (eqb r k) refl
    where
      go : (t : Bool) → eqb r k ≡ t → SamePlaces (record_at (groups (lines f)) r) (record_at (groups (lines (set f o b))) r)
      go true e =
          let m = mended f k j o b x p in
          rw (eqb-true r k e, record-here) (record { def = refl; count = sums-set b p.no-lf p.no-cr m.base; places = places-set b p.no-lf p.no-cr m.base })
      go false e = rw (record-other r (eqb-false r k e)) (record { def = refl; count = refl; places = λ at. refl })

  pub sequence-same : (r : ℕ) → sequence_at (groups (lines (set f o b))) r ≡ sequence_at (groups (lines f)) r
  sequence-same r =
      let m = mended f k j o b x p in
      rw ((record_same r).def, m.records, bytes_same (groups (lines f)) k (mended_at (record_at (groups (lines f)) k) m.byte b) (rw (widths-set (record_at (groups (lines f)) k).seq m.byte b)) r)

  pub place_same : (r i : ℕ) → get_or (bases_at (sequence_at (groups (lines (set f o b))) r) (record_at (groups (lines (set f o b))) r).seq) i 0
      ≡ get_or (bases_at (sequence_at (groups (lines f)) r) (record_at (groups (lines f)) r).seq) i 0
  place_same r i = rw (sequence-same r, (record_same r).places (sequence_at (groups (lines f)) r))

  -- so the byte at the place of a base is the one it was, but for that base
  pub byte-here : byte_at (set f o b) (get_or (bases_at (sequence_at (groups (lines f)) k) (record_at (groups (lines f)) k).seq) j 0) ≡ b
  byte-here =
      ap (byte_at (set f o b)) (sym (place_same k j))
      ∙ base-here (set f o b) k (rw records-count x.record') j (rw (record_same k).count x.base)
      ∙ ap (λ (bs : List ℕ). get_or bs j 0) bases-here
      ∙ get_or-set_same (all_bases (record_at (groups (lines f)) k).seq) j b 0 (omega (arith, length-all_bases (record_at (groups (lines f)) k).seq, x.base))

  pub byte-other : (r i : ℕ) → r < length (groups (lines f)) → i < sum_bases (record_at (groups (lines f)) r).seq → (r ≡ k → i ≡ j → ⊥)
      → byte_at (set f o b) (get_or (bases_at (sequence_at (groups (lines f)) r) (record_at (groups (lines f)) r).seq) i 0)
      ≡ byte_at f (get_or (bases_at (sequence_at (groups (lines f)) r) (record_at (groups (lines f)) r).seq) i 0)
  byte-other r i h m n =
      ap (byte_at (set f o b)) (sym (place_same r i))
      ∙ base-here (set f o b) r (rw records-count h) i (rw (record_same r).count m)
      ∙ go (eqb r k) refl
      ∙ sym (base-here f r h i m)
    where
      go : (t : Bool) → eqb r k ≡ t → get_or (all_bases (record_at (groups (lines (set f o b))) r).seq) i 0 ≡ get_or (all_bases (record_at (groups (lines f)) r).seq) i 0
      go true e =
          let q : r ≡ k = eqb-true r k e in
          rw (q, bases-here) (get_or-set_other (all_bases (record_at (groups (lines f)) k).seq) j i b 0 (n q))
      go false e = rw (record-other r (eqb-false r k e))
