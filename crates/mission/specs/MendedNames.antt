-- The names of an indexer's rows are spans of the file itself. With a base of the file replaced (docs/RULES.md, R55) they have the same bytes (`names-kept`), so a
-- look-up in the mended file, with the same table, finds the same row (`look-up-kept`, `indexed-look-up`).
use Prim.Native.Nat.{ℕ, zero, suc, ◌+◌, ◌-◌, ◌≤◌, ◌<◌}
use Rattle.std.specs.Prelude.{◌≡◌, ◌⊎◌, List, [], ◌∷◌, Bool, true, false, length, take, drop, set, ltb, Result, Ok, Err}
use Rattle.std.proofs.Math.Path.{refl}
use Rattle.std.proofs.Common.{ap, sym, ◌∙◌, inl, inr, length-set, drop-set-lt, ltb-true, ltb-false, arith, zero-add}
use Rattle.std.proofs.lemmas.List.{drop-set-add, take-set-le}
use Rattle.refusal.specs.declared.Refusal.{Refusal}
use Rattle.lines.specs.Lines.{lines, sum_widths}
use Rattle.lines.specs.Groups.{Group, groups}
use Rattle.lines.specs.Mending.{base-byte-within}
use Rattle.definition.specs.Laws.{name-within}
use Rattle.record.specs.declared.Record.{Record}
use Rattle.table.specs.Rows.{row_count, with_rows, bad_row, held_at, named_at}
use Rattle.table.specs.RowLaws.{named-known, held-stored, held-unused, row_count-rows, sound-row}
use Rattle.index_line.specs.IndexLine.{name_in}
use Rattle.index.specs.Find.{named, judged, row_from, row_named, row_read}
use Rattle.indexer.specs.Index.{ported}
use Rattle.fitting.specs.Complete.{complete}
use Rattle.fitting.specs.Rules.{rows_by}
use Rattle.fitting.specs.declared.Rule.{Rule}
use Rattle.fitting.specs.declared.Rule.TheVariants.{Strict, Complete}
use Rattle.checker.specs.Accepts.{bytes_of, record_at, definition_at, sequence_at}
use Rattle.checker.specs.Mend.{BaseAt, Plain}
use Rattle.checker.specs.MendedLaws.{mended}
use Rattle.mission.specs.IndexedLaws.{Along, along-file, along-at, along-most}
use Rattle.mission.specs.Leading.{no_row, row_in}
use Rattle.mission.specs.TableOf.{Fits}

-- a name that the replaced byte does not lie in
pub name-apart : (f : List ℕ) (x : Record) (o b : ℕ) → (o < x.name_start) ⊎ (x.name_start + x.name_length ≤ o) → name_in (set f o b) x ≡ name_in f x
unfolding name_in
name-apart f x o b (inl h) = ap (take x.name_length) (drop-set-lt x.name_start f o b h)
name-apart f x o b (inr h) =
    let w : x.name_start + (o - x.name_start) ≡ o = omega arith in
    ap (λ (m : ℕ). take x.name_length (drop x.name_start (set f m b))) (sym w)
    ∙ ap (take x.name_length) (drop-set-add x.name_start f (o - x.name_start) b)
    ∙ take-set-le x.name_length (drop x.name_start f) (o - x.name_start) b (omega arith)

-- ---- where the names of an indexer's rows lie

-- in the definition line, which ends where the sequence begins
abbrev InDefinition : ℕ → Group → Record → Type 0
InDefinition begun g x = (begun ≤ x.name_start + length g.def) × (x.name_start + x.name_length ≤ begun)

rows_named : (rule : Rule) (f : List ℕ) → Along InDefinition 0 (groups (lines f)) (rows_by rule f 0).rows (rows_by rule f 0).stop
rows_named Strict f = along-file ported InDefinition f (λ at g gs d h e j. (omega arith, omega (arith, name-within g.def d e)))
rows_named Complete f = along-file complete InDefinition f (λ at g gs d h e j. (omega arith, omega (arith, name-within g.def d e)))

-- a record begins behind the sequences of those before it
behind : (gs : List Group) (k r : ℕ) → k < r → r < length gs → sequence_at gs k + sum_widths (record_at gs k).seq ≤ definition_at gs r
unfolding bytes_of
behind [] k r h m = absurd (omega arith)
behind (g ∷ gs) k zero h m = absurd (omega arith)
behind (g ∷ gs) zero (suc r) h m = omega arith
behind (g ∷ gs) (suc k) (suc r) h m = omega (arith, behind gs k r (omega arith) (omega arith))

module _ (f : List ℕ) (k j o b : ℕ) (base : BaseAt f k j o) (plain : Plain b) where
  -- a base lies before or behind the definition line of any record
  apart : (r n m : ℕ) → r < length (groups (lines f)) → definition_at (groups (lines f)) r ≤ n → n + m ≤ sequence_at (groups (lines f)) r → (o < n) ⊎ (n + m ≤ o)
  apart r n m h u v = go (ltb k r) refl
    where
      go : (t : Bool) → ltb k r ≡ t → (o < n) ⊎ (n + m ≤ o)
      go true e =
          let w = mended f k j o b base plain in
          inl (omega (arith, w.here, base-byte-within w.base, behind (groups (lines f)) k r (ltb-true k r e) h))
      go false e = before (ltb r k) refl
        where
          before : (t : Bool) → ltb r k ≡ t → (o < n) ⊎ (n + m ≤ o)
          before true q =
              let w = mended f k j o b base plain in
              inr (omega (arith, w.here, behind (groups (lines f)) r k (ltb-true r k q) base.record'))
          before false q =
              let same : r ≡ k = omega (arith, ltb-false k r e, ltb-false r k q) in
              let w = mended f k j o b base plain in
              inr (omega (arith, w.here, ap (sequence_at (groups (lines f))) same))

  pub names-kept : (rule : Rule) (r : ℕ) → r < length (rows_by rule f 0).rows → name_in (set f o b) (row_in (rows_by rule f 0).rows r) ≡ name_in f (row_in (rows_by rule f 0).rows r)
  names-kept rule r h =
      let x : Record = row_in (rows_by rule f 0).rows r in
      let p = rw zero-add at (along-at (rows_named rule f) no_row r h) in
      name-apart f (row_in (rows_by rule f 0).rows r) o b
      (apart r (row_in (rows_by rule f 0).rows r).name_start (row_in (rows_by rule f 0).rows r).name_length (omega (arith, along-most (rows_named rule f))) (omega (arith, p.0)) p.1)

-- ---- looked up

-- two files of one length; the names of a table's rows have the same bytes in both
module _ (f g t : List ℕ) (n : ℕ) (name : List ℕ) (l : length g ≡ length f) (same : (r : ℕ) (x : Record) → named_at t n r (length f) ≡ Ok x → name_in g x ≡ name_in f x) where
  rows-from : (k r : ℕ) → row_from g t n name k r ≡ row_from f t n name k r
  unfolding row_from named
  rows-from zero r = refl
  rows-from (suc k) r = rw (l, rows-from k (suc r)) (go (named_at t n r (length f)) refl)
    where
      go : (h : Result Record Refusal) → named_at t n r (length f) ≡ h → judged g name r h (row_from f t n name k (suc r)) ≡ judged f name r h (row_from f t n name k (suc r))
      go (Err y) e = refl
      go (Ok x) e = rw (same r x e)

  pub look-up-kept : row_read g t n name ≡ row_read f t n name
  unfolding row_read row_named
  look-up-kept = rw (l, rows-from n 0)

-- of a table that was filled with an indexer's rows, which fit it
module _ (f : List ℕ) (k j o b : ℕ) (base : BaseAt f k j o) (plain : Plain b) (rule : Rule) (t : List ℕ) where
  abbrev rows : List Record
  rows = (rows_by rule f 0).rows

  pub indexed-look-up : length (rows_by rule f 0).rows ≤ row_count t → ((r : ℕ) → r < length (rows_by rule f 0).rows → Fits (row_in (rows_by rule f 0).rows r)) → (name : List ℕ)
      → row_read (set f o b) (with_rows t 0 (rows_by rule f 0).rows) (length (rows_by rule f 0).rows) name ≡ row_read f (with_rows t 0 (rows_by rule f 0).rows) (length (rows_by rule f 0).rows) name
  indexed-look-up room fits name = look-up-kept f (set f o b) (with_rows t 0 rows) (length rows) name (length-set f o b) same
    where
      same : (r : ℕ) (x : Record) → named_at (with_rows t 0 rows) (length rows) r (length f) ≡ Ok x → name_in (set f o b) x ≡ name_in f x
      same r x e = go (ltb r (length rows)) refl
        where
          holds : held_at (with_rows t 0 rows) (length rows) r ≡ Ok x
          holds = (named-known (with_rows t 0 rows) (length rows) r (length f) x e).0

          go : (q : Bool) → ltb r (length rows) ≡ q → name_in (set f o b) x ≡ name_in f x
          go true q =
              let m : r < length rows = ltb-true _ _ q in
              let d = (fits r m).lined in
              let w : Ok x ≡ Ok (row_in rows r) =
              sym holds ∙ held-stored t no_row rows r room m ∙ sym (sound-row r (row_in rows r) (λ z. omega (arith, d.some-bases)) (λ z. omega (arith, d.some-width))) in
              let is : x ≡ row_in rows r = cc in
              rw is (names-kept f k j o b base plain rule r m)
          go false q =
              let w : bad_row r ≡ Ok x = held-unused (with_rows t 0 rows) (length rows) r (rw (row_count-rows t 0 rows) room) (ltb-false _ _ q) ∙ holds in
              let z : ◌≡◌ {A = ℕ} 0 1 = cc in
              absurd (omega arith)
