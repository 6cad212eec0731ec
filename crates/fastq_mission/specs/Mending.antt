-- Mending a base of a FASTQ file (docs/RULES.md, R55), its second part. Base j + 1 of record k of a file f lies at offset o (`BaseAt`); the byte there is
-- replaced by b, which is not LF, CR or '+' (`Plain`). An index that the checker accepts for f is accepted for the mended file (`mended-accepted`,
-- `mended-checked` of Mended.antt). With a table of f's records (`TableOf`), an exact read that does not cover that base answers as before, output and
-- all: `mended-elsewhere`; so does every read of qualities: `mended-qualities`. One that covers it differs only there: `mended-here`; `changed-answer`
-- and `changed-other` of region/specs/Changed.antt say what that leaves. For an accepted index they are `pair-elsewhere`, `pair-qualities` and
-- `pair-here`. That two indexes of one file are read alike is `indexes-agree` of Tables.antt.
use Prim.Native.Nat.{ℕ, suc, ◌-◌, ◌≤◌, ◌<◌}
use Rattle.std.specs.Prelude.{◌≡◌, refl, List, Bool, true, false, length, set, ltb, Option, Result, Ok}
use Rattle.std.proofs.Common.{ap, sym, ◌∙◌, length-set, ltb-true, ltb-false, arith}
use Rattle.std.proofs.Math.Bool.{cond}
use Rattle.refusal.specs.declared.Refusal.{Refusal}
use Rattle.record.specs.declared.Position.{Position}
use Rattle.refusal.specs.Numbers.{over_limit}
use Rattle.refusal.specs.declared.Refusal.TheVariants.{TooLong}
use Rattle.record.specs.Bases.{byte_at}
use Rattle.record.specs.Place.{place_in}
use Rattle.record.specs.declared.Record.{Record}
use Rattle.table.specs.declared.Filled.{Filled}
use Rattle.output.specs.Outcome.{Outcome, refuses}
use Rattle.region.specs.Region.{start_of}
use Rattle.region.specs.Exact.{exact_of, exact_held}
use Rattle.region.specs.Dependence.{InRegion, exact_same}
use Rattle.region.specs.Changed.{changed_at, changed-refused, exact-changed}
use Rattle.fastq.specs.declared.Part.{Part}
use Rattle.fastq.specs.declared.Part.TheVariants.{Bases, Qualities}
use Rattle.fastq_table.specs.Rows.{row_count}
use Rattle.fastq_table.specs.Fill.{FilledAs}
use Rattle.fastq_index.specs.Text.{index_in}
use Rattle.fastq_checker.specs.Accepts.{Accepts}
use Rattle.fastq_mission.specs.TableOf.{record_count, base_count, RowOf, held_at, exact_part, TableOf}
use Rattle.fastq_mission.specs.Tables.{accepted-table}
use Rattle.fastq_mission.specs.Mend.{BaseAt, Plain, Covers}
use Rattle.fastq_mission.specs.MendedLaws.{records-same, count_same, offsets-same, byte-here, byte-other}

-- a row that is held is about a record
held-about : (f t : List ℕ) (n r : ℕ) (p : Part) (x : Record) → TableOf f t n → held_at t n r p ≡ Ok x → (r < n) × RowOf f r p x
held-about f t n r p x y h = go (ltb r n) refl
  where
    go : (q : Bool) → ltb r n ≡ q → (r < n) × RowOf f r p x
    go true e =
        let v = y.each r (ltb-true _ _ e) p in
        let w : v.row ≡ x = cc v.held in
        (ltb-true _ _ e, rw w at v.about)
    go false e =
        let v = y.beyond r (ltb-false _ _ e) p in
        let z : ◌≡◌ {A = ℕ} 0 1 = cc in
        absurd (omega arith)

no-qualities : {f : List ℕ} {k j r : ℕ} {a e : Option Position} → Covers f k j r Qualities a e → ⊥
no-qualities c = let w = c.part in let z : ◌≡◌ {A = ℕ} 0 1 = cc in omega arith

module _ (f : List ℕ) (k j o b : ℕ) (base : BaseAt f k j o) (plain : Plain b) where
  -- the table of the file is that of the mended file
  pub mended-table : (t : List ℕ) (n : ℕ) → TableOf f t n → TableOf (set f o b) t n
  mended-table t n y =
      record {
        rows = y.rows ∙ sym (ap length (records-same f k j o b base plain));
        each = λ r h p. let v = y.each r h p in
            let m : r < record_count f = omega (arith, y.rows) in
            let c = count_same f k j o b base plain r m p in
            record {
              row = v.row;
              held = v.held;
              about = record {
                count = v.about.count ∙ sym c;
                places = λ i q. v.about.places i (rw c at q) ∙ sym (rw (records-same f k j o b base plain, offsets-same f k j o b base plain r m p));
              };
            };
        beyond = y.beyond;
      }

  module _ (t : List ℕ) (n : ℕ) (table : TableOf f t n) (r : ℕ) (a e : Option Position) (out : List ℕ) where
    module _ (p : Part) where
      -- the byte of a base, or of a quality, of a held row, if it is not that base
      byte-kept : (x : Record) → held_at t n r p ≡ Ok x → (q : ℕ) → InRegion x a e q → (r ≡ k → p ≡ Bases → q ≡ suc j → ⊥)
          → byte_at (set f o b) (place_in x (q - 1)) ≡ byte_at f (place_in x (q - 1))
      byte-kept x h q i m =
          let y = held-about f t n r p x table h in
          let u : q - 1 < base_count f r p = omega (arith, y.1.count, i.from_one, i.within) in
          rw (y.1.places (q - 1) u)
          (byte-other f k j o b base plain r (q - 1) p (omega (arith, y.0, table.rows)) u (λ v s w. m v s (omega (arith, i.from_one))))

      pub mended-elsewhere : (Covers f k j r p a e → ⊥) → exact_part (set f o b) t n r p a e out ≡ exact_part f t n r p a e out
      unfolding exact_part exact_held
      mended-elsewhere m =
          rw (length-set f o b)
          (ap (λ (y : Outcome (Result ℕ Refusal)). cond (over_limit (length f)) (refuses TooLong out) y)
          (exact_same (length f) (held_at t n r p) a e out (byte_at (set f o b)) (byte_at f)
          (λ x h q i z. byte-kept x h q i (λ u s v. m (covers p x h q i u s v)))))
        where
          covers : (p : Part) (x : Record) → held_at t n r p ≡ Ok x → (q : ℕ) → InRegion x a e q → r ≡ k → p ≡ Bases → q ≡ suc j → Covers f k j r p a e
          covers p x h q i u s v =
              let c : x.length ≡ base_count f k Bases = rw (u, s) at (held-about f t n r p x table h).1.count in
              record { row = u; part = s; from = rw v at i.from; to = rw (v, c) at i.to }

    pub mended-qualities : exact_part (set f o b) t n r Qualities a e out ≡ exact_part f t n r Qualities a e out
    mended-qualities = mended-elsewhere Qualities no-qualities

    pub mended-here : Covers f k j r Bases a e → exact_part (set f o b) t n r Bases a e out ≡ changed_at (suc j - start_of a) b (exact_part f t n r Bases a e out)
    unfolding exact_part exact_held
    mended-here c = rw (length-set f o b) (go (over_limit (length f)))
      where
        moved : (y : Record) → RowOf f r Bases y → RowOf f k Bases y
        moved y h = rw c.row at h

        read : exact_of (length f) (byte_at (set f o b)) (held_at t n r Bases) a e out ≡ changed_at (suc j - start_of a) b (exact_of (length f) (byte_at f) (held_at t n r Bases) a e out)
        read =
            let i : r < n = omega (arith, c.row, table.rows, base.record') in
            let v = table.each r i Bases in
            let w = moved v.row v.about in
            let z : suc j - 1 ≡ j = omega arith in
            exact-changed (length f) (held_at t n r Bases) a e out (byte_at f) (byte_at (set f o b)) b v.row v.held (suc j) c.from (rw w.count c.to)
            (rw (z, w.places j base.base, base.place) (byte-here f k j o b base plain))
            (λ q l m. byte-kept Bases v.row v.held q l (λ u s. m))

        go : (q : Bool) → cond q (refuses TooLong out) (exact_of (length f) (byte_at (set f o b)) (held_at t n r Bases) a e out)
            ≡ changed_at (suc j - start_of a) b (cond q (refuses TooLong out) (exact_of (length f) (byte_at f) (held_at t n r Bases) a e out))
        go true = changed-refused TooLong out (suc j - start_of a) b
        go false = read

  -- the same of the table that the whole-index call leaves of an accepted index
  module _ (i t t' : List ℕ) (told : Filled) (accepted : Accepts f i) (filled : FilledAs (index_in i (row_count t)) t t' told) (enough : record_count f ≤ row_count t) (r : ℕ) (a e : Option Position) (out : List ℕ) where
    table : TableOf f t' told.rows
    table = accepted-table f t t' told i accepted filled enough

    pub pair-elsewhere : (p : Part) → (Covers f k j r p a e → ⊥) → exact_part (set f o b) t' told.rows r p a e out ≡ exact_part f t' told.rows r p a e out
    pair-elsewhere = mended-elsewhere t' told.rows table r a e out

    pub pair-qualities : exact_part (set f o b) t' told.rows r Qualities a e out ≡ exact_part f t' told.rows r Qualities a e out
    pair-qualities = mended-qualities t' told.rows table r a e out

    pub pair-here : Covers f k j r Bases a e → exact_part (set f o b) t' told.rows r Bases a e out ≡ changed_at (suc j - start_of a) b (exact_part f t' told.rows r Bases a e out)
    pair-here = mended-here t' told.rows table r a e out
