-- Laws for Mending.antt: the table of a file is that of the mended file, and an exact read of it changes only where it covers the base.
use Prim.Native.Nat.{ℕ, suc, ◌-◌, ◌<◌}
use Rattle.std.specs.Prelude.{◌≡◌, refl, List, Bool, true, false, length, set, ltb, Option, Result, Ok}
use Rattle.std.proofs.Common.{ap, sym, ◌∙◌, length-set, ltb-true, ltb-false, arith}
use Rattle.std.proofs.Math.Bool.{cond}
use Rattle.refusal.specs.declared.Refusal.{Refusal}
use Rattle.record.specs.declared.Position.{Position}
use Rattle.refusal.specs.Numbers.{over_limit}
use Rattle.refusal.specs.declared.Refusal.TheVariants.{TooLong}
use Rattle.record.specs.declared.Record.{Record}
use Rattle.record.specs.Bases.{byte_at}
use Rattle.record.specs.Place.{place_in}
use Rattle.table.specs.Rows.{held_at}
use Rattle.output.specs.Outcome.{Outcome, refuses}
use Rattle.region.specs.Region.{start_of}
use Rattle.region.specs.Exact.{exact_of, exact_held, exact_read}
use Rattle.region.specs.Dependence.{InRegion, exact_same}
use Rattle.region.specs.Changed.{changed_at, changed-refused, exact-changed}
use Rattle.checker.specs.Mend.{BaseAt, Plain}
use Rattle.checker.specs.MendedLaws.{records-count, record_same, place_same, byte-here, byte-other}
use Rattle.mission.specs.TableOf.{base_count, RowOf, TableOf}
use Rattle.mission.specs.Covers.{Covers}

-- a row that is held is about a record
held-about : (f t : List ℕ) (n r : ℕ) (x : Record) → TableOf f t n → held_at t n r ≡ Ok x → (r < n) × RowOf f r x
held-about f t n r x y h = go (ltb r n) refl
  where
    go : (q : Bool) → ltb r n ≡ q → (r < n) × RowOf f r x
    go true e =
        let v = y.each r (ltb-true _ _ e) in
        let w : v.row ≡ x = cc v.held in
        (ltb-true _ _ e, rw w at v.about)
    go false e =
        let v = y.beyond r (ltb-false _ _ e) in
        let z : ◌≡◌ {A = ℕ} 0 1 = cc in
        absurd (omega arith)

module _ (f : List ℕ) (k j o b : ℕ) (base : BaseAt f k j o) (plain : Plain b) where
  -- the table of the file is that of the mended file
  pub mended-table : (t : List ℕ) (n : ℕ) → TableOf f t n → TableOf (set f o b) t n
  mended-table t n y =
      record {
        rows = y.rows ∙ sym (records-count f k j o b base plain);
        each = λ r h. let v = y.each r h in
            record {
              row = v.row;
              held = v.held;
              about = record {
                count = v.about.count ∙ sym (record_same f k j o b base plain r).count;
                places = λ i q. v.about.places i (rw (record_same f k j o b base plain r).count at q) ∙ sym (place_same f k j o b base plain r i);
              };
            };
        beyond = y.beyond;
      }

  module _ (t : List ℕ) (n : ℕ) (table : TableOf f t n) (r : ℕ) (a e : Option Position) (out : List ℕ) where
    -- the byte of a base of a held row, if it is not that base
    byte-kept : (x : Record) → held_at t n r ≡ Ok x → (p : ℕ) → InRegion x a e p → (r ≡ k → p ≡ suc j → ⊥) → byte_at (set f o b) (place_in x (p - 1)) ≡ byte_at f (place_in x (p - 1))
    byte-kept x h p i m =
        let y = held-about f t n r x table h in
        let q : p - 1 < base_count f r = omega (arith, y.1.count, i.from_one, i.within) in
        rw (y.1.places (p - 1) q) (byte-other f k j o b base plain r (p - 1) (omega (arith, y.0, table.rows)) q (λ u v. m u (omega (arith, i.from_one))))

    pub read-elsewhere : (Covers f k j r a e → ⊥) → exact_read (set f o b) t n r a e out ≡ exact_read f t n r a e out
    unfolding exact_read exact_held
    read-elsewhere m =
        rw (length-set f o b)
        (ap (λ (y : Outcome (Result ℕ Refusal)). cond (over_limit (length f)) (refuses TooLong out) y)
        (exact_same (length f) (held_at t n r) a e out (byte_at (set f o b)) (byte_at f)
        (λ x h p i z. byte-kept x h p i (λ u v. m (covers x h p i u v)))))
      where
        covers : (x : Record) → held_at t n r ≡ Ok x → (p : ℕ) → InRegion x a e p → r ≡ k → p ≡ suc j → Covers f k j r a e
        covers x h p i u v =
            let c : x.length ≡ base_count f k = rw u at (held-about f t n r x table h).1.count in
            record { row = u; from = rw v at i.from; to = rw (v, c) at i.to }

    pub read_here : Covers f k j r a e → exact_read (set f o b) t n r a e out ≡ changed_at (suc j - start_of a) b (exact_read f t n r a e out)
    unfolding exact_read exact_held
    read_here c = rw (length-set f o b) (go (over_limit (length f)))
      where
        moved : (y : Record) → RowOf f r y → RowOf f k y
        moved y h = rw c.row at h

        read : exact_of (length f) (byte_at (set f o b)) (held_at t n r) a e out ≡ changed_at (suc j - start_of a) b (exact_of (length f) (byte_at f) (held_at t n r) a e out)
        read =
            let i : r < n = omega (arith, c.row, table.rows, base.record') in
            let v = table.each r i in
            let w = moved v.row v.about in
            let z : suc j - 1 ≡ j = omega arith in
            exact-changed (length f) (held_at t n r) a e out (byte_at f) (byte_at (set f o b)) b v.row v.held (suc j) c.from (rw w.count c.to)
            (rw (z, w.places j base.base) (byte-here f k j o b base plain))
            (λ p l m. byte-kept v.row v.held p l (λ u. m))

        go : (q : Bool) → cond q (refuses TooLong out) (exact_of (length f) (byte_at (set f o b)) (held_at t n r) a e out)
            ≡ changed_at (suc j - start_of a) b (cond q (refuses TooLong out) (exact_of (length f) (byte_at f) (held_at t n r) a e out))
        go true = changed-refused TooLong out (suc j - start_of a) b
        go false = read
