-- What is promised of the part of a file that a region needs (C4).
--
-- `needed-known`: the part that is the answer has every needed byte, no smaller one has, and it is inside the file. A region that can be read has a
-- base or more, so it is never empty.
--
-- `needed-reads`: with that part of a file as its window, the window read leaves what the exact read of the whole file leaves, and
-- `needed-seen`: it gives bytes, so 34 is never given.
--
-- `needed-refuses`, `refuses-needed`: the refusals are just those of the exact read of a file of that length, for an output of that room.
use Rattle.std.specs.Prelude.{ℕ, ◌+◌, ◌-◌, ◌≤◌, ◌<◌, List, Bool, length, take, drop, Option, Result, Ok, Err}
use Rattle.std.proofs.Math.Path.{◌≡◌, refl, ap}
use Rattle.std.proofs.Common.{sym, ◌∙◌}
use Rattle.std.proofs.Math.Bool.{true, false, cond}
use native.Mathlib.Omega.{arith}
use Rattle.record.specs.declared.Position.{Position}
use Rattle.region.specs.declared.exact.Bases.{Bases}
use Rattle.refusal.specs.Numbers.{over_limit}
use Rattle.refusal.specs.declared.Refusal.{Refusal}
use Rattle.refusal.specs.declared.Refusal.TheVariants.{TooLong}
use Rattle.record.specs.declared.Record.{Record}
use Rattle.record.specs.Bases.{byte_at}
use Rattle.output.specs.Outcome.{Outcome, refuses}
use Rattle.region.specs.declared.Part.{Part}
use Rattle.region.specs.Region.{bounded_row, start_of, end_of}
use Rattle.region.specs.Exact.{offsets_of, exact_in, exact_of, exact_held}
use Rattle.region.specs.Part.{lowest, behind, part_of, LieIn}
use Rattle.region.specs.PartLaws.{part-covers, part-smallest, part-file, all_lie}
use Rattle.region.specs.Laws.{good-bounds, bounded-known, within-length}
use Rattle.region.specs.Judge.{region_judged, Fine, judged-fine, refused-read}
use Rattle.region.specs.Dependence.{region_count, InRegion, Readable, exact-reads}
use Rattle.region.specs.Window.{window_held, needed_by, needed_in, needed_of, needed_held}
use Rattle.region.specs.Seen.{Needs, Covers}
use Rattle.region.specs.SeenLaws.{region-one, region-base, base-region, region-needs}
use Rattle.region.specs.Windowed.{window-whole}

-- what is known of a part that is the answer for a region of a file of so many bytes, and so much room
pub record Told (bytes room : ℕ) (h : Result Record Refusal) (a e : Option Position) (part : Part) : Type 0 where
  pub known : over_limit bytes ≡ false
  pub row : Record
  pub holds : h ≡ Ok row
  pub readable : Readable bytes row a e room
  pub some : part.from.0 < part.to.0
  pub ends : part.to.0 ≤ bytes
  pub covers : Covers bytes h a e part.from.0 (part.to.0 - part.from.0)
  pub smallest : (f m : ℕ) → Covers bytes h a e f m → (f ≤ part.from.0) × (part.to.0 ≤ f + m)

module _ (bytes room : ℕ) (x : Record) (a e : Option Position) where
  fine-readable : (at run n : ℕ) → bounded_row a e (Ok x) ≡ Ok x → Fine bytes x (start_of a) (end_of x.length e) room at run n → Readable bytes x a e room
  fine-readable at run n q k =
      let b = (bounded-known a e (Ok x) x q).0 in
      let g = good-bounds a e x.length b in
      let w = within-length x.length (start_of a) (end_of x.length e) k.past in
      let l = all_lie x (start_of a) n g.from_one 0 bytes (omega (arith, k.inside, part-file bytes (offsets_of x (start_of a) n))) in
      record {
        bounds = b;
        start = w.0;
        end = w.1;
        room = omega (arith, k.enough, k.count);
        inside = λ p u v. (l.each p u (omega (arith, k.count))).1;
      }

  module _ (k : Readable bytes x a e room) where
    one : 0 < start_of a
    one = region-one bytes x a e room k

    abbrev from : ℕ
    from = lowest (offsets_of x (start_of a) (region_count x a e))

    abbrev to : ℕ
    to = behind (offsets_of x (start_of a) (region_count x a e))

    more : 0 < region_count x a e
    more = omega arith

    lies : LieIn from to x (start_of a) (region_count x a e)
    lies = part-covers x (start_of a) (region_count x a e) one more

    needs-base : (h : Result Record Refusal) → h ≡ Ok x → (o : ℕ) → Needs bytes h a e o → (from ≤ o) × (o < to)
    needs-base h q o d =
        let s : d.row ≡ x = same (sym d.holds ∙ q) in
        let i : InRegion x a e d.base = rw s at d.region in
        let r = base-region bytes x a e room k d.base i in
        let c = lies.each d.base r.0 r.1 in
        rw (d.here, s) c
      where
        same : {y z : Record} → ◌≡◌ {A = Result Record Refusal} (Ok y) (Ok z) → y ≡ z
        same h = cc

    told : (h : Result Record Refusal) → over_limit bytes ≡ false → h ≡ Ok x → Told bytes room h a e (part_of (offsets_of x (start_of a) (region_count x a e)))
    unfolding part_of
    told h l q =
        let c = lies.each (start_of a) (omega arith) (omega arith) in
        record {
          known = l;
          row = x;
          holds = q;
          readable = k;
          some = omega arith;
          ends = (part-smallest x (start_of a) (region_count x a e) one more 0 bytes (record { each = λ p u v. (omega arith, let i = region-base bytes x a e room k p u v in k.inside p u i.to) })).1;
          covers = record { each = λ o d. let b = needs-base h q o d in (b.0, omega arith) };
          smallest = λ f m v. part-smallest x (start_of a) (region_count x a e) one more f (f + m) (record { each = λ p u w. v.each _ (region-needs bytes x a e room k h q p (region-base bytes x a e room k p u w)) });
        }

part_same : {p q : Part} → ◌≡◌ {A = Result Part Refusal} (Ok p) (Ok q) → p ≡ q
part_same h = cc

refusal-same : {f g : Refusal} → ◌≡◌ {A = Result Part Refusal} (Err f) (Err g) → f ≡ g
refusal-same h = cc

module _ (bytes room : ℕ) (h : Result Record Refusal) (a e : Option Position) where
  told-by : (x : Record) (part : Part) → over_limit bytes ≡ false → bounded_row a e h ≡ Ok x
      → (j : Result Bases Refusal) → region_judged bytes x (start_of a) (end_of x.length e) room ≡ j → needed_by x (start_of a) j ≡ Ok part → Told bytes room h a e part
  unfolding needed_by
  told-by x part l b (Err g) j q = let z : ◌≡◌ {A = ℕ} 0 1 = cc in absurd (omega arith)
  told-by x part l b (Ok i) j q =
      let v = bounded-known a e h x b in
      let f = judged-fine bytes x (start_of a) (end_of x.length e) room i.at i.run i.count j in
      let k = fine-readable bytes room x a e i.at i.run i.count (ap (bounded_row a e) (sym v.1) ∙ b) f in
      let p : part_of (offsets_of x (start_of a) (region_count x a e)) ≡ part = ap (λ (m : ℕ). part_of (offsets_of x (start_of a) m)) (sym f.count) ∙ part_same q in
      rw p at (told bytes room x a e k h l v.1)

  pub needed-known : (part : Part) → needed_held bytes room h a e ≡ Ok part → Told bytes room h a e part
  unfolding needed_held needed_of needed_in
  needed-known part q = go (over_limit bytes) refl (bounded_row a e h) refl q
    where
      go : (l : Bool) → over_limit bytes ≡ l → (b : Result Record Refusal) → bounded_row a e h ≡ b → cond l (Err TooLong) (needed_in bytes room b a e) ≡ Ok part → Told bytes room h a e part
      go true l b c v = let z : ◌≡◌ {A = ℕ} 0 1 = cc in absurd (omega arith)
      go false l (Err g) c v = let z : ◌≡◌ {A = ℕ} 0 1 = cc in absurd (omega arith)
      go false l (Ok x) c v = told-by x part l c _ refl v

module _ (s : List ℕ) (h : Result Record Refusal) (a e : Option Position) (out : List ℕ) where
  -- ---- the answer is a part: it is read

  module _ (part : Part) (q : needed_held (length s) (length out) h a e ≡ Ok part) where
    pub needed-reads : window_held (length s) (take (part.to.0 - part.from.0) (drop part.from.0 s)) part.from.0 h a e out ≡ exact_held s h a e out
    needed-reads = let t = needed-known (length s) (length out) h a e part q in window-whole s part.from.0 (part.to.0 - part.from.0) (omega (arith, t.some, t.ends)) h a e out t.covers

    exact-gives : Told (length s) (length out) h a e part → (n : ℕ) × ((exact_held s h a e out).answer ≡ Ok n)
    unfolding exact_held
    exact-gives t = (region_count t.row a e, rw (t.known, t.holds, exact-reads (length s) (byte_at s) t.row a e out t.readable))

    pub needed-seen : (n : ℕ) × ((window_held (length s) (take (part.to.0 - part.from.0) (drop part.from.0 s)) part.from.0 h a e out).answer ≡ Ok n)
    needed-seen =
        let g = exact-gives (needed-known (length s) (length out) h a e part q) in
        (g.0, ap (λ (o : Outcome (Result ℕ Refusal)). o.answer) needed-reads ∙ g.1)

  -- ---- the answer is a refusal: it is the exact read's

  refused-by : (x : Record) (g : Refusal) (j : Result Bases Refusal) → region_judged (length s) x (start_of a) (end_of x.length e) (length out) ≡ j → needed_by x (start_of a) j ≡ Err g
      → exact_in (length s) (byte_at s) (Ok x) a e out ≡ refuses g out
  unfolding needed_by exact_in
  refused-by x g (Err f) j q = let n : f ≡ g = refusal-same q in rw (← n) (sym (refused-read (length s) (byte_at s) x (start_of a) (end_of x.length e) out f j))
  refused-by x g (Ok i) j q = let z : ◌≡◌ {A = ℕ} 0 1 = cc in absurd (omega arith)

  pub needed-refuses : (g : Refusal) → needed_held (length s) (length out) h a e ≡ Err g → exact_held s h a e out ≡ refuses g out
  unfolding needed_held needed_of needed_in exact_held exact_of exact_in
  needed-refuses g q = go (over_limit (length s)) (bounded_row a e h) q
    where
      go : (l : Bool) (b : Result Record Refusal) → cond l (Err TooLong) (needed_in (length s) (length out) b a e) ≡ Err g
          → cond l (refuses TooLong out) (exact_in (length s) (byte_at s) b a e out) ≡ refuses g out
      go true b v = ap (λ (f : Refusal). refuses f out) (refusal-same v)
      go false (Err k) v = ap (λ (f : Refusal). refuses f out) (refusal-same v)
      go false (Ok x) v = refused-by x g _ refl v

  -- and the other way
  pub refuses-needed : (g : Refusal) → (exact_held s h a e out).answer ≡ Err g → needed_held (length s) (length out) h a e ≡ Err g
  refuses-needed g q = go (needed_held (length s) (length out) h a e) refl
    where
      go : (d : Result Part Refusal) → needed_held (length s) (length out) h a e ≡ d → d ≡ Err g
      go (Ok part) v = let b = (exact-gives part v (needed-known (length s) (length out) h a e part v)).1 in let z : ◌≡◌ {A = ℕ} 0 1 = cc in absurd (omega arith)
      go (Err f) v =
          let w : Err f ≡ Err g = sym (ap (λ (o : Outcome (Result ℕ Refusal)). o.answer) (needed-refuses f v)) ∙ q in
          let n : f ≡ g = cc in
          ap Err n
