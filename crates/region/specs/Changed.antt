-- One byte of a file is another: an exact read that covers it differs in that one byte of what it gives, and in nothing else.
use Rattle.std.specs.Prelude.{ℕ, zero, suc, ◌+◌, ◌-◌, ◌≤◌, ◌<◌, ◌≡◌, refl, ◌≢◌, List, [], ◌∷◌, ◌++◌, map, length, drop, get_or, set, Option, Result, Ok, Err}
use Rattle.std.proofs.Common.{ap, sym, ◌∙◌, ⊎_elim, length-set, get_or-set_other, arith}
use Rattle.std.proofs.lemmas.List.{length-map, set-append_left}
use Rattle.record.specs.declared.Position.{Position}
use Rattle.refusal.specs.declared.Refusal.{Refusal}
use Rattle.record.specs.declared.Record.{Record}
use Rattle.record.specs.Place.{place_in}
use Rattle.output.specs.Outcome.{Outcome, leaves}
use Rattle.region.specs.Region.{start_of, end_of}
use Rattle.region.specs.Exact.{exact_of}
use Rattle.region.specs.Inside.{length-offsets}
use Rattle.region.specs.Laws.{good-bounds}
use Rattle.region.specs.Dependence.{region_offsets, region_count, InRegion, map_same, offset_at, exact-reads, Refusing, Reading, exact-either}

abbrev changed : Result ℕ Refusal → List ℕ → ℕ → ℕ → Outcome (Result ℕ Refusal)
changed (Ok n) out q b = leaves (Ok n) (set out q b)
changed (Err f) out q b = leaves (Err f) out

-- what a read leaves, with byte number q of what it gave replaced; a refusal stays as it is
unfoldable pub changed_at : ℕ → ℕ → Outcome (Result ℕ Refusal) → Outcome (Result ℕ Refusal)
changed_at q b o = changed o.answer o.output q b

-- its answer and every other byte of its output are the same
pub changed-answer : (q b : ℕ) (o : Outcome (Result ℕ Refusal)) → (changed_at q b o).answer ≡ o.answer
unfolding changed_at
changed-answer q b o = go o.answer
  where
    go : (r : Result ℕ Refusal) → (changed r o.output q b).answer ≡ r
    go (Ok n) = refl
    go (Err f) = refl

pub changed-length : (q b : ℕ) (o : Outcome (Result ℕ Refusal)) → length (changed_at q b o).output ≡ length o.output
unfolding changed_at
changed-length q b o = go o.answer
  where
    go : (r : Result ℕ Refusal) → length (changed r o.output q b).output ≡ length o.output
    go (Ok n) = length-set o.output q b
    go (Err f) = refl

pub changed-other : (q b : ℕ) (o : Outcome (Result ℕ Refusal)) (p : ℕ) → p ≢ q → get_or (changed_at q b o).output p 0 ≡ get_or o.output p 0
unfolding changed_at
changed-other q b o p n = go o.answer
  where
    go : (r : Result ℕ Refusal) → get_or (changed r o.output q b).output p 0 ≡ get_or o.output p 0
    go (Ok k) = get_or-set_other o.output q p b 0 n
    go (Err f) = refl

pub changed-refused : (f : Refusal) (out : List ℕ) (q b : ℕ) → leaves (Err f) out ≡ changed_at q b (leaves (Err f) out)
unfolding changed_at
changed-refused f out q b = refl

changed-bytes : (n : ℕ) (xs ys : List ℕ) (q b : ℕ) → q < length xs → leaves (Ok n) (set xs q b ++ ys) ≡ changed_at q b (leaves (Ok n) (xs ++ ys))
unfolding changed_at
changed-bytes n xs ys q b h = ap (leaves (Ok n)) (sym (set-append_left xs ys q b h))

map-changed : (f g : ℕ → ℕ) (os : List ℕ) (q b : ℕ) → q < length os → g (get_or os q 0) ≡ b → ((k : ℕ) → k < length os → (k ≡ q → ⊥) → g (get_or os k 0) ≡ f (get_or os k 0)) → map g os ≡ set (map f os) q b
map-changed f g [] q b m e h = absurd (omega arith)
map-changed f g (o ∷ os) zero b m e h = let r : map g os ≡ map f os = map_same g f os (λ k l. h (suc k) (omega arith) (λ z. omega arith)) in rw (e, r)
map-changed f g (o ∷ os) (suc q) b m e h =
    let r : map g os ≡ set (map f os) q b = map-changed f g os q b (omega arith) e (λ k l n. h (suc k) (omega arith) (λ z. n (omega arith))) in
    rw (h 0 (omega arith) (λ z. omega arith), r)

-- a row, two files of one length, and a base of a region whose byte is b in the second; the region's other bases have the same bytes
module _ (bytes : ℕ) (h : Result Record Refusal) (a e : Option Position) (out : List ℕ) (f g : ℕ → ℕ) (b : ℕ) (x : Record) (holds : h ≡ Ok x) (p : ℕ) (from : start_of a ≤ p) (to : p ≤ end_of x.length e)
    (here : g (place_in x (p - 1)) ≡ b) (others : (q : ℕ) → InRegion x a e q → (q ≡ p → ⊥) → g (place_in x (q - 1)) ≡ f (place_in x (q - 1))) where
  pub exact-changed : exact_of bytes g h a e out ≡ changed_at (p - start_of a) b (exact_of bytes f h a e out)
  exact-changed = ⊎_elim none some (exact-either bytes h a e out)
    where
      none : Refusing bytes h a e out → exact_of bytes g h a e out ≡ changed_at (p - start_of a) b (exact_of bytes f h a e out)
      none r = rw (r.always g, r.always f) (changed-refused r.refusal out (p - start_of a) b)

      row : {y : Record} → h ≡ Ok y → y ≡ x
      row k = cc

      some : Reading bytes h a e out → exact_of bytes g h a e out ≡ changed_at (p - start_of a) b (exact_of bytes f h a e out)
      some r =
          let k = rw (row r.holds) at r.readable in
          let o = good-bounds a e x.length k.bounds in
          let l : start_of a ≤ end_of x.length e = o.in_order k.start in
          let c : length (region_offsets x a e) ≡ region_count x a e = length-offsets x (start_of a) (region_count x a e) in
          let i : p - start_of a < region_count x a e = omega arith in
          let m : map g (region_offsets x a e) ≡ set (map f (region_offsets x a e)) (p - start_of a) b =
          map-changed f g (region_offsets x a e) (p - start_of a) b (omega (arith, c))
          (ap g (offset_at x (start_of a) (end_of x.length e) o.from_one l (p - start_of a) i ∙ ap (λ (n : ℕ). place_in x (n - 1)) (back p (start_of a) from)) ∙ here)
          (λ n q z.
          let w = offset_at x (start_of a) (end_of x.length e) o.from_one l n (omega (arith, c)) in
          ap g w ∙ others (start_of a + n) (record { from_one = omega (arith, o.from_one); from = omega arith; to = omega (arith, c); within = omega (arith, c, k.end) }) (λ u. z (omega arith)) ∙ sym (ap f w)) in
          rw (holds, exact-reads bytes g x a e out k, exact-reads bytes f x a e out k, m)
          (changed-bytes (region_count x a e) (map f (region_offsets x a e)) (drop (region_count x a e) out) (p - start_of a) b (omega (arith, c, length-map (region_offsets x a e) f)))
        where
          back : (n m : ℕ) → m ≤ n → m + (n - m) ≡ n
          back n m q = omega arith
