-- Laws for FirstNamed.antt: the walk through the rows, both ways.
use Prim.Native.Nat.{ℕ, zero, suc, ◌+◌, ◌≤◌, ◌<◌}
use Rattle.std.proofs.Math.Path.{◌≡◌, refl}
use Rattle.std.proofs.Common.{sym, ◌∙◌, arith, Result, Ok, Err}
use Rattle.std.specs.Prelude.{List, Bool, length}
use Rattle.std.proofs.Math.Bool.{true, false, cond, true≢false}
use Rattle.std.proofs.Math.Dec.{ltb}
use Rattle.refusal.specs.declared.Refusal.{Refusal}
use borrow.Author.Tests.{ltb-true, ltb-false}
use Rattle.lines.specs.Same.{same_bytes, same_refl, same_true}
use Rattle.record.specs.declared.Record.{Record}
use Rattle.table.specs.Rows.{named_at}
use Rattle.index_line.specs.IndexLine.{name_in}
use Rattle.index.specs.Find.{named, judged, row_from}
use Rattle.index.specs.First.{Has, HasAnother}

module _ (names t : List ℕ) (n : ℕ) (name : List ℕ) where
  -- row q is the first of k rows from r on
  pub record From (k r q : ℕ) : Type 0 where
    pub low : r ≤ q
    pub high : q < r + k
    pub here : Has names t n name q
    pub before : (j : ℕ) → r ≤ j → j < q → HasAnother names t n name j

  unnamed : (x : Record) → named names x name ≡ false → name_in names x ≡ name → ⊥
  unfolding named
  unnamed x e q = true≢false (sym (rw q (same_refl name)) ∙ e)

  pub from-only-if : (k r q : ℕ) → row_from names t n name k r ≡ Ok q → From k r q
  unfolding row_from named
  from-only-if zero r q h = let z : ◌≡◌ {A = ℕ} 0 1 = cc in absurd (omega arith)
  from-only-if (suc k) r q h = go (named_at t n r (length names)) refl h (from-only-if k (suc r) q)
    where
      pick : (x : Record) → named_at t n r (length names) ≡ Ok x → (b : Bool) → same_bytes (name_in names x) name ≡ b
          → cond b (Ok r) (row_from names t n name k (suc r)) ≡ Ok q → (row_from names t n name k (suc r) ≡ Ok q → From k (suc r) q) → From (suc k) r q
      pick x s true e m ih =
          let same : r ≡ q = cc in
          rw (← same) (record { low = omega arith; high = omega arith; here = record { row = x; sound = s; same = same_true _ _ e }; before = λ j a b. absurd (omega arith) })
      pick x s false e m ih =
          let f = ih m in
          record { low = omega (arith, f.low); high = omega (arith, f.high); here = f.here; before = before f }
        where
          before : From k (suc r) q → (j : ℕ) → r ≤ j → j < q → HasAnother names t n name j
          before f j a b = at (ltb r j) refl
            where
              at : (u : Bool) → ltb r j ≡ u → HasAnother names t n name j
              at true c = f.before j (ltb-true r j c) b
              at false c = let same : j ≡ r = omega (arith, ltb-false r j c) in rw same (record { row = x; sound = s; other = unnamed x e })

      go : (d : Result Record Refusal) → named_at t n r (length names) ≡ d → judged names name r d (row_from names t n name k (suc r)) ≡ Ok q
          → (row_from names t n name k (suc r) ≡ Ok q → From k (suc r) q) → From (suc k) r q
      go (Ok x) s m ih = pick x s (same_bytes (name_in names x) name) refl m ih
      go (Err f) s m ih = let z : ◌≡◌ {A = ℕ} 0 1 = cc in absurd (omega arith)

  has_named : (x : Record) → name_in names x ≡ name → named names x name ≡ true
  unfolding named
  has_named x e = rw e (same_refl name)

  lacks-named : (x : Record) → (name_in names x ≡ name → ⊥) → named names x name ≡ false
  unfolding named
  lacks-named x f = go (same_bytes (name_in names x) name) refl
    where
      go : (b : Bool) → same_bytes (name_in names x) name ≡ b → b ≡ false
      go true e = absurd (f (same_true _ _ e))
      go false e = refl

  pub from-if : (k r q : ℕ) → From k r q → row_from names t n name k r ≡ Ok q
  unfolding row_from
  from-if zero r q f = absurd (omega (arith, f.low, f.high))
  from-if (suc k) r q f = go (ltb r q) refl (from-if k (suc r) q)
    where
      go : (b : Bool) → ltb r q ≡ b → (From k (suc r) q → row_from names t n name k (suc r) ≡ Ok q) → judged names name r (named_at t n r (length names)) (row_from names t n name k (suc r)) ≡ Ok q
      go true e ih =
          let x = f.before r (omega arith) (ltb-true r q e) in
          rw (x.sound, lacks-named x.row x.other)
          (ih (record { low = ltb-true r q e; high = omega (arith, f.high); here = f.here; before = λ j a b. f.before j (omega arith) b }))
      go false e ih =
          let x = f.here in
          let same : r ≡ q = omega (arith, f.low, ltb-false r q e) in
          rw (same, x.sound, has_named x.row x.same)
