-- Bytes of which none passes a test: those before the first that does, and parts of such bytes; and that digits, and so the text of
-- numbers, have no tab, no CR and no LF among them.
use Prim.Native.Nat.{ℕ, zero, suc, ◌+◌, ◌/◌, ◌%◌, ◌^◌, ◌≤◌}
use Rattle.std.specs.Prelude.{◌≡◌, Bool, ◌||◌, length, take}
use Rattle.std.proofs.Math.Path.{refl}
use mathlib.Core.List.{List, [], ◌∷◌, ◌++◌}
use Rattle.std.proofs.Math.Bool.{true, false, cond}
use Rattle.std.proofs.Common.{true≢false}
use native.Mathlib.Omega.{arith}
use Rattle.lines.specs.Lines.{ends}
use Rattle.columns.specs.Bytes.{is, first_where}
use Rattle.columns.specs.Decimal.{digits, width, decimal_of}
use Rattle.columns.specs.Fields.{tabbed, numbers_text, splits}

abbrev pub Lacks : (ℕ → Bool) → List ℕ → Type 0
Lacks p l = first_where p l ≡ length l

module _ (p : ℕ → Bool) where
  pub lacks-head : (b : ℕ) (l : List ℕ) → Lacks p (b ∷ l) → p b ≡ false
  unfolding first_where
  lacks-head b l h = go (p b) refl h
    where
      go : (t : Bool) → p b ≡ t → cond t 0 (suc (first_where p l)) ≡ suc (length l) → p b ≡ false
      go true e k = absurd (omega arith)
      go false e k = e

  pub lacks-tail : (b : ℕ) (l : List ℕ) → Lacks p (b ∷ l) → Lacks p l
  unfolding first_where
  lacks-tail b l h = let k = rw (lacks-head b l h) at h in omega arith

  pub lacks-cons : (b : ℕ) (l : List ℕ) → p b ≡ false → Lacks p l → Lacks p (b ∷ l)
  unfolding first_where
  lacks-cons b l e h = rw (e, h)

  pub lacks-append : (l m : List ℕ) → Lacks p l → Lacks p m → Lacks p (l ++ m)
  lacks-append [] m h k = k
  lacks-append (b ∷ l) m h k = lacks-cons b (l ++ m) (lacks-head b l h) (lacks-append l m (lacks-tail b l h) k)

  pub lacks-take : (n : ℕ) (l : List ℕ) → Lacks p l → Lacks p (take n l)
  unfolding first_where
  lacks-take zero l h = refl
  lacks-take (suc n) [] h = refl
  lacks-take (suc n) (b ∷ l) h = lacks-cons b (take n l) (lacks-head b l h) (lacks-take n l (lacks-tail b l h))

  -- none before the first passes
  pub first-lacks : (l : List ℕ) → Lacks p (take (first_where p l) l)
  unfolding first_where
  first-lacks [] = refl
  first-lacks (b ∷ l) = go (p b) refl (first-lacks l)
    where
      go : (t : Bool) → p b ≡ t → Lacks p (take (first_where p l) l) → Lacks p (take (cond t 0 (suc (first_where p l))) (b ∷ l))
      go true e h = refl
      go false e h = lacks-cons b (take (first_where p l) l) e h

  pub lacks_less : (q : ℕ → Bool) → ((b : ℕ) → p b ≡ false → q b ≡ false) → (l : List ℕ) → Lacks p l → Lacks q l
  unfolding first_where
  lacks_less q f [] h = refl
  lacks_less q f (b ∷ l) h = rw (f b (lacks-head b l h), lacks_less q f l (lacks-tail b l h))

  -- a test that no digit passes
  module _ (f : (b : ℕ) → 48 ≤ b → p b ≡ false) where
    digits-lack : (k n : ℕ) → Lacks p (digits k n)
    unfolding digits first_where
    digits-lack zero n = refl
    digits-lack (suc k) n = lacks-cons (48 + n / 10 ^ k % 10) (digits k n) (f _ (omega arith)) (digits-lack k n)

    pub decimal-lacks : (n : ℕ) → Lacks p (decimal_of n)
    unfolding decimal_of
    decimal-lacks n = digits-lack (width n) n

    pub text-lacks : p 9 ≡ false → (ns : List ℕ) → Lacks p (numbers_text ns)
    unfolding tabbed first_where
    text-lacks t [] = refl
    text-lacks t (n ∷ ns) = lacks-cons 9 (decimal_of n ++ numbers_text ns) t (lacks-append (decimal_of n) (numbers_text ns) (decimal-lacks n) (text-lacks t ns))

-- bytes without a b do not end in it
pub lacks-ends : (b : ℕ) (l : List ℕ) → Lacks (is b) l → ends b l ≡ false
unfolding ends
lacks-ends b [] h = refl
lacks-ends b (x ∷ []) h = lacks-head (is b) x [] h
lacks-ends b (x ∷ y ∷ l) h = lacks-ends b (y ∷ l) (lacks-tail (is b) x (y ∷ l) h)

-- bytes without a tab and without an LF
pub lacks-splits : (l : List ℕ) → Lacks (is 9) l → Lacks (is 10) l → Lacks splits l
unfolding first_where
lacks-splits [] h k = refl
lacks-splits (b ∷ l) h k =
    lacks-cons splits b l (rw (lacks-head (is 9) b l h, lacks-head (is 10) b l k)) (lacks-splits l (lacks-tail (is 9) b l h) (lacks-tail (is 10) b l k))

split_parts : (b : ℕ) → splits b ≡ false → (is 9 b ≡ false) × (is 10 b ≡ false)
split_parts b h = go (is 9 b) h
  where
    go : (t : Bool) → (t || is 10 b) ≡ false → (t ≡ false) × (is 10 b ≡ false)
    go true k = absurd (true≢false k)
    go false k = (refl, k)

pub splits-tab : (l : List ℕ) → Lacks splits l → Lacks (is 9) l
splits-tab = lacks_less splits (is 9) (λ b e. (split_parts b e).0)

pub splits-lf : (l : List ℕ) → Lacks splits l → Lacks (is 10) l
splits-lf = lacks_less splits (is 10) (λ b e. (split_parts b e).1)
