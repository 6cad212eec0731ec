-- What the window read promises (request K7).
--
-- `window-whole`: if the window is a part of a file, and has every byte that the region needs, the window read leaves what the exact read of
-- the whole file leaves.
--
-- `window-alone`: two windows that agree at the offsets that the region needs leave the same. No other byte matters.
--
-- `unseen-if`, `unseen-only-if`: the answer is 34 exactly if nothing else is refused and a needed offset is not in the window; its number is
-- the smallest base position of such an offset, whichever way offsets go. The row is one of a table, so that 34 is not its own refusal.
use Prim.Native.Nat.{ℕ, ◌+◌, ◌≤◌, ◌<◌}
use Rattle.std.proofs.Math.Path.{◌≡◌, refl}
use Rattle.std.proofs.Common.{ap, sym, ◌∙◌, ⊎_elim, arith, Option, Result, Err}
use mathlib.Core.List.{List, map}
use Rattle.std.specs.Prelude.{Bool, take, drop}
use Rattle.std.proofs.Math.Bool.{true, false, cond}
use Rattle.std.proofs.Math.ListN.{length}
use Rattle.std.proofs.Math.Dec.{ltb}
use Rattle.record.specs.declared.Record.{Record}
use Rattle.record.specs.declared.Position.{Position}
use borrow.Author.Tests.{ltb-true, ltb-false, lt-ltb, le-ltb}
use Rattle.refusal.specs.Numbers.{over_limit}
use Rattle.refusal.specs.declared.Refusal.{Refusal}
use Rattle.refusal.specs.declared.Refusal.TheVariants.{TooLong, NotInWindow, WindowPastEnd}
use Rattle.record.specs.Bases.{byte_at}
use Rattle.output.specs.Outcome.{Outcome, leaves, refuses, gives}
use Rattle.region.specs.Region.{start_of}
use Rattle.region.specs.Exact.{exact_of, exact_held}
use Rattle.region.specs.Part.{in_part}
use Rattle.region.specs.Inside.{length-offsets}
use Rattle.region.specs.Dependence.{region_offsets, region_count, Refusing, Reading, exact-either}
use Rattle.region.specs.Copy.{byte_from}
use Rattle.region.specs.Window.{seen_at, window_of, window_held}
use Rattle.region.specs.WindowLaws.{within-limit, past-limit}
use Rattle.region.specs.Seen.{Covers, Within, Agree, FirstUnseen}
use Rattle.region.specs.SeenLaws.{part_length, whole_of, alone_of, window-refuses, window-sees, refused_as, exact-other, first-is, is-first, base-region}

-- ---- the whole file's answer

module _ (s : List ℕ) (f m : ℕ) (fits : f + m ≤ length s) (h : Result Record Refusal) (a e : Option Position) (out : List ℕ) where
  pub window-whole : Covers (length s) h a e f m → window_held (length s) (take m (drop f s)) f h a e out ≡ exact_held s h a e out
  unfolding window_held exact_held
  window-whole c = rw (part_length s f m fits, le-ltb (length s) (f + m) fits) (go (over_limit m) refl (over_limit (length s)) refl)
    where
      go : (b : Bool) → over_limit m ≡ b → (d : Bool) → over_limit (length s) ≡ d
          → cond b (refuses TooLong out) (cond d (refuses TooLong out) (window_of (length s) f (take m (drop f s)) h a e out)) ≡ cond d (refuses TooLong out) (exact_of (length s) (byte_at s) h a e out)
      go true p true q = refl
      go true p false q = absurd (omega (arith, past-limit m p, within-limit (length s) q))
      go false p true q = refl
      go false p false q = whole_of s f m fits h a e c out

-- ---- no other byte

module _ (bytes : ℕ) (h : Result Record Refusal) (a e : Option Position) (f : ℕ) (w : List ℕ) (f' : ℕ) (w' : List ℕ) (out : List ℕ) where
  pub window-alone : Within bytes w f → Within bytes w' f' → Agree bytes h a e f w f' w' → window_held bytes w f h a e out ≡ window_held bytes w' f' h a e out
  unfolding window_held
  window-alone i j g = rw (i.small, j.small, le-ltb _ _ i.ends, le-ltb _ _ j.ends, alone_of bytes h a e f w f' w' g out)

-- ---- 34

base-as : {p q : ℕ} → ◌≡◌ {A = Result ℕ Refusal} (Err (NotInWindow p)) (Err (NotInWindow q)) → p ≡ q
base-as h = cc

module _ (bytes : ℕ) (w : List ℕ) (f : ℕ) (h : Result Record Refusal) (a e : Option Position) (out : List ℕ) (p : ℕ) where
  pub unseen-if : FirstUnseen bytes w f h a e out p → window_held bytes w f h a e out ≡ refuses (NotInWindow p) out
  unfolding window_held seen_at
  unseen-if u =
      rw (u.within.small, u.known, le-ltb _ _ u.within.ends, u.holds, window-sees bytes f w a e out u.row u.readable, lt-ltb _ _ less)
      (ap (λ (q : ℕ). refuses (NotInWindow q) out) first)
    where
      first : start_of a + in_part f (f + length w) (region_offsets u.row a e) ≡ p
      first = first-is bytes f w u.row a e out u.readable p u.region u.unseen u.before

      less : in_part f (f + length w) (region_offsets u.row a e) < length (region_offsets u.row a e)
      less = omega (arith, first, base-region bytes u.row a e (length out) u.readable p u.region, length-offsets u.row (start_of a) (region_count u.row a e))

  seen_first : Within bytes w f → over_limit bytes ≡ false → (r : Reading bytes h a e out) → (seen_at f w (start_of a) (region_offsets r.row a e) out).answer ≡ Err (NotInWindow p) → FirstUnseen bytes w f h a e out p
  unfolding seen_at
  seen_first i k r q = go (ltb (in_part f (f + length w) os) (length os)) refl q
    where
      os : List ℕ
      os = region_offsets r.row a e

      go : (t : Bool) → ltb (in_part f (f + length w) os) (length os) ≡ t
          → (cond t (refuses (NotInWindow (start_of a + in_part f (f + length w) os)) out) (gives (map (byte_from f w) os) out)).answer ≡ Err (NotInWindow p) → FirstUnseen bytes w f h a e out p
      go false l v = let z : ◌≡◌ {A = ℕ} 0 1 = cc in absurd (omega arith)
      go true l v =
          let c = is-first bytes f w r.row a e out r.readable (ltb-true _ _ l) in
          let n : start_of a + in_part f (f + length w) os ≡ p = base-as v in
          let u : FirstUnseen bytes w f h a e out (start_of a + in_part f (f + length w) os) = record { within = i; known = k; row = r.row; holds = r.holds; readable = r.readable; region = c.0; unseen = c.1; before = c.2 } in
          rw n at u

  module _ (sound : (q : ℕ) → h ≡ Err (NotInWindow q) → ⊥) where
    unseen_of : Within bytes w f → over_limit bytes ≡ false → (window_of bytes f w h a e out).answer ≡ Err (NotInWindow p) → FirstUnseen bytes w f h a e out p
    unseen_of i k q = ⊎_elim none some (exact-either bytes h a e out)
      where
        none : Refusing bytes h a e out → FirstUnseen bytes w f h a e out p
        none r = absurd (exact-other bytes (byte_from f w) a e out p h sound (r.always (byte_from f w) ∙ ap (λ (g : Refusal). leaves (Err g) out) (refused_as (ap (λ (o : Outcome (Result ℕ Refusal)). o.answer) (sym (window-refuses bytes f w a e out h r)) ∙ q))))

        some : Reading bytes h a e out → FirstUnseen bytes w f h a e out p
        some r = seen_first i k r (ap (λ (o : Outcome (Result ℕ Refusal)). o.answer) (sym (window-sees bytes f w a e out r.row r.readable) ∙ ap (λ (y : Result Record Refusal). window_of bytes f w y a e out) (sym r.holds)) ∙ q)

    pub unseen-only-if : (window_held bytes w f h a e out).answer ≡ Err (NotInWindow p) → FirstUnseen bytes w f h a e out p
    unfolding window_held
    unseen-only-if q = go (over_limit (length w)) refl (over_limit bytes) refl (ltb bytes (f + length w)) refl q
      where
        go : (b : Bool) → over_limit (length w) ≡ b → (c : Bool) → over_limit bytes ≡ c → (d : Bool) → ltb bytes (f + length w) ≡ d
            → (cond b (refuses TooLong out) (cond c (refuses TooLong out) (cond d (refuses WindowPastEnd out) (window_of bytes f w h a e out)))).answer ≡ Err (NotInWindow p)
            → FirstUnseen bytes w f h a e out p
        go true l c m d n v = let z : ◌≡◌ {A = ℕ} 0 1 = cc in absurd (omega arith)
        go false l true m d n v = let z : ◌≡◌ {A = ℕ} 0 1 = cc in absurd (omega arith)
        go false l false m true n v = let z : ◌≡◌ {A = ℕ} 0 1 = cc in absurd (omega arith)
        go false l false m false n v = unseen_of (record { small = l; ends = ltb-false _ _ n }) m v
