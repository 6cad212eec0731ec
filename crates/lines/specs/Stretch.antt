-- Whether there is an LF in a stretch of bytes, by four places in it that are a quarter of it apart, and a row of four blocks at a time.
use Rattle.std.specs.Prelude.{ℕ, ◌+◌, ◌*◌, ◌≤◌, ◌≡◌, refl, List, Bool, ◌||◌, take, drop}
use Rattle.std.proofs.Math.Bool.{true, false}
use Rattle.std.proofs.Common.{true≢false, arith}
use Rattle.lines.specs.Clear.{has_lf, lf-none}
use Rattle.lines.specs.Blocks.{lf_in_either, blocks-hit, blocks-on}
use Rattle.lines.specs.Abreast.{InFour, NoLf}

-- none of four tests holds
record None (a b c d : Bool) : Type 0 where
  pub first : a ≡ false
  pub second : b ≡ false
  pub third : c ≡ false
  pub fourth : d ≡ false

none : (a b c d : Bool) → (a || b || (c || d)) ≡ false → None a b c d
none true b c d e = absurd (true≢false e)
none false true c d e = absurd (true≢false e)
none false false true d e = absurd (true≢false e)
none false false false d e = record { first = refl; second = refl; third = refl; fourth = e }

-- what each of four tests says is said where one of them holds
some : (a b c d w : Bool) → (a ≡ true → true ≡ w) → (b ≡ true → true ≡ w) → (c ≡ true → true ≡ w) → (d ≡ true → true ≡ w) → (a || b || (c || d)) ≡ true → true ≡ w
some true b c d w f g h i e = f refl
some false true c d w f g h i e = g refl
some false false true d w f g h i e = h refl
some false false false d w f g h i e = i e

module _ (s : List ℕ) (at apart : ℕ) where
  pub row-none : (k : ℕ) → k ≡ 0 → InFour (NoLf s k) at apart
  row-none k e = record { first = clear at; second = clear (at + apart); third = clear (at + apart + apart); fourth = clear (at + apart + apart + apart) }
    where
      clear : (p : ℕ) → NoLf s k p
      clear p = record { clear = lf-none k (drop p s) e }

  -- k bytes from each place on are tested, then a row of m more from each
  module _ (k m : ℕ) where
    abbrev first : Bool
    first = has_lf (take m (drop (at + k) s))

    abbrev second : Bool
    second = has_lf (take m (drop (at + k + apart) s))

    abbrev third : Bool
    third = has_lf (take m (drop (at + k + apart + apart) s))

    abbrev fourth : Bool
    fourth = has_lf (take m (drop (at + k + apart + apart + apart) s))

    pub row_on : InFour (NoLf s k) at apart
        → (lf_in_either s (at + k) (at + k + apart) m || lf_in_either s (at + k + apart + apart) (at + k + apart + apart + apart) m) ≡ false
        → InFour (NoLf s (k + m)) at apart
    unfolding lf_in_either
    row_on f e =
        let t : None first second third fourth = none first second third fourth e in
        record {
          first = one at (at + k) (omega arith) f.first t.first;
          second = one (at + apart) (at + k + apart) (omega arith) f.second t.second;
          third = one (at + apart + apart) (at + k + apart + apart) (omega arith) f.third t.third;
          fourth = one (at + apart + apart + apart) (at + k + apart + apart + apart) (omega arith) f.fourth t.fourth;
        }
      where
        one : (p j : ℕ) → p + k ≡ j → NoLf s k p → has_lf (take m (drop j s)) ≡ false → NoLf s (k + m) p
        one p j q a b = record { clear = blocks-on s p (k + m) k m a.clear (rw q b) }

    pub row-hit : (n : ℕ) → n ≡ 4 * apart → k + m ≤ apart
        → (lf_in_either s (at + k) (at + k + apart) m || lf_in_either s (at + k + apart + apart) (at + k + apart + apart + apart) m) ≡ true
        → true ≡ has_lf (take n (drop at s))
    unfolding lf_in_either
    row-hit n w h =
        some first second third fourth (has_lf (take n (drop at s)))
        (one k (at + k) (omega arith) (omega arith))
        (one (k + apart) (at + k + apart) (omega arith) (omega arith))
        (one (k + apart + apart) (at + k + apart + apart) (omega arith) (omega arith))
        (one (k + apart + apart + apart) (at + k + apart + apart + apart) (omega arith) (omega arith))
      where
        one : (j p : ℕ) → at + j ≡ p → j + m ≤ n → has_lf (take m (drop p s)) ≡ true → true ≡ has_lf (take n (drop at s))
        one j p q l e = blocks-hit s at n j m l (rw q e)

  -- four quarters without an LF are a stretch without one
  pub row-all : (n : ℕ) → n ≡ 4 * apart → InFour (NoLf s apart) at apart → false ≡ has_lf (take n (drop at s))
  row-all n w f =
      let two : has_lf (take (apart + apart) (drop at s)) ≡ false = on apart (at + apart) (omega arith) f.first.clear f.second.clear in
      let three : has_lf (take (apart + apart + apart) (drop at s)) ≡ false = on (apart + apart) (at + apart + apart) (omega arith) two f.third.clear in
      let four : has_lf (take (apart + apart + apart + apart) (drop at s)) ≡ false = on (apart + apart + apart) (at + apart + apart + apart) (omega arith) three f.fourth.clear in
      let q : n ≡ apart + apart + apart + apart = omega arith in
      rw (q, four)
    where
      on : (j p : ℕ) → at + j ≡ p → has_lf (take j (drop at s)) ≡ false → has_lf (take apart (drop p s)) ≡ false → has_lf (take (j + apart) (drop at s)) ≡ false
      on j p q a b = blocks-on s at (j + apart) j apart a (rw q b)
