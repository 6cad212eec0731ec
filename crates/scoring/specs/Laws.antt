-- Laws of the counts: what the code finds is what the places say.
use Rattle.std.specs.Prelude.{ℕ, zero, suc, ◌+◌, ◌-◌, ◌*◌, ◌/◌, ◌≤◌, ◌<◌, min, ◌≡◌, refl, Bool, true, false, not, ◌&&◌, List, ltb, get_or}
use Rattle.std.proofs.Math.Path.{sym}
use Rattle.std.proofs.Common.{ap, ◌∙◌, arith, lt-ltb, le-ltb, ltb-true, ltb-false}
use Rattle.std.proofs.Math.ListN.{length}
use Rattle.letters.specs.Sets.{bit}
use Rattle.scoring.specs.Places.{count_below, is_right, is_wrong, is_missing, right_of, wrong_of, missing_of, surplus_of, tenths, tenths_of, score_by}
use Rattle.scoring.specs.Counting.{Counted, agrees, count_same, count-stops, count-three, count_past, counted-front}

-- each place of the key is right, wrong or missing, and one of these only
one_of : (a b : Bool) → bit (a && b) + bit (a && not b) + bit (not a) ≡ 1
one_of true true = refl
one_of true false = refl
one_of false b = refl

module _ (rule : ℕ → ℕ → Bool) (key typed : List ℕ) where
  -- right, wrong and missing places are all places of the key
  pub asked : right_of rule key typed + wrong_of rule key typed + missing_of key typed ≡ length key
  unfolding right_of wrong_of missing_of
  asked = count-three (is_right rule key typed) (is_wrong rule key typed) (is_missing typed) (length key) (λ p. one_of (ltb p (length typed)) (rule (get_or key p 0) (get_or typed p 0)))

  pub missing-is : missing_of key typed ≡ length key - length typed
  unfolding missing_of
  missing-is = count_past (length typed) (length key)

  pub surplus-is : surplus_of key typed ≡ length typed - length key
  unfolding surplus_of
  surplus-is = count_past (length key) (length typed)

  -- the places where something was typed, and where it agrees
  pub right_is : (n r : ℕ) → n ≡ min (length key) (length typed) → Counted (agrees rule key typed) 0 n r → r ≡ right_of rule key typed
  unfolding right_of agrees
  right_is n r e c =
      counted-front (agrees rule key typed) n r c ∙ (sym (front n (omega arith)) ∙ sym back)
    where
      front : (m : ℕ) → m ≤ length typed → count_below (is_right rule key typed) m ≡ count_below (agrees rule key typed) m
      front m h = count_same (is_right rule key typed) (agrees rule key typed) m (λ p q. rw (lt-ltb p (length typed) (omega arith)))

      back : count_below (is_right rule key typed) (length key) ≡ count_below (is_right rule key typed) n
      back = go (ltb (length typed) (length key)) refl
        where
          go : (t : Bool) → ltb (length typed) (length key) ≡ t → count_below (is_right rule key typed) (length key) ≡ count_below (is_right rule key typed) n
          go true q =
              let d : length key ≡ n + (length key - n) = omega arith in
              let w : length typed ≤ n = omega (arith, ltb-le q) in
              rw d (count-stops (is_right rule key typed) n (length key - n) (λ p h. rw (le-ltb p (length typed) (omega arith))))
            where
              ltb-le : ltb (length typed) (length key) ≡ true → length typed < length key
              ltb-le = ltb-true (length typed) (length key)
          go false q = ap (count_below (is_right rule key typed)) (omega (arith, ltb-false (length typed) (length key) q))

-- the score of what the code finds
pub tenths-none : (r w : ℕ) → w ≡ 0 → 0 ≡ tenths r w
unfolding tenths
tenths-none r w e = rw e

pub tenths-some : (r w : ℕ) → (w ≡ 0 → ⊥) → 1000 * r / w ≡ tenths r w
unfolding tenths
tenths-some r zero h = absurd (h refl)
tenths-some r (suc w) h = refl

pub score-is : (rule : ℕ → ℕ → Bool) (key typed : List ℕ) (n r s v : ℕ) → n ≡ min (length key) (length typed) → Counted (agrees rule key typed) 0 n r
    → s ≡ length typed - n → v ≡ tenths r (length key + s)
    → record { right = r; wrong = n - r; missing = length key - n; surplus = s; score = v } ≡ score_by rule key typed
unfolding score_by tenths_of
score-is rule key typed n r s v e c f g =
    let R : r ≡ right_of rule key typed = right_is rule key typed n r e c in
    let M : length key - n ≡ missing_of key typed = omega (arith, missing-is rule key typed) in
    let S : s ≡ surplus_of key typed = omega (arith, surplus-is rule key typed) in
    let W : n - r ≡ wrong_of rule key typed = omega (arith, asked rule key typed, missing-is rule key typed) in
    rw (g, W, M, ← S, ← R)
