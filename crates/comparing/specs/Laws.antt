-- When some bytes are the same as others, by their parts.
use Rattle.std.specs.Prelude.{ℕ, ◌+◌, ◌≤◌, ◌<◌, ◌≡◌, refl, List, [], ◌∷◌, ◌++◌, Bool, true, false, ◌&&◌, length, take, drop, get_or, eqb}
use Rattle.std.proofs.Common.{sym, ap, ◌∙◌, true≢false, arith, add-one, take-suc, take-add, take-take, take_all, length-take-le}
use Rattle.std.specs.Cmp.Lexicographic.{pointwise}
use Rattle.lines.specs.Same.{same_bytes, same_refl, same_true, same-is}

-- one byte more behind as many
same-snoc : (s t : List ℕ) (x y : ℕ) → length s ≡ length t → same_bytes (s ++ (x ∷ [])) (t ++ (y ∷ [])) ≡ (same_bytes s t && eqb x y)
unfolding same_bytes
same-snoc [] [] x y h = go (eqb x y)
  where
    go : (e : Bool) → (e && true) ≡ e
    go true = refl
    go false = refl
same-snoc [] (b ∷ t) x y h = absurd (omega arith)
same-snoc (a ∷ s) [] x y h = absurd (omega arith)
same-snoc (a ∷ s) (b ∷ t) x y h = rw (same-snoc s t x y (omega arith)) (go (eqb a b))
  where
    go : (e : Bool) → (e && (same_bytes s t && eqb x y)) ≡ (e && same_bytes s t && eqb x y)
    go true = refl
    go false = refl

-- as the library compares bytes
pub same-pointwise : (s t : List ℕ) → pointwise eqb s t ≡ same_bytes s t
unfolding same_bytes
same-pointwise [] [] = refl
same-pointwise [] (b ∷ t) = refl
same-pointwise (a ∷ s) [] = refl
same-pointwise (a ∷ s) (b ∷ t) = rw (same-pointwise s t)

pub block_none : (a b : List ℕ) → true ≡ same_bytes (take 0 a) (take 0 b)
unfolding same_bytes
block_none a b = refl

pub block_more : (a b : List ℕ) (k : ℕ) (all : Bool) → k < length a → k < length b → all ≡ same_bytes (take k a) (take k b)
    → (all && eqb (get_or a k 0) (get_or b k 0)) ≡ same_bytes (take (k + 1) a) (take (k + 1) b)
block_more a b k all h m e =
    let f : length (take k a) ≡ length (take k b) = omega (arith, length-take-le k a (omega arith), length-take-le k b (omega arith)) in
    rw (e, add-one k, take-suc a k 0 h, take-suc b k 0 m) (sym (same-snoc (take k a) (take k b) (get_or a k 0) (get_or b k 0) f))

-- what would make bytes that are the same differ shows that they are not
pub not_same : (a b : List ℕ) → (a ≡ b → ⊥) → false ≡ same_bytes a b
not_same a b h = go (same_bytes a b) refl
  where
    go : (e : Bool) → same_bytes a b ≡ e → false ≡ e
    go true k = absurd (h (same_true a b k))
    go false k = refl

module _ (a b : List ℕ) where
  pub other_length : (length a ≡ length b → ⊥) → false ≡ same_bytes a b
  other_length h = not_same a b (λ e. h (ap length e))

  pub other_block : (i n : ℕ) → same_bytes (take n (drop i a)) (take n (drop i b)) ≡ false → false ≡ same_bytes a b
  other_block i n h = not_same a b (λ e. true≢false (sym (same_refl (take n (drop i b))) ∙ rw e at h))

  -- the first i bytes are the same
  module _ (i : ℕ) (f : take i a ≡ take i b) where
    pub block_on : (n : ℕ) → same_bytes (take n (drop i a)) (take n (drop i b)) ≡ true → take (i + n) a ≡ take (i + n) b
    block_on n e = rw (take-add i n a, take-add i n b, f, same_true _ _ e)

    -- the last n decide, if no byte is between
    pub last_says : (last n : ℕ) → last ≤ i → length a ≡ last + n → length b ≡ last + n → same_bytes (take n (drop last a)) (take n (drop last b)) ≡ same_bytes a b
    last_says last n h p q = same-is a b (same_bytes (take n (drop last a)) (take n (drop last b))) (λ e. whole e) (λ e. rw e (same_refl (take n (drop last b))))
      where
        front : take last a ≡ take last b
        front = sym (take-take last i a h) ∙ ap (take last) f ∙ take-take last i b h

        whole : same_bytes (take n (drop last a)) (take n (drop last b)) ≡ true → a ≡ b
        whole e =
            sym (take_all (last + n) a (omega arith))
            ∙ (take-add last n a ∙ (rw (front, same_true _ _ e) (sym (take-add last n b)) ∙ take_all (last + n) b (omega arith)))
