-- What the reader holds behind the first r fields, all of them good: the tag wanted next is the first of the four that has not stood, and what is
-- kept is in the fields. So a field is in its turn exactly if its tag is the wanted one.
use Rattle.std.specs.Prelude.{ℕ, zero, suc, ◌+◌, ◌≤◌, ◌<◌, ◌≡◌, refl, Bool, true, false, List, ◌⊎◌, ltb, get_or}
use Rattle.std.proofs.Common.{inl, inr, arith, ltb-true, ltb-false}
use Rattle.exercise.specs.Numbers.{big_from}
use Rattle.exercise.specs.FirstFault.{field_at, tag_of, size_of, value_of, Four, Stands, InTurn}
use Rattle.exercise.specs.declared.Kept.{Kept}

-- one of the first r fields has a tag, and something holds of its place
pub record Place (s : List ℕ) (r tag : ℕ) (P : ℕ → Type 0) : Type 0 where
  pub place : ℕ
  pub before : place < r
  pub tagged : tag_of s place ≡ tag
  pub holds : P place

-- field j has its bytes from a place on, and so many
pub record Named (s : List ℕ) (from size j : ℕ) : Type 0 where
  pub start : from ≡ field_at s j + 3
  pub length : size ≡ size_of s j

pub record Known (s : List ℕ) (r : ℕ) (h : Kept) : Type 0 where
  pub least : 1 ≤ h.wanted
  pub most : h.wanted ≤ 5
  pub below : (j : ℕ) → j < r → Four (tag_of s j) → tag_of s j < h.wanted
  pub name : 2 ≤ h.wanted → Place s r 1 (Named s h.name_start h.name_length)
  pub start : 3 ≤ h.wanted → Place s r 2 (λ j. h.start ≡ big_from 0 (value_of s j))
  pub end : 4 ≤ h.wanted → Place s r 3 (λ j. h.end ≡ big_from 0 (value_of s j))
  pub edition : 5 ≤ h.wanted → Place s r 4 (λ j. h.edition ≡ get_or (value_of s j) 0 0)

stands : {s : List ℕ} {r tag : ℕ} {P : ℕ → Type 0} → Place s r tag P → Stands s r tag
stands p = record { place = p.place; before = p.before; tagged = p.tagged }

-- one field more
pub onward : {s : List ℕ} {r tag : ℕ} {P : ℕ → Type 0} → Place s r tag P → Place s (suc r) tag P
onward p = record { place = p.place; before = omega (arith, p.before); tagged = p.tagged; holds = p.holds }

-- the last of r + 1 fields, and those before it
pub split : (j r : ℕ) → j < suc r → (j < r) ⊎ (j ≡ r)
split j r q = go (ltb j r) refl
  where
    go : (t : Bool) → ltb j r ≡ t → (j < r) ⊎ (j ≡ r)
    go true e = inl (ltb-true j r e)
    go false e = inr (omega (arith, ltb-false j r e))

module _ (s : List ℕ) (r : ℕ) (h : Kept) (k : Known s r h) where
  -- all below the wanted tag have stood
  pub stood : (tag : ℕ) → 1 ≤ tag → tag < h.wanted → Stands s r tag
  stood zero l m = absurd (omega arith)
  stood (suc zero) l m = stands (k.name (omega arith))
  stood (suc (suc zero)) l m = stands (k.start (omega arith))
  stood (suc (suc (suc zero))) l m = stands (k.end (omega arith))
  stood (suc (suc (suc (suc zero)))) l m = stands (k.edition (omega arith))
  stood (suc (suc (suc (suc (suc tag))))) l m = absurd (omega (arith, k.most))

  -- the wanted tag has not
  pub not_yet : Four h.wanted → Stands s r h.wanted → ⊥
  not_yet f p =
      let q : Four (tag_of s p.place) = rw p.tagged f in
      omega (arith, k.below p.place p.before q, p.tagged)

  pub in-turn : tag_of s r ≡ h.wanted → InTurn s r
  in-turn e = record { rising = λ j q f. omega (arith, k.below j q f, e); complete = λ tag l m. stood tag l (omega (arith, m, e)) }

  pub turn-wanted : Four (tag_of s r) → InTurn s r → tag_of s r ≡ h.wanted
  turn-wanted f t = go (ltb (tag_of s r) h.wanted) refl (ltb h.wanted (tag_of s r)) refl
    where
      again : Stands s r (tag_of s r) → ⊥
      again p =
          let q : Four (tag_of s p.place) = rw p.tagged f in
          omega (arith, t.rising p.place p.before q, p.tagged)

      go : (a : Bool) → ltb (tag_of s r) h.wanted ≡ a → (b : Bool) → ltb h.wanted (tag_of s r) ≡ b → tag_of s r ≡ h.wanted
      go true e b g = absurd (again (stood (tag_of s r) f.least (ltb-true _ _ e)))
      go false e true g =
          let m = ltb-true h.wanted (tag_of s r) g in
          absurd (not_yet (record { least = k.least; most = omega (arith, m, f.most) }) (t.complete h.wanted k.least m))
      go false e false g = omega (arith, ltb-false (tag_of s r) h.wanted e, ltb-false h.wanted (tag_of s r) g)

-- ---- what is kept behind one field more

module _ (s : List ℕ) (r : ℕ) (h : Kept) (k : Known s r h) where
  below_next : (w : ℕ) → h.wanted ≤ w → (Four (tag_of s r) → tag_of s r < w) → (j : ℕ) → j < suc r → Four (tag_of s j) → tag_of s j < w
  below_next w m n j q f = go (split j r q)
    where
      go : (j < r) ⊎ (j ≡ r) → tag_of s j < w
      go (inl p) = omega (arith, k.below j p f, m)
      go (inr e) = let g : Four (tag_of s r) = rw (← e) f in rw e (n g)

  -- a tag that is not of the four: as before
  pub passed-known : (Four (tag_of s r) → ⊥) → Known s (suc r) h
  passed-known n = record {
    least = k.least;
    most = k.most;
    below = below_next h.wanted (omega arith) (λ f. absurd (n f));
    name = λ m. onward (k.name m);
    start = λ m. onward (k.start m);
    end = λ m. onward (k.end m);
    edition = λ m. onward (k.edition m);
  }

  pub name-known : tag_of s r ≡ 1 → h.wanted ≡ 1
      → Known s (suc r) (record { wanted = 2; name_start = field_at s r + 3; name_length = size_of s r; start = h.start; end = h.end; edition = h.edition })
  name-known e w = record {
    least = omega arith;
    most = omega arith;
    below = below_next 2 (omega (arith, w)) (λ f. omega (arith, e));
    name = λ m. record { place = r; before = omega arith; tagged = e; holds = record { start = refl; length = refl } };
    start = λ m. absurd (omega (arith, m));
    end = λ m. absurd (omega (arith, m));
    edition = λ m. absurd (omega (arith, m));
  }

  pub start-known : tag_of s r ≡ 2 → h.wanted ≡ 2
      → Known s (suc r) (record { wanted = 3; name_start = h.name_start; name_length = h.name_length; start = big_from 0 (value_of s r); end = h.end; edition = h.edition })
  start-known e w = record {
    least = omega arith;
    most = omega arith;
    below = below_next 3 (omega (arith, w)) (λ f. omega (arith, e));
    name = λ m. onward (k.name (omega (arith, w)));
    start = λ m. record { place = r; before = omega arith; tagged = e; holds = refl };
    end = λ m. absurd (omega (arith, m));
    edition = λ m. absurd (omega (arith, m));
  }

  pub end_known : tag_of s r ≡ 3 → h.wanted ≡ 3
      → Known s (suc r) (record { wanted = 4; name_start = h.name_start; name_length = h.name_length; start = h.start; end = big_from 0 (value_of s r); edition = h.edition })
  end_known e w = record {
    least = omega arith;
    most = omega arith;
    below = below_next 4 (omega (arith, w)) (λ f. omega (arith, e));
    name = λ m. onward (k.name (omega (arith, w)));
    start = λ m. onward (k.start (omega (arith, w)));
    end = λ m. record { place = r; before = omega arith; tagged = e; holds = refl };
    edition = λ m. absurd (omega (arith, m));
  }

  pub edition-known : tag_of s r ≡ 4 → h.wanted ≡ 4
      → Known s (suc r) (record { wanted = 5; name_start = h.name_start; name_length = h.name_length; start = h.start; end = h.end; edition = get_or (value_of s r) 0 0 })
  edition-known e w = record {
    least = omega arith;
    most = omega arith;
    below = below_next 5 (omega (arith, w)) (λ f. omega (arith, e));
    name = λ m. onward (k.name (omega (arith, w)));
    start = λ m. onward (k.start (omega (arith, w)));
    end = λ m. onward (k.end (omega (arith, w)));
    edition = λ m. record { place = r; before = omega arith; tagged = e; holds = refl };
  }
