-- Laws of a definition line's parts.
use Prim.Native.Nat.{ℕ, zero, suc, ◌+◌, ◌≤◌, ◌<◌, ◌-◌}
use Rattle.std.specs.Prelude.{◌≡◌, refl, Bool, true, false, cond, not, drop, eqb, Ok, Err}
use Rattle.std.proofs.Math.Path.{ap}
use Rattle.std.proofs.Common.{sym, ◌∙◌, true≢false, length-drop, drop_of_length-le, drop-drop, drop-cons, take_all, eq-eqb, ne_eqb}
use mathlib.Core.List.{List, [], ◌∷◌, ◌++◌}
use Rattle.std.specs.Bool.{beq}
use Rattle.std.proofs.Math.ListN.{length, get_or}
use native.Mathlib.Omega.{arith}
use Rattle.std.proofs.Math.Nat.{sub-zero}
use Rattle.lines.specs.Lines.{part, content_of}
use Rattle.lines.specs.declared.Span.{Span}
use Rattle.lines.specs.Laws.{part_none, part-snoc, part_length, content-le}
use Rattle.definition.specs.Definition.{is_space, spaced, run, kept, keep, described, named_of, marked_says, content_says, definition_says, fails_at}
use Rattle.definition.specs.declared.Definition.{Definition}
use Rattle.definition.specs.declared.Fault.{Fault}
use Rattle.definition.specs.declared.Fault.TheVariants.{Empty, NoPrefix, NoName}

-- ---- a run from the front

module _ (p : ℕ → Bool) (s : List ℕ) (i : ℕ) where
  pub run_more : i < length s → p (get_or s i 0) ≡ true → run p (drop i s) ≡ suc (run p (drop (suc i) s))
  unfolding run
  run_more h t = rw (drop-cons s i 0 h, t)

  pub run-stop : i < length s → p (get_or s i 0) ≡ false → run p (drop i s) ≡ 0
  unfolding run
  run-stop h t = rw (drop-cons s i 0 h, t)

  pub run_end : length s ≤ i → run p (drop i s) ≡ 0
  unfolding run
  run_end h = rw (drop_of_length-le s h)

pub run-le : (p : ℕ → Bool) (s : List ℕ) → run p s ≤ length s
unfolding run
run-le p [] = omega arith
run-le p (b ∷ s) = go (p b) (run-le p s)
  where
    go : (t : Bool) → run p s ≤ length s → cond t (suc (run p s)) 0 ≤ suc (length s)
    go true h = omega arith
    go false h = omega arith

pub run-within : (p : ℕ → Bool) (s : List ℕ) (i : ℕ) → i ≤ length s → i + run p (drop i s) ≤ length s
run-within p s i h = omega (arith, run-le p (drop i s), length-drop i s)

-- ---- what is kept at the front

keep-hit : (p : ℕ → Bool) (l : List ℕ) (x : ℕ) → p x ≡ true → keep p (l ++ (x ∷ [])) ≡ keep p l
unfolding keep
keep-hit p [] x e = rw e
keep-hit p (y ∷ l) x e = ap (kept (p y)) (keep-hit p l x e)

keep-miss : (p : ℕ → Bool) (l : List ℕ) (x : ℕ) → p x ≡ false → keep p (l ++ (x ∷ [])) ≡ suc (length l)
unfolding keep
keep-miss p [] x e = rw e
keep-miss p (y ∷ l) x e = ap (kept (p y)) (keep-miss p l x e)

pub keep-le : (p : ℕ → Bool) (s : List ℕ) → keep p s ≤ length s
unfolding keep
keep-le p [] = omega arith
keep-le p (b ∷ s) = go (p b) (keep p s) (keep-le p s)
  where
    go : (t : Bool) (n : ℕ) → n ≤ length s → kept t n ≤ suc (length s)
    go true zero h = omega arith
    go false zero h = omega arith
    go t (suc n) h = omega arith

module _ (p : ℕ → Bool) (s : List ℕ) (at e n : ℕ) where
  pub keep-more : at ≤ n → n < length s → n + 1 ≡ e → p (get_or s n 0) ≡ true → keep p (part s at e) ≡ keep p (part s at n)
  keep-more h k m t = rw (part-snoc s at e n h k m) (keep-hit p (part s at n) (get_or s n 0) t)

  pub keep-stop : at ≤ n → n < length s → n + 1 ≡ e → p (get_or s n 0) ≡ false → at + keep p (part s at e) ≡ e
  keep-stop h k m t =
      rw (part-snoc s at e n h k m, keep-miss p (part s at n) (get_or s n 0) t, part_length s at n (omega arith)) (omega arith)

pub keep-end : (p : ℕ → Bool) (s : List ℕ) (at e : ℕ) → e ≤ at → keep p (part s at e) ≡ 0
unfolding keep
keep-end p s at e h = rw (part_none s at e h)

pub keep_all : (p : ℕ → Bool) (s : List ℕ) (at : ℕ) → keep p (part s at (length s)) ≡ keep p (drop at s)
keep_all p s at = ap (keep p) (take_all (length s - at) (drop at s) (omega (arith, length-drop at s)))

-- ---- what a content says

pub described-none : (d n : ℕ) → n ≡ 0 → described d n ≡ record { start = 0; length = 0 }
described-none d n h = rw h

pub described-some : (d n : ℕ) → 0 < n → described d n ≡ record { start = d; length = n }
described-some d zero h = absurd (omega arith)
described-some d (suc n) h = refl

-- the other laws of this crate are about lines whose mark is '>'
pub marked-prefix : (l : List ℕ) → marked_says 62 l ≡ content_says l
unfolding marked_says content_says
marked-prefix [] = refl
marked-prefix (b ∷ s) = refl

pub says-empty : (mark : ℕ) (l : List ℕ) → length l ≡ 0 → Err Empty ≡ marked_says mark l
unfolding marked_says
says-empty mark [] h = refl
says-empty mark (b ∷ s) h = absurd (omega arith)

pub says-prefix : (mark : ℕ) (l : List ℕ) → (length l ≡ 0 → ⊥) → (get_or l 0 0 ≡ mark → ⊥) → Err NoPrefix ≡ marked_says mark l
unfolding marked_says
says-prefix mark [] z x = absurd (z refl)
says-prefix mark (b ∷ s) z x = rw (ne_eqb b mark x)

module _ (mark : ℕ) (l : List ℕ) (z : length l ≡ 0 → ⊥) (x : get_or l 0 0 ≡ mark) (n : ℕ) (m : n ≡ 1 + run (spaced false) (drop 1 l)) where
  pub says-no-name : n ≡ 1 → Err NoName ≡ marked_says mark l
  unfolding marked_says
  says-no-name y = go l z x m
    where
      go : (T : List ℕ) → (length T ≡ 0 → ⊥) → get_or T 0 0 ≡ mark → n ≡ 1 + run (spaced false) (drop 1 T) → Err NoName ≡ marked_says mark T
      go [] w p q = absurd (w refl)
      go (b ∷ s) w p q = let r : run (spaced false) s ≡ 0 = omega arith in rw (eq-eqb b mark p, r)

  -- by the places that the code finds: the name's end, the description's start and end
  pub says-named : (d k : ℕ) → (n ≡ 1 → ⊥) → d ≡ n + run (spaced true) (drop n l) → k ≡ d + keep is_space (drop d l)
      → Ok (record { name = record { start = 1; length = n - 1 }; description = described d (k - d) }) ≡ marked_says mark l
  unfolding marked_says
  says-named d k y p q = go l z x m p q
    where
      go : (T : List ℕ) → (length T ≡ 0 → ⊥) → get_or T 0 0 ≡ mark → n ≡ 1 + run (spaced false) (drop 1 T) → d ≡ n + run (spaced true) (drop n T)
          → k ≡ d + keep is_space (drop d T) → Ok (record { name = record { start = 1; length = n - 1 }; description = described d (k - d) }) ≡ marked_says mark T
      go [] w u v p q = absurd (w refl)
      go (b ∷ s) w u v p q = rw (eq-eqb b mark u) (some (run (spaced false) s) refl)
        where
          some : (j : ℕ) → run (spaced false) s ≡ j → Ok (record { name = record { start = 1; length = n - 1 }; description = described d (k - d) }) ≡ named_of s j
          some zero e = absurd (y (omega arith))
          some (suc j) e =
              let N : n ≡ suc (suc j) = omega arith in
              let a : n - 1 ≡ suc j = omega arith in
              let D : d ≡ suc (suc j) + run (spaced true) (drop (suc j) s) = rw N at p in
              let W : keep is_space (drop d (b ∷ s)) ≡ keep is_space (drop (run (spaced true) (drop (suc j) s)) (drop (suc j) s)) =
              ap (keep is_space) (rw D (sym (drop-drop (run (spaced true) (drop (suc j) s)) (suc (suc j)) (b ∷ s)))) in
              let K : k - d ≡ keep is_space (drop (run (spaced true) (drop (suc j) s)) (drop (suc j) s)) = omega (arith, W) in
              rw (a, K, D)

-- ---- whitespace

pub spaced-yes : (t r : Bool) (b : ℕ) → r ≡ is_space b → not (beq r t) ≡ false → spaced t b ≡ true
spaced-yes true true b e h = sym e
spaced-yes true false b e h = absurd (true≢false h)
spaced-yes false true b e h = absurd (true≢false h)
spaced-yes false false b e h = rw (← e)

pub spaced-not : (t r : Bool) (b : ℕ) → r ≡ is_space b → not (beq r t) ≡ true → spaced t b ≡ false
spaced-not true false b e h = sym e
spaced-not true true b e h = absurd (true≢false (sym h))
spaced-not false false b e h = absurd (true≢false (sym h))
spaced-not false true b e h = rw (← e)

-- ---- where a name lies

-- a name lies in its line, behind the mark
pub marked-within : (mark : ℕ) (l : List ℕ) (d : Definition) → marked_says mark (content_of l) ≡ Ok d
    → (d.name.start ≡ 1) × (1 ≤ d.name.length) × (d.name.start + d.name.length ≤ length l)
unfolding marked_says
marked-within mark l d h = go (content_of l) (content-le l) h
  where
    some : (s : List ℕ) (n : ℕ) → n ≤ length s → suc (length s) ≤ length l → named_of s n ≡ Ok d
        → (d.name.start ≡ 1) × (1 ≤ d.name.length) × (d.name.start + d.name.length ≤ length l)
    some s zero a b e = let z : ◌≡◌ {A = ℕ} 0 1 = cc in absurd (omega arith)
    some s (suc n) a b e =
        let k : ℕ = run (spaced true) (drop (suc n) s) in
        let v : d ≡ record { name = record { start = 1; length = suc n }; description = described (suc (suc n) + k) (keep is_space (drop k (drop (suc n) s))) } = cc in
        let p : d.name.start ≡ 1 = ap (λ (x : Definition). x.name.start) v in
        let q : d.name.length ≡ suc n = ap (λ (x : Definition). x.name.length) v in
        (p, omega arith, omega arith)

    go : (t : List ℕ) → length t ≤ length l → marked_says mark t ≡ Ok d → (d.name.start ≡ 1) × (1 ≤ d.name.length) × (d.name.start + d.name.length ≤ length l)
    go [] a e = let z : ◌≡◌ {A = ℕ} 0 1 = cc in absurd (omega arith)
    go (b ∷ s) a e = prefixed (eqb b mark) e
      where
        prefixed : (t : Bool) → cond t (named_of s (run (spaced false) s)) (Err NoPrefix) ≡ Ok d
            → (d.name.start ≡ 1) × (1 ≤ d.name.length) × (d.name.start + d.name.length ≤ length l)
        prefixed true e = some s (run (spaced false) s) (run-le (spaced false) s) a e
        prefixed false e = let z : ◌≡◌ {A = ℕ} 0 1 = cc in absurd (omega arith)

pub name-within : (l : List ℕ) (d : Definition) → definition_says l ≡ Ok d
    → (d.name.start ≡ 1) × (1 ≤ d.name.length) × (d.name.start + d.name.length ≤ length l)
unfolding definition_says
name-within l d h = marked-within 62 l d (marked-prefix (content_of l) ∙ h)

-- what is kept behind some bytes
pub keep-drop : (p : ℕ → Bool) (i : ℕ) (s : List ℕ) → keep p (drop i s) ≡ keep p s - i
unfolding keep
keep-drop p zero s = sym (sub-zero (keep p s))
keep-drop p (suc i) [] = omega arith
keep-drop p (suc i) (b ∷ s) = keep-drop p i s ∙ go (p b) (keep p s)
  where
    go : (t : Bool) (n : ℕ) → n - i ≡ kept t n - suc i
    go true zero = omega arith
    go false zero = omega arith
    go t (suc n) = omega arith

-- a span lies in a line, and is 0, 0 if it has no bytes
abbrev pub Inside : List ℕ → Span → Type 0
Inside l s = (s.start + s.length ≤ length l) × (s.length ≡ 0 → s.start ≡ 0)

pub description-within : (l : List ℕ) (d : Definition) → definition_says l ≡ Ok d → Inside l d.description
unfolding definition_says content_says
description-within l d h = go (content_of l) (content-le l) h
  where
    span : (at n : ℕ) → (0 < n → at + n ≤ length l) → Inside l (described at n)
    span at zero k = (omega arith, λ z. refl)
    span at (suc n) k = (k (omega arith), λ z. absurd (omega arith))

    some : (s : List ℕ) (n : ℕ) → n ≤ length s → suc (length s) ≤ length l → named_of s n ≡ Ok d → Inside l d.description
    some s zero a b e = let z : ◌≡◌ {A = ℕ} 0 1 = cc in absurd (omega arith)
    some s (suc n) a b e =
        let k : ℕ = run (spaced true) (drop (suc n) s) in
        let m : ℕ = keep is_space (drop k (drop (suc n) s)) in
        let v : d ≡ record { name = record { start = 1; length = suc n }; description = described (suc (suc n) + k) m } = cc in
        rw v (span (suc (suc n) + k) m
        (λ z. omega (arith, keep-le is_space (drop k (drop (suc n) s)), length-drop k (drop (suc n) s), length-drop (suc n) s, run-le (spaced true) (drop (suc n) s))))

    go : (t : List ℕ) → length t ≤ length l → content_says t ≡ Ok d → Inside l d.description
    go [] a e = let z : ◌≡◌ {A = ℕ} 0 1 = cc in absurd (omega arith)
    go (b ∷ s) a e = prefixed (eqb b 62) e
      where
        prefixed : (t : Bool) → cond t (named_of s (run (spaced false) s)) (Err NoPrefix) ≡ Ok d → Inside l d.description
        prefixed true e = some s (run (spaced false) s) (run-le (spaced false) s) a e
        prefixed false e = let z : ◌≡◌ {A = ℕ} 0 1 = cc in absurd (omega arith)

-- ---- where reading fails

-- at the line's first byte, or the one behind it
pub fails-near : (f : Fault) → fails_at f ≤ 1
unfolding fails_at
fails-near Empty = omega arith
fails-near NoPrefix = omega arith
fails-near NoName = omega arith
