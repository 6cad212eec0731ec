-- What the code's steps of writing leave, and the laws that make a written line of it.
use Rattle.std.specs.Prelude.{ℕ, suc, ◌+◌, ◌*◌, ◌^◌, ◌≤◌, ◌<◌, ◌≡◌, refl, List, [], ◌∷◌, ◌++◌, map, Bool, true, false, cond, length, get_or, take, drop, set, ltb, Ok, Err}
use Rattle.std.proofs.Common.{ap, ◌∙◌, append-nil, append_assoc, arith, add-one, length-append, take-append-drop, take-suc}
use Rattle.std.proofs.lemmas.List.{map-append}
use Rattle.std.proofs.Math.Seq.{append_snoc}
use borrow.Author.Tests.{lt-ltb, le-ltb, ltb-false}
use Rattle.columns.specs.Bytes.{first_where, first-le, overlaid, overlaid-next, overlaid-more, overlaid-zero}
use Rattle.columns.specs.Decimal.{decimal_of}
use Rattle.columns.specs.Digits.{decimal-short}
use Rattle.output.specs.Outcome.{leaves, refuses, pours}
use Rattle.output.specs.Laws.{no-bytes, poured-known}
use Rattle.columns.specs.Fields.{tabbed, numbers_text, text_of, splits, text_written, text_within}
use Rattle.refusal.specs.declared.Refusal.TheVariants.{TooLong, NameSplit, NoRoom}
use Rattle.refusal.specs.Numbers.{over_limit}

-- ---- the text of numbers

tabbed-append : (fs gs : List (List ℕ)) → tabbed (fs ++ gs) ≡ tabbed fs ++ tabbed gs
unfolding tabbed
tabbed-append [] gs = refl
tabbed-append (f ∷ fs) gs = ap (λ (l : List ℕ). 9 ∷ l) (rw (tabbed-append fs gs, append_assoc))

text-append : (ms ns : List ℕ) → numbers_text (ms ++ ns) ≡ numbers_text ms ++ numbers_text ns
text-append ms ns = rw map-append (tabbed-append (map decimal_of ms) (map decimal_of ns))

-- one number more
pub text-snoc : (ns : List ℕ) (n : ℕ) → numbers_text (ns ++ (n ∷ [])) ≡ numbers_text ns ++ (9 ∷ decimal_of n)
unfolding tabbed
text-snoc ns n = rw text-append (rw append-nil)

pub text-more : (ns : List ℕ) (i : ℕ) → i < length ns → numbers_text (take (suc i) ns) ≡ numbers_text (take i ns) ++ (9 ∷ decimal_of (get_or ns i 0))
text-more ns i h = rw (take-suc ns i 0 h) (text-snoc (take i ns) (get_or ns i 0))

pub text-more-length : (ns : List ℕ) (i : ℕ) → i < length ns
    → length (numbers_text (take (i + 1) ns)) ≡ length (numbers_text (take i ns)) + (1 + length (decimal_of (get_or ns i 0)))
text-more-length ns i h = rw add-one (ap length (text-more ns i h) ∙ simp length-append (omega arith))

pub text-length : (name ns : List ℕ) → length (text_of name ns) ≡ length name + length (numbers_text ns) + 1
unfolding text_of
text-length name ns = simp length-append (omega arith)

-- the text of the first numbers is no longer than that of all
text-front : (ns : List ℕ) (i : ℕ) → length (numbers_text (take i ns)) ≤ length (numbers_text ns)
text-front ns i =
    omega (arith, ap (λ (l : List ℕ). length (numbers_text l)) (take-append-drop i ns), ap length (text-append (take i ns) (drop i ns)), length-append (numbers_text (take i ns)) (numbers_text (drop i ns)))

-- a number and its tab have 21 bytes at most
numbers-most : (ns : List ℕ) → ((i : ℕ) → get_or ns i 0 < 2 ^ 64) → length (numbers_text ns) ≤ 21 * length ns
unfolding tabbed
numbers-most [] h = omega arith
numbers-most (n ∷ ns) h = simp length-append (omega (arith, decimal-short n (h 0), numbers-most ns (λ i. h (suc i))))

pub text-most : (name ns : List ℕ) → ((i : ℕ) → get_or ns i 0 < 2 ^ 64) → length (text_of name ns) ≤ length name + 21 * length ns + 1
text-most name ns h = omega (arith, text-length name ns, numbers-most ns h)

-- ---- putting numbers: the text of the first i stands from a place on, up to where the next is put

module _ (ns out : List ℕ) (at i place : ℕ) (h : i < length ns) (fits : at + length (numbers_text ns) ≤ length out) (e : place ≡ at + length (numbers_text (take i ns))) where
  pub next-room : place + 1 + length (decimal_of (get_or ns i 0)) ≤ length out
  next-room = omega (arith, text-more-length ns i h, text-front ns (i + 1))

  pub next_place : place + 1 + length (decimal_of (get_or ns i 0)) ≡ at + length (numbers_text (take (i + 1) ns))
  next_place = omega (arith, text-more-length ns i h)

  -- the tab, and the number's digits behind it
  pub next-put : overlaid (set (overlaid out at (numbers_text (take i ns))) place 9) (place + 1) (decimal_of (get_or ns i 0)) ≡ overlaid out at (numbers_text (take (i + 1) ns))
  next-put =
      let t : List ℕ = numbers_text (take i ns) in
      let d : List ℕ = decimal_of (get_or ns i 0) in
      rw (overlaid-next out at place t 9 e (omega (arith, next-room)), overlaid-more out at (place + 1) (t ++ (9 ∷ [])) d (omega (arith, next-room)) (omega (arith, length-append t (9 ∷ []))), add-one i, text-more ns i h)
      (ap (overlaid out at) (append_snoc t 9 d))

-- ---- the whole text

-- the name at the front, the numbers behind it, and the LF
pub put-line : (name ns out : List ℕ) → length (text_of name ns) ≤ length out
    → set (overlaid (overlaid out 0 name) (length name) (numbers_text ns)) (length name + length (numbers_text ns)) 10 ≡ overlaid out 0 (text_of name ns)
unfolding text_of
put-line name ns out h =
    let w : List ℕ = numbers_text ns in
    let long = text-length name ns in
    rw (overlaid-more out 0 (length name) name w (omega arith) (omega arith), overlaid-next out 0 (length name + length w) (name ++ w) 10 (omega (arith, length-append name w)) (omega arith))
    (ap (overlaid out 0) (append_assoc name w (10 ∷ [])))

module _ (name ns out : List ℕ) where
  pub text-split : first_where splits name < length name → leaves (Err (NameSplit (first_where splits name))) out ≡ text_written name ns out
  unfolding text_written
  text-split h = rw (lt-ltb _ _ h)

  module _ (h : length name ≤ first_where splits name) where
    pub text-no-room : length out < length (text_of name ns) → leaves (Err (NoRoom (length (text_of name ns)))) out ≡ text_written name ns out
    unfolding text_written pours
    text-no-room r = rw (le-ltb _ _ h, lt-ltb _ _ r)

    pub text-put : length (text_of name ns) ≤ length out → leaves (Ok (length (text_of name ns))) (overlaid out 0 (text_of name ns)) ≡ text_written name ns out
    unfolding text_written pours
    text-put r = rw (overlaid-zero out (text_of name ns), le-ltb _ _ h, le-ltb _ _ r)

-- what is known of a text that was written: k bytes at the front of the output
pub record TextPut (name ns out : List ℕ) (k : ℕ) (after : List ℕ) : Type 0 where
  pub whole : first_where splits name ≡ length name
  pub front : take k after ≡ text_of name ns
  pub rest : drop k after ≡ drop k out

pub text-known : (name ns out : List ℕ) (k : ℕ) (after : List ℕ) → text_written name ns out ≡ leaves (Ok k) after → TextPut name ns out k after
unfolding text_written
text-known name ns out k after h = go (ltb (first_where splits name) (length name)) refl h
  where
    go : (t : Bool) → ltb (first_where splits name) (length name) ≡ t
        → cond t (refuses (NameSplit (first_where splits name)) out) (pours (text_of name ns) out) ≡ leaves (Ok k) after → TextPut name ns out k after
    go true e q = absurd (no-bytes _ out k after q)
    go false e q =
        let f = poured-known (text_of name ns) out k after q in
        record { whole = omega (arith, ltb-false (first_where splits name) (length name) e, first-le splits name); front = f.front; rest = f.rest }

-- ---- the call

module _ (name ns out : List ℕ) where
  pub within-name : over_limit (length name) ≡ true → refuses TooLong out ≡ text_within name ns out
  unfolding text_within
  within-name h = rw h

  pub within-numbers : over_limit (length name) ≡ false → over_limit (length ns) ≡ true → refuses TooLong out ≡ text_within name ns out
  unfolding text_within
  within-numbers h k = rw (h, k)

  pub within_both : over_limit (length name) ≡ false → over_limit (length ns) ≡ false → text_written name ns out ≡ text_within name ns out
  unfolding text_within
  within_both h k = rw (h, k)

-- what is no more than the limit is not over it
pub not-over : (n : ℕ) → n ≤ 1099511627776 → over_limit n ≡ false
unfolding over_limit
not-over n h = le-ltb 1099511627776 n h

pub over-not : (n : ℕ) → over_limit n ≡ false → n ≤ 1099511627776
unfolding over_limit
over-not n h = ltb-false 1099511627776 n h
