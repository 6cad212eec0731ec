-- Laws of a record's text, and of the tests before it.
use Prim.Native.Nat.{ℕ, zero, suc, ◌+◌, ◌-◌, ◌*◌, ◌/◌, ◌≤◌, ◌<◌, min}
use Rattle.std.specs.Prelude.{◌≡◌, refl, Bool, true, false, ◌&&◌, ◌||◌, Option, is_some, take, get_or, ltb, Ok}
use Rattle.std.proofs.Math.Path.{ap}
use Rattle.std.proofs.Common.{sym, ◌∙◌, true≢false, length-drop, length-take, drop_of_length-le, take-suc, take_all, take_at, drop_at, ltb-true, ltb-false, arith, add-one, div-le_self}
use mathlib.Core.List.{List, [], ◌∷◌, ◌++◌, append_assoc}
use Rattle.std.proofs.Math.ListN.{length, drop, set, length-append}
use Rattle.std.proofs.Math.Nat.{div-eq_of_lt, add-div_right}
use Rattle.columns.specs.Bytes.{overlaid, overlaid-none, overlaid-length, overlaid-next, overlaid-more, overlaid-zero}
use Rattle.std.specs.List.{list_any}
use Rattle.std.specs.Bool.{then_some}
use denote.Ref.{Bor}
use Rattle.output.specs.Outcome.{leaves, refuses, pours}
use Rattle.output.specs.Laws.{pours-short, pours-fits}
use Rattle.refusal.specs.Numbers.{over_limit}
use Rattle.refusal.specs.declared.Refusal.TheVariants.{NoRoom}
use Rattle.writer.specs.Text.{described_text, definition_text, contents_up_to, contents_of, line_of, lines_text, sequence_text, record_text, too_long, any_of, description_unfit, Put, lent}

-- ---- a test of some bytes

-- the library's word for the same
pub any-list : (p : ℕ → Bool) (s : List ℕ) → list_any p s ≡ any_of p s
unfolding any_of
any-list p [] = refl
any-list p (b ∷ s) = ap (λ (t : Bool). p b || t) (any-list p s)

pub any_append : (p : ℕ → Bool) (a b : List ℕ) → any_of p (a ++ b) ≡ (any_of p a || any_of p b)
unfolding any_of
any_append p [] b = refl
any_append p (x ∷ a) b = go (p x) (any_append p a b)
  where
    go : (t : Bool) → any_of p (a ++ b) ≡ (any_of p a || any_of p b) → (t || any_of p (a ++ b)) ≡ (t || any_of p a || any_of p b)
    go true h = refl
    go false h = h

-- a block of some bytes, and those behind it
module _ (p : ℕ → Bool) (s block rest : List ℕ) (e : s ≡ block ++ rest) where
  pub block-hit : any_of p block ≡ true → any_of p s ≡ true
  block-hit t = ap (any_of p) e ∙ any_append p block rest ∙ rw t

  pub block_none : any_of p block ≡ false → any_of p s ≡ any_of p rest
  block_none t = ap (any_of p) e ∙ any_append p block rest ∙ rw t

-- one byte more
or-false : (t : Bool) → (t || false) ≡ t
or-false true = refl
or-false false = refl

one_of : (p : ℕ → Bool) (x : ℕ) → any_of p (x ∷ []) ≡ p x
unfolding any_of
one_of p x = or-false (p x)

pub any_next : (p : ℕ → Bool) (s : List ℕ) (i : ℕ) → i < length s → any_of p (take (i + 1) s) ≡ (any_of p (take i s) || p (get_or s i 0))
any_next p s i h = rw (add-one i, take-suc s i 0 h, any_append p (take i s) (get_or s i 0 ∷ []), one_of p (get_or s i 0))

-- ---- contents

contents-enough : (w : ℕ) → 0 < w → (n m : ℕ) (s : List ℕ) → length s ≤ n → length s ≤ m → contents_up_to n w s ≡ contents_up_to m w s
unfolding contents_up_to
contents-enough w z zero zero s h k = refl
contents-enough w z zero (suc m) [] h k = refl
contents-enough w z zero (suc m) (b ∷ s) h k = absurd (omega arith)
contents-enough w z (suc n) zero [] h k = refl
contents-enough w z (suc n) zero (b ∷ s) h k = absurd (omega arith)
contents-enough w z (suc n) (suc m) [] h k = refl
contents-enough w z (suc n) (suc m) (b ∷ s) h k =
    ap (λ (rs : List (List ℕ)). take w (b ∷ s) ∷ rs)
    (contents-enough w z n m (drop w (b ∷ s)) (simp length-drop (omega arith)) (simp length-drop (omega arith)))

pub contents-step : (w : ℕ) → 0 < w → (s : List ℕ) → 0 < length s → contents_of w s ≡ take w s ∷ contents_of w (drop w s)
unfolding contents_up_to
contents-step w z [] h = absurd (omega arith)
contents-step w z (b ∷ s) h =
    ap (λ (rs : List (List ℕ)). take w (b ∷ s) ∷ rs)
    (contents-enough w z (length s) (length (drop w (b ∷ s))) (drop w (b ∷ s)) (simp length-drop (omega arith)) (omega arith))

pub text-none : (w : ℕ) (s : List ℕ) → length s ≡ 0 → sequence_text w s ≡ []
unfolding sequence_text lines_text contents_up_to
text-none w [] h = refl
text-none w (b ∷ s) h = absurd (omega arith)

-- the first line, and those behind it
pub text-step : (w : ℕ) → 0 < w → (s : List ℕ) → 0 < length s → sequence_text w s ≡ line_of (take w s) ++ sequence_text w (drop w s)
unfolding sequence_text lines_text
text-step w z s h = ap lines_text (contents-step w z s h)

-- ---- how long the texts are

pub definition-size : (name : List ℕ) (d : List ℕ) → length (definition_text name true d) ≡ length name + length d + 3
unfolding definition_text described_text
definition-size name d = simp length-append (omega arith)

pub bare-size : (name : List ℕ) (d : List ℕ) → length (definition_text name false d) ≡ length name + 2
unfolding definition_text described_text
bare-size name d = simp length-append (omega arith)

step-size : (w : ℕ) → 0 < w → (s : List ℕ) → 0 < length s → length (sequence_text w s) ≡ min w (length s) + 1 + length (sequence_text w (drop w s))
step-size w z s h =
    ap length (text-step w z s h)
    ∙ omega (arith, length-append (line_of (take w s)) (sequence_text w (drop w s)), length-append (take w s) (10 ∷ []), length-take w s)

size-up : (w : ℕ) → 0 < w → (n : ℕ) (s : List ℕ) → length s ≤ n → 0 < length s → length (sequence_text w s) ≡ length s + (length s - 1) / w + 1
size-up w z zero s h k = absurd (omega arith)
size-up w z (suc n) s h k = go (ltb w (length s)) refl (size-up w z n (drop w s) (omega (arith, length-drop w s)))
  where
    go : (t : Bool) → ltb w (length s) ≡ t → (0 < length (drop w s) → length (sequence_text w (drop w s)) ≡ length (drop w s) + (length (drop w s) - 1) / w + 1)
        → length (sequence_text w s) ≡ length s + (length s - 1) / w + 1
    go true e r =
        let l : w < length s = ltb-true _ _ e in
        let q : length s - 1 ≡ length (drop w s) - 1 + w = omega (arith, length-drop w s) in
        let d : (length s - 1) / w ≡ (length (drop w s) - 1) / w + 1 = ap (λ (x : ℕ). x / w) q ∙ add-div_right (length (drop w s) - 1) z in
        omega (arith, step-size w z s k, r (omega (arith, length-drop w s)), d, length-drop w s)
    go false e r =
        let l : length s ≤ w = ltb-false _ _ e in
        let d : (length s - 1) / w ≡ 0 = div-eq_of_lt (omega arith) in
        omega (arith, step-size w z s k, ap length (text-none w (drop w s) (omega (arith, length-drop w s))), d)

pub sequence-size : (w : ℕ) → 0 < w → (s : List ℕ) → 0 < length s → length (sequence_text w s) ≡ length s + (length s - 1) / w + 1
sequence-size w z s h = size-up w z (length s) s (omega arith) h

-- ---- one line put

take_min : (w n : ℕ) (t : List ℕ) → n ≡ min w (length t) → take w t ≡ take n t
take_min w n t e = go (ltb w (length t)) refl
  where
    go : (b : Bool) → ltb w (length t) ≡ b → take w t ≡ take n t
    go true h = let k : w < length t = ltb-true _ _ h in let q : w ≡ n = omega arith in ap (λ (x : ℕ). take x t) q
    go false h = let k : length t ≤ w = ltb-false _ _ h in take_all w t k ∙ sym (take_all n t (omega arith))

drop_min : (w n : ℕ) (t : List ℕ) → n ≡ min w (length t) → drop w t ≡ drop n t
drop_min w n t e = go (ltb w (length t)) refl
  where
    go : (b : Bool) → ltb w (length t) ≡ b → drop w t ≡ drop n t
    go true h = let k : w < length t = ltb-true _ _ h in let q : w ≡ n = omega arith in ap (λ (x : ℕ). drop x t) q
    go false h = let k : length t ≤ w = ltb-false _ _ h in drop_of_length-le t k ∙ sym (drop_of_length-le t {i = n} (omega arith))

-- some bases are the content of a line, and those behind it
module _ (w : ℕ) (z : 0 < w) (s line rest : List ℕ) (e : s ≡ line ++ rest) (n : length line ≡ min w (length s)) (h : 0 < length s) where
  line_step : sequence_text w s ≡ line_of line ++ sequence_text w rest
  line_step =
      let a : take w s ≡ line = take_min w (length line) s n ∙ ap (take (length line)) e ∙ take_at line rest (length line) refl in
      let b : drop w s ≡ rest = drop_min w (length line) s n ∙ ap (drop (length line)) e ∙ drop_at line rest (length line) refl in
      text-step w z s h ∙ rw (a, b)

  pub line-size : length (sequence_text w s) ≡ length line + 1 + length (sequence_text w rest)
  line-size = ap length line_step ∙ omega (arith, length-append (line_of line) (sequence_text w rest), length-append line (10 ∷ []))

  module _ (out : List ℕ) (at : ℕ) (r : at + length (sequence_text w s) ≤ length out) where
    line-laid : set (overlaid out at line) (at + length line) 10 ≡ overlaid out at (line_of line)
    line-laid = overlaid-next out at (at + length line) line 10 refl (omega (arith, line-size))

    pub line-length : length (set (overlaid out at line) (at + length line) 10) ≡ length out
    line-length = ap length line-laid ∙ overlaid-length out at (line_of line) (omega (arith, line-size, length-append line (10 ∷ [])))

    pub line-put : overlaid (set (overlaid out at line) (at + length line) 10) (at + length line + 1) (sequence_text w rest) ≡ overlaid out at (sequence_text w s)
    line-put = rw (line-laid, line_step) (overlaid-more out at (at + length line + 1) (line_of line) (sequence_text w rest) (omega arith) (omega (arith, length-append line (10 ∷ []))))

-- ---- a description that is told or not

-- what is told is what is lent, where it counts
module _ (t : Bool) (d : Bor (List ℕ)) (o : Option (Bor (List ℕ))) (e : o ≡ then_some t d) where
  pub told-text : (name : List ℕ) → definition_text name (is_some o) (lent o) ≡ definition_text name t d.now
  unfolding definition_text described_text
  told-text name = rw e (go t)
    where
      go : (b : Bool) → definition_text name (is_some (then_some b d)) (lent (then_some b d)) ≡ definition_text name b d.now
      go true = refl
      go false = refl

  pub told-unfit : (is_some o && description_unfit (lent o)) ≡ (t && description_unfit d.now)
  told-unfit = rw e (go t)
    where
      go : (b : Bool) → (is_some (then_some b d) && description_unfit (lent (then_some b d))) ≡ (b && description_unfit d.now)
      go true = refl
      go false = refl

  pub told-within : length (lent o) ≤ length d.now
  told-within = rw e (go t)
    where
      go : (b : Bool) → length (lent (then_some b d)) ≤ length d.now
      go true = omega arith
      go false = omega arith

-- ---- the definition line put

-- a byte laid over
byte-laid : (out : List ℕ) (at b : ℕ) → at < length out → set out at b ≡ overlaid out at (b ∷ [])
byte-laid out at b h = ap (λ (o : List ℕ). set o at b) (overlaid-none out at) ∙ overlaid-next out at at [] b (omega arith) h

pub description-none : (out : List ℕ) (at : ℕ) (d : List ℕ) → Put out at (described_text false d) at out
unfolding described_text
description-none out at d = record { place = omega arith; holds = overlaid-none out at }

pub description-size : (d : List ℕ) → length (described_text true d) ≡ 1 + length d
unfolding described_text
description-size d = omega arith

pub description-put : (out : List ℕ) (at : ℕ) (d after : List ℕ) → at + length (described_text true d) ≤ length out → after ≡ overlaid (set out at 32) (at + 1) d
    → Put out at (described_text true d) (at + 1 + length d) after
unfolding described_text
description-put out at d after h e =
    record {
      place = omega arith;
      holds = e ∙ ap (λ (o : List ℕ). overlaid o (at + 1) d) (byte-laid out at 32 (omega arith)) ∙ overlaid-more out at (at + 1) (32 ∷ []) d (omega arith) (omega arith);
    }

module _ (name : List ℕ) (t : Bool) (d : List ℕ) where
  pub line-parts : length (definition_text name t d) ≡ length name + length (described_text t d) + 2
  unfolding definition_text
  line-parts = simp length-append (omega arith)

  module _ (out : List ℕ) (h : length (definition_text name t d) ≤ length out) where
    pub name-laid : overlaid (set out 0 62) 1 name ≡ overlaid out 0 (62 ∷ name)
    name-laid = ap (λ (o : List ℕ). overlaid o 1 name) (byte-laid out 0 62 (omega (arith, line-parts))) ∙ overlaid-more out 0 1 (62 ∷ []) name (omega arith) (omega arith)

    pub name-length : length (overlaid (set out 0 62) 1 name) ≡ length out
    name-length = ap length name-laid ∙ overlaid-length out 0 (62 ∷ name) (omega (arith, line-parts))

    pub definition-put : (first second : List ℕ) (end : ℕ) → first ≡ overlaid (set out 0 62) 1 name → Put first (1 + length name) (described_text t d) end second
        → Put out 0 (definition_text name t d) (end + 1) (set second end 10)
    unfolding definition_text
    definition-put first second end e p =
        let x : List ℕ = 62 ∷ name in
        let y : List ℕ = described_text t d in
        let laid : second ≡ overlaid out 0 (x ++ y) = p.holds ∙ ap (λ (o : List ℕ). overlaid o (1 + length name) y) (e ∙ name-laid) ∙ overlaid-more out 0 (1 + length name) x y (omega arith) (omega arith) in
        let q : end ≡ 0 + length (x ++ y) = omega (arith, p.place, length-append x y) in
        record {
          place = omega (arith, p.place, line-parts);
          holds = ap (λ (o : List ℕ). set o end 10) laid ∙ overlaid-next out 0 end (x ++ y) 10 q (omega (arith, line-parts, length-append x y)) ∙ ap (overlaid out 0) (append_assoc x y (10 ∷ []));
        }

-- ---- the record put

pub record-size : (name : List ℕ) (t : Bool) (d bases : List ℕ) (w : ℕ) → length (record_text name t d bases w) ≡ length (definition_text name t d) + length (sequence_text w bases)
unfolding record_text
record-size name t d bases w = length-append (definition_text name t d) (sequence_text w bases)

pub front-no-room : (text out : List ℕ) (n : ℕ) → n ≡ length text → length out < n → refuses (NoRoom n) out ≡ pours text out
front-no-room text out n e h = rw e (pours-short text out (rw e at h))

module _ (name : List ℕ) (t : Bool) (d bases : List ℕ) (w : ℕ) (out first after : List ℕ) (end n : ℕ) where
  pub record-put : Put out 0 (definition_text name t d) end first → after ≡ overlaid first end (sequence_text w bases) → n ≡ length (record_text name t d bases w) → n ≤ length out
      → leaves (Ok n) after ≡ pours (record_text name t d bases w) out
  unfolding record_text
  record-put p e m h =
      let x : List ℕ = definition_text name t d in
      let y : List ℕ = sequence_text w bases in
      let a : after ≡ (x ++ y) ++ drop (length (x ++ y)) out =
      e ∙ ap (λ (o : List ℕ). overlaid o end y) p.holds ∙ overlaid-more out 0 end x y (omega arith) p.place ∙ overlaid-zero out (x ++ y) in
      rw (a, m) (pours-fits (x ++ y) out (omega arith))

-- bases alone put at the front
pub sequence-put : (w : ℕ) (bases out after : List ℕ) (n : ℕ) → n ≡ length (sequence_text w bases) → n ≤ length out → after ≡ overlaid out 0 (sequence_text w bases)
    → leaves (Ok n) after ≡ pours (sequence_text w bases) out
sequence-put w bases out after n m h e = rw (e, overlaid-zero out (sequence_text w bases), m) (pours-fits (sequence_text w bases) out (omega arith))

-- what is not over the limit is within it
pub not-over : (n : ℕ) → over_limit n ≡ false → n ≤ 1099511627776
unfolding over_limit
not-over n e = ltb-false 1099511627776 n e

-- what is not too long is within the limit
pub short-enough : (name d bases : ℕ) → too_long name d bases ≡ false → (name ≤ 1099511627776) × ((d ≤ 1099511627776) × (bases ≤ 1099511627776))
unfolding too_long over_limit
short-enough name d bases e = go (ltb 1099511627776 name) refl (ltb 1099511627776 d) refl (ltb 1099511627776 bases) refl e
  where
    go : (x : Bool) → ltb 1099511627776 name ≡ x → (y : Bool) → ltb 1099511627776 d ≡ y → (z : Bool) → ltb 1099511627776 bases ≡ z → (x || (y || z)) ≡ false
        → (name ≤ 1099511627776) × ((d ≤ 1099511627776) × (bases ≤ 1099511627776))
    go false p false q false r h = (ltb-false _ _ p, (ltb-false _ _ q, ltb-false _ _ r))
    go true p y q z r h = absurd (true≢false h)
    go false p true q z r h = absurd (true≢false h)
    go false p false q true r h = absurd (true≢false h)

-- and its text is far from 2 ^ 64 bytes
pub text-within : (w : ℕ) → 0 < w → (s : List ℕ) → length (sequence_text w s) ≤ 2 * length s + 1
text-within w z s = go (ltb 0 (length s)) refl
  where
    go : (t : Bool) → ltb 0 (length s) ≡ t → length (sequence_text w s) ≤ 2 * length s + 1
    go true e = omega (arith, sequence-size w z s (ltb-true _ _ e), div-le_self (length s - 1) w)
    go false e = omega (arith, ap length (text-none w s (omega (arith, ltb-false 0 (length s) e))))

pub definition-within : (name : List ℕ) (t : Bool) (d : List ℕ) → length (definition_text name t d) ≤ length name + length d + 3
definition-within name true d = omega (arith, definition-size name d)
definition-within name false d = omega (arith, bare-size name d)
