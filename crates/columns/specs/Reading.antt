-- What the code's steps through a line find, and the laws that make `numbersFrom` of it.
use Rattle.std.specs.Prelude.{ℕ, zero, suc, ◌+◌, ◌-◌, ◌≤◌, ◌<◌, ◌≡◌, refl, Bool, true, false, cond, ◌&&◌, length, take, drop, eqb, Option, Some, None, Result, Ok, Err}
use Rattle.std.proofs.Common.{sym, ap, ◌∙◌, arith, add-one, drop_of_length-le, length-drop, drop-cons, drop-drop, length-take-le}
use mathlib.Core.List.{List, [], ◌∷◌, ◌++◌, append-nil}
use Rattle.std.proofs.Math.Bool.{and-true}
use Rattle.std.proofs.Math.Seq.{take-length, append_snoc}
use Rattle.refusal.specs.declared.Refusal.{Refusal}
use Rattle.refusal.specs.declared.Refusal.TheVariants.{FieldAbsent, NotANumber, ZeroField}
use Rattle.lines.specs.Lines.{onto}
use Rattle.columns.specs.Bytes.{is, first_where, first-le}
use Rattle.columns.specs.Decimal.{number_of, plain_number}
use Rattle.columns.specs.Fields.{cut_at, zero_barred, placed, field_says, Numbers, front, numbers_from}
use Rattle.columns.specs.Fields.Numbers.{Are, Not}
use Rattle.columns.specs.declared.fields.Field.{Field}

-- how many bytes the first field has, where k tabs cut
unfoldable pub field_len : ℕ → List ℕ → ℕ
field_len zero l = length l
field_len (suc k) l = first_where (is 9) l

-- the fields behind a place where a tab stands, or behind the end, where k tabs cut from that place on
unfoldable pub behind : ℕ → List ℕ → List (List ℕ)
behind zero l = []
behind (suc k) [] = []
behind (suc k) (b ∷ l) = cut_at k l

-- what an answer and a table of numbers tell together
abbrev pub told : Result Bool Refusal → List ℕ → Numbers
told (Ok plain) vs = Are vs plain
told (Err r) vs = Not r

-- numbers behind others, which are plain or not
abbrev pub after : List ℕ → Bool → Numbers → Numbers
after vs p (Are ws q) = Are (vs ++ ws) (p && q)
after vs p (Not r) = Not r

-- ---- cutting

pub field_len-le : (k : ℕ) (l : List ℕ) → field_len k l ≤ length l
unfolding field_len
field_len-le zero l = omega arith
field_len-le (suc k) l = first-le (is 9) l

pub len-all : (k : ℕ) (l : List ℕ) → k ≡ 0 → length l ≡ field_len k l
unfolding field_len
len-all zero l h = refl
len-all (suc k) l h = absurd (omega arith)

pub len-tab : (k : ℕ) (l : List ℕ) → (k ≡ 0 → ⊥) → first_where (is 9) l ≡ field_len k l
unfolding field_len
len-tab zero l h = absurd (h refl)
len-tab (suc k) l h = refl

cut-tab : (k : ℕ) (l : List ℕ) → cut_at (suc k) l ≡ take (first_where (is 9) l) l ∷ behind (suc k) (drop (first_where (is 9) l) l)
unfolding cut_at behind first_where
cut-tab k [] = refl
cut-tab k (b ∷ l) = go (eqb b 9) (cut-tab k l)
  where
    go : (t : Bool) → cut_at (suc k) l ≡ take (first_where (is 9) l) l ∷ behind (suc k) (drop (first_where (is 9) l) l)
        → cond t ([] ∷ cut_at k l) (onto b (cut_at (suc k) l)) ≡ take (cond t 0 (suc (first_where (is 9) l))) (b ∷ l) ∷ behind (suc k) (drop (cond t 0 (suc (first_where (is 9) l))) (b ∷ l))
    go true h = refl
    go false h = ap (onto b) h

-- the first field, and those behind it
pub cut-first : (k : ℕ) (l : List ℕ) → cut_at k l ≡ take (field_len k l) l ∷ behind k (drop (field_len k l) l)
unfolding field_len cut_at behind
cut-first zero l = rw (take-length l)
cut-first (suc k) l = cut-tab k l

-- ---- a step

-- the field behind a tab, and the fields behind it
behind-cut : (k : ℕ) (s : List ℕ) (at : ℕ) → at < length s
    → (let r : List ℕ = drop (at + 1) s in behind (suc k) (drop at s) ≡ take (field_len k r) r ∷ behind k (drop (at + 1 + field_len k r) s))
unfolding behind
behind-cut k s at h = rw (drop-cons s at 0 h, ← drop-drop (field_len k (drop (at + 1) s)) (at + 1) s, add-one at) (cut-first k (drop (suc at) s))

numbers-step : (line place k : ℕ) (s : List ℕ) (at : ℕ) → 0 < k → at < length s
    → (let r : List ℕ = drop (at + 1) s in let n : ℕ = field_len (k - 1) r in
    numbers_from line place k (behind k (drop at s)) ≡ front (field_says line place (take n r)) (numbers_from line (place + 1) (k - 1) (behind (k - 1) (drop (at + 1 + n) s))))
unfolding numbers_from
numbers-step line place zero s at p h = absurd (omega arith)
numbers-step line place (suc k) s at p h = let e : suc k - 1 ≡ k = omega arith in rw (e, add-one place, behind-cut k s at h)

numbers-absent : (line place k : ℕ) (s : List ℕ) (at : ℕ) → 0 < k → length s ≤ at → numbers_from line place k (behind k (drop at s)) ≡ Not (FieldAbsent line place)
unfolding numbers_from behind
numbers-absent line place zero s at p h = absurd (omega arith)
numbers-absent line place (suc k) s at p h = rw (drop_of_length-le s h)

module _ (line place : ℕ) (f : List ℕ) where
  pub field-bad : number_of f ≡ None → Err (NotANumber line place) ≡ field_says line place f
  unfolding field_says
  field-bad e = rw e

  pub field-zero : (v : ℕ) → number_of f ≡ Some v → zero_barred place v ≡ true → Err (ZeroField line place) ≡ field_says line place f
  unfolding field_says
  field-zero v e t = rw (e, t)

  pub field-good : (v : ℕ) → number_of f ≡ Some v → zero_barred place v ≡ false
      → Ok (record { value = v; length = length f; plain = plain_number f }) ≡ field_says line place f
  unfolding field_says
  field-good v e t = rw (e, t)

-- a good field is a number in its place
pub record Fine (place : ℕ) (f : List ℕ) (g : Field) : Type 0 where
  pub number : number_of f ≡ Some g.value
  pub allowed : zero_barred place g.value ≡ false
  pub long : g.length ≡ length f
  pub plain : g.plain ≡ plain_number f

pub good-is : (line place : ℕ) (f : List ℕ) (g : Field) → field_says line place f ≡ Ok g → Fine place f g
unfolding field_says
good-is line place f g h = go (number_of f) refl h
  where
    pick : (v : ℕ) (t : Bool) → number_of f ≡ Some v → zero_barred place v ≡ t
        → cond t (Err (ZeroField line place)) (Ok (record { value = v; length = length f; plain = plain_number f })) ≡ Ok g → Fine place f g
    pick v true n b e = let z : ◌≡◌ {A = ℕ} 0 1 = cc in absurd (omega arith)
    pick v false n b e = record { number = cc; allowed = cc; long = cc; plain = cc }

    go : (n : Option ℕ) → number_of f ≡ n → placed line place (length f) (plain_number f) n ≡ Ok g → Fine place f g
    go None n e = let z : ◌≡◌ {A = ℕ} 0 1 = cc in absurd (omega arith)
    go (Some v) n e = pick v (zero_barred place v) n refl e

-- ---- numbers behind others

pub after_none : (ns : Numbers) → after [] true ns ≡ ns
after_none (Are vs p) = refl
after_none (Not r) = refl

and_assoc : (a b c : Bool) → ((a && b) && c) ≡ (a && (b && c))
and_assoc true b c = refl
and_assoc false b c = refl

after-good : (vs : List ℕ) (p : Bool) (f : Field) (ns : Numbers) → after vs p (front (Ok f) ns) ≡ after (vs ++ (f.value ∷ [])) (p && f.plain) ns
after-good vs p f (Are ws q) = rw (append_snoc, and_assoc p f.plain q)
after-good vs p f (Not r) = refl

-- ---- the loop: vs are read, k numbers are to come, and the tab before the first of them is at a place; all say w

module _ (line place k : ℕ) (s : List ℕ) (at : ℕ) (vs : List ℕ) (p : Bool) (w : Numbers)
    (inv : after vs p (numbers_from line place k (behind k (drop at s))) ≡ w) where
  pub on-end : k ≡ 0 → Are vs p ≡ w
  unfolding numbers_from
  on-end h = simp (h, append-nil, and-true) at inv

  pub on-absent : 0 < k → length s ≤ at → Not (FieldAbsent line place) ≡ w
  on-absent h e = rw (numbers-absent line place k s at h e) at inv

  module _ (h : 0 < k) (m : at < length s) where
    pub on-refused : (r : Refusal) → Err r ≡ field_says line place (take (field_len (k - 1) (drop (at + 1) s)) (drop (at + 1) s)) → Not r ≡ w
    on-refused r e = rw (numbers-step line place k s at h m, ← e) at inv

    module _ (f : Field) (e : Ok f ≡ field_says line place (take (field_len (k - 1) (drop (at + 1) s)) (drop (at + 1) s))) where
      on-length : f.length ≡ field_len (k - 1) (drop (at + 1) s)
      on-length = (good-is line place _ f (sym e)).long ∙ length-take-le _ _ (field_len-le (k - 1) (drop (at + 1) s))

      pub on-within : at + 1 + f.length ≤ length s
      on-within = rw on-length (omega (arith, field_len-le (k - 1) (drop (at + 1) s), length-drop (at + 1) s))

      pub on-good : after (vs ++ (f.value ∷ [])) (p && f.plain) (numbers_from line (place + 1) (k - 1) (behind (k - 1) (drop (at + 1 + f.length) s))) ≡ w
      on-good = rw (on-length, ← after-good vs p f, e, ← numbers-step line place k s at h m) inv
