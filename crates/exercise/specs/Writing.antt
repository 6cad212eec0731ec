-- How an exercise is written.
use Rattle.std.specs.Prelude.{ℕ, ◌+◌, ◌/◌, ◌%◌, ◌≤◌, ◌<◌, ◌≡◌, refl, cond, List, [], ◌∷◌, ◌++◌, ltb, length, drop, get_or, Result, Ok}
use Rattle.std.proofs.Common.{sym, ap, ◌∙◌, arith, append_assoc, length-append, length-drop, take_all, drop-drop}
use Rattle.std.proofs.Math.Seq.{take-append_seam, drop-append-add}
use Rattle.refusal.specs.declared.Refusal.{Refusal}
use Rattle.copying.specs.Copied.{after_copy}
use Rattle.copying.specs.Laws.{copy-whole}
use Rattle.refusal.specs.Numbers.{over_limit}
use Rattle.refusal.specs.declared.Refusal.TheVariants.{TooLong, MalformedExercise, UnknownEdition, NoRoom}
use Rattle.exercise.specs.Numbers.{big_bytes, length-big_bytes, eight}
use Rattle.exercise.specs.Reading.{known_to}
use Rattle.output.specs.Outcome.{Outcome, leaves, refuses, pours}
use Rattle.output.specs.Laws.{pours-short, pours-fits}

abbrev pub name_head : ℕ → List ℕ
name_head n = 1 ∷ n / 256 ∷ n % 256 ∷ []

abbrev pub number_field : ℕ → ℕ → List ℕ
number_field tag v = tag ∷ 0 ∷ 8 ∷ big_bytes 8 v

abbrev pub edition_bytes : ℕ → List ℕ
edition_bytes e = 4 ∷ 0 ∷ 1 ∷ e ∷ []

-- the bytes of an exercise
unfoldable pub text_of : List ℕ → ℕ → ℕ → ℕ → List ℕ
text_of name start end edition = name_head (length name) ++ (name ++ (number_field 2 start ++ (number_field 3 end ++ edition_bytes edition)))

-- some bytes laid over the front of an output
unfoldable pub front : List ℕ → List ℕ → List ℕ
front s out = s ++ drop (length s) out

-- writing: 1, 31, 33, 14
unfoldable pub written_as : ℕ → List ℕ → ℕ → ℕ → ℕ → List ℕ → Outcome (Result ℕ Refusal)
written_as newest name start end edition out =
    cond (over_limit (length name)) (refuses TooLong out)
    (cond (ltb 65535 (length name)) (refuses (MalformedExercise 0) out)
    (cond (known_to newest edition) (pours (text_of name start end edition) out) (refuses (UnknownEdition (length name + 25)) out)))

-- by how much room there is
module _ (name : List ℕ) (start end edition : ℕ) (out : List ℕ) where
  pub text-length : length (text_of name start end edition) ≡ length name + 29
  unfolding text_of
  text-length = simp (length-append, length-big_bytes) (omega arith)

  pub text-no-room : length out < length name + 29 → refuses (NoRoom (length name + 29)) out ≡ pours (text_of name start end edition) out
  text-no-room h = rw (← text-length) (pours-short _ out (rw (← text-length) at h))

  pub text-poured : length name + 29 ≤ length out → (after : List ℕ) → after ≡ front (text_of name start end edition) out
      → leaves (Ok (length name + 29)) after ≡ pours (text_of name start end edition) out
  unfolding front
  text-poured h after e = rw (e, ← text-length) (pours-fits _ out (rw (← text-length) at h))

-- ---- the bytes laid one piece behind another

pub number-field : (tag v : ℕ) (b : List ℕ) → b ≡ big_bytes 8 v
    → tag ∷ 0 ∷ 8 ∷ get_or b 0 0 ∷ get_or b 1 0 ∷ get_or b 2 0 ∷ get_or b 3 0 ∷ get_or b 4 0 ∷ get_or b 5 0 ∷ get_or b 6 0 ∷ get_or b 7 0 ∷ [] ≡ number_field tag v
number-field tag v b e = ap (λ (l : List ℕ). tag ∷ 0 ∷ 8 ∷ l) (eight b (ap length e ∙ length-big_bytes 8 v) ∙ e)

length_front : (w out : List ℕ) → length w ≤ length out → length (front w out) ≡ length out
unfolding front
length_front w out h = simp (length-append, length-drop) (omega arith)

-- a copy behind what is there
copy-front : (w s out : List ℕ) (to n : ℕ) → to ≡ length w → n ≡ length s → to + n ≤ length out → after_copy (front w out) to s n ≡ front (w ++ s) out
unfolding front
copy-front w s out to n e f h =
    let l : length (front w out) ≡ length out = length_front w out (omega arith) in
    copy-whole (front w out) to s 0 n (omega arith) (omega arith)
    ∙ rw (e, f, take-append_seam w (drop (length w) out), take_all (length s) s (omega arith), drop-append-add w (drop (length w) out) (length s), drop-drop (length s) (length w) out, length-append w s)

copy-none : (out s : List ℕ) (n : ℕ) → after_copy out 0 s n ≡ after_copy (front [] out) 0 s n
unfolding front
copy-none out s n = refl

-- the first copy
copy-first : (s out : List ℕ) (n : ℕ) → n ≡ length s → n ≤ length out → after_copy out 0 s n ≡ front s out
copy-first s out n f h = copy-none out s n ∙ copy-front [] s out 0 n refl f (omega arith)

-- an exercise is laid in five pieces
pub text-put : (name : List ℕ) (start end edition : ℕ) (out o₁ o₂ o₃ o₄ o₅ : List ℕ) → length name + 29 ≤ length out
    → o₁ ≡ after_copy out 0 (name_head (length name)) 3
    → o₂ ≡ after_copy o₁ 3 name (length name)
    → o₃ ≡ after_copy o₂ (length name + 3) (number_field 2 start) 11
    → o₄ ≡ after_copy o₃ (length name + 14) (number_field 3 end) 11
    → o₅ ≡ after_copy o₄ (length name + 25) (edition_bytes edition) 4
    → o₅ ≡ front (text_of name start end edition) out
unfolding text_of
text-put name start end edition out o₁ o₂ o₃ o₄ o₅ h a b c d e =
    let H : List ℕ = name_head (length name) in
    let s : length (big_bytes 8 start) ≡ 8 = length-big_bytes 8 start in
    let t : length (big_bytes 8 end) ≡ 8 = length-big_bytes 8 end in
    let p₁ : o₁ ≡ front H out = a ∙ copy-first H out 3 refl (omega arith) in
    let p₂ : o₂ ≡ front (H ++ name) out = b ∙ (ap (λ (l : List ℕ). after_copy l 3 name (length name)) p₁ ∙ copy-front H name out 3 (length name) refl refl (omega arith)) in
    let l₂ : length (H ++ name) ≡ length name + 3 = length-append H name ∙ omega arith in
    let p₃ : o₃ ≡ front ((H ++ name) ++ number_field 2 start) out =
    c ∙ (ap (λ (l : List ℕ). after_copy l (length name + 3) (number_field 2 start) 11) p₂ ∙ copy-front (H ++ name) (number_field 2 start) out (length name + 3) 11 (sym l₂) (omega arith) (omega arith)) in
    let l₃ : length ((H ++ name) ++ number_field 2 start) ≡ length name + 14 = length-append (H ++ name) (number_field 2 start) ∙ omega arith in
    let p₄ : o₄ ≡ front (((H ++ name) ++ number_field 2 start) ++ number_field 3 end) out =
    d ∙ (ap (λ (l : List ℕ). after_copy l (length name + 14) (number_field 3 end) 11) p₃ ∙ copy-front ((H ++ name) ++ number_field 2 start) (number_field 3 end) out (length name + 14) 11 (sym l₃) (omega arith) (omega arith)) in
    let l₄ : length (((H ++ name) ++ number_field 2 start) ++ number_field 3 end) ≡ length name + 25 = length-append ((H ++ name) ++ number_field 2 start) (number_field 3 end) ∙ omega arith in
    e
    ∙ (ap (λ (l : List ℕ). after_copy l (length name + 25) (edition_bytes edition) 4) p₄
    ∙ (copy-front (((H ++ name) ++ number_field 2 start) ++ number_field 3 end) (edition_bytes edition) out (length name + 25) 4 (sym l₄) refl (omega arith)
    ∙ ap (λ (l : List ℕ). front l out) (pieces H name (number_field 2 start) (number_field 3 end) (edition_bytes edition))))
  where
    pieces : (a b c d e : List ℕ) → (((a ++ b) ++ c) ++ d) ++ e ≡ a ++ (b ++ (c ++ (d ++ e)))
    pieces a b c d e = simp append_assoc
