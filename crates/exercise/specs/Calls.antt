-- What holds over the calls: what `write_exercise` writes, `read_exercise` reads back; and which editions both take.
use Rattle.std.specs.Prelude.{ℕ, ◌+◌, ◌^◌, ◌≤◌, ◌<◌, ◌≡◌, Bool, List, length, take, drop, Ok, Err}
use Rattle.std.proofs.Math.Path.{refl}
use Rattle.std.proofs.Common.{ap, ◌∙◌, arith}
use Rattle.std.proofs.Math.Bool.{true, false, cond}
use Rattle.std.proofs.Math.Dec.{ltb}
use borrow.Author.Tests.{le-ltb, ltb-false}
use Rattle.refusal.specs.Numbers.{over_limit}
use Rattle.refusal.specs.declared.Refusal.TheVariants.{TooLong, MalformedExercise, UnknownEdition}
use Rattle.output.specs.Outcome.{leaves, refuses, pours}
use Rattle.output.specs.Laws.{no-bytes, poured-known}
use Rattle.exercise.specs.declared.Exercise.{Exercise}
use Rattle.exercise.specs.Reading.{known_to, says_from, read_as}
use Rattle.exercise.specs.Writing.{text_of, written_as, text-length}
use Rattle.exercise.specs.Fields.{written-reads, written-name, older-refuses}

-- the exercise that some arguments of the writer are
abbrev pub written : List ℕ → ℕ → ℕ → ℕ → Exercise
written name start end edition = record { name_start = 3; name_length = length name; start = start; end = end; edition = edition }

within : (newest : ℕ) (s : List ℕ) → length s ≤ 1099511627776 → read_as newest s ≡ says_from newest s
unfolding read_as over_limit
within newest s h = rw (le-ltb 1099511627776 (length s) h)

module _ (name : List ℕ) (start end edition : ℕ) (out : List ℕ) (k : ℕ) (after : List ℕ) (q : written_as 2 name start end edition out ≡ leaves (Ok k) after) where
  -- what was written is the text of an exercise, with an edition that is known
  pub record Wrote : Type 0 where
    pub short : length name ≤ 65535
    pub known : known_to 2 edition ≡ true
    pub text : take k after ≡ text_of name start end edition

  pub wrote : Wrote
  unfolding written_as
  wrote = go (over_limit (length name)) (ltb 65535 (length name)) refl (known_to 2 edition) refl q
    where
      go : (a b : Bool) → ltb 65535 (length name) ≡ b → (c : Bool) → known_to 2 edition ≡ c
          → cond a (refuses TooLong out) (cond b (refuses (MalformedExercise 0) out) (cond c (pours (text_of name start end edition) out) (refuses (UnknownEdition (length name + 25)) out)))
          ≡ leaves (Ok k) after → Wrote
      go true b e c f r = absurd (no-bytes _ out k after r)
      go false true e c f r = absurd (no-bytes _ out k after r)
      go false false e true f r = record { short = ltb-false _ _ e; known = f; text = (poured-known (text_of name start end edition) out k after r).front }
      go false false e false f r = absurd (no-bytes _ out k after r)

  module _ (s : start < 2 ^ 64) (e : end < 2 ^ 64) where
    small : length (take k after) ≤ 1099511627776
    small = rw wrote.text (omega (arith, text-length name start end edition out, wrote.short))

    -- it reads back as it was given, and its name is the name
    pub written-exercise-reads : (read_as 2 (take k after) ≡ Ok (written name start end edition)) × (take (length name) (drop 3 (take k after)) ≡ name)
    written-exercise-reads = (
      within 2 (take k after) small ∙ (ap (says_from 2) wrote.text ∙ written-reads 2 name start end edition wrote.short s e wrote.known),
      ap (λ (l : List ℕ). take (length name) (drop 3 l)) wrote.text ∙ written-name name start end edition,
    )

    -- a program that knows edition 1 alone refuses one of edition 2, with the offset of the edition's field
    pub edition-one-refuses : edition ≡ 2 → read_as 1 (take k after) ≡ Err (UnknownEdition (length name + 25))
    edition-one-refuses two =
        within 1 (take k after) small ∙ (ap (says_from 1) (wrote.text ∙ ap (text_of name start end) two) ∙ older-refuses name start end wrote.short s e)
