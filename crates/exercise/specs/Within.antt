-- What an exercise that reads says of itself: its name lies in its bytes, and its edition is known.
use Rattle.std.specs.Prelude.{ℕ, zero, suc, ◌+◌, ◌*◌, ◌≤◌, ◌≡◌, Bool, cond, ◌⊎◌, eqb, get_or, take, Result, Ok, Err}
use Rattle.std.proofs.Math.Path.{refl}
use Rattle.std.proofs.Common.{sym, true≢false, inl, inr, arith}
use Rattle.std.proofs.Math.Bool.{true, false}
use mathlib.Core.List.{List, [], ◌∷◌}
use Rattle.std.proofs.Math.Dec.{ltb}
use Rattle.std.proofs.Math.ListN.{length}
use Rattle.refusal.specs.declared.Refusal.{Refusal}
use borrow.Author.Tests.{ltb-false}
use Rattle.refusal.specs.declared.Refusal.TheVariants.{MalformedExercise}
use Rattle.exercise.specs.Reading.{known_to, bad, name_field, start_field, end_field, edition_field, valued, sized, judge, ended, begun, kept_by, length_by, unless, walk, says_from}
use Rattle.exercise.specs.Laws.{known-most}
use Rattle.exercise.specs.declared.Exercise.{Exercise}
use Rattle.exercise.specs.declared.Kept.{Kept}

-- what is kept has its name in so many bytes, and a known edition once there is one
record Sound (newest all : ℕ) (h : Kept) : Type 0 where
  name : h.name_start + h.name_length ≤ all
  edition : eqb h.wanted 5 ≡ true → known_to newest h.edition ≡ true

abbrev SoundAfter : ℕ → ℕ → Result (Kept × ℕ) Refusal → Type 0
SoundAfter newest all (Ok (h, n)) = Sound newest all h
SoundAfter newest all (Err r) = ◌≡◌ {A = ℕ} 0 0

sound-either : (t : Bool) (newest all : ℕ) (x y : Result (Kept × ℕ) Refusal) → (t ≡ true → SoundAfter newest all x) → SoundAfter newest all y → SoundAfter newest all (cond t x y)
sound-either true newest all x y p q = p refl
sound-either false newest all x y p q = q

no-edition : (newest e : ℕ) → false ≡ true → known_to newest e ≡ true
no-edition newest e q = absurd (true≢false (sym q))

module _ (newest all : ℕ) (h : Kept) (at : ℕ) (s : Sound newest all h) where
  valued-sound : (tag n : ℕ) (l : List ℕ) → at + 3 + n ≤ all → SoundAfter newest all (valued newest h at tag n l)
  unfolding valued name_field start_field end_field edition_field bad
  valued-sound tag n l m =
      sound-either (eqb tag 1) newest all _ _
      (λ _. sound-either (eqb h.wanted 1) newest all _ _ (λ _. record { name = m; edition = no-edition newest _ }) refl)
      (sound-either (eqb tag 2) newest all _ _
      (λ _. sound-either (eqb h.wanted 2) newest all _ _ (λ _. sound-either (eqb n 8) newest all _ _ (λ _. record { name = s.name; edition = no-edition newest _ }) refl) refl)
      (sound-either (eqb tag 3) newest all _ _
      (λ _. sound-either (eqb h.wanted 3) newest all _ _ (λ _. sound-either (eqb n 8) newest all _ _ (λ _. record { name = s.name; edition = no-edition newest _ }) refl) refl)
      (sound-either (eqb tag 4) newest all _ _
      (λ _. sound-either (eqb h.wanted 4) newest all _ _ (λ _. sound-either (eqb n 1) newest all _ _ (λ _. sound-either (known_to newest (get_or l 0 0)) newest all _ _ (λ k. record { name = s.name; edition = λ _. k }) refl) refl) refl)
      s)))

  judge-sound : (tag : ℕ) (l : List ℕ) → at + 1 + length l ≤ all → SoundAfter newest all (judge newest h at tag l)
  unfolding judge sized bad
  judge-sound tag l m = sound-either (ltb tag 128) newest all _ _ (λ _. two l m) refl
    where
      two : (l : List ℕ) → at + 1 + length l ≤ all → SoundAfter newest all (sized newest h at tag l)
      two [] m = refl
      two (a ∷ []) m = refl
      two (a ∷ b ∷ l) m = go (ltb (length l) (a * 256 + b)) refl
        where
          go : (t : Bool) → ltb (length l) (a * 256 + b) ≡ t → SoundAfter newest all (cond t (bad at) (valued newest h at tag (a * 256 + b) (take (a * 256 + b) l)))
          go true e = refl
          go false e = valued-sound tag (a * 256 + b) (take (a * 256 + b) l) (omega (arith, ltb-false (length l) (a * 256 + b) e))

-- what is read
pub record ReadSound (newest all : ℕ) (x : Exercise) : Type 0 where
  pub name : x.name_start + x.name_length ≤ all
  pub edition : known_to newest x.edition ≡ true

abbrev SoundRead : ℕ → ℕ → Result Exercise Refusal → Type 0
SoundRead newest all (Ok x) = ReadSound newest all x
SoundRead newest all (Err r) = ◌≡◌ {A = ℕ} 0 0

ended-sound : (newest all : ℕ) (h : Kept) (at : ℕ) → Sound newest all h → SoundRead newest all (ended h at)
unfolding ended
ended-sound newest all h at s = go (eqb h.wanted 5) refl
  where
    go : (t : Bool) → eqb h.wanted 5 ≡ t
        → SoundRead newest all (cond t (Ok (record { name_start = h.name_start; name_length = h.name_length; start = h.start; end = h.end; edition = h.edition })) (Err (MalformedExercise at)))
    go true e = record { name = s.name; edition = s.edition e }
    go false e = refl

walk-sound : (newest all : ℕ) (h : Kept) (at k : ℕ) (l : List ℕ) → Sound newest all h → at + length l ≤ all → SoundRead newest all (walk newest h at k l)
unfolding walk
walk-sound newest all h at k [] s m = ended-sound newest all h at s
walk-sound newest all h at zero (tag ∷ l) s m =
    go (judge newest h at tag l) (judge-sound newest all h at s tag l (omega arith)) (λ g n w. walk-sound newest all g (suc at) (2 + n) l w (omega arith))
  where
    go : (J : Result (Kept × ℕ) Refusal) → SoundAfter newest all J → ((g : Kept) (n : ℕ) → Sound newest all g → SoundRead newest all (walk newest g (suc at) (2 + n) l))
        → SoundRead newest all (unless J (walk newest (kept_by J) (suc at) (2 + length_by J) l))
    go (Ok (g, n)) w more = more g n w
    go (Err r) w more = refl
walk-sound newest all h at (suc k) (b ∷ l) s m = walk-sound newest all h (suc at) k l s (omega arith)

pub read-sound : (newest : ℕ) (s : List ℕ) (x : Exercise) → says_from newest s ≡ Ok x → ReadSound newest (length s) x
unfolding says_from
read-sound newest s x e = rw e at (walk-sound newest (length s) begun 0 0 s (record { name = omega arith; edition = no-edition newest 0 }) (omega arith))

-- a reader of edition 2 knows 1 and 2, and no other
pub known_two : (e : ℕ) → known_to 2 e ≡ true → (eqb e 1 ≡ true) ⊎ (eqb e 2 ≡ true)
unfolding known_to
known_two zero h = absurd (true≢false (sym h))
known_two (suc zero) h = inl refl
known_two (suc (suc zero)) h = inr refl
known_two (suc (suc (suc e))) h = absurd (omega (arith, known-most 2 (suc (suc (suc e))) h))
