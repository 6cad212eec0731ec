-- Laws of the scorer: what each step says of the outcome. The code's proofs cite these.
use Rattle.std.specs.Prelude.{ℕ, ◌+◌, ◌≤◌, Bool, take, Option, Result, Ok, Err}
use Rattle.std.proofs.Math.Path.{◌≡◌, refl, sym, ap}
use Rattle.std.proofs.Common.{◌∙◌, arith, length-take}
use mathlib.Core.List.{List, ◌++◌, map}
use Rattle.std.proofs.Math.Bool.{true, false, cond}
use Rattle.std.proofs.Math.ListN.{length, drop, length-append, length-map}
use Rattle.record.specs.declared.Record.{Record}
use Rattle.record.specs.declared.Position.{Position}
use Rattle.scoring.specs.declared.Score.{Score}
use Rattle.refusal.specs.Numbers.{over_limit}
use Rattle.refusal.specs.declared.Refusal.{Refusal}
use Rattle.refusal.specs.declared.Refusal.TheVariants.{TooLong}
use Rattle.output.specs.Outcome.{Outcome, leaves, refuses}
use Rattle.record.specs.Bases.{byte_at}
use Rattle.region.specs.Exact.{exact_of, exact_held}
use Rattle.region.specs.Inside.{length-offsets}
use Rattle.region.specs.Dependence.{region_offsets, region_count, exact-known}
use Rattle.scoring.specs.Places.{key_scored}
use Rattle.table.specs.Rows.{held_at}
use Rattle.index.specs.Find.{row_read}
use Rattle.exercise.specs.declared.Exercise.{Exercise}
use Rattle.exercise.specs.Reading.{says_from, read_as}
use Rattle.exercise.specs.Within.{read-sound}
use Rattle.scorer.specs.Scorer.{any_over, name_asked, asked_row, asked_by, asked_of, refuses_score, counted_as, key_counted, first, last, row_scored, asked_scored, scorer_of}

-- ---- what is asked

-- an exercise that the call reads, whatever its length, is what its bytes say
pub says : (newest : ℕ) (s : List ℕ) (x : Exercise) → read_as newest s ≡ Ok x → says_from newest s ≡ Ok x
unfolding read_as
says newest s x q = go (over_limit (length s)) q
  where
    go : (t : Bool) → cond t (Err TooLong) (says_from newest s) ≡ Ok x → says_from newest s ≡ Ok x
    go true q = let z : ◌≡◌ {A = ℕ} 0 1 = cc in absurd (omega arith)
    go false q = q

pub name-within : (s : List ℕ) (x : Exercise) → read_as 2 s ≡ Ok x → x.name_start + x.name_length ≤ length s
name-within s x q = (read-sound 2 s x (says 2 s x q)).name

module _ (s names t : List ℕ) (u : ℕ) where
  pub asked-unread : (f : Refusal) → read_as 2 s ≡ Err f → Err f ≡ asked_of s names t u
  unfolding asked_of asked_by
  asked-unread f q = rw q

  module _ (x : Exercise) (q : read_as 2 s ≡ Ok x) where
    pub asked-unfound : (f : Refusal) → row_read names t u (name_asked s x) ≡ Err f → Err f ≡ asked_of s names t u
    unfolding asked_of asked_by asked_row
    asked-unfound f e = rw (q, e)

    pub asked-found : (r : ℕ) → row_read names t u (name_asked s x) ≡ Ok r → Ok (x, r) ≡ asked_of s names t u
    unfolding asked_of asked_by asked_row
    asked-found r e = rw (q, e)

-- ---- the call

module _ (s typed file names t : List ℕ) (u : ℕ) (room : List ℕ) where
  pub scorer-long : any_over s typed file names ≡ true → refuses_score TooLong room ≡ scorer_of s typed file names t u room
  unfolding scorer_of
  scorer-long l = rw l

  module _ (l : any_over s typed file names ≡ false) where
    pub scorer-refused : (f : Refusal) → asked_of s names t u ≡ Err f → refuses_score f room ≡ scorer_of s typed file names t u room
    unfolding scorer_of asked_scored
    scorer-refused f q = rw (l, q)

    pub scorer-row : (x : Exercise) (r : ℕ) → asked_of s names t u ≡ Ok (x, r) → row_scored x typed file (held_at t u r) room ≡ scorer_of s typed file names t u room
    unfolding scorer_of asked_scored
    scorer-row x r q = rw (l, q)

-- ---- a key that was read lies in the room

module _ (file : List ℕ) (h : Result Record Refusal) (a e : Option Position) (out after : List ℕ) (k : ℕ) where
  within : exact_held file h a e out ≡ leaves (Ok k) after → k ≤ length after
  unfolding exact_held
  within q = go (over_limit (length file)) refl q
    where
      go : (t : Bool) → over_limit (length file) ≡ t → cond t (refuses TooLong out) (exact_of (length file) (byte_at file) h a e out) ≡ leaves (Ok k) after → k ≤ length after
      go true l q = let p = ap (λ (o : Outcome (Result ℕ Refusal)). o.answer) q in let z : ◌≡◌ {A = ℕ} 0 1 = cc in absurd (omega arith)
      go false l q =
          let w = exact-known (length file) h a e out (byte_at file) k (ap (λ (o : Outcome (Result ℕ Refusal)). o.answer) q) in
          let n : map (byte_at file) (region_offsets w.row a e) ++ drop k out ≡ after = sym w.output ∙ ap (λ (o : Outcome (Result ℕ Refusal)). o.output) q in
          let m : length (map (byte_at file) (region_offsets w.row a e)) ≡ k = length-map (region_offsets w.row a e) (byte_at file) ∙ (length-offsets w.row _ (region_count w.row a e) ∙ sym w.count) in
          rw (← n) (omega (arith, length-append (map (byte_at file) (region_offsets w.row a e)) (drop k out), m))

  -- by what the call answers
  module _ (r : Result ℕ Refusal) (q : leaves r after ≡ exact_held file h a e out) (g : r ≡ Ok k) where
    pub key-within : k ≤ length after
    key-within = within (sym q ∙ ap (λ (w : Result ℕ Refusal). leaves w after) g)

    pub key-size : k ≡ length (take k after)
    key-size = omega (arith, length-take k after, key-within)

-- ---- by what the read gave

module _ (x : Exercise) (typed file : List ℕ) (h : Result Record Refusal) (room after : List ℕ) (r : Result ℕ Refusal) (q : leaves r after ≡ exact_held file h (first x) (last x) room) where
  pub row-refused : (f : Refusal) → r ≡ Err f → leaves (Err f) after ≡ row_scored x typed file h room
  unfolding row_scored key_counted counted_as
  row-refused f g = rw (← q, g)

  pub row-counted : (n : ℕ) (c : Result Score Refusal) → r ≡ Ok n → c ≡ key_scored (take n after) typed x.edition → leaves c after ≡ row_scored x typed file h room
  unfolding row_scored key_counted counted_as
  row-counted n c g e = rw (← q, g, e)
