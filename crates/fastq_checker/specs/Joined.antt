-- Parts of a check that go on from each other accept what the whole call accepts (R92). `parts-accepted`: a part from the start of both, then one from where it
-- stopped, and so on; if the last stops at the end of both, the whole is accepted. Nothing is asked of where parts end, so any guess of where to cut is
-- safe: what was walked from a guess is used only if the part before it stopped there. A part counts records from its own start, since a record
-- that is accepted is accepted whatever its number (`record-any`).
use Prim.Native.Nat.{ℕ, zero, suc, ◌+◌, ◌-◌, ◌≤◌}
use Rattle.std.proofs.Math.Path.{◌≡◌, refl}
use Rattle.std.proofs.Common.{ap, sym, ◌∙◌, arith, Option, Some, None, Result, Ok, Err}
use Rattle.std.specs.Bool.{⊤}
use mathlib.Core.List.{List, [], ◌∷◌}
use Rattle.std.proofs.Math.Bool.{Bool, cond}
use Rattle.std.specs.Prelude.{true, false, drop, eqb}
use Rattle.std.proofs.Math.ListN.{length}
use Rattle.refusal.specs.declared.Refusal.{Refusal}
use Rattle.record.specs.declared.Offset.{Offset}
use Rattle.record.specs.declared.Position.{Position}
use Rattle.fastq_line.specs.declared.Entry.{Entry}
use Rattle.refusal.specs.Numbers.{over_limit}
use Rattle.refusal.specs.declared.Refusal.TheVariants as refusal
use Rattle.lines.specs.Lines.{line_end, lines}
use Rattle.lines.specs.Same.{same_bytes}
use Rattle.index_line.specs.IndexLine.{name_in}
use Rattle.record.specs.Place.{place_in}
use Rattle.walking.specs.Places.{first_elsewhere}
use Rattle.fastq.specs.Fastq.{record_at}
use Rattle.fastq.specs.RecordLaws.{record-end}
use Rattle.fastq.specs.Parts.{part_of}
use Rattle.fastq.specs.declared.Part.{Part}
use Rattle.fastq.specs.declared.Part.TheVariants.{Bases, Qualities}
use Rattle.fastq.specs.declared.QualityRow.{QualityRow}
use Rattle.fastq.specs.declared.Step as fastq
use Rattle.fastq_line.specs.SixColumns.{six_line_says, name_of}
use Rattle.fastq_line.specs.RoundTrip.{line-any}
use Rattle.fastq_checker.specs.Check.{offsets_of, places_say, part_says, entry_says, line_judged, record_says, check_of}
use Rattle.fastq_checker.specs.Steps.{place_behind, judged_as, step_from, step_of, check_at}
use Rattle.fastq_checker.specs.WalkLaws.{step_end, check-on, check-over, check-start, left-none, check-within}
use Rattle.fastq_checker.specs.Part.{on_before, walked_by, walked, reached_at, part_checked}
use Rattle.fastq_checker.specs.PartLaws.{on-either}
use Rattle.fastq_checker.specs.declared.Place.{Place}
use Rattle.fastq_checker.specs.declared.Step.TheVariants as step
use Rattle.fastq_checker.specs.declared.Stopped.{Stopped}

-- ---- a record is accepted whatever its number

module _ (n m : ℕ) (f : List ℕ) (x : QualityRow) where
  places-any : (p : Option (Position × Offset)) (v w : Result ⊤ Refusal) → (v ≡ Ok tt → w ≡ Ok tt) → places_say n p v ≡ Ok tt → places_say m p w ≡ Ok tt
  places-any None v w k e = k e
  places-any (Some (p, o)) v w k e = let z : ◌≡◌ {A = ℕ} 0 1 = cc in absurd (omega arith)

  part-any : (y : QualityRow) (p : Part) (v w : Result ⊤ Refusal) → (v ≡ Ok tt → w ≡ Ok tt) → part_says n f x y p v ≡ Ok tt → part_says m f x y p w ≡ Ok tt
  part-any y p = places-any (first_elsewhere (place_in (part_of p y)) 0 (offsets_of f x p))

  entry-any : (named : List ℕ) (y : QualityRow) → entry_says n f x named y ≡ Ok tt → entry_says m f x named y ≡ Ok tt
  unfolding entry_says
  entry-any named y = go (same_bytes (name_in f x.«record») named) (eqb x.«record».length y.«record».length)
    where
      judged : ℕ → Bool → Bool → Result ⊤ Refusal
      judged k s t = cond s (cond t (part_says k f x y Bases (part_says k f x y Qualities (Ok tt))) (Err (refusal.LengthDiffers k))) (Err (refusal.NameDiffers k))

      go : (s t : Bool) → judged n s t ≡ Ok tt → judged m s t ≡ Ok tt
      go true true e = part-any y Bases (part_says n f x y Qualities (Ok tt)) (part_says m f x y Qualities (Ok tt)) (part-any y Qualities (Ok tt) (Ok tt) (λ h. h)) e
      go true false e = let z : ◌≡◌ {A = ℕ} 0 1 = cc in absurd (omega arith)
      go false t e = let z : ◌≡◌ {A = ℕ} 0 1 = cc in absurd (omega arith)

  pub record-any : (ls : List (List ℕ)) → record_says n f x ls ≡ Ok tt → record_says m f x ls ≡ Ok tt
  unfolding record_says
  record-any [] e = let z : ◌≡◌ {A = ℕ} 0 1 = cc in absurd (omega arith)
  record-any (l ∷ ls) e = go (six_line_says n l) refl e
    where
      go : (r : Result Entry Refusal) → six_line_says n l ≡ r → line_judged n f x l r ≡ Ok tt → line_judged m f x l (six_line_says m l) ≡ Ok tt
      go (Err y) h k = let z : ◌≡◌ {A = ℕ} 0 1 = cc in absurd (omega arith)
      go (Ok q) h k = rw (line-any n m l q h) (entry-any (name_of l) q.row k)

-- ---- from place to place

-- a place of the file and of the index, behind so many records
abbrev pub place_at : ℕ → ℕ → ℕ → Place
place_at a b r = record { fastq = a; index = b; records = r }

module _ (f i : List ℕ) where
  step-any : (w n : Place) → step_of f i w ≡ step.Next n → (r : ℕ) → step_of f i (place_at w.fastq w.index r) ≡ step.Next (place_at n.fastq n.index (r + 1))
  unfolding step_of judged_as
  step-any w n e r = go (record_at f w.fastq).answer e
    where
      next : ℕ
      next = (record_at f w.fastq).next

      judged : (x : QualityRow) (v : Result ⊤ Refusal) → record_says (w.records + 1) f x (lines (drop w.index i)) ≡ v → judged_as v (place_behind i w next) ≡ step.Next n
          → judged_as (record_says (r + 1) f x (lines (drop w.index i))) (place_at next (line_end i w.index) (r + 1)) ≡ step.Next (place_at n.fastq n.index (r + 1))
      judged x (Ok _) h q =
          let k : n ≡ place_behind i w next = cc in
          rw (record-any (w.records + 1) (r + 1) f x (lines (drop w.index i)) h, k)
      judged x (Err y) h q = let z : ◌≡◌ {A = ℕ} 0 1 = cc in absurd (omega arith)

      go : (a : Result (Option QualityRow) Refusal) → step_from f i w a next ≡ step.Next n → step_from f i (place_at w.fastq w.index r) a next ≡ step.Next (place_at n.fastq n.index (r + 1))
      go (Ok (Some x)) q = judged x (record_says (w.records + 1) f x (lines (drop w.index i))) refl q
      go (Ok None) q = let z : ◌≡◌ {A = ℕ} 0 1 = cc in absurd (omega arith)
      go (Err y) q = let z : ◌≡◌ {A = ℕ} 0 1 = cc in absurd (omega arith)

  -- what is from a place on is accepted, whatever number its first record has
  abbrev pub AcceptedFrom : ℕ → ℕ → Type 0
  AcceptedFrom a b = (r : ℕ) → check_at f i (place_at a b r) ≡ Ok tt

  -- at the end of both
  over : (a b : ℕ) → length f ≤ a → length i ≤ b → AcceptedFrom a b
  over a b h g r =
      let e : (record_at f a).answer ≡ Ok None = sym (ap (λ (s : fastq.Step). s.answer) (record-end f a h)) in
      sym (left-none i b r g ∙ check-over f i (place_at a b r) (sym (step_end f i (place_at a b r) (record_at f a) refl e)))

  step-accepted : (w n : Place) → step_of f i w ≡ step.Next n → AcceptedFrom n.fastq n.index → AcceptedFrom w.fastq w.index
  step-accepted w n e h r = sym (check-on f i (place_at w.fastq w.index r) (place_at n.fastq n.index (r + 1)) (step-any w n e r)) ∙ h (r + 1)

  on-accepted : (to : ℕ) (w : Place) → AcceptedFrom (on_before f i to w).fastq (on_before f i to w).index → AcceptedFrom w.fastq w.index
  on-accepted to w = on-either f i to w (λ n. AcceptedFrom n.fastq n.index → AcceptedFrom w.fastq w.index) (λ h. h) (λ n l e. step-accepted w n e)

  walk-accepted : (k to : ℕ) (w : Place) → AcceptedFrom (walked_by k f i to w).fastq (walked_by k f i to w).index → AcceptedFrom w.fastq w.index
  unfolding walked_by
  walk-accepted zero to w h = h
  walk-accepted (suc k) to w h = on-accepted to w (walk-accepted k to (on_before f i to w) h)

  -- ---- parts that go on from each other

  module _ (small : over_limit (length f) ≡ false) (short : over_limit (length i) ≡ false) where
    part-walked : (from to first : ℕ) (s : Stopped) → part_checked f from to i first ≡ Ok s → AcceptedFrom s.fastq s.index → AcceptedFrom from first
    unfolding part_checked walked
    part-walked from to first s e h =
        let w = place_at from first 0 in
        let n = length f - from in
        let q : reached_at (walked_by n f i to w) ≡ Ok s = rw (small, short) at e in
        let a : (walked_by n f i to w).fastq ≡ s.fastq = cc in
        let b : (walked_by n f i to w).index ≡ s.index = cc in
        walk-accepted n to w (rw (a, b) h)

    -- calls from a place of both on, each from where the one before it stopped, up to the end of both
    pub data Passed : ℕ → ℕ → Type 0 where
      ended : (a b : ℕ) → length f ≤ a → length i ≤ b → Passed a b
      on : (from to first : ℕ) (s : Stopped) → part_checked f from to i first ≡ Ok s → Passed s.fastq s.index → Passed from first

    passed-accepted : (a b : ℕ) → Passed a b → AcceptedFrom a b
    passed-accepted a b (ended _ _ h g) = over a b h g
    passed-accepted a b (on _ to _ s e p) = part-walked a to b s e (passed-accepted s.fastq s.index p)

    pub parts-accepted : Passed 0 0 → check_of f i ≡ Ok tt
    parts-accepted p = sym (check-within f i small short) ∙ sym (check-start f i) ∙ passed-accepted 0 0 p 0
