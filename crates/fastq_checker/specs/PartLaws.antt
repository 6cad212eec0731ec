-- Laws of a part's walk: from place to place it stops at the same place, and where no record is accepted it stays.
use Prim.Native.Nat.{ℕ, zero, suc, ◌-◌, ◌≤◌, ◌<◌}
use Rattle.std.specs.Prelude.{◌≡◌, List, Bool, true, false, cond, length, ltb, Option, Some, None, Result, Ok, Err}
use Rattle.std.proofs.Math.Path.{refl, ap, sym}
use Rattle.std.proofs.Common.{◌∙◌, drop_of_length-le, lt-ltb, ltb-true, arith}
use Rattle.fastq.specs.declared.QualityRow.{QualityRow}
use Rattle.refusal.specs.Numbers.{over_limit}
use Rattle.refusal.specs.declared.Refusal.{Refusal}
use Rattle.refusal.specs.declared.Refusal.TheVariants.{TooLong}
use Rattle.lines.specs.Lines.{lines}
use Rattle.fastq.specs.Fastq.{record_at}
use Rattle.fastq_checker.specs.Check.{record_says}
use Rattle.fastq_checker.specs.Steps.{judged_as, step_from, step_of}
use Rattle.fastq_checker.specs.WalkLaws.{stepped}
use Rattle.fastq_checker.specs.Part.{on_from, on_before, walked_by, walked, reached_at, part_checked}
use Rattle.fastq_checker.specs.declared.Place.{Place}
use Rattle.fastq_checker.specs.declared.Step.{Step}
use Rattle.fastq_checker.specs.declared.Step.TheVariants as step

module _ (f i : List ℕ) (to : ℕ) where
  -- what holds where the place stays, and behind a record that is accepted, holds one record on
  pub on-either : (w : Place) (P : Place → Type 0) → P w → ((n : Place) → w.fastq < to → step_of f i w ≡ step.Next n → P n) → P (on_before f i to w)
  unfolding on_before
  on-either w P stay go = before (ltb w.fastq to) refl
    where
      next : w.fastq < to → (s : Step) → step_of f i w ≡ s → P (on_from w s)
      next l (step.Next n) e = go n l e
      next l step.End e = stay
      next l (step.Stopped y) e = stay
      next l (step.Refused x) e = stay

      before : (t : Bool) → ltb w.fastq to ≡ t → P (cond t (on_from w (step_of f i w)) w)
      before true e = next (ltb-true _ _ e) (step_of f i w) refl
      before false e = stay

  on-next : (w n : Place) → w.fastq < to → step_of f i w ≡ step.Next n → on_before f i to w ≡ n
  unfolding on_before
  on-next w n l e = rw (lt-ltb w.fastq to l, e)

  stays : (k : ℕ) (w : Place) → on_before f i to w ≡ w → walked_by k f i to w ≡ w
  unfolding walked_by
  stays zero w e = refl
  stays (suc k) w e = rw e (stays k w e)

  -- at the end of the file there is no record
  ended : (w : Place) → length f ≤ w.fastq → on_before f i to w ≡ w
  ended w h = on-either w (λ n. n ≡ w) refl (λ n l e. absurd (omega (arith, stepped f i w n e)))

  -- enough is enough: one record on, if it is so behind it
  one_more : (k m : ℕ) (w : Place) → length f - w.fastq ≤ suc k → length f - w.fastq ≤ suc m
      → ((n : Place) → length f - n.fastq ≤ k → length f - n.fastq ≤ m → walked_by k f i to n ≡ walked_by m f i to n)
      → walked_by (suc k) f i to w ≡ walked_by (suc m) f i to w
  unfolding walked_by
  one_more k m w h g behind =
      on-either w (λ n. on_before f i to w ≡ n → walked_by k f i to n ≡ walked_by m f i to n)
      (λ q. stays k w q ∙ sym (stays m w q))
      (λ n l e q. behind n (omega (arith, stepped f i w n e)) (omega (arith, stepped f i w n e)))
      refl

  enough : (k m : ℕ) (w : Place) → length f - w.fastq ≤ k → length f - w.fastq ≤ m → walked_by k f i to w ≡ walked_by m f i to w
  enough zero m w h g = stays zero w (ended w (omega arith)) ∙ sym (stays m w (ended w (omega arith)))
  enough (suc k) zero w h g = stays (suc k) w (ended w (omega arith)) ∙ sym (stays zero w (ended w (omega arith)))
  enough (suc k) (suc m) w h g = one_more k m w h g (enough k m)

  one_on : (k : ℕ) (w : Place) → walked_by (suc k) f i to w ≡ walked_by k f i to (on_before f i to w)
  unfolding walked_by
  one_on k w = refl

  -- ---- by what the code finds at a place

  pub walk-on : (w n : Place) → w.fastq < to → step_of f i w ≡ step.Next n → walked f i to n ≡ walked f i to w
  unfolding walked
  walk-on w n l e =
      enough (length f - n.fastq) (length f) n (omega arith) (omega arith)
      ∙ ap (walked_by (length f) f i to) (sym (on-next w n l e))
      ∙ sym (one_on (length f) w)
      ∙ enough (suc (length f)) (length f - w.fastq) w (omega arith) (omega arith)

  stops : (w : Place) → on_from w (step_of f i w) ≡ w → w ≡ walked f i to w
  unfolding walked
  stops w e = sym (stays (length f - w.fastq) w (on-either w (λ n. n ≡ w) refl (λ n l q. sym (ap (on_from w) q) ∙ e)))

  pub walk-past : (w : Place) → to ≤ w.fastq → w ≡ walked f i to w
  unfolding walked
  walk-past w h = sym (stays (length f - w.fastq) w (on-either w (λ n. n ≡ w) refl (λ n l e. absurd (omega arith))))

  pub walk_end : (w : Place) → step_of f i w ≡ step.End → w ≡ walked f i to w
  walk_end w e = stops w (ap (on_from w) e)

  pub walk-stopped : (w : Place) (y : Refusal) → step_of f i w ≡ step.Stopped y → w ≡ walked f i to w
  walk-stopped w y e = stops w (ap (on_from w) e)

  pub walk_refused : (w : Place) (x : Refusal) → step_of f i w ≡ step.Refused x → w ≡ walked f i to w
  walk_refused w x e = stops w (ap (on_from w) e)

  -- behind the index there is no line
  pub walk-lineless : (w : Place) → length i ≤ w.index → w ≡ walked f i to w
  unfolding step_of record_says judged_as lines
  walk-lineless w h = stops w (go (record_at f w.fastq).answer)
    where
      go : (a : Result (Option QualityRow) Refusal) → on_from w (step_from f i w a (record_at f w.fastq).next) ≡ w
      go (Ok (Some x)) = rw (drop_of_length-le i h)
      go (Ok None) = refl
      go (Err y) = refl

-- ---- the call

module _ (f : List ℕ) (from to : ℕ) (i : List ℕ) (first : ℕ) where
  pub part-long : over_limit (length f) ≡ true → Err TooLong ≡ part_checked f from to i first
  unfolding part_checked
  part-long h = rw h

  module _ (h : over_limit (length f) ≡ false) where
    pub part-long-index : over_limit (length i) ≡ true → Err TooLong ≡ part_checked f from to i first
    unfolding part_checked
    part-long-index k = rw (h, k)

    pub part-within : over_limit (length i) ≡ false → (w : Place) → w ≡ walked f i to (record { fastq = from; index = first; records = 0 })
        → reached_at w ≡ part_checked f from to i first
    unfolding part_checked
    part-within k w e = rw (h, k, e)
