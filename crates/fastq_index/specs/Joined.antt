-- Parts of a FASTQ file that go on from each other give the whole (R91). `parts-two`: what a part gives is what the part up to any offset in between
-- gives, and behind it, if that was not refused, what the part from where it stopped gives. `stops-two`: and it stops where that stops.
-- `parts_from`: so with any number of parts, if the last goes up to the end of the file or behind it. `file-resumed`: behind any of its first
-- rows the file goes on from where they stop, so that a table that was full loses nothing. Nothing more is asked of the offsets, so any
-- guess of where to cut is safe: rows that were found from a guess are used only if the part before it stopped there.
use Prim.Native.Nat.{ℕ, zero, suc, ◌+◌, ◌-◌, ◌≤◌, ◌<◌}
use Rattle.std.specs.Prelude.{◌≡◌, List, [], ◌∷◌, ◌++◌, Bool, true, false, take, ltb, Option, Some, None, Result, Ok, Err, ⊤}
use Rattle.std.proofs.Math.Path.{refl, ap}
use Rattle.std.proofs.Common.{sym, ◌∙◌, length-append, ltb-true, ltb-false, arith}
use Rattle.std.proofs.Math.ListN.{length}
use Rattle.refusal.specs.declared.Refusal.{Refusal}
use Rattle.fastq.specs.Fastq.{record_at}
use Rattle.fastq.specs.declared.QualityRow.{QualityRow}
use Rattle.fastq.specs.declared.Step.{Step}
use Rattle.fastq_table.specs.Fill.{Found, nothing, with_first}
use Rattle.fastq_index.specs.File.{onwards, rows_at}
use Rattle.fastq_index.specs.Part.{record_before, rows_up_to, rows_before, behind, stop_of}
use Rattle.fastq_index.specs.PartLaws.{record-moves, record-before, enough-before, before_at, before-past, part-whole, part-row, part_end, part-refused, behind-add}

-- ---- rows behind rows

-- what some records give, and behind them, if they gave a row each, what others give
abbrev pub goes_on : Found → Found → Result ⊤ Refusal → Found
goes_on f g (Ok tt) = record { rows = f.rows ++ g.rows; stop = g.stop }
goes_on f g (Err x) = f

unfoldable pub joined : Found → Found → Found
joined f g = goes_on f g f.stop

joined-first : (x : QualityRow) (f g : Found) → with_first x (joined f g) ≡ joined (with_first x f) g
unfolding joined
joined-first x f g = go f.stop
  where
    go : (t : Result ⊤ Refusal) → with_first x (goes_on f g t) ≡ goes_on (with_first x f) g t
    go (Ok tt) = refl
    go (Err y) = refl

joined-ended : (g : Found) → joined (nothing (Ok tt)) g ≡ g
unfolding joined
joined-ended g = refl

joined-refused : (y : Refusal) (g : Found) → joined (nothing (Err y)) g ≡ nothing (Err y)
unfolding joined
joined-refused y g = refl

-- ---- two parts

module _ (s : List ℕ) (mid to : ℕ) (rises : mid ≤ to) where
  two : (k at : ℕ) → length s - at < k → rows_up_to k s to at ≡ joined (rows_up_to k s mid at) (rows_before s to (behind s (length (rows_up_to k s mid at).rows) at))
  unfolding rows_up_to behind
  two zero at h = absurd (omega arith)
  two (suc k) at h = within (ltb at mid) refl (two k (record_at s at).next)
    where
      Behind : Type 0
      Behind = length s - (record_at s at).next < k
          → rows_up_to k s to (record_at s at).next ≡ joined (rows_up_to k s mid (record_at s at).next) (rows_before s to (behind s (length (rows_up_to k s mid (record_at s at).next).rows) (record_at s at).next))

      -- a record that both parts have
      shared : Behind → at < mid → (a : Result (Option QualityRow) Refusal) → (record_at s at).answer ≡ a
          → onwards a (rows_up_to k s to (record_at s at).next)
          ≡ joined (onwards a (rows_up_to k s mid (record_at s at).next)) (rows_before s to (behind s (length (onwards a (rows_up_to k s mid (record_at s at).next)).rows) at))
      shared ih l (Ok (Some x)) e =
          let v = record-moves s at x e in
          ap (with_first x) (ih (omega (arith, v))) ∙ joined-first x _ _
      shared ih l (Ok None) e = sym (joined-ended _ ∙ part_end s to at (ap (λ (r : Step). r.answer) (before_at s to at (omega arith)) ∙ e))
      shared ih l (Err y) e = sym (joined-refused y _)

      within : (t : Bool) → ltb at mid ≡ t → Behind → rows_up_to (suc k) s to at ≡ joined (rows_up_to (suc k) s mid at) (rows_before s to (behind s (length (rows_up_to (suc k) s mid at).rows) at))
      within true q ih =
          let l : at < mid = ltb-true at mid q in
          rw (before_at s to at (omega arith), before_at s mid at l) (shared ih l (record_at s at).answer refl)
      within false q ih = rw (before-past s mid at (ltb-false at mid q)) (enough-before (suc k) s to at h ∙ sym (joined-ended (rows_before s to at)))

  pub parts-two : (at : ℕ) → rows_before s to at ≡ joined (rows_before s mid at) (rows_before s to (stop_of s mid at))
  unfolding rows_before
  parts-two at = two (suc (length s - at)) at (omega arith)

  -- a part that ended is followed by the other; one that was refused is all there is
  pub stops-two : (at : ℕ) → (rows_before s mid at).stop ≡ Ok tt → stop_of s to at ≡ stop_of s to (stop_of s mid at)
  stops-two at e =
      let f = rows_before s mid at in
      let g = rows_before s to (stop_of s mid at) in
      let q : rows_before s to at ≡ record { rows = f.rows ++ g.rows; stop = g.stop } = parts-two at ∙ (unfold joined in ap (goes_on f g) e) in
      ap (λ (r : Found). behind s (length r.rows) at) q
      ∙ ap (λ (n : ℕ). behind s n at) (length-append f.rows g.rows)
      ∙ behind-add s (length f.rows) (length g.rows) at

  pub stops-refused : (at : ℕ) (x : Refusal) → (rows_before s mid at).stop ≡ Err x → (rows_before s to at ≡ rows_before s mid at) × (stop_of s to at ≡ stop_of s mid at)
  stops-refused at x e =
      let f = rows_before s mid at in
      let q : rows_before s to at ≡ f = parts-two at ∙ (unfold joined in ap (goes_on f (rows_before s to (stop_of s mid at))) e) in
      (q, ap (λ (r : Found). behind s (length r.rows) at) q)

-- ---- some rows of a part, and on from there

module _ (s : List ℕ) (mid to : ℕ) (rises : mid ≤ to) where
  -- behind some of the rows of a part, what is left of a longer one is what goes on from there
  pub part-resumed : (n at : ℕ) → n ≤ length (rows_before s mid at).rows
      → rows_before s to at ≡ record { rows = take n (rows_before s mid at).rows ++ (rows_before s to (behind s n at)).rows; stop = (rows_before s to (behind s n at)).stop }
  unfolding behind
  part-resumed zero at h = refl
  part-resumed (suc n) at h = go (record_before s mid at).answer refl (part-resumed n (record_at s at).next)
    where
      next : ℕ
      next = (record_at s at).next

      Behind : Type 0
      Behind = n ≤ length (rows_before s mid next).rows
          → rows_before s to next ≡ record { rows = take n (rows_before s mid next).rows ++ (rows_before s to (behind s n next)).rows; stop = (rows_before s to (behind s n next)).stop }

      -- a row, and the rows behind it
      first : (end : ℕ) (x : QualityRow) → (record_before s end at).answer ≡ Ok (Some x) → rows_before s end at ≡ with_first x (rows_before s end next)
      first end x e = (part-row s end at x e).0 ∙ ap (λ (r : Step). with_first x (rows_before s end r.next)) (record-before s end at x e).0

      go : (a : Result (Option QualityRow) Refusal) → (record_before s mid at).answer ≡ a → Behind
          → rows_before s to at ≡ record { rows = take (suc n) (rows_before s mid at).rows ++ (rows_before s to (behind s n next)).rows; stop = (rows_before s to (behind s n next)).stop }
      go (Ok (Some x)) e ih =
          let b = record-before s mid at x e in
          let w = first mid x e in
          let v = first to x (ap (λ (r : Step). r.answer) (before_at s to at (omega (arith, b.1)) ∙ sym b.0) ∙ e) in
          rw (w, v) (ap (with_first x) (ih (omega (arith, ap (λ (f : Found). length f.rows) w))))
      go (Ok None) e ih = absurd (omega (arith, ap (λ (f : Found). length f.rows) (part_end s mid at e)))
      go (Err y) e ih = absurd (omega (arith, ap (λ (f : Found). length f.rows) (part-refused s mid at y e)))

-- of the whole file
pub file-resumed : (s : List ℕ) (to n at : ℕ) → n ≤ length (rows_before s to at).rows
    → rows_at s at ≡ record { rows = take n (rows_before s to at).rows ++ (rows_at s (behind s n at)).rows; stop = (rows_at s (behind s n at)).stop }
file-resumed s to n at h =
    let e = to + length s in
    let l : length s ≤ e = omega arith in
    sym (part-whole s e at l)
    ∙ part-resumed s to e (omega arith) n at h
    ∙ ap (λ (g : Found). record { rows = take n (rows_before s to at).rows ++ g.rows; stop = g.stop }) (part-whole s e (behind s n at) l)

-- ---- any number of parts

-- the last of some offsets
unfoldable pub last_of : ℕ → List ℕ → ℕ
last_of to [] = to
last_of to (m ∷ ms) = last_of m ms

-- what the parts up to these offsets give, each from where the one before it stopped, up to the first refusal
unfoldable pub parts_from : List ℕ → ℕ → ℕ → List ℕ → Found
parts_from s at to [] = rows_before s to at
parts_from s at to (m ∷ ms) = joined (rows_before s to at) (parts_from s (stop_of s to at) m ms)

pub parts-from : (s : List ℕ) (at to : ℕ) (ms : List ℕ) → length s ≤ last_of to ms → parts_from s at to ms ≡ rows_at s at
unfolding parts_from last_of
parts-from s at to [] h = part-whole s to at h
parts-from s at to (m ∷ ms) h =
    let e = to + length s in
    let l : length s ≤ e = omega arith in
    ap (joined (rows_before s to at)) (parts-from s (stop_of s to at) m ms h ∙ sym (part-whole s e (stop_of s to at) l))
    ∙ sym (parts-two s to e (omega arith) at)
    ∙ part-whole s e at l
