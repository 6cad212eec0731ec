-- An exercise is refused exactly with its first fault, and reads exactly if it has none; then it says what its four fields hold. FirstFault.antt says
-- what each is.
use Prim.Native.Nat.{ℕ, zero, suc, ◌+◌, ◌≤◌, ◌<◌}
use Rattle.std.specs.Prelude.{◌≡◌, refl, Bool, true, false, List, ◌⊎◌, eqb, ltb, drop, Result, Ok, Err}
use Rattle.std.proofs.Common.{sym, ap, ◌∙◌, inl, inr, arith, eq-eqb, ne_eqb, eqb-true, ltb-true, ltb-false, lt-ltb, le-ltb}
use Rattle.std.proofs.Math.ListN.{length}
use Rattle.std.proofs.lemmas.Bool.{eqb-false}
use Rattle.refusal.specs.Numbers.{over_limit}
use Rattle.refusal.specs.declared.Refusal.{Refusal}
use Rattle.refusal.specs.declared.Refusal.TheVariants.{TooLong, MalformedExercise}
use Rattle.exercise.specs.Reading.{begun, ended, walk, says_from, read_as}
use Rattle.exercise.specs.Laws.{walk_end, step-stop, step-pass}
use Rattle.exercise.specs.FirstFault.{field_at, tag_of, size_of, Four, Stands, Good, limit, FirstFault, Faultless, Says}
use Rattle.exercise.specs.FirstFault.FirstFault.{long, wrong-field, missing}
use Rattle.exercise.specs.Turns.{Known, stood, not_yet, split}
use Rattle.exercise.specs.Judging.{FieldSaid, judged_at, field-said, good-passed, wrong-refused}
use Rattle.exercise.specs.Judging.FieldSaid.{passes, stops}
use Rattle.exercise.specs.declared.Exercise.{Exercise}
use Rattle.exercise.specs.declared.Kept.{Kept}

module _ (newest : ℕ) (s : List ℕ) where
  -- ---- over good fields

  abbrev AllGood : ℕ → Type 0
  AllGood r = (k : ℕ) → k < r → Good newest s k

  -- the reader comes to field r, with something kept
  record Reached (r : ℕ) : Type 0 where
    kept : Kept
    known : Known s r kept
    within : field_at s r ≤ length s
    same : says_from newest s ≡ walk newest kept (field_at s r) 0 (drop (field_at s r) s)

  reached : (r : ℕ) → AllGood r → Reached r
  unfolding says_from field_at
  reached zero good = record {
    kept = begun;
    known = record {
      least = omega arith;
      most = omega arith;
      below = λ j q f. absurd (omega (arith, q));
      name = λ m. absurd (omega (arith, m));
      start = λ m. absurd (omega (arith, m));
      end = λ m. absurd (omega (arith, m));
      edition = λ m. absurd (omega (arith, m));
    };
    within = omega arith;
    same = refl;
  }
  reached (suc r) good = go (reached r (λ k q. good k (omega (arith, q)))) (good r (omega arith))
    where
      go : Reached r → Good newest s r → Reached (suc r)
      go c g = on (good-passed newest s r c.kept c.known there g)
        where
          there : field_at s r < length s
          there = omega (arith, g.whole)

          on : (h : Kept) × ((judged_at newest c.kept s r ≡ Ok (h, (size_of s r))) × Known s (suc r) h) → Reached (suc r)
          on (h, (e, k)) = record { kept = h; known = k; within = g.whole; same = c.same ∙ sym (step-pass newest c.kept (field_at s r) s there h (size_of s r) e) }

  within-limit : length s ≤ limit → read_as newest s ≡ says_from newest s
  unfolding read_as over_limit
  within-limit f = rw (le-ltb limit (length s) f)

  -- ---- with a fault

  at-end : (r : ℕ) → field_at s r ≡ length s → (c : Reached r) → says_from newest s ≡ ended c.kept (length s)
  at-end r e c =
      let m : length s ≤ field_at s r = omega (arith, e) in
      c.same ∙ (walk_end newest c.kept (field_at s r) s m ∙ ap (ended c.kept) e)

  not-ended : (h : Kept) (at : ℕ) → (h.wanted ≡ 5 → ⊥) → ended h at ≡ Err (MalformedExercise at)
  unfolding ended
  not-ended h at n = rw (ne_eqb h.wanted 5 n)

  -- if this is the first fault, the reader refuses with it
  pub refused-if : (x : Refusal) → FirstFault newest s x → read_as newest s ≡ Err x
  unfolding read_as over_limit
  refused-if _ (long m) = rw (lt-ltb limit (length s) m)
  refused-if x (wrong-field fit r good i f) =
      let c = reached r good in
      within-limit fit ∙ (c.same ∙ step-stop newest c.kept (field_at s r) s i x (wrong-refused newest s r c.kept c.known i f))
  refused-if _ (missing fit r good e tag f none) =
      let c = reached r good in
      within-limit fit ∙ (at-end r e c ∙ not-ended c.kept (length s) (λ w. none (stood s r c.kept c.known tag f.least (omega (arith, f.most, w)))))

  -- ---- without

  exercise : Kept → Exercise
  exercise h = record { name_start = h.name_start; name_length = h.name_length; start = h.start; end = h.end; edition = h.edition }

  is-ended : (h : Kept) (at : ℕ) → h.wanted ≡ 5 → ended h at ≡ Ok (exercise h)
  unfolding ended exercise
  is-ended h at w = rw (eq-eqb h.wanted 5 w)

  -- all of the four stood, so none is wanted
  all-stood : (r : ℕ) (h : Kept) → Known s r h → Stands s r 4 → h.wanted ≡ 5
  all-stood r h k p =
      let f : Four (tag_of s p.place) = record { least = omega (arith, p.tagged); most = omega (arith, p.tagged) } in
      omega (arith, k.below p.place p.before f, p.tagged, k.most)

  says : (r : ℕ) (h : Kept) → Known s r h → h.wanted ≡ 5 → Says s (exercise h)
  unfolding exercise
  says r h k w =
      let a = k.name (omega (arith, w)) in
      let b = k.start (omega (arith, w)) in
      let c = k.end (omega (arith, w)) in
      let d = k.edition (omega (arith, w)) in
      record {
        name = a.place;
        name-tag = a.tagged;
        name-start = a.holds.start;
        name-length = a.holds.length;
        start = b.place;
        start-tag = b.tagged;
        start-value = b.holds;
        end = c.place;
        end-tag = c.tagged;
        end-value = c.holds;
        edition = d.place;
        edition-tag = d.tagged;
        edition-value = d.holds;
      }

  -- without a fault it reads, and says what its fields hold
  pub reads-if : Faultless newest s → (x : Exercise) × ((read_as newest s ≡ Ok x) × Says s x)
  reads-if f =
      let c = reached f.fields f.good in
      let w = all-stood f.fields c.kept c.known (f.all 4 (record { least = omega arith; most = omega arith })) in
      (exercise c.kept, (within-limit f.fit ∙ (at-end f.fields f.end c ∙ is-ended c.kept (length s) w), says f.fields c.kept c.known w))

  -- ---- there is a first fault, or none

  data Either : Type 0 where
    fault : (x : Refusal) → FirstFault newest s x → Either
    none : Faultless newest s → Either

  ends : length s ≤ limit → (r : ℕ) → AllGood r → field_at s r ≡ length s → Either
  ends fit r good e = go (eqb c.kept.wanted 5) refl
    where
      c : Reached r
      c = reached r good

      go : (t : Bool) → eqb c.kept.wanted 5 ≡ t → Either
      go true w = none (record { fit = fit; fields = r; good = good; end = e; all = λ tag f. stood s r c.kept c.known tag f.least (omega (arith, f.most, eqb-true c.kept.wanted 5 w)) })
      go false w =
          let f : Four c.kept.wanted = record { least = c.known.least; most = under c.kept.wanted c.known.most (eqb-false c.kept.wanted 5 w) } in
          fault _ (missing fit r good e c.kept.wanted f (not_yet s r c.kept c.known f))
        where
          under : (n : ℕ) → n ≤ 5 → (n ≡ 5 → ⊥) → n ≤ 4
          under n m q = side (ltb n 5) refl
            where
              side : (t : Bool) → ltb n 5 ≡ t → n ≤ 4
              side true p = omega (arith, ltb-true n 5 p)
              side false p = let z : n ≡ 5 = omega (arith, ltb-false n 5 p, m) in absurd (q z)

  -- field r decides, or is good too
  data Step (r : ℕ) : Type 0 where
    over : Either → Step r
    onward : AllGood (suc r) → Step r

  step : length s ≤ limit → (r : ℕ) → AllGood r → Step r
  step fit r good = go (ltb (field_at s r) (length s)) refl
    where
      c : Reached r
      c = reached r good

      join : Good newest s r → AllGood (suc r)
      join g j q = side (split j r q)
        where
          side : (j < r) ⊎ (j ≡ r) → Good newest s j
          side (inl p) = good j p
          side (inr z) = rw z g

      next : field_at s r < length s → (J : Result (Kept × ℕ) Refusal) → FieldSaid newest s r J → Step r
      next i J (stops f) = over (fault _ (wrong-field fit r good i f))
      next i J (passes h g k) = onward (join g)

      go : (t : Bool) → ltb (field_at s r) (length s) ≡ t → Step r
      go true e = next (ltb-true _ _ e) (judged_at newest c.kept s r) (field-said newest s r c.kept c.known (ltb-true _ _ e))
      go false e = over (ends fit r good (omega (arith, ltb-false (field_at s r) (length s) e, c.within)))

  -- from field r on, with so many bytes left at most
  search : length s ≤ limit → (left r : ℕ) → AllGood r → length s ≤ field_at s r + left → Either
  unfolding field_at
  search fit zero r good l = ends fit r good (omega (arith, l, (reached r good).within))
  search fit (suc left) r good l = go (step fit r good) (λ g. search fit left (suc r) g (omega (arith, l)))
    where
      go : Step r → (AllGood (suc r) → Either) → Either
      go (over e) more = e
      go (onward g) more = more g

  either : Either
  either = go (ltb limit (length s)) refl
    where
      go : (t : Bool) → ltb limit (length s) ≡ t → Either
      go true e = fault TooLong (long (ltb-true limit (length s) e))
      go false e = search (ltb-false limit (length s) e) (length s) 0 (λ k q. absurd (omega (arith, q))) (omega arith)

  -- the reader refuses with the first fault
  pub refused-only-if : (x : Refusal) → read_as newest s ≡ Err x → FirstFault newest s x
  refused-only-if x e = go either
    where
      go : Either → FirstFault newest s x
      go (fault y f) = let q = refused-if y f in let z : x ≡ y = cc in rw z f
      go (none f) = reads (reads-if f)
        where
          reads : (y : Exercise) × ((read_as newest s ≡ Ok y) × Says s y) → FirstFault newest s x
          reads (y, (p, q)) = let z : ◌≡◌ {A = ℕ} 0 1 = cc in absurd (omega arith)

  -- what reads has no fault, and says what its fields hold
  pub reads-only-if : (x : Exercise) → read_as newest s ≡ Ok x → Faultless newest s × Says s x
  reads-only-if x e = go either
    where
      go : Either → Faultless newest s × Says s x
      go (fault y f) = let q = refused-if y f in let z : ◌≡◌ {A = ℕ} 0 1 = cc in absurd (omega arith)
      go (none f) = (f, same (reads-if f))
        where
          same : (y : Exercise) × ((read_as newest s ≡ Ok y) × Says s y) → Says s x
          same (y, (p, q)) = let z : x ≡ y = cc in rw z q
