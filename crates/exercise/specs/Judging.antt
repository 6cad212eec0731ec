-- The reader judges a field as FirstFault.antt does: it passes a good one, and refuses a wrong one with its fault.
use Prim.Native.Nat.{ℕ, zero, suc, ◌+◌, ◌-◌, ◌≤◌, ◌<◌}
use Rattle.std.specs.Prelude.{◌≡◌, Bool, cond, List, eqb, length, drop, get_or, Result, Ok, Err}
use Rattle.std.proofs.Math.Path.{refl, sym}
use Rattle.std.proofs.Common.{◌∙◌, true≢false}
use Rattle.std.proofs.Math.Bool.{true, false}
use native.Mathlib.Omega.{arith}
use Rattle.std.proofs.Math.Dec.{ltb}
use borrow.Author.Tests.{ne_eqb, eqb-true, eqb-false, ltb-true, ltb-false}
use Rattle.refusal.specs.declared.Refusal.{Refusal}
use Rattle.refusal.specs.declared.Refusal.TheVariants.{MalformedExercise, UnknownEdition}
use Rattle.exercise.specs.Reading.{known_to, bad, name_field, start_field, end_field, edition_field, valued, judge}
use Rattle.exercise.specs.Laws.{judge-needed, judge-short, judge-cut, judge-whole}
use Rattle.exercise.specs.FirstFault.{field_at, tag_of, size_of, value_of, Four, InTurn, RightSize, Good, FieldFault}
use Rattle.exercise.specs.FirstFault.FieldFault.{needed, cut_off, out-of-turn, wrong_size, other-edition}
use Rattle.exercise.specs.Turns.{Known, in-turn, turn-wanted, passed-known, name-known, start-known, end_known, edition-known}
use Rattle.exercise.specs.declared.Kept.{Kept}

-- a field is good, and is passed; or it is wrong, and is refused so
pub data FieldSaid (newest : ℕ) (s : List ℕ) (r : ℕ) : Result (Kept × ℕ) Refusal → Type 0 where
  passes : (g : Kept) → Good newest s r → Known s (suc r) g → FieldSaid newest s r (Ok (g, (size_of s r)))
  stops : {x : Refusal} → FieldFault newest s r x → FieldSaid newest s r (Err x)

said-either : (newest : ℕ) (s : List ℕ) (r : ℕ) (t : Bool) (x y : Result (Kept × ℕ) Refusal) → (t ≡ true → FieldSaid newest s r x) → (t ≡ false → FieldSaid newest s r y) → FieldSaid newest s r (cond t x y)
said-either newest s r true x y p q = p refl
said-either newest s r false x y p q = q refl

-- how field r is judged, behind what is kept
abbrev pub judged_at : ℕ → Kept → List ℕ → ℕ → Result (Kept × ℕ) Refusal
judged_at newest h s r = judge newest h (field_at s r) (tag_of s r) (drop (field_at s r + 1) s)

module _ (newest : ℕ) (s : List ℕ) (r : ℕ) (h : Kept) where
  -- one that is whole, by its tag
  whole-judged : tag_of s r < 128 → field_at s (suc r) ≤ length s → judged_at newest h s r ≡ valued newest h (field_at s r) (tag_of s r) (size_of s r) (value_of s r)
  unfolding field_at
  whole-judged t w = sym (judge-whole newest h (field_at s r) (tag_of s r) s t (omega (arith, w)) (omega (arith, w)) (size_of s r) refl (omega (arith, w)))

  cut-judged : tag_of s r < 128 → field_at s r < length s → length s < field_at s (suc r) → judged_at newest h s r ≡ Err (MalformedExercise (field_at s r))
  unfolding field_at bad
  cut-judged t i c = go (ltb (length s - field_at s r) 3) refl
    where
      go : (b : Bool) → ltb (length s - field_at s r) 3 ≡ b → judged_at newest h s r ≡ Err (MalformedExercise (field_at s r))
      go true e = sym (judge-short newest h (field_at s r) (tag_of s r) s t i (ltb-true _ 3 e))
      go false e = sym (judge-cut newest h (field_at s r) (tag_of s r) s t i (ltb-false _ 3 e) (size_of s r) refl (omega (arith, c, ltb-false (length s - field_at s r) 3 e)))

  module _ (k : Known s r h) where
    -- ---- what is said of a whole field

    module _ (t : tag_of s r < 128) (w : field_at s (suc r) ≤ length s) where
      four : (tag : ℕ) → tag_of s r ≡ tag → 1 ≤ tag → tag ≤ 4 → Four (tag_of s r)
      four tag e l m = record { least = omega (arith, e, l); most = omega (arith, e, m) }

      -- of one of the four that is not wanted
      unwanted : (tag : ℕ) → eqb (tag_of s r) tag ≡ true → 1 ≤ tag → tag ≤ 4 → eqb h.wanted tag ≡ false → FieldSaid newest s r (bad (field_at s r))
      unfolding bad
      unwanted tag e l m n =
          let q = eqb-true (tag_of s r) tag e in
          let f = four tag q l m in
          stops (out-of-turn t w f (λ u. eqb-false h.wanted tag n (sym (turn-wanted s r h k f u) ∙ q)))

      wanted : (tag : ℕ) → eqb (tag_of s r) tag ≡ true → eqb h.wanted tag ≡ true → InTurn s r
      wanted tag e n = in-turn s r h k (eqb-true (tag_of s r) tag e ∙ sym (eqb-true h.wanted tag n))

      name-said : eqb (tag_of s r) 1 ≡ true → FieldSaid newest s r (name_field h (field_at s r) (size_of s r))
      unfolding name_field
      name-said e =
          let q = eqb-true (tag_of s r) 1 e in
          said-either newest s r (eqb h.wanted 1) _ _
          (λ n. passes _
          (record {
            unneeded = t;
            whole = w;
            turn = λ _. wanted 1 e n;
            size = record { start = λ z. absurd (omega (arith, q, z)); end = λ z. absurd (omega (arith, q, z)); edition = λ z. absurd (omega (arith, q, z)) };
            known = λ z. absurd (omega (arith, q, z));
          })
          (name-known s r h k q (eqb-true h.wanted 1 n)))
          (unwanted 1 e (omega arith) (omega arith))

      start-said : eqb (tag_of s r) 2 ≡ true → FieldSaid newest s r (start_field h (field_at s r) (size_of s r) (value_of s r))
      unfolding start_field bad
      start-said e =
          let q = eqb-true (tag_of s r) 2 e in
          said-either newest s r (eqb h.wanted 2) _ _
          (λ n. said-either newest s r (eqb (size_of s r) 8) _ _
          (λ z. passes _
          (record {
            unneeded = t;
            whole = w;
            turn = λ _. wanted 2 e n;
            size = record { start = λ _. eqb-true (size_of s r) 8 z; end = λ y. absurd (omega (arith, q, y)); edition = λ y. absurd (omega (arith, q, y)) };
            known = λ y. absurd (omega (arith, q, y));
          })
          (start-known s r h k q (eqb-true h.wanted 2 n)))
          (λ z. stops (wrong_size t w (wanted 2 e n) (λ u. eqb-false (size_of s r) 8 z (u.start q)))))
          (unwanted 2 e (omega arith) (omega arith))

      end-said : eqb (tag_of s r) 3 ≡ true → FieldSaid newest s r (end_field h (field_at s r) (size_of s r) (value_of s r))
      unfolding end_field bad
      end-said e =
          let q = eqb-true (tag_of s r) 3 e in
          said-either newest s r (eqb h.wanted 3) _ _
          (λ n. said-either newest s r (eqb (size_of s r) 8) _ _
          (λ z. passes _
          (record {
            unneeded = t;
            whole = w;
            turn = λ _. wanted 3 e n;
            size = record { start = λ y. absurd (omega (arith, q, y)); end = λ _. eqb-true (size_of s r) 8 z; edition = λ y. absurd (omega (arith, q, y)) };
            known = λ y. absurd (omega (arith, q, y));
          })
          (end_known s r h k q (eqb-true h.wanted 3 n)))
          (λ z. stops (wrong_size t w (wanted 3 e n) (λ u. eqb-false (size_of s r) 8 z (u.end q)))))
          (unwanted 3 e (omega arith) (omega arith))

      edition-said : eqb (tag_of s r) 4 ≡ true → FieldSaid newest s r (edition_field newest h (field_at s r) (size_of s r) (value_of s r))
      unfolding edition_field bad
      edition-said e =
          let q = eqb-true (tag_of s r) 4 e in
          said-either newest s r (eqb h.wanted 4) _ _
          (λ n. said-either newest s r (eqb (size_of s r) 1) _ _
          (λ z. said-either newest s r (known_to newest (get_or (value_of s r) 0 0)) _ _
          (λ c. passes _
          (record {
            unneeded = t;
            whole = w;
            turn = λ _. wanted 4 e n;
            size = record { start = λ y. absurd (omega (arith, q, y)); end = λ y. absurd (omega (arith, q, y)); edition = λ _. eqb-true (size_of s r) 1 z };
            known = λ _. c;
          })
          (edition-known s r h k q (eqb-true h.wanted 4 n)))
          (λ c. stops (other-edition w q (wanted 4 e n) (eqb-true (size_of s r) 1 z) c)))
          (λ z. stops (wrong_size t w (wanted 4 e n) (λ u. eqb-false (size_of s r) 1 z (u.edition q)))))
          (unwanted 4 e (omega arith) (omega arith))

      -- a tag that is not of the four
      passed-said : eqb (tag_of s r) 1 ≡ false → eqb (tag_of s r) 2 ≡ false → eqb (tag_of s r) 3 ≡ false → eqb (tag_of s r) 4 ≡ false → FieldSaid newest s r (Ok (h, (size_of s r)))
      passed-said a b c d =
          let n : Four (tag_of s r) → ⊥ = not-four (tag_of s r) (eqb-false _ 1 a) (eqb-false _ 2 b) (eqb-false _ 3 c) (eqb-false _ 4 d) in
          passes h
          (record {
            unneeded = t;
            whole = w;
            turn = λ f. absurd (n f);
            size = record { start = λ y. absurd (eqb-false _ 2 b y); end = λ y. absurd (eqb-false _ 3 c y); edition = λ y. absurd (eqb-false _ 4 d y) };
            known = λ y. absurd (eqb-false _ 4 d y);
          })
          (passed-known s r h k n)
        where
          not-four : (tag : ℕ) → (tag ≡ 1 → ⊥) → (tag ≡ 2 → ⊥) → (tag ≡ 3 → ⊥) → (tag ≡ 4 → ⊥) → Four tag → ⊥
          not-four zero a b c d f = omega (arith, f.least)
          not-four (suc zero) a b c d f = a refl
          not-four (suc (suc zero)) a b c d f = b refl
          not-four (suc (suc (suc zero))) a b c d f = c refl
          not-four (suc (suc (suc (suc zero)))) a b c d f = d refl
          not-four (suc (suc (suc (suc (suc tag))))) a b c d f = omega (arith, f.most)

      valued-said : FieldSaid newest s r (valued newest h (field_at s r) (tag_of s r) (size_of s r) (value_of s r))
      unfolding valued
      valued-said =
          said-either newest s r (eqb (tag_of s r) 1) _ _ name-said
          (λ a. said-either newest s r (eqb (tag_of s r) 2) _ _ start-said
          (λ b. said-either newest s r (eqb (tag_of s r) 3) _ _ end-said
          (λ c. said-either newest s r (eqb (tag_of s r) 4) _ _ edition-said (λ d. passed-said a b c d))))

    -- ---- of any field that is there

    pub field-said : field_at s r < length s → FieldSaid newest s r (judged_at newest h s r)
    field-said i = go (ltb (tag_of s r) 128) refl (ltb (length s) (field_at s (suc r))) refl
      where
        go : (a : Bool) → ltb (tag_of s r) 128 ≡ a → (b : Bool) → ltb (length s) (field_at s (suc r)) ≡ b → FieldSaid newest s r (judged_at newest h s r)
        go false e b f =
            let m = ltb-false (tag_of s r) 128 e in
            rw (← judge-needed newest h (field_at s r) (tag_of s r) (drop (field_at s r + 1) s) m) (stops (needed m))
        go true e true f =
            let m = ltb-true (tag_of s r) 128 e in
            let c = ltb-true (length s) (field_at s (suc r)) f in
            rw (cut-judged m i c) (stops (cut_off m c))
        go true e false f =
            let m = ltb-true (tag_of s r) 128 e in
            let w = ltb-false (length s) (field_at s (suc r)) f in
            rw (whole-judged m w) (valued-said m w)

    -- ---- a good field is passed

    pub good-passed : field_at s r < length s → Good newest s r → (g : Kept) × ((judged_at newest h s r ≡ Ok (g, (size_of s r))) × Known s (suc r) g)
    good-passed i good = go (judged_at newest h s r) refl (field-said i)
      where
        wrong : {x : Refusal} → FieldFault newest s r x → ⊥
        wrong (needed m) = omega (arith, good.unneeded, m)
        wrong (cut_off m c) = omega (arith, good.whole, c)
        wrong (out-of-turn m w f n) = n (good.turn f)
        wrong (wrong_size m w u n) = n good.size
        wrong (other-edition w e u z n) = true≢false (sym (good.known e) ∙ n)

        go : (J : Result (Kept × ℕ) Refusal) → judged_at newest h s r ≡ J → FieldSaid newest s r J → (g : Kept) × ((judged_at newest h s r ≡ Ok (g, (size_of s r))) × Known s (suc r) g)
        go J e (passes g _ v) = (g, (e, v))
        go J e (stops f) = absurd (wrong f)

    -- ---- a wrong field is refused with its fault

    unturned : (tag n : ℕ) (v : List ℕ) → Four tag → (tag ≡ h.wanted → ⊥) → valued newest h (field_at s r) tag n v ≡ Err (MalformedExercise (field_at s r))
    unfolding valued name_field start_field end_field edition_field bad
    unturned zero n v f never = absurd (omega (arith, f.least))
    unturned (suc zero) n v f never = rw (ne_eqb h.wanted 1 (λ e. never (sym e)))
    unturned (suc (suc zero)) n v f never = rw (ne_eqb h.wanted 2 (λ e. never (sym e)))
    unturned (suc (suc (suc zero))) n v f never = rw (ne_eqb h.wanted 3 (λ e. never (sym e)))
    unturned (suc (suc (suc (suc zero)))) n v f never = rw (ne_eqb h.wanted 4 (λ e. never (sym e)))
    unturned (suc (suc (suc (suc (suc tag))))) n v f never = absurd (omega (arith, f.most))

    another : {A : Type 0} (a b : ℕ) → eqb a b ≡ false → a ≡ b → A
    another a b e q = absurd (eqb-false a b e q)

    missized : (tag n : ℕ) (v : List ℕ) → (Four tag → tag ≡ h.wanted) → (RightSize tag n → ⊥) → valued newest h (field_at s r) tag n v ≡ Err (MalformedExercise (field_at s r))
    unfolding valued name_field start_field end_field edition_field bad
    missized zero n v u never = absurd (never (record { start = λ e. another 0 2 refl e; end = λ e. another 0 3 refl e; edition = λ e. another 0 4 refl e }))
    missized (suc zero) n v u never = absurd (never (record { start = λ e. another 1 2 refl e; end = λ e. another 1 3 refl e; edition = λ e. another 1 4 refl e }))
    missized (suc (suc zero)) n v u never =
        let w : 2 ≡ h.wanted = u (record { least = omega arith; most = omega arith }) in
        rw (← w, ne_eqb n 8 (λ z. never (record { start = λ _. z; end = λ e. another 2 3 refl e; edition = λ e. another 2 4 refl e })))
    missized (suc (suc (suc zero))) n v u never =
        let w : 3 ≡ h.wanted = u (record { least = omega arith; most = omega arith }) in
        rw (← w, ne_eqb n 8 (λ z. never (record { start = λ e. another 3 2 refl e; end = λ _. z; edition = λ e. another 3 4 refl e })))
    missized (suc (suc (suc (suc zero)))) n v u never =
        let w : 4 ≡ h.wanted = u (record { least = omega arith; most = omega arith }) in
        rw (← w, ne_eqb n 1 (λ z. never (record { start = λ e. another 4 2 refl e; end = λ e. another 4 3 refl e; edition = λ _. z })))
    missized (suc (suc (suc (suc (suc tag))))) n v u never =
        absurd (never (record { start = λ e. absurd (omega (arith, e)); end = λ e. absurd (omega (arith, e)); edition = λ e. absurd (omega (arith, e)) }))

    unknown : (tag n : ℕ) (v : List ℕ) → tag ≡ 4 → h.wanted ≡ 4 → n ≡ 1 → known_to newest (get_or v 0 0) ≡ false → valued newest h (field_at s r) tag n v ≡ Err (UnknownEdition (field_at s r))
    unfolding valued edition_field
    unknown tag n v e w z c = rw (e, w, z, c)

    pub wrong-refused : field_at s r < length s → {x : Refusal} → FieldFault newest s r x → judged_at newest h s r ≡ Err x
    wrong-refused i (needed m) = sym (judge-needed newest h (field_at s r) (tag_of s r) (drop (field_at s r + 1) s) m)
    wrong-refused i (cut_off m c) = cut-judged m i c
    wrong-refused i (out-of-turn m w f n) = whole-judged m w ∙ unturned (tag_of s r) (size_of s r) (value_of s r) f (λ e. n (in-turn s r h k e))
    wrong-refused i (wrong_size m w u n) = whole-judged m w ∙ missized (tag_of s r) (size_of s r) (value_of s r) (λ f. turn-wanted s r h k f u) n
    wrong-refused i (other-edition w e u z c) =
        let f : Four (tag_of s r) = record { least = omega (arith, e); most = omega (arith, e) } in
        whole-judged (omega (arith, e)) w ∙ unknown (tag_of s r) (size_of s r) (value_of s r) e (sym (turn-wanted s r h k f u) ∙ e) z c
