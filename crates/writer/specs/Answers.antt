-- Each answer of writing is given exactly in its case: the cases exclude one another, in the order of the refusals, and each answer has one.
use Prim.Native.Nat.{ℕ, ◌≤◌, ◌<◌}
use Rattle.std.specs.Prelude.{◌≡◌, Bool, true, false, cond, ◌&&◌, length, eqb, ltb, Result}
use Rattle.std.proofs.Math.Path.{refl}
use mathlib.Core.List.{List}
use Rattle.std.proofs.Common.{eqb-true, ltb-true, ltb-false, arith}
use Rattle.std.proofs.lemmas.Bool.{eqb-false}
use Rattle.refusal.specs.declared.Refusal.{Refusal}
use Rattle.refusal.specs.declared.Refusal.TheVariants.{TooLong, ZeroWidth, NameUnfit, DescriptionUnfit, BaseUnfit, NoRoom}
use Rattle.output.specs.Outcome.{Outcome, refuses, gives, pours}
use Rattle.writer.specs.Text.{record_text, any_of, name_unfit, description_unfit, barred, too_long, record_written}

module _ (name : List ℕ) (t : Bool) (d bases : List ℕ) (w : ℕ) (out : List ℕ) where
  -- an answer with the output afterwards, and its case
  pub data Case : Outcome (Result ℕ Refusal) → Type 0 where
    over-limit : too_long (length name) (length d) (length bases) ≡ true → Case (refuses TooLong out)
    no-width : too_long (length name) (length d) (length bases) ≡ false → w ≡ 0 → Case (refuses ZeroWidth out)
    bad-name : too_long (length name) (length d) (length bases) ≡ false → 0 < w → name_unfit name ≡ true → Case (refuses NameUnfit out)
    bad-description : too_long (length name) (length d) (length bases) ≡ false → 0 < w → name_unfit name ≡ false → (t && description_unfit d) ≡ true → Case (refuses DescriptionUnfit out)
    bad-base : too_long (length name) (length d) (length bases) ≡ false → 0 < w → name_unfit name ≡ false → (t && description_unfit d) ≡ false → any_of barred bases ≡ true
        → Case (refuses BaseUnfit out)
    no_room : too_long (length name) (length d) (length bases) ≡ false → 0 < w → name_unfit name ≡ false → (t && description_unfit d) ≡ false → any_of barred bases ≡ false
        → length out < length (record_text name t d bases w) → Case (refuses (NoRoom (length (record_text name t d bases w))) out)
    put : too_long (length name) (length d) (length bases) ≡ false → 0 < w → name_unfit name ≡ false → (t && description_unfit d) ≡ false → any_of barred bases ≡ false
        → length (record_text name t d bases w) ≤ length out → Case (gives (record_text name t d bases w) out)

  pub answer-case : Case (record_written name t d bases w out)
  unfolding record_written pours
  answer-case = go (too_long (length name) (length d) (length bases)) refl (eqb w 0) refl (name_unfit name) refl (t && description_unfit d) refl (any_of barred bases) refl (ltb (length out) (length text)) refl
    where
      text : List ℕ
      text = record_text name t d bases w

      some : eqb w 0 ≡ false → 0 < w
      some e = let y : w ≡ 0 → ⊥ = eqb-false _ _ e in omega arith

      go : (l : Bool) → too_long (length name) (length d) (length bases) ≡ l → (z : Bool) → eqb w 0 ≡ z → (n : Bool) → name_unfit name ≡ n → (e : Bool) → (t && description_unfit d) ≡ e → (b : Bool) → any_of barred bases ≡ b
          → (r : Bool) → ltb (length out) (length text) ≡ r
          → Case (cond l (refuses TooLong out) (cond z (refuses ZeroWidth out) (cond n (refuses NameUnfit out) (cond e (refuses DescriptionUnfit out) (cond b (refuses BaseUnfit out)
          (cond r (refuses (NoRoom (length text)) out) (gives text out)))))))
      go true l z p n q e u b v r m = over-limit l
      go false l true p n q e u b v r m = no-width l (eqb-true _ _ p)
      go false l false p true q e u b v r m = bad-name l (some p) q
      go false l false p false q true u b v r m = bad-description l (some p) q u
      go false l false p false q false u true v r m = bad-base l (some p) q u v
      go false l false p false q false u false v true m = no_room l (some p) q u v (ltb-true _ _ m)
      go false l false p false q false u false v false m = put l (some p) q u v (ltb-false _ _ m)
