-- `exercise::judge_field` meets its contract, by a law for each way out.
use Rattle.std.proofs.Common.{◌≡◌, ℕ, ◌+◌, ◌*◌, ◌≤◌, ◌<◌, List, [], ◌∷◌, sym, ◌∙◌, cond, arith, ltb, lt-ltb, le-ltb, length, get_or, take, drop, length-take-le}
use Rattle.exercise.specs.Reading.{bad, valued, sized, judge}
use Rattle.exercise.specs.Laws.{judge-needed, tail-all}
use Rattle.exercise.specs.declared.Kept.{Kept}
use Rattle.exercise.proofs.judge_field.Goals as goal

short : (h : Kept) (at tag : ℕ) (s : List ℕ) → tag < 128 → length s < 2 → bad at ≡ judge 2 h at tag s
unfolding judge sized
short h at tag [] k m = rw (lt-ltb tag 128 k)
short h at tag (a ∷ []) k m = rw (lt-ltb tag 128 k)
short h at tag (a ∷ b ∷ s) k m = absurd (omega arith)

-- behind the two bytes of the length
cut : (h : Kept) (at tag n : ℕ) (s : List ℕ) → tag < 128 → 2 ≤ length s → n ≡ get_or s 0 0 * 256 + get_or s 1 0
    → judge 2 h at tag s ≡ cond (ltb (length (drop 2 s)) n) (bad at) (valued 2 h at tag n (take n (drop 2 s)))
unfolding judge sized
cut h at tag n [] k m e = absurd (omega arith)
cut h at tag n (a ∷ []) k m e = absurd (omega arith)
cut h at tag n (a ∷ b ∷ s) k m e = rw (lt-ltb tag 128 k, e)

pub returns-then-tag-ge-FIRST_NEEDED : goal.returns-then-tag-ge-FIRST_NEEDED
returns-then-tag-ge-FIRST_NEEDED c = judge-needed 2 _ _ _ _ c.if-tag-ge-FIRST_NEEDED.true

pub returns-in_default : goal.returns-in_default
returns-in_default c = c.malformed.ensures ∙ short _ _ _ _ c.if-tag-ge-FIRST_NEEDED.false c.in_default.len_below

pub returns-then-value-n : goal.returns-then-value-n
returns-then-value-n c =
    let a = c.args in
    let w = cut a.kept a.at a.tag c.from-n.result a.behind.now c.if-tag-ge-FIRST_NEEDED.false c.in-len2-up.len_at_least (c.from-n.ensures ∙ c.from_be_bytes.ensures) in
    c.malformed-then-value-n.ensures ∙ sym (w ∙ rw (lt-ltb (length (drop 2 a.behind.now)) c.from-n.result (rw (tail-all 2 a.behind.now) at c.if-value-n.true)))

pub returns : goal.returns
returns c =
    let a = c.args in
    let w = cut a.kept a.at a.tag c.from-n.result a.behind.now c.if-tag-ge-FIRST_NEEDED.false c.in-len2-up.len_at_least (c.from-n.ensures ∙ c.from_be_bytes.ensures) in
    let r : c.from-n.result ≤ length (drop 2 a.behind.now) = rw (tail-all 2 a.behind.now) at c.if-value-n.false in
    rw (tail-all 2 a.behind.now, length-take-le c.from-n.result (drop 2 a.behind.now) r) at c.value_field.ensures
    ∙ sym (w ∙ rw (le-ltb (length (drop 2 a.behind.now)) c.from-n.result r))
