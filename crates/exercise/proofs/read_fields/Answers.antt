-- `exercise::read_fields` meets its contract: what is read from here on is what is read from the front.
use Rattle.std.proofs.Common.{◌≡◌, ℕ, ◌+◌, ◌-◌, ◌≤◌, ◌<◌, List, [], ◌∷◌, sym, ap, ◌∙◌, arith, length, get_or, take, drop, length-drop, drop-cons, Ok, Err, rules}
use Rattle.exercise.specs.Reading.{judge, walk, ended, says_from}
use Rattle.exercise.specs.Laws.{tail-all, judge-within, walk-stop, walk-pass}
use Rattle.exercise.specs.declared.Kept.{Kept}
use Rattle.exercise.proofs.read_fields.Goals as goal
use Rattle.exercise.proofs.read_fields.Goals.{In_ok-h}

-- what is left begins with a tag, and goes on with b
tagged : (rest b : List ℕ) → 1 ≤ length rest → b ≡ drop 1 rest → rest ≡ get_or rest 0 0 ∷ b
tagged rest b h e = drop-cons rest 0 0 h ∙ ap (λ (l : List ℕ). get_or rest 0 0 ∷ l) (sym e)

-- a field is passed, and t is left
onward : (s rest b t : List ℕ) (kept h : Kept) (n : ℕ) → 1 ≤ length rest → b ≡ drop 1 rest → t ≡ drop (2 + n) b
    → length rest ≤ length s → walk 2 kept (length s - length rest) 0 rest ≡ says_from 2 s
    → judge 2 kept (length s - length rest) (get_or rest 0 0) b ≡ Ok (h, n)
    → (length t < length rest) × ((length t ≤ length s) × (walk 2 h (length s - length t) 0 t ≡ says_from 2 s))
onward s rest b t kept h n m e f w i j =
    let at = length s - length rest in
    let inside = judge-within 2 kept at (get_or rest 0 0) b h n j in
    let lb : length b ≡ length rest - 1 = ap length e ∙ length-drop 1 rest in
    let lt : length t ≡ length b - (2 + n) = ap length f ∙ length-drop (2 + n) b in
    let q : length s - length t ≡ length s - length rest + (3 + n) = omega arith in
    let p = walk-pass 2 kept at (get_or rest 0 0) b h n j in
    (omega arith, (omega arith, rw (q, f) (sym p ∙ (ap (walk 2 kept at 0) (sym (tagged rest b m e)) ∙ i))))

pub loop-rest-init : goal.loop-rest-init
unfolding says_from
loop-rest-init c = let z : length c.args.s.now - length c.args.s.now ≡ 0 = omega arith in (omega arith, rw z)

pub overflow_sub-at : goal.overflow_sub-at
overflow_sub-at c = c.loop-rest.invariant.0

pub returns-in_err-h : goal.returns-in_err-h
returns-in_err-h c =
    let e : c.from_residual.result ≡ Err c.in_err-h.field-0.0 = search rules in
    e
    ∙ (sym (walk-stop 2 _ _ _ _ _ (sym c.judge_field.ensures ∙ c.in_err-h.was))
    ∙ (ap (walk 2 c.loop-rest.kept (length c.args.s.now - length c.loop-rest.rest.now) 0) (sym (tagged _ _ c.in-len1-up.len_at_least (tail-all 1 c.loop-rest.rest.now))) ∙ c.loop-rest.invariant.1))

reach : (c : In_ok-h) → 2 + c.in_ok-h.length ≤ length (take (length c.loop-rest.rest.now - 1) (drop 1 c.loop-rest.rest.now))
reach c = judge-within 2 _ _ _ _ _ _ (sym c.judge_field.ensures ∙ c.in_ok-h.was)

pub overflow_add-rest : goal.overflow_add-rest
overflow_add-rest c =
    let r = rw (tail-all 1 c.loop-rest.rest.now) at (reach (goal.at.overflow_add-rest c).In_ok-h) in
    omega (arith, r, length-drop 1 c.loop-rest.rest.now, c.loop-rest.invariant.0)

pub slice_bounds-rest-count : goal.slice_bounds-rest-count
slice_bounds-rest-count c = reach (goal.at.slice_bounds-rest-count c).In_ok-h

pub slice_bounds-rest-start : goal.slice_bounds-rest-start
slice_bounds-rest-start c = reach (goal.at.slice_bounds-rest-start c).In_ok-h

pub loop-rest-smaller : goal.loop-rest-smaller
loop-rest-smaller c =
    (onward _ _ _ _ _ _ c.in_ok-h.length c.in-len1-up.len_at_least (tail-all 1 c.loop-rest.rest.now) (tail-all (2 + c.in_ok-h.length) _) c.loop-rest.invariant.0 c.loop-rest.invariant.1 (sym c.judge_field.ensures ∙ c.in_ok-h.was)).0

pub loop-rest-preserved : goal.loop-rest-preserved
loop-rest-preserved c =
    (onward _ _ _ _ _ _ c.in_ok-h.length c.in-len1-up.len_at_least (tail-all 1 c.loop-rest.rest.now) (tail-all (2 + c.in_ok-h.length) _) c.loop-rest.invariant.0 c.loop-rest.invariant.1 (sym c.judge_field.ensures ∙ c.in_ok-h.was)).1

-- nothing is left
all-passed : (h : Kept) (s rest : List ℕ) → length rest < 1 → walk 2 h (length s - length rest) 0 rest ≡ ended h (length s)
unfolding walk
all-passed h s [] m = let z : length s - 0 ≡ length s = omega arith in rw z
all-passed h s (a ∷ rest) m = absurd (omega arith)

pub returns : goal.returns
returns c = c.end_of.ensures ∙ (sym (all-passed c.loop-rest.kept c.args.s.now c.loop-rest.rest.now c.in_default.len_below) ∙ c.loop-rest.invariant.1)
