-- What is promised of a score that the scorer gives, for everything that may be lent.
--
-- `asked`: right, wrong and missing together are always end - start + 1, which the exercise asks for, never what was typed or is left.
-- `denominator`: the score is the quotient of 1000 times right by what was asked and the surplus; it is at most 1000 (`most`), and 1000 exactly if all
-- is right and nothing is surplus (`full-only-if`, `full-if`). Leaving out the last typed base never raises it (`left_out`).
-- `counted`: each count is how many places satisfy its rule. `fetched`: the key is what the exact read gives of the row that has the name, and stands at
-- the front of the room; what is behind it stays. That a refusal leaves all of the room as it was is `unchanged` in Known.antt.
-- `first-edition`, `second-edition`: tag 4 chooses the rule. `edition-rise`: from edition 1 to edition 2 the score never falls.
use Rattle.std.specs.Prelude.{ℕ, ◌+◌, ◌-◌, ◌*◌, ◌/◌, ◌≤◌, ◌<◌, ◌≡◌, refl, List, [], ◌∷◌, ◌++◌, Bool, length, take, drop, Result, Ok}
use Rattle.std.proofs.Common.{sym, ◌∙◌, arith, take_at}
use Rattle.std.proofs.Math.Path.{ap}
use Rattle.refusal.specs.declared.Refusal.{Refusal}
use Rattle.output.specs.Outcome.{Outcome, leaves, gives}
use Rattle.table.specs.Rows.{held_at}
use Rattle.index.specs.Find.{row_read}
use Rattle.region.specs.Exact.{exact_read}
use Rattle.exercise.specs.declared.Exercise.{Exercise}
use Rattle.exercise.specs.Reading.{read_as}
use Rattle.scoring.specs.declared.Score.{Score}
use Rattle.scoring.specs.Rules.{same, lies}
use Rattle.scoring.specs.Places.{right_of, wrong_of, missing_of, surplus_of, tenths_of, score_by}
use Rattle.scoring.specs.Laws as counts
use Rattle.scoring.specs.Theorems as rules
use Rattle.scorer.specs.Scorer.{name_asked, first, last, scorer_of}
use Rattle.scorer.specs.Known.{rule_of, KeyKnown, Known, known}

-- how many bases an exercise asks for
abbrev pub asked_by : Exercise → ℕ
asked_by x = x.end - x.start + 1

read_same : {x y : Exercise} → ◌≡◌ {A = Result Exercise Refusal} (Ok x) (Ok y) → x ≡ y
read_same q = cc

-- the score by the counts of a key
by_key : (rule : ℕ → ℕ → Bool) (key typed : List ℕ) → 0 < length key → (score_by rule key typed).score ≡ 1000 * (score_by rule key typed).right / (length key + (score_by rule key typed).surplus)
unfolding score_by tenths_of
by_key rule key typed z = sym (counts.tenths-some (right_of rule key typed) (length key + surplus_of key typed) (λ e. omega arith))

-- a score of an exercise
module _ (s typed file names t : List ℕ) (u : ℕ) (room : List ℕ) (x : Exercise) (reads : read_as 2 s ≡ Ok x) (c : Score) (after : List ℕ)
    (q : scorer_of s typed file names t u room ≡ leaves (Ok c) after) where
  k : Known s typed file names t u room c after
  k = known s typed file names t u room c after q

  it : k.exercise ≡ x
  it = read_same (sym k.reads ∙ reads)

  -- its key, as the exact read of the row that has its name gives it
  pub record Fetched : Type 0 where
    pub row : ℕ
    pub found : row_read names t u (name_asked s x) ≡ Ok row
    pub key : List ℕ
    pub read : exact_read file t u row (first x) (last x) room ≡ gives key room
    pub in_order : x.start ≤ x.end
    pub all : length key ≡ asked_by x
    pub left : after ≡ key ++ drop (length key) room
    pub counts : c ≡ score_by (rule_of x.edition) key typed

  pub fetched : Fetched
  unfolding exact_read
  fetched = go k.exercise it k.found k.fetched
    where
      go : (y : Exercise) → y ≡ x → row_read names t u (name_asked s y) ≡ Ok k.row → KeyKnown y typed file (held_at t u k.row) room c after → Fetched
      go y e d w =
          let v : KeyKnown x typed file (held_at t u k.row) room c after = rw e at w in
          record { row = k.row; found = rw e at d; key = v.key; read = v.read; in_order = v.in_order; all = v.all; left = v.left; counts = v.counts }

  pub asked : c.right + c.wrong + c.missing ≡ asked_by x
  unfolding score_by
  asked = rw fetched.counts (counts.asked (rule_of x.edition) fetched.key typed ∙ fetched.all)

  pub denominator : c.score ≡ 1000 * c.right / (asked_by x + c.surplus)
  denominator = rw (fetched.counts, ← fetched.all) (by_key (rule_of x.edition) fetched.key typed (omega (arith, fetched.all)))

  pub most : c.score ≤ 1000
  unfolding score_by
  most = rw fetched.counts (rules.score-most (rule_of x.edition) fetched.key typed)

  pub full-only-if : c.score ≡ 1000 → (c.right ≡ asked_by x) × (c.surplus ≡ 0)
  unfolding score_by
  full-only-if = rw (fetched.counts, ← fetched.all) (rules.full-right (rule_of x.edition) fetched.key typed (omega (arith, fetched.all)))

  pub full-if : c.right ≡ asked_by x → c.surplus ≡ 0 → c.score ≡ 1000
  unfolding score_by
  full-if = rw (fetched.counts, ← fetched.all) (rules.right-full (rule_of x.edition) fetched.key typed (omega (arith, fetched.all)))

  -- each count is how many places satisfy its rule
  pub counted : (c.right ≡ right_of (rule_of x.edition) fetched.key typed) × (c.wrong ≡ wrong_of (rule_of x.edition) fetched.key typed)
      × (c.missing ≡ missing_of fetched.key typed) × (c.surplus ≡ surplus_of fetched.key typed)
  unfolding score_by
  counted = let e = fetched.counts in (ap (λ (y : Score). y.right) e, ap (λ (y : Score). y.wrong) e, ap (λ (y : Score). y.missing) e, ap (λ (y : Score). y.surplus) e)

  -- tag 4 chooses
  pub first-edition : x.edition ≡ 1 → c ≡ score_by same fetched.key typed
  first-edition e = fetched.counts ∙ ap (λ (n : ℕ). score_by (rule_of n) fetched.key typed) e

  pub second-edition : x.edition ≡ 2 → c ≡ score_by lies fetched.key typed
  second-edition e = fetched.counts ∙ ap (λ (n : ℕ). score_by (rule_of n) fetched.key typed) e

-- ---- two calls

row_same : {a b : ℕ} → ◌≡◌ {A = Result ℕ Refusal} (Ok a) (Ok b) → a ≡ b
row_same q = cc

-- what a read gives is given once
gives_same : (a b room : List ℕ) → gives a room ≡ gives b room → length a ≡ length b → a ≡ b
gives_same a b room q n =
    sym (take_at a (drop (length a) room) (length a) refl)
    ∙ (ap (take (length a)) (ap (λ (o : Outcome (Result ℕ Refusal)). o.output) q) ∙ take_at b (drop (length b) room) (length a) (sym n))

-- if no more was typed than asked, leaving out the last typed base never raises the score
pub left_out : (s typed : List ℕ) (b : ℕ) (file names t : List ℕ) (u : ℕ) (room : List ℕ) (x : Exercise) → read_as 2 s ≡ Ok x → length typed < asked_by x
    → (c d : Score) (after after' : List ℕ) → scorer_of s typed file names t u room ≡ leaves (Ok c) after
    → scorer_of s (typed ++ (b ∷ [])) file names t u room ≡ leaves (Ok d) after' → (c.right ≤ d.right) × (c.score ≤ d.score)
unfolding score_by
left_out s typed b file names t u room x reads short c d after after' p q =
    let f = fetched s typed file names t u room x reads c after p in
    let g = fetched s (typed ++ (b ∷ [])) file names t u room x reads d after' q in
    let r : f.row ≡ g.row = row_same (sym f.found ∙ g.found) in
    let e : f.key ≡ g.key =
    gives_same f.key g.key room (sym f.read ∙ (ap (λ (n : ℕ). exact_read file t u n (first x) (last x) room) r ∙ g.read)) (f.all ∙ sym g.all) in
    rw (f.counts, g.counts, ← e) (rules.left_out (rule_of x.edition) f.key typed b (omega (arith, f.all)))

-- two exercises that ask the same, the one by edition 1, the other by edition 2: neither the right places nor the score fall
pub edition-rise : (s s' typed file names t : List ℕ) (u : ℕ) (room : List ℕ) (x y : Exercise) → read_as 2 s ≡ Ok x → read_as 2 s' ≡ Ok y
    → x.edition ≡ 1 → y.edition ≡ 2 → name_asked s x ≡ name_asked s' y → x.start ≡ y.start → x.end ≡ y.end
    → (c d : Score) (after after' : List ℕ) → scorer_of s typed file names t u room ≡ leaves (Ok c) after
    → scorer_of s' typed file names t u room ≡ leaves (Ok d) after' → (c.right ≤ d.right) × (c.score ≤ d.score)
unfolding score_by
edition-rise s s' typed file names t u room x y reads reads' one two named start end c d after after' p q =
    let f = fetched s typed file names t u room x reads c after p in
    let g = fetched s' typed file names t u room y reads' d after' q in
    let r : f.row ≡ g.row = row_same (sym f.found ∙ (ap (row_read names t u) named ∙ g.found)) in
    let m : exact_read file t u f.row (first x) (last x) room ≡ exact_read file t u g.row (first y) (last y) room = rw (r, start, end) in
    let w : asked_by x ≡ asked_by y = rw (start, end) in
    let n : length f.key ≡ length g.key = f.all ∙ (w ∙ sym g.all) in
    let e : f.key ≡ g.key = gives_same f.key g.key room (sym f.read ∙ (m ∙ g.read)) n in
    rw (first-edition s typed file names t u room x reads c after p one, second-edition s' typed file names t u room y reads' d after' q two, ← e) (rules.editions-rise f.key typed)
