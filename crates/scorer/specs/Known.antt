-- What is known of a score that the scorer gives: the exercise that was read, the row that was found, the whole key that was fetched, and the rule
-- that counted what was typed. And of a refusal: the room is as it was.
use Rattle.std.specs.Prelude.{ℕ, ◌+◌, ◌-◌, ◌≤◌, ◌≡◌, List, ◌++◌, map, Bool, cond, ◌||◌, ◌⊎◌, eqb, drop, Result, Ok, Err}
use Rattle.std.proofs.Math.Path.{refl}
use Rattle.std.proofs.Common.{sym, ap, ◌∙◌, true≢false, inl, inr, arith, take_at, eqb-true}
use Rattle.std.proofs.Math.Bool.{true, false}
use Rattle.std.proofs.Math.Logic.{⊎_elim}
use Rattle.std.proofs.Math.ListN.{length, length-map}
use Rattle.record.specs.declared.Record.{Record}
use Rattle.refusal.specs.Numbers.{over_limit}
use Rattle.refusal.specs.declared.Refusal.{Refusal}
use Rattle.refusal.specs.declared.Refusal.TheVariants.{TooLong, UnknownEdition}
use Rattle.output.specs.Outcome.{Outcome, leaves, refuses, gives}
use Rattle.record.specs.Bases.{byte_at}
use Rattle.table.specs.Rows.{held_at}
use Rattle.index.specs.Find.{row_read}
use Rattle.region.specs.Region.{start_of, end_of}
use Rattle.region.specs.Exact.{exact_held}
use Rattle.region.specs.Inside.{length-offsets}
use Rattle.region.specs.Laws.{good-bounds}
use Rattle.region.specs.Dependence.{region_offsets, exact-reads, exact-either, Reading}
use Rattle.exercise.specs.declared.Exercise.{Exercise}
use Rattle.exercise.specs.Reading.{read_as}
use Rattle.exercise.specs.Within.{read-sound, known_two}
use Rattle.scoring.specs.declared.Score.{Score}
use Rattle.scoring.specs.Rules.{same, lies, rule_for}
use Rattle.scoring.specs.Places.{score_by, key_scored}
use Rattle.scorer.specs.Scorer.{any_over, name_asked, refuses_score, counted_as, key_counted, first, last, row_scored, scorer_of}
use Rattle.scorer.specs.Laws.{says, asked-unread, asked-unfound, asked-found, scorer-long, scorer-refused, scorer-row}

-- the rule of an edition, by its number
abbrev pub rule_of : ℕ → ℕ → ℕ → Bool
rule_of edition = rule_for (eqb edition 2)

-- ---- a score is no refusal

no-score : {f : Refusal} {room : List ℕ} {c : Score} {after : List ℕ} → refuses_score f room ≡ leaves (Ok c) after → ⊥
no-score q = let p = ap (λ (o : Outcome (Result Score Refusal)). o.answer) q in let z : ◌≡◌ {A = ℕ} 0 1 = cc in omega arith

no-refusal : {f : Refusal} {c : Score} → Err f ≡ Ok c → ⊥
no-refusal q = let z : ◌≡◌ {A = ℕ} 0 1 = cc in omega arith

same-refusal : {f g : Refusal} → ◌≡◌ {A = Result Score Refusal} (Err f) (Err g) → f ≡ g
same-refusal q = cc

same-score : {c d : Score} → ◌≡◌ {A = Result Score Refusal} (Ok c) (Ok d) → c ≡ d
same-score q = cc

-- ---- counted by the rule of the edition

key-known : (key typed : List ℕ) (edition : ℕ) (c : Score) → key_scored key typed edition ≡ Ok c → score_by (rule_of edition) key typed ≡ c
unfolding key_scored
key-known key typed edition c q = go (over_limit (length typed)) (eqb edition 1) refl (eqb edition 2) refl q
  where
    go : (l a : Bool) → eqb edition 1 ≡ a → (b : Bool) → eqb edition 2 ≡ b
        → cond l (Err TooLong) (cond a (Ok (score_by same key typed)) (cond b (Ok (score_by lies key typed)) (Err (UnknownEdition 0)))) ≡ Ok c
        → score_by (rule_for b) key typed ≡ c
    go true a e b f q = absurd (no-refusal q)
    go false true e true f q = absurd (omega (arith, eqb-true edition 1 e, eqb-true edition 2 f))
    go false true e false f q = same-score q
    go false false e true f q = same-score q
    go false false e false f q = absurd (no-refusal q)

-- with nothing too long and a known edition there is a score
key-scores : (key typed : List ℕ) (edition : ℕ) → over_limit (length typed) ≡ false → (eqb edition 1 ≡ true) ⊎ (eqb edition 2 ≡ true)
    → (c : Score) × (key_scored key typed edition ≡ Ok c)
unfolding key_scored
key-scores key typed edition l (inl e) = (score_by same key typed, rw (l, e))
key-scores key typed edition l (inr e) = go (eqb edition 1) refl
  where
    go : (t : Bool) → eqb edition 1 ≡ t → (c : Score) × (key_scored key typed edition ≡ Ok c)
    go true f = (score_by same key typed, rw (l, f))
    go false f = (score_by lies key typed, rw (l, f, e))

-- what was typed is one of the inputs that are judged
pub typed-small : (s typed file names : List ℕ) → any_over s typed file names ≡ false → over_limit (length typed) ≡ false
unfolding any_over
typed-small s typed file names h = go (over_limit (length s)) (over_limit (length typed)) h
  where
    go : (a b : Bool) → (a || (b || (over_limit (length file) || over_limit (length names)))) ≡ false → b ≡ false
    go true b q = absurd (true≢false q)
    go false true q = absurd (true≢false q)
    go false false q = refl

-- ---- of what a row holds

-- the key is all that was asked, and stands at the front of the room
pub record KeyKnown (x : Exercise) (typed file : List ℕ) (h : Result Record Refusal) (room : List ℕ) (c : Score) (after : List ℕ) : Type 0 where
  pub key : List ℕ
  pub read : exact_held file h (first x) (last x) room ≡ gives key room
  pub in_order : x.start ≤ x.end
  pub all : length key ≡ x.end - x.start + 1
  pub left : after ≡ key ++ drop (length key) room
  pub counts : c ≡ score_by (rule_of x.edition) key typed

module _ (x : Exercise) (typed file : List ℕ) (h : Result Record Refusal) (room : List ℕ) where
  by_read : (o : Outcome (Result ℕ Refusal)) → exact_held file h (first x) (last x) room ≡ o → row_scored x typed file h room ≡ key_counted x.edition typed o
  unfolding row_scored
  by_read o q = rw q

  counted-refused : (f : Refusal) → key_counted x.edition typed (refuses f room) ≡ refuses_score f room
  unfolding key_counted counted_as
  counted-refused f = refl

  counted-given : (key : List ℕ) → key_counted x.edition typed (gives key room) ≡ leaves (key_scored key typed x.edition) (key ++ drop (length key) room)
  unfolding key_counted counted_as
  counted-given key = rw (take_at key (drop (length key) room) (length key) refl)

  -- the read refuses and the room is as it was, or it gives the whole key
  pub data ReadEither : Type 0 where
    refuses-it : (f : Refusal) → exact_held file h (first x) (last x) room ≡ refuses f room → ReadEither
    gives-it : (key : List ℕ) → exact_held file h (first x) (last x) room ≡ gives key room → x.start ≤ x.end → length key ≡ x.end - x.start + 1 → ReadEither

  given : Reading (length file) h (first x) (last x) room → over_limit (length file) ≡ false → ReadEither
  unfolding exact_held start_of end_of
  given r l =
      let os = region_offsets r.row (first x) (last x) in
      let b = good-bounds (first x) (last x) r.row.length r.readable.bounds in
      let n : length (map (byte_at file) os) ≡ x.end - x.start + 1 = length-map os (byte_at file) ∙ length-offsets r.row x.start (x.end - x.start + 1) in
      gives-it (map (byte_at file) os) (rw (l, r.holds, n) (exact-reads (length file) (byte_at file) r.row (first x) (last x) room r.readable)) (b.in_order r.readable.start) n

  pub read-either : ReadEither
  unfolding exact_held
  read-either = go (over_limit (length file)) refl
    where
      go : (t : Bool) → over_limit (length file) ≡ t → ReadEither
      go true l = refuses-it TooLong (rw l)
      go false l = ⊎_elim (λ r. refuses-it r.refusal (rw l (r.always (byte_at file)))) (λ r. given r l) (exact-either (length file) h (first x) (last x) room)

  pub row-known : (c : Score) (after : List ℕ) → row_scored x typed file h room ≡ leaves (Ok c) after → KeyKnown x typed file h room c after
  row-known c after q = go read-either
    where
      go : ReadEither → KeyKnown x typed file h room c after
      go (refuses-it f e) = absurd (no-score (sym (by_read _ e ∙ counted-refused f) ∙ q))
      go (gives-it key e o n) =
          let w = sym (by_read _ e ∙ counted-given key) ∙ q in
          record {
            key = key;
            read = e;
            in_order = o;
            all = n;
            left = sym (ap (λ (y : Outcome (Result Score Refusal)). y.output) w);
            counts = sym (key-known key typed x.edition c (ap (λ (y : Outcome (Result Score Refusal)). y.answer) w));
          }

  -- a read that refuses is the answer
  pub refused-read : (f : Refusal) → exact_held file h (first x) (last x) room ≡ refuses f room → row_scored x typed file h room ≡ refuses_score f room
  refused-read f e = by_read _ e ∙ counted-refused f

  -- and there is no other refusal, if what was typed is within the limit and the edition is known
  module _ (l : over_limit (length typed) ≡ false) (known : (eqb x.edition 1 ≡ true) ⊎ (eqb x.edition 2 ≡ true)) (f : Refusal) (after : List ℕ)
      (q : row_scored x typed file h room ≡ leaves (Err f) after) where
    pub read-refused : exact_held file h (first x) (last x) room ≡ refuses f room
    read-refused = go read-either
      where
        go : ReadEither → exact_held file h (first x) (last x) room ≡ refuses f room
        go (refuses-it g e) = e ∙ ap (λ (r : Refusal). refuses r room) (same-refusal (ap (λ (y : Outcome (Result Score Refusal)). y.answer) (sym (refused-read g e) ∙ q)))
        go (gives-it key e o n) =
            let w = ap (λ (y : Outcome (Result Score Refusal)). y.answer) (sym (by_read _ e ∙ counted-given key) ∙ q) in
            let s = key-scores key typed x.edition l known in
            absurd (no-refusal (sym w ∙ s.1))

    pub row-unchanged : after ≡ room
    row-unchanged = ap (λ (y : Outcome (Result Score Refusal)). y.output) (sym q ∙ refused-read f read-refused)

-- ---- of the call

-- what is known of a score: the exercise reads, its name is found, and of the row that was found all of the key was read
pub record Known (s typed file names t : List ℕ) (u : ℕ) (room : List ℕ) (c : Score) (after : List ℕ) : Type 0 where
  pub small : any_over s typed file names ≡ false
  pub exercise : Exercise
  pub reads : read_as 2 s ≡ Ok exercise
  pub row : ℕ
  pub found : row_read names t u (name_asked s exercise) ≡ Ok row
  pub fetched : KeyKnown exercise typed file (held_at t u row) room c after

module _ (s typed file names t : List ℕ) (u : ℕ) (room : List ℕ) where
  -- the call's outcome
  pub data Either : Type 0 where
    too-long : any_over s typed file names ≡ true → scorer_of s typed file names t u room ≡ refuses_score TooLong room → Either
    unread : (f : Refusal) → any_over s typed file names ≡ false → read_as 2 s ≡ Err f → scorer_of s typed file names t u room ≡ refuses_score f room → Either
    unfound : (f : Refusal) (x : Exercise) → any_over s typed file names ≡ false → read_as 2 s ≡ Ok x → row_read names t u (name_asked s x) ≡ Err f
        → scorer_of s typed file names t u room ≡ refuses_score f room → Either
    row-found : (x : Exercise) (r : ℕ) → any_over s typed file names ≡ false → read_as 2 s ≡ Ok x → row_read names t u (name_asked s x) ≡ Ok r
        → scorer_of s typed file names t u room ≡ row_scored x typed file (held_at t u r) room → Either

  pub either : Either
  either = go (any_over s typed file names) refl (read_as 2 s) refl
    where
      sought : (x : Exercise) → any_over s typed file names ≡ false → read_as 2 s ≡ Ok x → (d : Result ℕ Refusal) → row_read names t u (name_asked s x) ≡ d → Either
      sought x l q (Err f) e = unfound f x l q e (sym (scorer-refused s typed file names t u room l f (sym (asked-unfound s names t u x q f e))))
      sought x l q (Ok r) e = row-found x r l q e (sym (scorer-row s typed file names t u room l x r (sym (asked-found s names t u x q r e))))

      go : (b : Bool) → any_over s typed file names ≡ b → (e : Result Exercise Refusal) → read_as 2 s ≡ e → Either
      go true l e q = too-long l (sym (scorer-long s typed file names t u room l))
      go false l (Err f) q = unread f l q (sym (scorer-refused s typed file names t u room l f (sym (asked-unread s names t u f q))))
      go false l (Ok x) q = sought x l q (row_read names t u (name_asked s x)) refl

  pub known : (c : Score) (after : List ℕ) → scorer_of s typed file names t u room ≡ leaves (Ok c) after → Known s typed file names t u room c after
  known c after q = go either
    where
      go : Either → Known s typed file names t u room c after
      go (too-long l e) = absurd (no-score (sym e ∙ q))
      go (unread f l r e) = absurd (no-score (sym e ∙ q))
      go (unfound f x l r d e) = absurd (no-score (sym e ∙ q))
      go (row-found x r l p d e) =
          record { small = l; exercise = x; reads = p; row = r; found = d; fetched = row-known x typed file (held_at t u r) room c after (sym e ∙ q) }

  -- a refusal leaves the room as it was
  pub unchanged : (f : Refusal) (after : List ℕ) → scorer_of s typed file names t u room ≡ leaves (Err f) after → after ≡ room
  unchanged f after q = go either
    where
      same-room : {g : Refusal} → scorer_of s typed file names t u room ≡ refuses_score g room → after ≡ room
      same-room e = ap (λ (y : Outcome (Result Score Refusal)). y.output) (sym q ∙ e)

      go : Either → after ≡ room
      go (too-long l e) = same-room e
      go (unread g l r e) = same-room e
      go (unfound g x l r d e) = same-room e
      go (row-found x r l p d e) =
          row-unchanged x typed file (held_at t u r) room (typed-small s typed file names l) (known_two x.edition (read-sound 2 s x (says 2 s x p)).edition) f after (sym e ∙ q)
