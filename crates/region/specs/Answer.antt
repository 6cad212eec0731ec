-- What the exact read answers, by numbers alone, for a file of so many bytes and so much room. No byte matters.
use Rattle.std.specs.Prelude.{ℕ, ◌≤◌, ◌≡◌, refl, List, ◌++◌, map, Bool, true, false, cond, length, take, drop, Option, Result, Ok, Err}
use Rattle.std.proofs.Common.{ap, sym, ◌∙◌, take_at, arith}
use Rattle.std.proofs.lemmas.List.{length-map}
use Rattle.record.specs.declared.Position.{Position}
use Rattle.region.specs.declared.exact.Bases.{Bases}
use Rattle.refusal.specs.Numbers.{over_limit}
use Rattle.refusal.specs.declared.Refusal.{Refusal}
use Rattle.refusal.specs.declared.Refusal.TheVariants.{TooLong}
use Rattle.record.specs.declared.Record.{Record}
use Rattle.record.specs.Bases.{byte_at}
use Rattle.output.specs.Outcome.{Outcome, leaves, refuses}
use Rattle.region.specs.Region.{bounded_row, start_of, end_of}
use Rattle.region.specs.Exact.{region_of, exact_in, exact_of, exact_held}
use Rattle.region.specs.Judge.{region_judged, judged-fine, refused-read, fine-read}
use Rattle.region.specs.Inside.{length-offsets}
use Rattle.region.specs.Dependence.{region_offsets, region_count, Readable, exact-reads, exact-known}

-- a judgement as an answer: how many bytes, or why none
unfoldable pub answer_of : Result Bases Refusal → Result ℕ Refusal
answer_of (Ok b) = Ok b.count
answer_of (Err f) = Err f

-- the region of a row, if there is one
unfoldable pub answer_in : ℕ → Result Record Refusal → Option Position → Option Position → ℕ → Result ℕ Refusal
answer_in bytes (Err f) a e room = Err f
answer_in bytes (Ok x) a e room = answer_of (region_judged bytes x (start_of a) (end_of x.length e) room)

-- 1 first, then 16 and 25, then the rest
unfoldable pub exact_answer : ℕ → Result Record Refusal → Option Position → Option Position → ℕ → Result ℕ Refusal
exact_answer bytes h a e room = cond (over_limit bytes) (Err TooLong) (answer_in bytes (bounded_row a e h) a e room)

-- ---- what each test says

module _ (bytes : ℕ) (h : Result Record Refusal) (a e : Option Position) (room : ℕ) where
  pub answer-long : over_limit bytes ≡ true → Err TooLong ≡ exact_answer bytes h a e room
  unfolding exact_answer
  answer-long l = rw l

  module _ (l : over_limit bytes ≡ false) where
    pub answer-refused : (f : Refusal) → bounded_row a e h ≡ Err f → Err f ≡ exact_answer bytes h a e room
    unfolding exact_answer answer_in
    answer-refused f q = rw (l, q)

    pub answer-row : (x : Record) → bounded_row a e h ≡ Ok x → answer_of (region_judged bytes x (start_of a) (end_of x.length e) room) ≡ exact_answer bytes h a e room
    unfolding exact_answer answer_in
    answer-row x q = rw (l, q)

-- ---- it is the exact read's answer

answer-region : (bytes : ℕ) (byte : ℕ → ℕ) (x : Record) (a e : ℕ) (out : List ℕ) → (region_of bytes byte x a e out).answer ≡ answer_of (region_judged bytes x a e (length out))
unfolding answer_of
answer-region bytes byte x a e out = go (region_judged bytes x a e (length out)) refl
  where
    go : (j : Result Bases Refusal) → region_judged bytes x a e (length out) ≡ j → (region_of bytes byte x a e out).answer ≡ answer_of j
    go (Err f) q = ap (λ (o : Outcome (Result ℕ Refusal)). o.answer) (sym (refused-read bytes byte x a e out f q))
    go (Ok b) q = ap (λ (o : Outcome (Result ℕ Refusal)). o.answer) (sym (fine-read bytes byte x a e out b.at b.run b.count (judged-fine bytes x a e (length out) b.at b.run b.count q)))

pub answer-same : (s : List ℕ) (h : Result Record Refusal) (a e : Option Position) (out : List ℕ) → (exact_held s h a e out).answer ≡ exact_answer (length s) h a e (length out)
unfolding exact_held exact_of exact_in exact_answer answer_in
answer-same s h a e out = go (over_limit (length s)) (bounded_row a e h)
  where
    go : (t : Bool) (b : Result Record Refusal) → (cond t (refuses TooLong out) (exact_in (length s) (byte_at s) b a e out)).answer ≡ cond t (Err TooLong) (answer_in (length s) b a e (length out))
    go true b = refl
    go false (Err f) = refl
    go false (Ok x) = answer-region (length s) (byte_at s) x (start_of a) (end_of x.length e) out

-- ---- a read that gave bytes gives the same bytes to every output that has room for them

-- what is known of it
pub record Gave (s : List ℕ) (h : Result Record Refusal) (a e : Option Position) (out : List ℕ) (k : ℕ) : Type 0 where
  pub room : k ≤ length out
  pub size : length (take k (exact_held s h a e out).output) ≡ k
  pub elsewhere : (other : List ℕ) → k ≤ length other → exact_held s h a e other ≡ leaves (Ok k) (take k (exact_held s h a e out).output ++ drop k other)

module _ (s : List ℕ) (h : Result Record Refusal) (a e : Option Position) (out : List ℕ) (k : ℕ) (l : over_limit (length s) ≡ false) (x : Record) (holds : h ≡ Ok x) (readable : Readable (length s) x a e (length out)) (count : k ≡ region_count x a e) where
  abbrev bases : List ℕ
  bases = map (byte_at s) (region_offsets x a e)

  -- to any output that has room
  given_to : (other : List ℕ) → k ≤ length other → exact_held s h a e other ≡ leaves (Ok k) (bases ++ drop k other)
  unfolding exact_held
  given_to other n =
      rw (l, holds, count)
      (exact-reads (length s) (byte_at s) x a e other (record { bounds = readable.bounds; start = readable.start; end = readable.end; room = omega (arith, count); inside = readable.inside }))

  given-bases : take k (exact_held s h a e out).output ≡ bases
  given-bases =
      ap (λ (o : Outcome (Result ℕ Refusal)). take k o.output) (given_to out (omega (arith, count, readable.room)))
      ∙ take_at bases (drop k out) k size
    where
      size : length bases ≡ k
      size = length-map (region_offsets x a e) (byte_at s) ∙ length-offsets x (start_of a) (region_count x a e) ∙ sym count

  gave : Gave s h a e out k
  gave = record {
    room = omega (arith, count, readable.room);
    size = ap length given-bases ∙ length-map (region_offsets x a e) (byte_at s) ∙ length-offsets x (start_of a) (region_count x a e) ∙ sym count;
    elsewhere = λ other n. given_to other n ∙ ap (λ (b : List ℕ). leaves (Ok k) (b ++ drop k other)) (sym given-bases);
  }

pub read-gave : (s : List ℕ) (h : Result Record Refusal) (a e : Option Position) (out : List ℕ) (k : ℕ) → (exact_held s h a e out).answer ≡ Ok k → Gave s h a e out k
unfolding exact_held
read-gave s h a e out k q = go (over_limit (length s)) refl q
  where
    go : (t : Bool) → over_limit (length s) ≡ t → (cond t (refuses TooLong out) (exact_of (length s) (byte_at s) h a e out)).answer ≡ Ok k → Gave s h a e out k
    go true l m = let z : ◌≡◌ {A = ℕ} 0 1 = cc in absurd (omega arith)
    go false l m = let r = exact-known (length s) h a e out (byte_at s) k m in gave s h a e out k l r.row r.holds r.readable r.count
