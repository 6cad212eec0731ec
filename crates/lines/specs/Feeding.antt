-- Judging the lines of a file while it arrives in pieces. Whatever judges a line, told whether its sequence ends behind it: a line is judged
-- once the next byte, or the end, has come, and till then it waits. However the file is cut, the end finds what the lines of the whole
-- file give: `fed-whole`. A piece of no bytes changes nothing: `feed-none`.
use Rattle.std.specs.Prelude.{ℕ, ◌<◌, Bool, take, drop, eqb}
use Rattle.std.proofs.Math.Path.{◌≡◌, refl, ap, sym}
use Rattle.std.proofs.Common.{◌∙◌, true≢false, length-take-le, arith}
use mathlib.Core.List.{List, [], ◌∷◌, ◌++◌, append_assoc, append-nil}
use Rattle.std.proofs.Math.Bool.{true, false, cond}
use Rattle.std.proofs.Math.ListN.{length}
use Rattle.std.proofs.Math.Seq.{drop-length}
use Rattle.lines.specs.Lines.{lines, line_len, onto, ends, begins, seq_of, none}
use Rattle.lines.specs.Laws.{lines_cut, line_len-le, line_len-pos}
use Rattle.lines.specs.GroupLaws.{lines-behind}
use Rattle.lines.specs.Alike.{open-last}
use Rattle.lines.specs.Pieces.{before, glue, lines-append, line}

-- some lists, one after another
unfoldable pub joined : List (List ℕ) → List ℕ
joined [] = []
joined (l ∷ ls) = l ++ joined ls

-- ---- what the lines of some bytes are

-- all their bytes
pub joined-lines : (s : List ℕ) → joined (lines s) ≡ s
unfolding lines joined
joined-lines [] = refl
joined-lines (x ∷ s) = go (eqb x 10) (lines s) (joined-lines s)
  where
    go : (t : Bool) (ls : List (List ℕ)) → joined ls ≡ s → joined (cond t ((x ∷ []) ∷ ls) (onto x ls)) ≡ x ∷ s
    go true ls h = rw h
    go false [] h = rw h
    go false (l ∷ ls) h = ap (λ (k : List ℕ). x ∷ k) h

-- each by itself one line
lines-one : (s l : List ℕ) → lines s ≡ l ∷ [] → s ≡ l
unfolding joined
lines-one s l h = sym (joined-lines s) ∙ ap joined h ∙ append-nil l

-- none of them empty
lines-some : (s l : List ℕ) (ls : List (List ℕ)) → lines s ≡ l ∷ ls → 0 < length l
lines-some [] l ls h = unfold lines in let z : ◌≡◌ {A = ℕ} 0 1 = cc in absurd (omega arith)
lines-some (b ∷ s) l ls h =
    let c : take (line_len (b ∷ s)) (b ∷ s) ∷ lines (drop (line_len (b ∷ s)) (b ∷ s)) ≡ l ∷ ls = sym (lines_cut (b ∷ s) (omega arith)) ∙ h in
    let p : l ≡ take (line_len (b ∷ s)) (b ∷ s) = cc in
    omega (arith, ap length p ∙ length-take-le (line_len (b ∷ s)) (b ∷ s) (line_len-le (b ∷ s)), line_len-pos (b ∷ s) (omega arith))

lines_none : lines [] ≡ []
unfolding lines
lines_none = refl

-- all but the last end in LF
lines-ended : (s l m : List ℕ) (ls : List (List ℕ)) → lines s ≡ l ∷ m ∷ ls → ends 10 l ≡ true
lines-ended [] l m ls h = unfold lines in let z : ◌≡◌ {A = ℕ} 0 1 = cc in absurd (omega arith)
lines-ended (b ∷ s) l m ls h = go (ends 10 l) refl
  where
    cut : take (line_len (b ∷ s)) (b ∷ s) ∷ lines (drop (line_len (b ∷ s)) (b ∷ s)) ≡ l ∷ m ∷ ls
    cut = sym (lines_cut (b ∷ s) (omega arith)) ∙ h

    none_left : line_len (b ∷ s) ≡ length (b ∷ s) → lines (drop (line_len (b ∷ s)) (b ∷ s)) ≡ []
    none_left e = ap lines (rw e (drop-length (b ∷ s))) ∙ lines_none

    go : (t : Bool) → ends 10 l ≡ t → t ≡ true
    go true e = refl
    go false e =
        let c = cut in
        let p : l ≡ take (line_len (b ∷ s)) (b ∷ s) = cc in
        let q : lines (drop (line_len (b ∷ s)) (b ∷ s)) ≡ m ∷ ls = cc in
        let r : lines (drop (line_len (b ∷ s)) (b ∷ s)) ≡ [] = none_left (open-last (b ∷ s) (rw p at e)) in
        let z : ◌≡◌ {A = ℕ} 0 1 = cc in
        absurd (omega arith)

-- ---- lines that are judged, and the one that waits

-- what the lines judged so far gave, and the bytes of the line that waits for its next byte
pub record Fed (S : Type 0) : Type 0 where
  pub state : S
  pub waiting : List ℕ

module _ {S : Type 0} (step : S → List ℕ → Bool → S) where
  -- the lines of a whole file, each judged and told whether its sequence ends behind it
  unfoldable pub judge_all : S → List (List ℕ) → S
  judge_all st [] = st
  judge_all st (l ∷ ls) = judge_all (step st l (none (seq_of ls))) ls

  -- all but the last
  unfoldable pub judge_most : S → List (List ℕ) → Fed S
  judge_most st [] = record { state = st; waiting = [] }
  judge_most st (l ∷ []) = record { state = st; waiting = l }
  judge_most st (l ∷ m ∷ ls) = judge_most (step st l (begins m)) (m ∷ ls)

  -- a piece, and the end
  unfoldable pub feed : Fed S → List ℕ → Fed S
  feed x p = judge_most x.state (lines (x.waiting ++ p))

  abbrev ended : S → List ℕ → S
  ended st [] = st
  ended st (b ∷ l) = step st (b ∷ l) true

  unfoldable pub finish : Fed S → S
  finish x = ended x.state x.waiting

  -- ---- two pieces are one

  -- the line behind begins as it did, however long it grows
  first-kept : (st : S) (l m : List ℕ) (ls ms : List (List ℕ)) → 0 < length m → judge_most st (l ∷ glue (m ∷ ls) ms) ≡ judge_most (step st l (begins m)) (glue (m ∷ ls) ms)
  unfolding judge_most glue
  first-kept st l [] ls ms h = absurd (omega arith)
  first-kept st l (b ∷ m) [] ms h = go (ends 10 (b ∷ m)) ms
    where
      go : (t : Bool) (ms : List (List ℕ)) → judge_most st (l ∷ cond t ((b ∷ m) ∷ ms) (before (b ∷ m) ms)) ≡ judge_most (step st l (eqb b 62)) (cond t ((b ∷ m) ∷ ms) (before (b ∷ m) ms))
      go true ms = refl
      go false [] = refl
      go false (k ∷ ms) = refl
  first-kept st l (b ∷ m) (k ∷ ls) ms h = refl

  -- a line more in front
  glue-more : (l m : List ℕ) (ls : List (List ℕ)) (st : S) (b : List ℕ) → judge_most (step st l (begins m)) (glue (m ∷ ls) (lines b)) ≡ feed (judge_most (step st l (begins m)) (m ∷ ls)) b
      → judge_most st (l ∷ glue (m ∷ ls) (lines b)) ≡ judge_most (step st l (begins m)) (glue (m ∷ ls) (lines b))
      → judge_most st (glue (l ∷ m ∷ ls) (lines b)) ≡ feed (judge_most st (l ∷ m ∷ ls)) b
  unfolding glue judge_most
  glue-more l m ls st b h k = k ∙ h

  most-glue : (ls : List (List ℕ)) (s : List ℕ) → lines s ≡ ls → (st : S) (b : List ℕ) → judge_most st (glue ls (lines b)) ≡ feed (judge_most st ls) b
  unfolding feed
  most-glue [] s e st b = unfold glue judge_most in refl
  most-glue (l ∷ []) s e st b = unfold judge_most in ap (judge_most st) (sym (lines-append l b ∙ ap (λ (k : List (List ℕ)). glue k (lines b)) q))
    where
      q : lines l ≡ l ∷ []
      q = ap lines (sym (lines-one s l e)) ∙ e
  most-glue (l ∷ m ∷ ls) s e st b =
      let n = lines-behind s l (m ∷ ls) e in
      glue-more l m ls st b (most-glue (m ∷ ls) (drop (length l) s) n (step st l (begins m)) b) (first-kept st l m ls (lines b) (lines-some (drop (length l) s) m ls n))

  pub feed-pieces : (x : Fed S) (a b : List ℕ) → feed (feed x a) b ≡ feed x (a ++ b)
  feed-pieces x a b = unfold feed in sym (ap (judge_most x.state) (ap lines (sym (append_assoc x.waiting a b)) ∙ lines-append (x.waiting ++ a) b) ∙ most-glue (lines (x.waiting ++ a)) (x.waiting ++ a) refl x.state b)

  -- ---- the end

  finish-most : (ls : List (List ℕ)) (s : List ℕ) → lines s ≡ ls → (st : S) → finish (judge_most st ls) ≡ judge_all st ls
  unfolding finish judge_most judge_all seq_of
  finish-most [] s e st = refl
  finish-most ([] ∷ []) s e st = absurd (omega (arith, lines-some s [] [] e))
  finish-most ((b ∷ l) ∷ []) s e st = refl
  finish-most (l ∷ m ∷ ls) s e st = rw (go (begins m)) (finish-most (m ∷ ls) (drop (length l) s) (lines-behind s l (m ∷ ls) e) (step st l (begins m)))
    where
      go : (t : Bool) → none (cond t [] (m ∷ seq_of ls)) ≡ t
      go true = refl
      go false = refl

  -- ---- any pieces

  abbrev pub fresh : S → Fed S
  fresh st = record { state = st; waiting = [] }

  unfoldable pub feed_all : Fed S → List (List ℕ) → Fed S
  feed_all x [] = x
  feed_all x (p ∷ ps) = feed_all (feed x p) ps

  pub fresh-none : (st : S) → feed (fresh st) [] ≡ fresh st
  unfolding feed judge_most lines
  fresh-none st = refl

  pub feed-none : (x : Fed S) (a : List ℕ) → feed (feed x a) [] ≡ feed x a
  feed-none x a = feed-pieces x a [] ∙ ap (feed x) (append-nil a)

  fed-behind : (ps : List (List ℕ)) (x : Fed S) (a : List ℕ) → feed_all (feed x a) ps ≡ feed x (a ++ joined ps)
  unfolding feed_all joined
  fed-behind [] x a = ap (feed x) (sym (append-nil a))
  fed-behind (p ∷ ps) x a = ap (λ (y : Fed S). feed_all y ps) (feed-pieces x a p) ∙ fed-behind ps x (a ++ p) ∙ ap (feed x) (append_assoc a p (joined ps))

  -- some pieces leave what they leave as one, which is known from their bytes alone
  pub fed-pieces : (st : S) (ps : List (List ℕ)) → feed_all (fresh st) ps ≡ feed (fresh st) (joined ps)
  fed-pieces st ps = ap (λ (y : Fed S). feed_all y ps) (sym (fresh-none st)) ∙ fed-behind ps (fresh st) []

  pub fed-most : (st : S) (s : List ℕ) → feed (fresh st) s ≡ judge_most st (lines s)
  unfolding feed
  fed-most st s = refl

  -- and with the end, what the lines of the whole file give
  pub fed-whole : (st : S) (ps : List (List ℕ)) → finish (feed_all (fresh st) ps) ≡ judge_all st (lines (joined ps))
  fed-whole st ps = ap finish (fed-pieces st ps ∙ fed-most st (joined ps)) ∙ finish-most (lines (joined ps)) (joined ps) refl st

  -- ---- line by line, for a program that goes so

  -- a line of a piece behind what waits: it shows where a whole line's sequence ends, and waits in its place; an open line grows by it
  unfoldable pub absorb : Fed S → List ℕ → Fed S
  absorb x l = cond (ends 10 x.waiting) (record { state = step x.state x.waiting (begins l); waiting = l }) (record { state = x.state; waiting = x.waiting ++ l })

  unfoldable pub absorb_all : Fed S → List (List ℕ) → Fed S
  absorb_all x [] = x
  absorb_all x (l ∷ ls) = absorb_all (absorb x l) ls

  -- from a first line on
  most-absorbed : (ls : List (List ℕ)) (l s : List ℕ) → lines s ≡ l ∷ ls → (st : S) → judge_most st (l ∷ ls) ≡ absorb_all (record { state = st; waiting = l }) ls
  unfolding judge_most absorb_all absorb
  most-absorbed [] l s e st = refl
  most-absorbed (m ∷ ls) l s e st = rw (lines-ended s l m ls e) (most-absorbed ls m (drop (length l) s) (lines-behind s l (m ∷ ls) e) (step st l (begins m)))

  -- behind a waiting line that is whole, and behind one that is open
  glue-whole : (q : List ℕ) (ms : List (List ℕ)) → ends 10 q ≡ true → glue (line q) ms ≡ q ∷ ms
  unfolding glue ends
  glue-whole [] ms e = absurd (true≢false (sym e))
  glue-whole (b ∷ q) ms e = rw e

  glue-open : (q l : List ℕ) (ms : List (List ℕ)) → ends 10 q ≡ false → glue (line q) (l ∷ ms) ≡ (q ++ l) ∷ ms
  unfolding glue
  glue-open [] l ms e = refl
  glue-open (b ∷ q) l ms e = rw e

  glue-nothing : (st : S) (q : List ℕ) → judge_most st (glue (line q) []) ≡ record { state = st; waiting = q }
  unfolding judge_most glue
  glue-nothing st [] = refl
  glue-nothing st (b ∷ q) = go (ends 10 (b ∷ q))
    where
      go : (t : Bool) → judge_most st (cond t ((b ∷ q) ∷ []) ((b ∷ q) ∷ [])) ≡ record { state = st; waiting = b ∷ q }
      go true = refl
      go false = refl

  -- a piece is its lines, one after another, if what waits is one line or none
  pub feed-lines : (st : S) (q p : List ℕ) → lines q ≡ line q → feed (record { state = st; waiting = q }) p ≡ absorb_all (record { state = st; waiting = q }) (lines p)
  unfolding feed absorb_all absorb
  feed-lines st q p one = go (lines p) refl
    where
      split : (ls : List (List ℕ)) → lines p ≡ ls → lines (q ++ p) ≡ glue (line q) ls
      split ls e = lines-append q p ∙ ap (λ (k : List (List ℕ)). glue k (lines p)) one ∙ ap (glue (line q)) e

      turn : (l : List ℕ) (ls : List (List ℕ)) → lines p ≡ l ∷ ls → (t : Bool) → ends 10 q ≡ t
          → judge_most st (lines (q ++ p)) ≡ absorb_all (cond t (record { state = step st q (begins l); waiting = l }) (record { state = st; waiting = q ++ l })) ls
      turn l ls e true h = rw (split (l ∷ ls) e, glue-whole q (l ∷ ls) h) (unfold judge_most in most-absorbed ls l p e (step st q (begins l)))
      turn l ls e false h = ap (judge_most st) (split (l ∷ ls) e ∙ glue-open q l ls h) ∙ most-absorbed ls (q ++ l) (q ++ p) (split (l ∷ ls) e ∙ glue-open q l ls h) st

      go : (ls : List (List ℕ)) → lines p ≡ ls → judge_most st (lines (q ++ p)) ≡ absorb_all (record { state = st; waiting = q }) ls
      go [] e = ap (judge_most st) (split [] e) ∙ glue-nothing st q
      go (l ∷ ls) e = turn l ls e (ends 10 q) refl

  -- and so it stays
  most-waiting : (ls : List (List ℕ)) (s : List ℕ) → lines s ≡ ls → (st : S) → lines (judge_most st ls).waiting ≡ line (judge_most st ls).waiting
  unfolding judge_most
  most-waiting [] s e st = unfold lines in refl
  most-waiting (l ∷ []) s e st = ap lines (sym (lines-one s l e)) ∙ e ∙ one l (lines-some s l [] e)
    where
      one : (l : List ℕ) → 0 < length l → l ∷ [] ≡ line l
      one [] h = absurd (omega arith)
      one (b ∷ l) h = refl
  most-waiting (l ∷ m ∷ ls) s e st = most-waiting (m ∷ ls) (drop (length l) s) (lines-behind s l (m ∷ ls) e) (step st l (begins m))

  pub waiting-line : (x : Fed S) (p : List ℕ) → lines (feed x p).waiting ≡ line (feed x p).waiting
  unfolding feed
  waiting-line x p = most-waiting (lines (x.waiting ++ p)) (x.waiting ++ p) refl x.state

-- ---- a sum in place of the bytes that wait

pub record FedSum (S T : Type 0) : Type 0 where
  pub state : S
  pub waiting : T

-- a sum of a line's bytes; judging by it; whether the line's LF has come; whether there is no byte; the sum with further bytes
pub record Summing (S T : Type 0) : Type 0 where
  pub sum : List ℕ → T
  pub judge : S → T → Bool → S
  pub whole : T → Bool
  pub empty : T → Bool
  pub grow : T → List ℕ → T

-- it is enough, and is made from that of an open line and further bytes
pub record Sums {S T : Type 0} (step : S → List ℕ → Bool → S) (m : Summing S T) : Type 0 where
  pub judges : (st : S) (l : List ℕ) (last : Bool) → step st l last ≡ m.judge st (m.sum l) last
  pub ended : (l : List ℕ) → m.whole (m.sum l) ≡ ends 10 l
  pub none : m.empty (m.sum []) ≡ true
  pub some : (b : ℕ) (l : List ℕ) → m.empty (m.sum (b ∷ l)) ≡ false
  pub grows : (q l : List ℕ) → ends 10 q ≡ false → 0 < length l → m.sum (q ++ l) ≡ m.grow (m.sum q) l

module _ {S T : Type 0} (m : Summing S T) where
  abbrev pub summed : Fed S → FedSum S T
  summed x = record { state = x.state; waiting = m.sum x.waiting }

  -- a line of a piece; a piece; any pieces; the end
  unfoldable pub absorb_sum : FedSum S T → List ℕ → FedSum S T
  absorb_sum x l = cond (m.whole x.waiting) (record { state = m.judge x.state x.waiting (begins l); waiting = m.sum l }) (record { state = x.state; waiting = m.grow x.waiting l })

  unfoldable pub absorb_sums : FedSum S T → List (List ℕ) → FedSum S T
  absorb_sums x [] = x
  absorb_sums x (l ∷ ls) = absorb_sums (absorb_sum x l) ls

  unfoldable pub feed_sum : FedSum S T → List ℕ → FedSum S T
  feed_sum x p = absorb_sums x (lines p)

  unfoldable pub feed_sums : FedSum S T → List (List ℕ) → FedSum S T
  feed_sums x [] = x
  feed_sums x (p ∷ ps) = feed_sums (feed_sum x p) ps

  unfoldable pub finish_sum : FedSum S T → S
  finish_sum x = cond (m.empty x.waiting) x.state (m.judge x.state x.waiting true)

  module _ (step : S → List ℕ → Bool → S) (law : Sums step m) where
    absorb-summed : (x : Fed S) (l : List ℕ) → 0 < length l → summed (absorb step x l) ≡ absorb_sum (summed x) l
    unfolding absorb absorb_sum
    absorb-summed x l h = rw (law.ended x.waiting) (go (ends 10 x.waiting) refl)
      where
        go : (t : Bool) → ends 10 x.waiting ≡ t
            → summed (cond t (record { state = step x.state x.waiting (begins l); waiting = l }) (record { state = x.state; waiting = x.waiting ++ l }))
            ≡ cond t (record { state = m.judge x.state (m.sum x.waiting) (begins l); waiting = m.sum l }) (record { state = x.state; waiting = m.grow (m.sum x.waiting) l })
        go true e = ap (λ (st : S). record { state = st; waiting = m.sum l }) (law.judges x.state x.waiting (begins l))
        go false e = ap (λ (t : T). record { state = x.state; waiting = t }) (law.grows x.waiting l e h)

    lines-summed : (ls : List (List ℕ)) (s : List ℕ) → lines s ≡ ls → (x : Fed S) → summed (absorb_all step x ls) ≡ absorb_sums (summed x) ls
    unfolding absorb_all absorb_sums
    lines-summed [] s e x = refl
    lines-summed (l ∷ ls) s e x =
        lines-summed ls (drop (length l) s) (lines-behind s l ls e) (absorb step x l)
        ∙ ap (λ (y : FedSum S T). absorb_sums y ls) (absorb-summed x l (lines-some s l ls e))

    -- a piece, by its lines and sums alone
    pub feed-summed : (x : Fed S) (p : List ℕ) → lines x.waiting ≡ line x.waiting → summed (feed step x p) ≡ feed_sum (summed x) p
    unfolding feed_sum
    feed-summed x p one = ap summed (feed-lines step x.state x.waiting p one) ∙ lines-summed (lines p) p refl x

    all-summed : (ps : List (List ℕ)) (x : Fed S) → lines x.waiting ≡ line x.waiting → summed (feed_all step x ps) ≡ feed_sums (summed x) ps
    unfolding feed_all feed_sums
    all-summed [] x one = refl
    all-summed (p ∷ ps) x one = all-summed ps (feed step x p) (waiting-line step x p) ∙ ap (λ (y : FedSum S T). feed_sums y ps) (feed-summed x p one)

    finish-summed : (x : Fed S) → finish step x ≡ finish_sum (summed x)
    unfolding finish finish_sum
    finish-summed x = go x.waiting
      where
        go : (q : List ℕ) → ended step x.state q ≡ cond (m.empty (m.sum q)) x.state (m.judge x.state (m.sum q) true)
        go [] = rw law.none
        go (b ∷ q) = rw (law.some b q) (law.judges x.state (b ∷ q) true)

    -- any pieces and the end, by sums: what the lines of the whole file give
    pub sums-whole : (st : S) (ps : List (List ℕ)) → finish_sum (feed_sums (record { state = st; waiting = m.sum [] }) ps) ≡ judge_all step st (lines (joined ps))
    sums-whole st ps = sym (ap finish_sum (all-summed ps (fresh step st) lines_none)) ∙ sym (finish-summed (feed_all step (fresh step st) ps)) ∙ fed-whole step st ps

-- ---- what does not touch the judging, as what has been written already, may be put in before or after

module _ {S T : Type 0} (m : Summing S T) (h : S → S) (same : (st : S) (t : T) (last : Bool) → m.judge (h st) t last ≡ h (m.judge st t last)) where
  abbrev pub moved : FedSum S T → FedSum S T
  moved x = record { state = h x.state; waiting = x.waiting }

  absorb-moved : (ls : List (List ℕ)) (x : FedSum S T) → absorb_sums m (moved x) ls ≡ moved (absorb_sums m x ls)
  unfolding absorb_sums absorb_sum
  absorb-moved [] x = refl
  absorb-moved (l ∷ ls) x = ap (λ (y : FedSum S T). absorb_sums m y ls) (go (m.whole x.waiting)) ∙ absorb-moved ls (absorb_sum m x l)
    where
      go : (t : Bool) → cond t (record { state = m.judge (h x.state) x.waiting (begins l); waiting = m.sum l }) (record { state = h x.state; waiting = m.grow x.waiting l })
          ≡ moved (cond t (record { state = m.judge x.state x.waiting (begins l); waiting = m.sum l }) (record { state = x.state; waiting = m.grow x.waiting l }))
      go true = ap (λ (st : S). record { state = st; waiting = m.sum l }) (same x.state x.waiting (begins l))
      go false = refl

  pub feed-moved : (x : FedSum S T) (p : List ℕ) → feed_sum m (moved x) p ≡ moved (feed_sum m x p)
  unfolding feed_sum
  feed-moved x p = absorb-moved (lines p) x

  pub feeds-moved : (ps : List (List ℕ)) (x : FedSum S T) → feed_sums m (moved x) ps ≡ moved (feed_sums m x ps)
  unfolding feed_sums
  feeds-moved [] x = refl
  feeds-moved (p ∷ ps) x = ap (λ (y : FedSum S T). feed_sums m y ps) (feed-moved x p) ∙ feeds-moved ps (feed_sum m x p)

  pub finish-moved : (x : FedSum S T) → finish_sum m (moved x) ≡ h (finish_sum m x)
  unfolding finish_sum
  finish-moved x = go (m.empty x.waiting)
    where
      go : (t : Bool) → cond t (h x.state) (m.judge (h x.state) x.waiting true) ≡ h (cond t x.state (m.judge x.state x.waiting true))
      go true = refl
      go false = same x.state x.waiting true
