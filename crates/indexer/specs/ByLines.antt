-- The indexer as a machine over lines. With each line it learns whether the sequence ends behind it: the next byte is '>', or the file ends.
-- Over the lines of a whole file it finds what indexing the file finds: `by_lines`. So it finds the same in any pieces: `by-pieces`.
use Prim.Native.Nat.{ℕ, zero, suc, ◌+◌}
use Rattle.std.specs.Prelude.{◌≡◌, Bool, cond, Some, Result, Ok, Err, ⊤}
use Rattle.std.proofs.Math.Path.{refl, ap}
use Rattle.std.proofs.Common.{sym, ◌∙◌, true≢false, eqb-true, le-leb, arith}
use mathlib.Core.List.{List, [], ◌∷◌, ◌++◌, append_assoc, append-nil}
use Rattle.std.proofs.Math.Bool.{true, false}
use Rattle.std.proofs.Math.ListN.{length}
use Rattle.std.proofs.Math.Dec.{eqb}
use Rattle.std.proofs.lemmas.Bool.{eqb-false}
use Rattle.std.proofs.Math.Nat.{add-zero}
use Rattle.refusal.specs.declared.Refusal.{Refusal}
use Rattle.definition.specs.declared.Fault.{Fault}
use Rattle.refusal.specs.declared.Refusal.TheVariants.{NoBases, LineBases, LineWidth, TableFull}
use Rattle.lines.specs.declared.Line.{Line}
use Rattle.definition.specs.declared.Definition.{Definition}
use Rattle.lines.specs.Lines.{lines, bases_of, begins, seq_of, none, sum_bases, sum_widths}
use Rattle.lines.specs.Groups.{groups}
use Rattle.lines.specs.GroupLaws.{after_seq, groups-cut}
use Rattle.lines.specs.Feeding.{joined, judge_all, feed_all, finish, fresh, fed-whole}
use Rattle.definition.specs.Definition.{definition_says, refusal_at}
use Rattle.record.specs.declared.Record.{Record}
use Rattle.table.specs.Fill.{Found, nothing, with_first, held_in}
use Rattle.table.specs.Laws.{held-nothing, held_none, held_first}
use Rattle.indexer.specs.declared.Step.{Step}
use Rattle.indexer.specs.Rule.{row_for, defined_by, stepped, groups_by, file_by}
use Rattle.indexer.specs.Index.{line_of, fits_last, rest_of, ported, sequence_says, rest_says}
use Rattle.indexer.specs.File.{file_of, file_at}
use Rattle.indexer.specs.Laws.{rest-done, rest-bases, rest-width, rest-on, answer_as, judge-none, judge-some}

-- ---- the machine

-- a record whose definition line has been read: where it begins, its bytes, and what it says
pub record Opened : Type 0 where
  pub at : ℕ
  pub width : ℕ
  pub said : Definition

-- what it awaits: a definition at an offset; the first sequence line; a further one, with the first, the bases so far and the offset; nothing
pub data Phase : Type 0 where
  wants-definition : ℕ → Phase
  wants-first : Opened → Phase
  wants-line : Opened → Line → ℕ → ℕ → Phase
  halted : Result ⊤ Refusal → Phase

-- what a line gives: the next phase, or a row and the offset behind its record
pub data Out : Type 0 where
  keeps : Phase → Out
  emits : Record → ℕ → Out

abbrev pub row_in : Opened → Line → ℕ → Record
row_in d first m = row_for d.at d.said m (d.at + d.width) first.bases first.width

-- a definition line of w bytes
unfoldable pub definition_out : ℕ → ℕ → Bool → Result Definition Fault → Out
definition_out at w last (Ok d) = cond last (keeps (halted (Err (NoBases (at + w))))) (keeps (wants-first (record { at = at; width = w; said = d })))
definition_out at w last (Err f) = keeps (halted (Err (refusal_at f at)))

-- a first sequence line
unfoldable pub first_out : Opened → Line → Bool → Out
first_out d x last =
    cond (eqb x.bases 0) (keeps (halted (Err (NoBases (d.at + d.width + x.width)))))
    (cond last (emits (row_in d x x.bases) (d.at + d.width + x.width)) (keeps (wants-line d x x.bases (d.at + d.width + x.width))))

-- a further one, with m bases before it, which begins at z
unfoldable pub line_out : Opened → Line → ℕ → ℕ → Line → Bool → Out
line_out d first m z x last =
    cond (fits_last last x first) (emits (row_in d first (m + x.bases)) (z + x.width))
    (cond (eqb x.bases first.bases)
    (cond (eqb x.width first.width) (keeps (wants-line d first (m + x.bases) (z + x.width))) (keeps (halted (Err (LineWidth x.width first.width)))))
    (keeps (halted (Err (LineBases x.bases first.bases)))))

-- one line, by its width and bases, what it says as a definition, and whether its sequence ends behind it
abbrev pub out_of : Phase → Line → Result Definition Fault → Bool → Out
out_of (wants-definition at) x p last = definition_out at x.width last p
out_of (wants-first d) x p last = first_out d x last
out_of (wants-line d first m z) x p last = line_out d first m z x last
out_of (halted s) x p last = keeps (halted s)

-- with the rows so far, and how many more there is room for
pub record State : Type 0 where
  pub phase : Phase
  pub free : ℕ
  pub rows : List Record

abbrev pub state : Phase → ℕ → List Record → State
state p f rs = record { phase = p; free = f; rows = rs }

module _ (all : ℕ) where
  -- a row of a good record, if one is free
  abbrev pub emitted : ℕ → List Record → Record → ℕ → State
  emitted zero rs x z = state (halted (Err (TableFull all))) zero rs
  emitted (suc k) rs x z = state (wants-definition z) k (rs ++ (x ∷ []))

  abbrev pub applied : ℕ → List Record → Out → State
  applied f rs (keeps p) = state p f rs
  applied f rs (emits x z) = emitted f rs x z

  abbrev pub step_line : State → List ℕ → Bool → State
  step_line st l last = applied st.free st.rows (out_of st.phase (line_of l) (definition_says l) last)

abbrev pub stop_of : Phase → Result ⊤ Refusal
stop_of (wants-definition at) = Ok tt
stop_of (wants-first d) = Ok tt
stop_of (wants-line d first m z) = Ok tt
stop_of (halted s) = s

abbrev pub found : State → Found
found st = record { rows = st.rows; stop = stop_of st.phase }

-- ---- where a sequence ends

none-seq : (ls : List (List ℕ)) → none (seq_of ls) ≡ true → seq_of ls ≡ []
none-seq ls h = go (seq_of ls) h
  where
    go : (q : List (List ℕ)) → none q ≡ true → q ≡ []
    go [] e = refl
    go (l ∷ q) e = absurd (true≢false (sym e))

none_after : (ls : List (List ℕ)) → none (seq_of ls) ≡ true → after_seq ls ≡ ls
unfolding seq_of after_seq
none_after [] h = refl
none_after (l ∷ ls) h = go (begins l) h
  where
    go : (t : Bool) → none (cond t [] (l ∷ seq_of ls)) ≡ true → cond t (l ∷ ls) (after_seq ls) ≡ l ∷ ls
    go true e = refl
    go false e = absurd (true≢false (sym e))

some-begins : (l : List ℕ) (ls : List (List ℕ)) → none (seq_of (l ∷ ls)) ≡ false → begins l ≡ false
unfolding seq_of
some-begins l ls h = go (begins l) h
  where
    go : (t : Bool) → none (cond t [] (l ∷ seq_of ls)) ≡ false → t ≡ false
    go true e = absurd (true≢false e)
    go false e = refl

seq-front : (l : List ℕ) (ls : List (List ℕ)) → none (seq_of (l ∷ ls)) ≡ false → seq_of (l ∷ ls) ≡ l ∷ seq_of ls
unfolding seq_of
seq-front l ls h = rw (some-begins l ls h)

after_front : (l : List ℕ) (ls : List (List ℕ)) → none (seq_of (l ∷ ls)) ≡ false → after_seq (l ∷ ls) ≡ after_seq ls
unfolding after_seq
after_front l ls h = rw (some-begins l ls h)

-- a line that fits as the last is the last; one like the first that doesn't fit isn't
fits-last : (t : Bool) (x first : Line) → fits_last t x first ≡ true → t ≡ true
unfolding fits_last
fits-last true x first h = refl
fits-last false x first h = absurd (true≢false (sym h))

fits_more : (t : Bool) (x first : Line) → fits_last t x first ≡ false → x.bases ≡ first.bases → x.width ≡ first.width → t ≡ false
unfolding fits_last
fits_more true x first h p q = absurd (true≢false (rw (le-leb x.width first.width (omega arith), le-leb x.bases first.bases (omega arith)) at h))
fits_more false x first h p q = refl

-- ---- the machine over lines finds what the file's records give

-- rows in front of what is found
abbrev plus : List Record → Found → Found
plus rs f = record { rows = rs ++ f.rows; stop = f.stop }

module _ (all : ℕ) where
  abbrev run : State → List (List ℕ) → State
  run st ls = judge_all (step_line all) st ls

  halted-stays : (s : Result ⊤ Refusal) (f : ℕ) (rs : List Record) (ls : List (List ℕ)) → found (run (state (halted s) f rs) ls) ≡ plus rs (nothing s)
  unfolding judge_all
  halted-stays s f rs [] = rw (append-nil rs)
  halted-stays s f rs (l ∷ ls) = halted-stays s f rs ls

  -- what a phase finds in some lines
  Claim : List (List ℕ) → Phase → Type 0
  Claim ls (wants-definition at) = (f : ℕ) (rs : List Record) → found (run (state (wants-definition at) f rs) ls) ≡ plus rs (held_in f all (file_of (groups ls) at))
  Claim ls (wants-first d) = (f : ℕ) (rs : List Record) → none (seq_of ls) ≡ false
      → found (run (state (wants-first d) f rs) ls) ≡ plus rs (held_in f all (stepped (sequence_says d.at d.width d.said (seq_of ls)) (file_of (groups (after_seq ls)))))
  Claim ls (wants-line d x m z) = (f : ℕ) (rs : List Record) → none (seq_of ls) ≡ false
      → found (run (state (wants-line d x m z) f rs) ls)
      ≡ plus rs (held_in f all (stepped (answer_as d.at d.said (d.at + d.width) x (rest_says x m z (seq_of ls))) (file_of (groups (after_seq ls)))))
  Claim ls (halted s) = Unit {0}

  -- a refusal, and a row
  refused-step : (s : Result ⊤ Refusal) (f : ℕ) (rs : List Record) (ls : List (List ℕ)) → found (run (state (halted s) f rs) ls) ≡ plus rs (held_in f all (nothing s))
  refused-step s f rs ls = halted-stays s f rs ls ∙ ap (plus rs) (sym (held-nothing f all s))

  same_step : (rs : List Record) (f : ℕ) (g : ℕ → Found) {v w : Step} → v ≡ w → plus rs (held_in f all (stepped v g)) ≡ plus rs (held_in f all (stepped w g))
  same_step rs f g e = ap (λ (x : Step). plus rs (held_in f all (stepped x g))) e

  row_step : (ls : List (List ℕ)) (z : ℕ) → Claim ls (wants-definition z) → (f : ℕ) (rs : List Record) (x : Record)
      → found (run (emitted all f rs x z) ls) ≡ plus rs (held_in f all (with_first x (file_of (groups ls) z)))
  unfolding Claim
  row_step ls z ih zero rs x = halted-stays (Err (TableFull all)) zero rs ls ∙ ap (plus rs) (sym (held_none all x (file_of (groups ls) z)))
  row_step ls z ih (suc k) rs x =
      ih k (rs ++ (x ∷ []))
      ∙ ap (λ (q : List Record). record { rows = q; stop = (held_in k all (file_of (groups ls) z)).stop }) (append_assoc rs (x ∷ []) (held_in k all (file_of (groups ls) z)).rows)
      ∙ ap (plus rs) (sym (held_first k all x (file_of (groups ls) z)))

  one-line : (d : Opened) (l : List ℕ) → (length (bases_of l) ≡ 0 → ⊥)
      → record { answer = Ok (Some (row_in d (line_of l) (length (bases_of l)))); next = record { at = d.at + d.width + length l } } ≡ sequence_says d.at d.width d.said (l ∷ [])
  unfolding rest_says rest_of sum_bases sum_widths
  one-line d l h = rw (add-zero (length (bases_of l)), add-zero (d.at + d.width + length l)) at (judge-some d.at d.width d.said (l ∷ []) h)

  module _ (l : List ℕ) (ls : List (List ℕ)) (ih : (c : Phase) → Claim ls c) where
    definition-step : (at : ℕ) → Claim (l ∷ ls) (wants-definition at)
    unfolding Claim judge_all groups_by definition_out
    definition-step at f rs = rw (groups-cut l ls) (go (definition_says l) (none (seq_of ls)) refl)
      where
        go : (p : Result Definition Fault) (t : Bool) → none (seq_of ls) ≡ t
            → found (run (applied all f rs (definition_out at (length l) t p)) ls) ≡ plus rs (held_in f all (stepped (defined_by ported at (length l) (seq_of ls) p) (file_of (groups (after_seq ls)))))
        go (Ok d) true e =
            refused-step (Err (NoBases (at + length l))) f rs ls
            ∙ same_step rs f (file_of (groups (after_seq ls))) (rw (add-zero (at + length l)) at (judge-none at (length l) d [] refl) ∙ ap (sequence_says at (length l) d) (sym (none-seq ls e)))
        go (Ok d) false e = ih (wants-first (record { at = at; width = length l; said = d })) f rs e
        go (Err x) t e = refused-step (Err (refusal_at x at)) f rs ls

    first_step : (d : Opened) → Claim (l ∷ ls) (wants-first d)
    unfolding Claim judge_all first_out
    first_step d f rs h = rw (seq-front l ls h, after_front l ls h) (go (eqb (length (bases_of l)) 0) refl (none (seq_of ls)) refl)
      where
        go : (u : Bool) → eqb (length (bases_of l)) 0 ≡ u → (t : Bool) → none (seq_of ls) ≡ t
            → found (run (applied all f rs (cond u (keeps (halted (Err (NoBases (d.at + d.width + length l)))))
            (cond t (emits (row_in d (line_of l) (length (bases_of l))) (d.at + d.width + length l)) (keeps (wants-line d (line_of l) (length (bases_of l)) (d.at + d.width + length l)))))) ls)
            ≡ plus rs (held_in f all (stepped (sequence_says d.at d.width d.said (l ∷ seq_of ls)) (file_of (groups (after_seq ls)))))
        go true u t e =
            refused-step (Err (NoBases (d.at + d.width + length l))) f rs ls
            ∙ same_step rs f (file_of (groups (after_seq ls))) (judge-none d.at d.width d.said (l ∷ seq_of ls) (eqb-true _ _ u))
        go false u true e =
            rw (none_after ls e, none-seq ls e)
            (row_step ls (d.at + d.width + length l) (ih (wants-definition (d.at + d.width + length l))) f rs (row_in d (line_of l) (length (bases_of l)))
            ∙ same_step rs f (file_of (groups ls)) (one-line d l (eqb-false _ _ u)))
        go false u false e =
            ih (wants-line d (line_of l) (length (bases_of l)) (d.at + d.width + length l)) f rs e
            ∙ same_step rs f (file_of (groups (after_seq ls))) (judge-some d.at d.width d.said (l ∷ seq_of ls) (eqb-false _ _ u))

    line_step : (d : Opened) (x : Line) (m z : ℕ) → Claim (l ∷ ls) (wants-line d x m z)
    unfolding Claim judge_all line_out
    line_step d x m z f rs h = rw (seq-front l ls h, after_front l ls h)
        (go (fits_last (none (seq_of ls)) (line_of l) x) refl (eqb (length (bases_of l)) x.bases) refl (eqb (length l) x.width) refl)
      where
        said : {v : Result (ℕ × ℕ) Refusal} → v ≡ rest_says x m z (l ∷ seq_of ls)
            → plus rs (held_in f all (stepped (answer_as d.at d.said (d.at + d.width) x v) (file_of (groups (after_seq ls)))))
            ≡ plus rs (held_in f all (stepped (answer_as d.at d.said (d.at + d.width) x (rest_says x m z (l ∷ seq_of ls))) (file_of (groups (after_seq ls)))))
        said e = same_step rs f (file_of (groups (after_seq ls))) (ap (answer_as d.at d.said (d.at + d.width) x) e)

        go : (u : Bool) → fits_last (none (seq_of ls)) (line_of l) x ≡ u → (v : Bool) → eqb (length (bases_of l)) x.bases ≡ v → (w : Bool) → eqb (length l) x.width ≡ w
            → found (run (applied all f rs (cond u (emits (row_in d x (m + length (bases_of l))) (z + length l))
            (cond v (cond w (keeps (wants-line d x (m + length (bases_of l)) (z + length l))) (keeps (halted (Err (LineWidth (length l) x.width)))))
            (keeps (halted (Err (LineBases (length (bases_of l)) x.bases))))))) ls)
            ≡ plus rs (held_in f all (stepped (answer_as d.at d.said (d.at + d.width) x (rest_says x m z (l ∷ seq_of ls))) (file_of (groups (after_seq ls)))))
        go true p v q w r =
            rw (none_after ls (fits-last _ _ _ p))
            (row_step ls (z + length l) (ih (wants-definition (z + length l))) f rs (row_in d x (m + length (bases_of l)))
            ∙ same_step rs f (file_of (groups ls)) (ap (answer_as d.at d.said (d.at + d.width) x) (rest-done x m z (l ∷ seq_of ls) p)))
        go false p false q w r = refused-step (Err (LineBases (length (bases_of l)) x.bases)) f rs ls ∙ said (rest-bases x m z (l ∷ seq_of ls) p (eqb-false _ _ q))
        go false p true q false r = refused-step (Err (LineWidth (length l) x.width)) f rs ls ∙ said (rest-width x m z (l ∷ seq_of ls) p (eqb-true _ _ q) (eqb-false _ _ r))
        go false p true q true r =
            ih (wants-line d x (m + length (bases_of l)) (z + length l)) f rs (fits_more _ _ _ p (eqb-true _ _ q) (eqb-true _ _ r))
            ∙ said (rest-on x m z (l ∷ seq_of ls) p (eqb-true _ _ q) (eqb-true _ _ r))

  claims : (ls : List (List ℕ)) (c : Phase) → Claim ls c
  unfolding Claim judge_all groups_by groups seq_of
  claims [] (wants-definition at) = λ f rs. rw (held-nothing f all (Ok tt), append-nil rs)
  claims [] (wants-first d) = λ f rs h. absurd (true≢false h)
  claims [] (wants-line d x m z) = λ f rs h. absurd (true≢false h)
  claims [] (halted s) = tt
  claims (l ∷ ls) (wants-definition at) = definition-step l ls (claims ls) at
  claims (l ∷ ls) (wants-first d) = first_step l ls (claims ls) d
  claims (l ∷ ls) (wants-line d x m z) = line_step l ls (claims ls) d x m z
  claims (l ∷ ls) (halted s) = tt

  -- where a file begins
  abbrev pub start : State
  start = state (wants-definition 0) all []

  pub by_lines : (s : List ℕ) → found (judge_all (step_line all) start (lines s)) ≡ held_in all all (file_at s 0)
  unfolding Claim file_by
  by_lines s = claims (lines s) (wants-definition 0) all []

  -- R57 of docs/RULES.md, over definitions: a file in any pieces, and the end
  pub by-pieces : (ps : List (List ℕ)) → found (finish (step_line all) (feed_all (step_line all) (fresh (step_line all) start) ps)) ≡ held_in all all (file_at (joined ps) 0)
  by-pieces ps = ap found (fed-whole (step_line all) start ps) ∙ by_lines (joined ps)
