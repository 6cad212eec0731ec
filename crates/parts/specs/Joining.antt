-- Records that follow others: what they give together is what the first give, and behind them what the others give.
use Rattle.std.specs.Prelude.{ℕ, suc, ◌+◌, Bool, length, eqb, Option, Some, None, Result, Ok, Err, ⊤}
use Rattle.std.proofs.Math.Path.{◌≡◌, refl}
use Rattle.std.proofs.Common.{ap, sym, ◌∙◌, arith, add-zero}
use mathlib.Core.List.{List, [], ◌∷◌, ◌++◌}
use Rattle.std.proofs.Math.Bool.{true, false, cond}
use Rattle.refusal.specs.declared.Refusal.{Refusal}
use Rattle.record.specs.declared.Offset.{Offset}
use Rattle.record.specs.declared.Position.{Position}
use Rattle.definition.specs.declared.Fault.{Fault}
use Rattle.index_line.specs.declared.Entry.{Entry}
use Rattle.refusal.specs.declared.Refusal.TheVariants as refusal
use Rattle.lines.specs.Lines.{tail_of, sum_bases, sum_widths, bases_at}
use Rattle.lines.specs.Groups.{Group}
use Rattle.lines.specs.Same.{same_bytes}
use Rattle.definition.specs.Definition as definition
use Rattle.definition.specs.declared.Definition.{Definition}
use Rattle.record.specs.declared.Record.{Record}
use Rattle.record.specs.Place.{place_in}
use Rattle.table.specs.Fill.{Found, with_first}
use Rattle.index_line.specs.IndexLine.{name_of, index_line_says}
use Rattle.index_line.specs.Laws.{line-any}
use Rattle.indexer.specs.Rule.{SequenceRule, Verdict, good, bad, judged_by, sequence_by, defined_by, stepped, groups_by}
use Rattle.walking.specs.Places.{first_elsewhere}
use Rattle.checker.specs.Accepts.{bytes_of}
use Rattle.checker.specs.Check.{span_of, places_say, sequence_says, entry_says, line_judged, against_lines, defined_says, record_says, and_then, records_say}
use Rattle.checker.specs.Steps.{first-line}

-- ---- rows

-- what some records give, and behind them, if they gave a row each, what others give
abbrev pub goes_on : Found → Found → Result ⊤ Refusal → Found
goes_on f g (Ok _) = record { rows = f.rows ++ g.rows; stop = g.stop }
goes_on f g (Err x) = f

unfoldable pub joined : Found → Found → Found
joined f g = goes_on f g f.stop

joined-first : (x : Record) (f g : Found) → with_first x (joined f g) ≡ joined (with_first x f) g
unfolding joined
joined-first x f g = go f.stop
  where
    go : (t : Result ⊤ Refusal) → with_first x (goes_on f g t) ≡ goes_on (with_first x f) g t
    go (Ok _) = refl
    go (Err y) = refl

-- one record that gives a row, or is refused, in front of others
module _ (rule : SequenceRule) (f f' : ℕ → Found) (g : Found) (at n : ℕ) (q : List (List ℕ)) (h : f (at + n + sum_widths q) ≡ joined (f' (at + n + sum_widths q)) g) where
  judged-joined : (d : Definition) (v : Verdict) → stepped (judged_by rule at n d q v) f ≡ joined (stepped (judged_by rule at n d q v) f') g
  judged-joined d good = ap (with_first _) h ∙ joined-first _ _ _
  judged-joined d (bad x) = unfold joined in refl

  step-joined : (d : Result Definition Fault) → stepped (defined_by rule at n q d) f ≡ joined (stepped (defined_by rule at n q d) f') g
  unfolding sequence_by
  step-joined (Ok d) = judged-joined d (rule.judge (at + n) q)
  step-joined (Err x) = unfold joined in refl

pub rows-joined : (rule : SequenceRule) (gs hs : List Group) (at : ℕ) → groups_by rule (gs ++ hs) at ≡ joined (groups_by rule gs at) (groups_by rule hs (at + bytes_of gs))
unfolding groups_by bytes_of
rows-joined rule [] hs at = unfold joined in rw (add-zero at)
rows-joined rule (g ∷ gs) hs at =
    let next = at + length g.def + sum_widths g.seq in
    let e : next + bytes_of gs ≡ at + (length g.def + sum_widths g.seq + bytes_of gs) = omega arith in
    let h : groups_by rule (gs ++ hs) next ≡ joined (groups_by rule gs next) (groups_by rule hs (at + (length g.def + sum_widths g.seq + bytes_of gs))) = rw (← e) (rows-joined rule gs hs next) in
    step-joined rule (groups_by rule (gs ++ hs)) (groups_by rule gs) _ at (length g.def) g.seq h (definition.definition_says g.def)

-- ---- verdicts

-- a verdict that is not a refusal, whatever number its record has
agreed : (n m : ℕ) (p : Option (Position × Offset)) → places_say n p ≡ Ok tt → places_say m p ≡ Ok tt
agreed n m None e = refl
agreed n m (Some (p, o)) e = let z : ◌≡◌ {A = ℕ} 0 1 = cc in absurd (omega arith)

module _ (n m start : ℕ) where
  sequence-any : (seq : List (List ℕ)) (x : Record) → sequence_says n start seq x ≡ Ok tt → sequence_says m start seq x ≡ Ok tt
  unfolding sequence_says
  sequence-any seq x = go (eqb (sum_bases seq) x.length)
    where
      p : Option (Position × Offset)
      p = first_elsewhere (place_in x) 0 (bases_at start seq)

      go : (t : Bool) → cond t (places_say n p) (Err (refusal.LengthDiffers n)) ≡ Ok tt → cond t (places_say m p) (Err (refusal.LengthDiffers m)) ≡ Ok tt
      go true e = agreed n m p e
      go false e = let z : ◌≡◌ {A = ℕ} 0 1 = cc in absurd (omega arith)

  entry-any : (name : List ℕ) (seq : List (List ℕ)) (named : List ℕ) (x : Record) → entry_says n start name seq named x ≡ Ok tt → entry_says m start name seq named x ≡ Ok tt
  unfolding entry_says
  entry-any name seq named x = go (same_bytes name named)
    where
      go : (t : Bool) → cond t (sequence_says n start seq x) (Err (refusal.NameDiffers n)) ≡ Ok tt → cond t (sequence_says m start seq x) (Err (refusal.NameDiffers m)) ≡ Ok tt
      go true e = sequence-any seq x e
      go false e = let z : ◌≡◌ {A = ℕ} 0 1 = cc in absurd (omega arith)

  against-any : (name : List ℕ) (seq ls : List (List ℕ)) → against_lines n start name seq ls ≡ Ok tt → against_lines m start name seq ls ≡ Ok tt
  unfolding against_lines
  against-any name seq [] e = let z : ◌≡◌ {A = ℕ} 0 1 = cc in absurd (omega arith)
  against-any name seq (l ∷ ls) e = go (index_line_says n l) refl e
    where
      go : (r : Result Entry Refusal) → index_line_says n l ≡ r → line_judged n start name seq l r ≡ Ok tt → line_judged m start name seq l (index_line_says m l) ≡ Ok tt
      go (Err x) h k = let z : ◌≡◌ {A = ℕ} 0 1 = cc in absurd (omega arith)
      go (Ok x) h k = rw (line-any n m l x h) (entry-any name seq (name_of l) x.«record» k)

record-any : (n m at : ℕ) (g : Group) (ls : List (List ℕ)) → record_says n at g ls ≡ Ok tt → record_says m at g ls ≡ Ok tt
unfolding record_says
record-any n m at g ls = go (definition.definition_says g.def)
  where
    go : (d : Result Definition Fault) → defined_says n at g ls d ≡ Ok tt → defined_says m at g ls d ≡ Ok tt
    go (Ok d) e = against-any n m (at + length g.def) (span_of g.def d.name) g.seq ls e
    go (Err f) e = let z : ◌≡◌ {A = ℕ} 0 1 = cc in absurd (omega arith)

-- both of two verdicts
both : (v w : Result ⊤ Refusal) → and_then v w ≡ Ok tt → (v ≡ Ok tt) × (w ≡ Ok tt)
both (Ok _) w e = (refl, e)
both (Err x) w e = let z : ◌≡◌ {A = ℕ} 0 1 = cc in absurd (omega arith)

and_both : (v w : Result ⊤ Refusal) → v ≡ Ok tt → w ≡ Ok tt → and_then v w ≡ Ok tt
and_both v w e h = rw e h

-- records that are accepted behind some are accepted behind any
pub records-any : (k m at : ℕ) (gs : List Group) (ls : List (List ℕ)) → records_say k at gs ls ≡ Ok tt → records_say m at gs ls ≡ Ok tt
unfolding records_say
records-any k m at [] [] e = refl
records-any k m at [] (l ∷ ls) e = let z : ◌≡◌ {A = ℕ} 0 1 = cc in absurd (omega arith)
records-any k m at (g ∷ gs) ls e =
    let b = both _ _ e in
    and_both _ _ (record-any (suc k) (suc m) at g ls b.0) (records-any (suc k) (suc m) (at + length g.def + sum_widths g.seq) gs (tail_of ls) b.1)

-- without a line no record is accepted
none-accepted : (n at : ℕ) (g : Group) → record_says n at g [] ≡ Ok tt → ⊥
unfolding record_says against_lines
none-accepted n at g = go (definition.definition_says g.def)
  where
    go : (d : Result Definition Fault) → defined_says n at g [] d ≡ Ok tt → ⊥
    go (Ok d) e = let z : ◌≡◌ {A = ℕ} 0 1 = cc in absurd (omega arith)
    go (Err f) e = let z : ◌≡◌ {A = ℕ} 0 1 = cc in absurd (omega arith)

-- and only the first line matters
record-more : (n at : ℕ) (g : Group) (ls ms : List (List ℕ)) → record_says n at g ls ≡ Ok tt → record_says n at g (ls ++ ms) ≡ Ok tt
record-more n at g [] ms e = absurd (none-accepted n at g e)
record-more n at g (l ∷ ls) ms e = sym (first-line n at g l (ls ++ ms)) ∙ first-line n at g l ls ∙ e

tail_more : (n at : ℕ) (g : Group) (ls ms : List (List ℕ)) → record_says n at g ls ≡ Ok tt → tail_of (ls ++ ms) ≡ tail_of ls ++ ms
tail_more n at g [] ms e = absurd (none-accepted n at g e)
tail_more n at g (l ∷ ls) ms e = refl

-- accepted records, and accepted records behind them
pub verdicts-joined : (k at : ℕ) (gs hs : List Group) (ls ms : List (List ℕ)) → records_say k at gs ls ≡ Ok tt → records_say k (at + bytes_of gs) hs ms ≡ Ok tt
    → records_say k at (gs ++ hs) (ls ++ ms) ≡ Ok tt
unfolding records_say bytes_of
verdicts-joined k at [] hs [] ms e h = rw (← add-zero at) h
verdicts-joined k at [] hs (l ∷ ls) ms e h = let z : ◌≡◌ {A = ℕ} 0 1 = cc in absurd (omega arith)
verdicts-joined k at (g ∷ gs) hs ls ms e h =
    let next = at + length g.def + sum_widths g.seq in
    let b = both _ _ e in
    let q : at + (length g.def + sum_widths g.seq + bytes_of gs) ≡ next + bytes_of gs = omega arith in
    let r : records_say (suc k) (next + bytes_of gs) hs ms ≡ Ok tt = records-any k (suc k) (next + bytes_of gs) hs ms (rw q at h) in
    and_both _ _ (record-more (suc k) at g ls ms b.0) (rw (tail_more (suc k) at g ls ms b.0) (verdicts-joined (suc k) next gs hs (tail_of ls) ms b.1 r))
