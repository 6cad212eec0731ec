-- Every verdict of the checker is what Accepts.antt and FirstFault.antt say, and nothing else is.
use Prim.Native.Nat.{ℕ, zero, suc, ◌+◌, ◌<◌}
use Rattle.std.specs.Prelude.{◌≡◌, List, [], ◌∷◌, Bool, cond, length, drop, Option, Some, None, Result, Ok, Err, ⊤}
use Rattle.std.proofs.Math.Path.{refl}
use Rattle.std.proofs.Common.{ap, sym, ◌∙◌, true≢false}
use Rattle.std.proofs.Math.Bool.{true, false}
use Rattle.std.proofs.Math.ListN.{get_or}
use Rattle.std.proofs.Math.Dec.{eqb, ltb}
use borrow.Author.Tests.{eq-eqb, ne_eqb, eqb-true, eqb-false, ltb-true, ltb-false, lt-ltb, le-ltb}
use native.Mathlib.Omega.{arith}
use Rattle.std.proofs.Math.Nat.{zero-add}
use Rattle.record.specs.declared.Offset.{Offset}
use Rattle.record.specs.declared.Position.{Position}
use Rattle.definition.specs.declared.Fault.{Fault}
use Rattle.index_line.specs.declared.Entry.{Entry}
use Rattle.refusal.specs.Numbers.{over_limit}
use Rattle.refusal.specs.declared.Refusal.{Refusal}
use Rattle.refusal.specs.declared.Refusal.TheVariants.{TooLong, BytesLeft, NameDiffers, LengthDiffers}
use Rattle.lines.specs.Lines.{lines, ends, content_of, tail_of, sum_bases, sum_widths, bases_at}
use Rattle.lines.specs.Groups.{Group, groups}
use Rattle.lines.specs.Same.{same_bytes, same_refl, same_true, same-is}
use Rattle.definition.specs.Definition as definition
use Rattle.definition.specs.declared.Definition.{Definition}
use Rattle.record.specs.Place.{place_in}
use Rattle.record.specs.EvenLines.{length-bases_at}
use Rattle.index_line.specs.IndexLine.{fields_of, name_of}
use Rattle.index_line.specs.IndexLine as index
use Rattle.walking.specs.Places.{first_elsewhere}
use Rattle.walking.specs.PlaceLaws.{PlacesSaid, places-said, places-only}
use Rattle.walking.specs.PlaceLaws.PlacesSaid.{all, one}
use Rattle.checker.specs.Check.{span_of, places_say, sequence_says, entry_says, line_judged, against_lines, defined_says, record_says, and_then, records_say, check_of}
use Rattle.checker.specs.Accepts.{bytes_of, record_at, definition_at, sequence_at, BothRead, SameName, SameLength, Matches, limit, Fit, MatchesAt, Accepts}
use Rattle.checker.specs.FirstFault.{LineFault, RecordFault, FirstFault}
use Rattle.checker.specs.FirstFault.LineFault.{bad-line, other_name, other_length, other_place}
use Rattle.checker.specs.FirstFault.RecordFault.{bad-definition, no-line, wrong-line}
use Rattle.checker.specs.FirstFault.FirstFault.{long-fasta, long-index, wrong-record, lines_left}

same-equal : (s t : List ℕ) → s ≡ t → same_bytes s t ≡ true
same-equal s t e = rw e (same_refl t)

same_false : (s t : List ℕ) → same_bytes s t ≡ false → s ≡ t → ⊥
same_false s t h e = true≢false (sym (same-equal s t e) ∙ h)

differ-false : (s t : List ℕ) → (s ≡ t → ⊥) → same_bytes s t ≡ false
differ-false s t n = sym (same-is s t false (λ h. absurd (true≢false (sym h))) (λ e. absurd (n e)))

-- ---- one line

-- a line matches its record, or is wrong
pub data LineSaid (n start : ℕ) (g : Group) (l : List ℕ) : Result ⊤ Refusal → Type 0 where
  matches : Matches n start g l → LineSaid n start g l (Ok tt)
  faulty : {x : Refusal} → LineFault n start g l x → LineSaid n start g l (Err x)

module _ (n start : ℕ) (g : Group) (l : List ℕ) where
  module _ (b : BothRead n g l) where
    said-places : SameName b → SameLength b → (p : Option (Position × Offset)) → PlacesSaid (place_in b.entry.«record») 0 (bases_at start g.seq) p → LineSaid n start g l (places_say n p)
    said-places s c p (all h) = matches (record { both = b; name = s; count = c; places = λ j m. rw zero-add at (h j (rw length-bases_at m)) })
    said-places s c p (one q o j e y m h k) =
        rw (e, zero-add) (faulty (other_place b s c j (rw length-bases_at at m) (λ r u. rw zero-add at (h r u)) (λ z. k (rw zero-add z))))

    said-length : SameName b → LineSaid n start g l (sequence_says n start g.seq b.entry.«record»)
    unfolding sequence_says
    said-length s = go (eqb (sum_bases g.seq) b.entry.«record».length) refl
      where
        go : (t : Bool) → eqb (sum_bases g.seq) b.entry.«record».length ≡ t
            → LineSaid n start g l (cond t (places_say n (first_elsewhere (place_in b.entry.«record») 0 (bases_at start g.seq))) (Err (LengthDiffers n)))
        go true e = said-places s (eqb-true _ _ e) _ (places-said (place_in b.entry.«record») 0 (bases_at start g.seq))
        go false e = faulty (other_length b s (eqb-false _ _ e))

    said-name : LineSaid n start g l (entry_says n start (span_of g.def b.said.name) g.seq (name_of l) b.entry.«record»)
    unfolding entry_says
    said-name = go (same_bytes (span_of g.def b.said.name) (name_of l)) refl
      where
        go : (t : Bool) → same_bytes (span_of g.def b.said.name) (name_of l) ≡ t
            → LineSaid n start g l (cond t (sequence_says n start g.seq b.entry.«record») (Err (NameDiffers n)))
        go true e = said-length (same_true _ _ e)
        go false e = faulty (other_name b (same_false _ _ e))

  module _ (d : Definition) (h : definition.definition_says g.def ≡ Ok d) where
    line-said : LineSaid n start g l (line_judged n start (span_of g.def d.name) g.seq l (index.index_line_says n l))
    line-said = go (index.index_line_says n l) refl
      where
        go : (r : Result Entry Refusal) → index.index_line_says n l ≡ r → LineSaid n start g l (line_judged n start (span_of g.def d.name) g.seq l r)
        go (Err x) e = faulty (bad-line x e)
        go (Ok e) k = said-name (record { said = d; defined = h; entry = e; reads = k })

  -- ---- and nothing else is said

  module _ (at : ℕ) (begun : at + length g.def ≡ start) (left : List (List ℕ)) where
    module _ (b : BothRead n g l) where
      both_read : record_says n at g (l ∷ left) ≡ entry_says n start (span_of g.def b.said.name) g.seq (name_of l) b.entry.«record»
      unfolding record_says against_lines
      both_read = rw (b.defined, b.reads, begun)

      same_name : SameName b → record_says n at g (l ∷ left) ≡ sequence_says n start g.seq b.entry.«record»
      unfolding entry_says
      same_name s = both_read ∙ rw (same-equal _ _ s)

      same_length : SameName b → SameLength b → (p : Option (Position × Offset)) → PlacesSaid (place_in b.entry.«record») 0 (bases_at start g.seq) p
          → record_says n at g (l ∷ left) ≡ places_say n p
      unfolding sequence_says
      same_length s c p h = same_name s ∙ rw (eq-eqb _ _ c, ← places-only _ _ _ _ h)

    line-only : (v : Result ⊤ Refusal) (d : Definition) → definition.definition_says g.def ≡ Ok d → LineSaid n start g l v → record_says n at g (l ∷ left) ≡ v
    unfolding record_says against_lines entry_says sequence_says
    line-only v d h (matches m) = same_length m.both m.name m.count None (all (λ j k. rw zero-add (m.places j (rw length-bases_at at k))))
    line-only v d h (faulty (bad-line x e)) = rw (h, e)
    line-only v d h (faulty (other_name b k)) = both_read b ∙ rw (differ-false _ _ k)
    line-only v d h (faulty (other_length b s k)) = same_name b s ∙ rw (ne_eqb _ _ k)
    line-only v d h (faulty (other_place b s c j m u k)) =
        same_length b s c (Some ((record { 0 = suc j }), _))
        (one _ (record { 0 = get_or (bases_at start g.seq) j 0 }) j (ap suc (sym (zero-add j))) refl (rw length-bases_at m) (λ r q. rw zero-add (u r q)) (λ z. k (rw zero-add at z)))

-- ---- one record

-- a record and the next line match, or are wrong
pub data RecordSaid (n at : ℕ) (g : Group) : List (List ℕ) → Result ⊤ Refusal → Type 0 where
  matching : {l : List ℕ} {left : List (List ℕ)} → Matches n (at + length g.def) g l → RecordSaid n at g (l ∷ left) (Ok tt)
  wrong : {left : List (List ℕ)} {x : Refusal} → RecordFault n at g left x → RecordSaid n at g left (Err x)

record-said : (n at : ℕ) (g : Group) (left : List (List ℕ)) → RecordSaid n at g left (record_says n at g left)
unfolding record_says against_lines
record-said n at g left = go (definition.definition_says g.def) refl left
  where
    line : (d : Definition) → definition.definition_says g.def ≡ Ok d → (l : List ℕ) (left : List (List ℕ)) (v : Result ⊤ Refusal) → LineSaid n (at + length g.def) g l v → RecordSaid n at g (l ∷ left) v
    line d h l left v (matches m) = matching m
    line d h l left v (faulty e) = wrong (wrong-line d h e)

    go : (p : Result Definition Fault) → definition.definition_says g.def ≡ p → (left : List (List ℕ)) → RecordSaid n at g left (defined_says n at g left p)
    go (Err e) h left = wrong (bad-definition e h)
    go (Ok d) h [] = wrong (no-line d h)
    go (Ok d) h (l ∷ left) = line d h l left _ (line-said n (at + length g.def) g l d h)

record-only : (n at : ℕ) (g : Group) (left : List (List ℕ)) (v : Result ⊤ Refusal) → RecordSaid n at g left v → record_says n at g left ≡ v
unfolding record_says against_lines
record-only n at g _ v (matching {l} {left} m) = line-only n (at + length g.def) g l at refl left v m.both.said m.both.defined (matches m)
record-only n at g left v (wrong (bad-definition e h)) = rw h
record-only n at g left v (wrong (no-line d h)) = rw h
record-only n at g _ v (wrong (wrong-line {l} {left} d h e)) = line-only n (at + length g.def) g l at refl left v d h (faulty e)

-- ---- all records: those behind k others, the first of which begins at an offset

-- record j of some matches line j
abbrev pub MatchesFrom : ℕ → ℕ → List Group → List (List ℕ) → ℕ → Type 0
MatchesFrom k at gs ls j = Matches (suc (k + j)) (at + sequence_at gs j) (record_at gs j) (get_or ls j [])

-- all match, and lines are left or not; or one is the first that is wrong
pub data AllSaid (k at : ℕ) (gs : List Group) (ls : List (List ℕ)) : Result ⊤ Refusal → Type 0 where
  all-match : length ls ≡ length gs → ((j : ℕ) → j < length gs → MatchesFrom k at gs ls j) → AllSaid k at gs ls (Ok tt)
  some_left : (n : ℕ) → n ≡ k + length gs → ((j : ℕ) → j < length gs → MatchesFrom k at gs ls j) → length gs < length ls → AllSaid k at gs ls (Err (BytesLeft n))
  one-wrong : {x : Refusal} → (r : ℕ) → r < length gs → ((j : ℕ) → j < r → MatchesFrom k at gs ls j)
      → RecordFault (suc (k + r)) (at + definition_at gs r) (record_at gs r) (drop r ls) x → AllSaid k at gs ls (Err x)

-- one record more in front
module _ (k at : ℕ) (g : Group) (gs : List Group) where
  behind : ℕ
  behind = at + length g.def + sum_widths g.seq

  number : (j : ℕ) → suc (suc k + j) ≡ suc (k + suc j)
  number j = omega arith

  place : (j : ℕ) → behind + sequence_at gs j ≡ at + sequence_at (g ∷ gs) (suc j)
  unfolding bytes_of behind
  place j = omega arith

  begin : (j : ℕ) → behind + definition_at gs j ≡ at + definition_at (g ∷ gs) (suc j)
  unfolding bytes_of behind
  begin j = omega arith

  number-first : suc k ≡ suc (k + 0)
  number-first = omega arith

  place-first : at + length g.def ≡ at + sequence_at (g ∷ gs) 0
  unfolding bytes_of
  place-first = omega arith

  begin-first : at ≡ at + definition_at (g ∷ gs) 0
  unfolding bytes_of
  begin-first = omega arith

  -- the first, and those behind it
  join : (l : List ℕ) (ls : List (List ℕ)) (n : ℕ) → Matches (suc k) (at + length g.def) g l → ((j : ℕ) → j < n → MatchesFrom (suc k) behind gs ls j)
      → (j : ℕ) → j < suc n → MatchesFrom k at (g ∷ gs) (l ∷ ls) j
  join l ls n m h zero q = rw (← number-first, ← place-first) m
  join l ls n m h (suc j) q = rw (← number j, ← place j) (h j (omega arith))

  more : (l : List ℕ) (ls : List (List ℕ)) (v : Result ⊤ Refusal) → Matches (suc k) (at + length g.def) g l → AllSaid (suc k) behind gs ls v → AllSaid k at (g ∷ gs) (l ∷ ls) v
  more l ls v m (all-match c h) = all-match (ap suc c) (join l ls (length gs) m h)
  more l ls v m (some_left n e h q) = some_left n (omega arith) (join l ls (length gs) m h) (omega arith)
  more l ls v m (one-wrong r q h e) = one-wrong (suc r) (omega arith) (join l ls r m h) (rw (number r, begin r) at e)

  onward : (l : List ℕ) (ls : List (List ℕ)) (v : Result ⊤ Refusal) → MatchesFrom k at (g ∷ gs) (l ∷ ls) 0 → records_say (suc k) behind gs ls ≡ v → records_say k at (g ∷ gs) (l ∷ ls) ≡ v
  unfolding records_say behind
  onward l ls v m e = rw (record-only (suc k) at g (l ∷ ls) (Ok tt) (matching (rw (number-first, place-first) m))) e

  rest : (l : List ℕ) (ls : List (List ℕ)) (n : ℕ) → ((j : ℕ) → j < suc n → MatchesFrom k at (g ∷ gs) (l ∷ ls) j) → (j : ℕ) → j < n → MatchesFrom (suc k) behind gs ls j
  rest l ls n h j q = rw (number j, place j) (h (suc j) (omega arith))

all_said : (gs : List Group) (k at : ℕ) (ls : List (List ℕ)) → AllSaid k at gs ls (records_say k at gs ls)
unfolding records_say behind
all_said [] k at [] = all-match refl (λ j h. absurd (omega arith))
all_said [] k at (l ∷ ls) = some_left k (omega arith) (λ j h. absurd (omega arith)) (omega arith)
all_said (g ∷ gs) k at ls = go ls (record_says (suc k) at g ls) (record-said (suc k) at g ls) (all_said gs (suc k) (behind k at g gs))
  where
    go : (ls : List (List ℕ)) (v : Result ⊤ Refusal) → RecordSaid (suc k) at g ls v
        → ((left : List (List ℕ)) → AllSaid (suc k) (behind k at g gs) gs left (records_say (suc k) (behind k at g gs) gs left))
        → AllSaid k at (g ∷ gs) ls (and_then v (records_say (suc k) (behind k at g gs) gs (tail_of ls)))
    go (l ∷ left) v (matching m) h = more k at g gs l left _ m (h left)
    go ls v (wrong e) h = one-wrong 0 (omega arith) (λ j q. absurd (omega arith)) (rw (number-first k at g gs, begin-first k at g gs) at e)

-- a line without bytes does not read, so nothing matches it
no-bytes : (n start : ℕ) (g : Group) → Matches n start g [] → ⊥
unfolding index.index_line_says index.content_says fields_of content_of ends
no-bytes n start g m =
    let e = m.both.reads in
    let z : ◌≡◌ {A = ℕ} 0 1 = cc in
    omega arith

all-only : (gs : List Group) (k at : ℕ) (ls : List (List ℕ)) (v : Result ⊤ Refusal) → AllSaid k at gs ls v → records_say k at gs ls ≡ v
unfolding records_say behind
all-only [] k at [] v (all-match c h) = refl
all-only [] k at (l ∷ ls) v (all-match c h) = absurd (omega arith)
all-only [] k at [] v (some_left n e h q) = absurd (omega arith)
all-only [] k at (l ∷ ls) v (some_left n e h q) = ap (λ (m : ℕ). Err (BytesLeft m)) (omega arith)
all-only [] k at ls v (one-wrong r q h e) = absurd (omega arith)
all-only (g ∷ gs) k at ls v (one-wrong zero q h e) =
    rw (record-only (suc k) at g ls v (wrong (rw (← number-first k at g gs, ← begin-first k at g gs) at e)))
all-only (g ∷ gs) k at [] v (all-match c h) = absurd (omega arith)
all-only (g ∷ gs) k at [] v (some_left n e h q) = absurd (omega arith)
all-only (g ∷ gs) k at [] v (one-wrong (suc r) q h e) = absurd (no-bytes _ _ g (h 0 (omega arith)))
all-only (g ∷ gs) k at (l ∷ ls) v (all-match c h) =
    onward k at g gs l ls v (h 0 (omega arith)) (all-only gs (suc k) (behind k at g gs) ls v (all-match (omega arith) (rest k at g gs l ls (length gs) h)))
all-only (g ∷ gs) k at (l ∷ ls) v (some_left n e h q) =
    onward k at g gs l ls v (h 0 (omega arith)) (all-only gs (suc k) (behind k at g gs) ls v (some_left n (omega arith) (rest k at g gs l ls (length gs) h) (omega arith)))
all-only (g ∷ gs) k at (l ∷ ls) v (one-wrong (suc r) q h e) =
    onward k at g gs l ls v (h 0 (omega arith))
    (all-only gs (suc k) (behind k at g gs) ls v (one-wrong r (omega arith) (rest k at g gs l ls r h) (rw (← number k at g gs r, ← begin k at g gs r) at e)))

-- ---- a file and an index

-- what a verdict means
abbrev pub Means : List ℕ → List ℕ → Result ⊤ Refusal → Type 0
Means f i (Ok tt) = Accepts f i
Means f i (Err x) = FirstFault f i x

module _ (f i : List ℕ) where
  abbrev gs : List Group
  gs = groups (lines f)

  from_start : (n : ℕ) → ((j : ℕ) → j < n → MatchesFrom 0 0 gs (lines i) j) → (j : ℕ) → j < n → MatchesAt f i j
  from_start n h j q = rw (zero-add j, zero-add (sequence_at gs j)) at (h j q)

  to_start : (n : ℕ) → ((j : ℕ) → j < n → MatchesAt f i j) → (j : ℕ) → j < n → MatchesFrom 0 0 gs (lines i) j
  to_start n h j q = rw (zero-add j, zero-add (sequence_at gs j)) (h j q)

  all-mean : Fit f i → (v : Result ⊤ Refusal) → AllSaid 0 0 gs (lines i) v → Means f i v
  all-mean l v (all-match c h) = record { limits = l; count = c; each = from_start (length gs) h }
  all-mean l v (some_left n e h q) = rw (e, zero-add) (lines_left l (from_start (length gs) h) q)
  all-mean l v (one-wrong r q h e) = wrong-record l r q (from_start r h) (rw (zero-add r, zero-add (definition_at gs r)) at e)

  pub check-means : Means f i (check_of f i)
  unfolding check_of over_limit
  check-means = go (ltb limit (length f)) refl (ltb limit (length i)) refl
    where
      go : (s : Bool) → ltb limit (length f) ≡ s → (t : Bool) → ltb limit (length i) ≡ t
          → Means f i (cond s (Err TooLong) (cond t (Err TooLong) (records_say 0 0 gs (lines i))))
      go true h t k = long-fasta (ltb-true _ _ h)
      go false h true k = long-index (ltb-false _ _ h) (ltb-true _ _ k)
      go false h false k = all-mean (record { fasta = ltb-false _ _ h; index = ltb-false _ _ k }) _ (all_said gs 0 0 (lines i))

  -- within the limit the records decide
  within : Fit f i → (v : Result ⊤ Refusal) → AllSaid 0 0 gs (lines i) v → check_of f i ≡ v
  unfolding check_of over_limit
  within l v s = rw (le-ltb _ _ l.fasta, le-ltb _ _ l.index) (all-only gs 0 0 (lines i) v s)

  pub check-only : (v : Result ⊤ Refusal) → Means f i v → check_of f i ≡ v
  check-only (Ok tt) m = within m.limits (Ok tt) (all-match m.count (to_start (length gs) m.each))
  check-only (Err x) (long-fasta h) = unfold check_of over_limit in rw (lt-ltb _ _ h)
  check-only (Err x) (long-index h k) = unfold check_of over_limit in rw (le-ltb _ _ h, lt-ltb _ _ k)
  check-only (Err x) (wrong-record l r q h e) = within l (Err x) (one-wrong r q (to_start r h) (rw (zero-add r, zero-add (definition_at gs r)) e))
  check-only (Err x) (lines_left l h q) = within l (Err x) (some_left (length gs) (sym (zero-add (length gs))) (to_start (length gs) h) q)
