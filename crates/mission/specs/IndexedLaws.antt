-- Laws of an indexed file: a record's lines, and index lines one after another.
use Prim.Native.Nat.{ℕ, zero, suc, ◌+◌, ◌-◌, ◌≤◌, ◌<◌}
use Rattle.std.specs.Prelude.{◌≡◌, Bool, true, false, cond, ◌&&◌, get_or, take, drop, eqb, leb, ltb, Result, Ok, Err, ⊤}
use Rattle.std.proofs.Math.Path.{refl, sym}
use Rattle.std.proofs.Common.{ap, ◌∙◌, true≢false, length-drop, drop_of_length-le, drop-drop, take-take, take_at}
use mathlib.Core.List.{List, [], ◌∷◌, ◌++◌, append_assoc, append-nil}
use Rattle.std.proofs.Math.ListN.{length}
use borrow.Author.Tests.{ne_eqb, eqb-true, eqb-false, leb-true, leb-false, ltb-false, le-ltb}
use native.Mathlib.Omega.{arith}
use Rattle.std.proofs.Math.Nat.{zero-add}
use Rattle.definition.specs.declared.Fault.{Fault}
use Rattle.refusal.specs.declared.Refusal.{Refusal}
use Rattle.refusal.specs.Numbers.{over_limit}
use Rattle.refusal.specs.declared.Refusal.TheVariants.{TooLong, TableFull, NoBases, LineBases, LineWidth}
use Rattle.lines.specs.Lines.{lines, bases_of, seq_of, first_line, none, sum_bases, sum_widths, bases_at}
use Rattle.lines.specs.Laws.{part_slice}
use Rattle.lines.specs.Groups.{Group, groups}
use Rattle.lines.specs.GroupLaws.{after_seq, groups-cut, lines_next}
use Rattle.lines.specs.declared.Line.{Line}
use Rattle.lines.specs.declared.Span.{Span}
use Rattle.definition.specs.Definition.{is_space, definition_says}
use Rattle.definition.specs.Laws.{name-within, description-within}
use Rattle.definition.specs.declared.Definition.{Definition}
use Rattle.record.specs.Bases.{line-front}
use Rattle.record.specs.Place.{place_in}
use Rattle.record.specs.Description.{described_at}
use Rattle.table.specs.Rows.{row_count, with_rows, named_at}
use Rattle.table.specs.RowLaws.{sound-row, named-row, name-inside, held-stored}
use Rattle.record.specs.EvenLines.{EvenLines, even_place, length-bases_at}
use Rattle.record.specs.EvenLines.EvenLines.{none as no_more, last as last_Line, more as line-more}
use Rattle.record.specs.declared.Record.{Record}
use Rattle.table.specs.Fill.{Found, nothing, with_first, held_in}
use Rattle.table.specs.Laws.{held_all}
use Rattle.columns.specs.Bytes.{is, first_where}
use Rattle.output.specs.Outcome.{gives, pours}
use Rattle.columns.specs.Fields.{numbers_text, text_of, splits, text_written}
use Rattle.columns.specs.Lacks.{Lacks, lacks-head, lacks-tail, lacks_less, text-lacks}
use Rattle.index_line.specs.IndexLine.{entry_of, columns_of, name_of, name_in}
use Rattle.index_line.specs.IndexLine as index
use Rattle.columns.specs.Numbers.{both}
use Rattle.index_line.specs.Laws.{Lined, line-sound}
use Rattle.index_line.specs.RoundTrip.{written-reads}
use Rattle.indexer.specs.Rule.{Verdict, good, bad, SequenceRule, judged_by, sequence_by, defined_by, stepped, group_by, groups_by, file_by, call_by}
use Rattle.indexer.specs.Index.{line_of, fits_last, rest_of, judge, row_of}
use Rattle.index.specs.Index.{index_at, index_in}
use Rattle.checker.specs.Check.{span_of}
use Rattle.checker.specs.Accepts.{bytes_of, record_at, sequence_at, limit}
use Rattle.lines.specs.Sums.{widths-seq, widths-lines}
use Rattle.mission.specs.NameLaws.{not-space}

-- ---- the first line of some bytes

-- the bytes of a span of a line, which begins at an offset, are those in the file
pub span-bytes : (f : List ℕ) (at : ℕ) (l : List ℕ) (ls : List (List ℕ)) (p : Span) → lines (drop at f) ≡ l ∷ ls → p.start + p.length ≤ length l
    → take p.length (drop (at + p.start) f) ≡ span_of l p
span-bytes f at l ls p h w =
    let a : ℕ = p.start in
    let n : ℕ = p.length in
    let s : List ℕ = drop at f in
    rw (← drop-drop a at f)
    (sym (take-take n (length l - a) (drop a s) (omega arith)) ∙ ap (take n) (part_slice s a (length l) (omega arith) ∙ ap (drop a) (line-front s l ls h)))

-- so a name's bytes in the file are those in its definition line
pub name-bytes : (f : List ℕ) (at : ℕ) (l : List ℕ) (ls : List (List ℕ)) (d : Definition) (q : List (List ℕ)) → lines (drop at f) ≡ l ∷ ls → definition_says l ≡ Ok d
    → name_in f (row_of at (length l) d q) ≡ span_of l d.name
unfolding name_in
name-bytes f at l ls d q h e = span-bytes f at l ls d.name h (name-within l d e).2

-- a description that lies in its line, which begins at an offset and lies in the file, lies in the file
pub description-inside : (f l : List ℕ) (at : ℕ) (d : Definition) → definition_says l ≡ Ok d → at + length l ≤ length f
    → described_at (at + d.description.start) d.description.length + d.description.length ≤ length f
description-inside f l at d e h = go d.description.length refl
  where
    go : (n : ℕ) → d.description.length ≡ n → described_at (at + d.description.start) n + n ≤ length f
    go zero q = omega arith
    go (suc n) q = omega (arith, (description-within l d e).0, q)

-- the sequence behind it lies in the file
pub sequence-within : (f : List ℕ) (at : ℕ) (l : List ℕ) (ls : List (List ℕ)) → lines (drop at f) ≡ l ∷ ls → at + length l + sum_widths (seq_of ls) ≤ length f
unfolding sum_widths lines
sequence-within f at l ls h = go (leb (length f) at) refl
  where
    go : (t : Bool) → leb (length f) at ≡ t → at + length l + sum_widths (seq_of ls) ≤ length f
    go true e =
        let n : drop at f ≡ [] = drop_of_length-le f (leb-true (length f) at e) in
        let z : ◌≡◌ {A = ℕ} 0 1 = cc (ap lines n) in
        absurd (omega arith)
    go false e = omega (arith, leb-false (length f) at e, widths-lines (drop at f), ap sum_widths h, length-drop at f, widths-seq ls)

-- ---- the first group of a file from an offset on

pub record FirstGroup (f : List ℕ) (at : ℕ) (g : Group) (gs : List Group) : Type 0 where
  pub others : List (List ℕ)
  pub here : lines (drop at f) ≡ g.def ∷ others
  pub sequence : seq_of others ≡ g.seq
  pub behind : groups (lines (drop (at + length g.def + sum_widths g.seq) f)) ≡ gs

pub first_group : (f : List ℕ) (at : ℕ) (g : Group) (gs : List Group) → groups (lines (drop at f)) ≡ g ∷ gs → FirstGroup f at g gs
unfolding groups
first_group f at g gs h = go (lines (drop at f)) refl h
  where
    go : (ls : List (List ℕ)) → lines (drop at f) ≡ ls → groups ls ≡ g ∷ gs → FirstGroup f at g gs
    go [] e k = let z : ◌≡◌ {A = ℕ} 0 1 = cc in absurd (omega arith)
    go (l ∷ ls) e k =
        let c : record { def = l; seq = seq_of ls } ∷ groups (after_seq ls) ≡ g ∷ gs = sym (groups-cut l ls) ∙ k in
        let first : record { def = l; seq = seq_of ls } ≡ g = cc in
        let rest : groups (after_seq ls) ≡ gs = cc in
        rw (← first) (record { others = ls; here = e; sequence = refl; behind = ap groups (lines_next f at l ls e) ∙ rest })

-- ---- a good record

-- what is known of a line that may be the last
fits-known : (last : Bool) (l first : Line) → fits_last last l first ≡ true → (last ≡ true) × (l.bases ≤ first.bases)
unfolding fits_last
fits-known last l first h =
    let k = both (last && leb l.width first.width) (leb l.bases first.bases) h in
    ((both last (leb l.width first.width) k.0).0, leb-true _ _ k.1)

-- the lines after the first are even
rest-even : (first : Line) (ls : List (List ℕ)) → rest_of first ls ≡ good → EvenLines first.bases first.width ls
unfolding rest_of sum_bases
rest-even first [] h = no_more refl
rest-even first (l ∷ ls) h =
    go (fits_last (none ls) (line_of l) first) refl (eqb (length (bases_of l)) first.bases) refl (eqb (length l) first.width) refl (rest-even first ls) h
  where
    only : (m : List (List ℕ)) → none m ≡ true → length (bases_of l) ≤ first.bases → EvenLines first.bases first.width (l ∷ m)
    only [] e k = last_Line k refl
    only (x ∷ m) e k = absurd (true≢false (sym e))

    go : (a : Bool) → fits_last (none ls) (line_of l) first ≡ a → (b : Bool) → eqb (length (bases_of l)) first.bases ≡ b → (c : Bool) → eqb (length l) first.width ≡ c
        → (rest_of first ls ≡ good → EvenLines first.bases first.width ls)
        → cond a good (cond b (cond c (rest_of first ls) (bad (LineWidth (length l) first.width))) (bad (LineBases (length (bases_of l)) first.bases))) ≡ good
        → EvenLines first.bases first.width (l ∷ ls)
    go true p b q c r f k = let t = fits-known (none ls) (line_of l) first p in only ls t.0 t.1
    go false p true q true r f k = line-more (eqb-true _ _ q) (eqb-true _ _ r) (f k)
    go false p true q false r f k = let z : ◌≡◌ {A = ℕ} 0 1 = cc in absurd (omega arith)
    go false p false q c r f k = let z : ◌≡◌ {A = ℕ} 0 1 = cc in absurd (omega arith)

-- a good record's lines are even, and its first line has a base
pub good-even : (at : ℕ) (ls : List (List ℕ)) → judge at ls ≡ good → EvenLines (first_line ls).bases (first_line ls).width ls × (1 ≤ (first_line ls).bases)
unfolding judge
good-even at [] h = let z : ◌≡◌ {A = ℕ} 0 1 = cc in absurd (omega arith)
good-even at (l ∷ ls) h = go (eqb (length (bases_of l)) 0) refl h
  where
    go : (t : Bool) → eqb (length (bases_of l)) 0 ≡ t → cond t (bad (NoBases (at + length l))) (rest_of (line_of l) ls) ≡ good
        → EvenLines (length (bases_of l)) (length l) (l ∷ ls) × (1 ≤ length (bases_of l))
    go true e k = let z : ◌≡◌ {A = ℕ} 0 1 = cc in absurd (omega arith)
    go false e k = (line-more refl refl (rest-even (line_of l) ls k), omega (arith, eqb-false (length (bases_of l)) 0 e))

-- so every base is where the numbers of its row say
pub good-places : (at n : ℕ) (d : Definition) (ls : List (List ℕ)) → judge (at + n) ls ≡ good
    → (j : ℕ) → j < sum_bases ls → get_or (bases_at (at + n) ls) j 0 ≡ place_in (row_of at n d ls) j
good-places at n d ls h j m =
    let e = good-even (at + n) ls h in
    even_place (first_line ls).bases (first_line ls).width e.1 (at + n) ls e.0 j (rw length-bases_at m)

-- the first line is one of them
pub first-within : (ls : List (List ℕ)) → (first_line ls).width ≤ sum_widths ls
unfolding sum_widths
first-within [] = omega arith
first-within (l ∷ ls) = omega arith

-- ---- the rows of a file by a rule, group by group

-- what a group, which begins at an offset, adds: its row, or the refusal that ends the file
data GroupSaid (rule : SequenceRule) (at : ℕ) (g : Group) (behind : ℕ → Found) : Found → Type 0 where
  its-row : (d : Definition) → definition_says g.def ≡ Ok d → rule.judge (at + length g.def) g.seq ≡ good
      → GroupSaid rule at g behind (with_first (rule.row at (length g.def) d g.seq) (behind (at + length g.def + sum_widths g.seq)))
  its-refusal : (x : Refusal) → GroupSaid rule at g behind (nothing (Err x))

group-said : (rule : SequenceRule) (at : ℕ) (g : Group) (behind : ℕ → Found) → GroupSaid rule at g behind (stepped (group_by rule at g) behind)
unfolding sequence_by
group-said rule at g behind = go (definition_says g.def) refl
  where
    judged : (d : Definition) → definition_says g.def ≡ Ok d → (v : Verdict) → rule.judge (at + length g.def) g.seq ≡ v
        → GroupSaid rule at g behind (stepped (judged_by rule at (length g.def) d g.seq v) behind)
    judged d h good e = its-row d h e
    judged d h (bad x) e = its-refusal x

    go : (p : Result Definition Fault) → definition_says g.def ≡ p → GroupSaid rule at g behind (stepped (defined_by rule at (length g.def) g.seq p) behind)
    go (Ok d) h = judged d h (rule.judge (at + length g.def) g.seq) refl
    go (Err x) h = its-refusal _

-- rows along groups that begin at an offset, and why there are no more: P holds of each group, its row, and where its sequence begins
pub data Along (P : ℕ → Group → Record → Type 0) : ℕ → List Group → List Record → Result ⊤ Refusal → Type 0 where
  at-end : {at : ℕ} → Along P at [] [] (Ok tt)
  refused : {at : ℕ} {gs : List Group} {x : Refusal} → Along P at gs [] (Err x)
  row : {at : ℕ} {g : Group} {gs : List Group} {x : Record} {xs : List Record} {s : Result ⊤ Refusal} → P (at + length g.def) g x
      → Along P (at + length g.def + sum_widths g.seq) gs xs s → Along P at (g ∷ gs) (x ∷ xs) s

-- what holds of the row of every group of a file holds along its rows
module _ (rule : SequenceRule) (P : ℕ → Group → Record → Type 0) (f : List ℕ)
    (holds : (at : ℕ) (g : Group) (gs : List Group) (d : Definition) → FirstGroup f at g gs → definition_says g.def ≡ Ok d → rule.judge (at + length g.def) g.seq ≡ good
    → P (at + length g.def) g (rule.row at (length g.def) d g.seq)) where
  along-groups : (gs : List Group) (at : ℕ) → groups (lines (drop at f)) ≡ gs → Along P at gs (groups_by rule gs at).rows (groups_by rule gs at).stop
  unfolding groups_by
  along-groups [] at h = at-end
  along-groups (g ∷ gs) at h = go _ (group-said rule at g (groups_by rule gs)) (first_group f at g gs h) (along-groups gs)
    where
      go : (r : Found) → GroupSaid rule at g (groups_by rule gs) r → FirstGroup f at g gs
          → ((o : ℕ) → groups (lines (drop o f)) ≡ gs → Along P o gs (groups_by rule gs o).rows (groups_by rule gs o).stop) → Along P at (g ∷ gs) r.rows r.stop
      go r (its-row d e j) k more = row (holds at g gs d k e j) (more (at + length g.def + sum_widths g.seq) k.behind)
      go r (its-refusal x) k more = refused

  pub along-file : Along P 0 (groups (lines f)) (file_by rule f 0).rows (file_by rule f 0).stop
  unfolding file_by
  along-file = along-groups (groups (lines f)) 0 refl

-- what follows of each row
pub along-map : {P Q : ℕ → Group → Record → Type 0} → ((start : ℕ) (g : Group) (x : Record) → P start g x → Q start g x)
    → {at : ℕ} {gs : List Group} {xs : List Record} {s : Result ⊤ Refusal} → Along P at gs xs s → Along Q at gs xs s
along-map m at-end = at-end
along-map m refused = refused
along-map m (row d h) = row (m _ _ _ d) (along-map m h)

module _ {P : ℕ → Group → Record → Type 0} where
  -- by the number of a row
  pub along-at : {at : ℕ} {gs : List Group} {xs : List Record} {s : Result ⊤ Refusal} → Along P at gs xs s
      → (y : Record) (k : ℕ) → k < length xs → P (at + sequence_at gs k) (record_at gs k) (get_or xs k y)
  unfolding bytes_of
  along-at at-end y k m = absurd (omega arith)
  along-at refused y k m = absurd (omega arith)
  along-at (row d h) y zero m = rw zero-add d
  along-at (row {at} {g} {gs} d h) y (suc k) m =
      let q : at + length g.def + sum_widths g.seq + sequence_at gs k ≡ at + sequence_at (g ∷ gs) (suc k) = omega arith in
      rw (← q) (along-at h y k (omega arith))

  -- no more rows than groups
  pub along-most : {at : ℕ} {gs : List Group} {xs : List Record} {s : Result ⊤ Refusal} → Along P at gs xs s → length xs ≤ length gs
  along-most at-end = omega arith
  along-most refused = omega arith
  along-most (row d h) = omega (arith, along-most h)

  -- as many, if all were taken
  pub along-all : {at : ℕ} {gs : List Group} {xs : List Record} {s : Result ⊤ Refusal} → Along P at gs xs s → s ≡ Ok tt → length xs ≡ length gs
  along-all at-end e = refl
  along-all refused e = let z : ◌≡◌ {A = ℕ} 0 1 = cc in absurd (omega arith)
  along-all (row d h) e = ap suc (along-all h e)

-- ---- index lines

-- bytes without an LF, in front of others, begin their first line
front-line : (c s l : List ℕ) (ls : List (List ℕ)) → Lacks (is 10) c → lines s ≡ l ∷ ls → lines (c ++ s) ≡ (c ++ l) ∷ ls
unfolding lines
front-line [] s l ls h e = e
front-line (b ∷ c) s l ls h e = rw (front-line c s l ls (lacks-tail (is 10) b c h) e, lacks-head (is 10) b c h)

-- the line of a name and some numbers, in front of others, is the first line; its name is at its front
module _ (name ns r : List ℕ) where
  pub text-first : Lacks (is 10) name → lines (text_of name ns ++ r) ≡ text_of name ns ∷ lines r
  unfolding text_of lines
  text-first h =
      let t : List ℕ = numbers_text ns in
      rw (append_assoc name (t ++ (10 ∷ [])) r, append_assoc t (10 ∷ []) r)
      (front-line name (t ++ (10 ∷ r)) (t ++ (10 ∷ [])) (lines r) h
      (front-line t (10 ∷ r) (10 ∷ []) (lines r) (text-lacks (is 10) (λ b k. ne_eqb b 10 (λ e. omega arith)) refl ns) refl))

  pub text-name : take (length name) (text_of name ns ++ r) ≡ name
  unfolding text_of
  text-name =
      let t : List ℕ = numbers_text ns ++ (10 ∷ []) in
      rw (append_assoc name t r) (take_at name (t ++ r) (length name) refl)

module _ (name : List ℕ) (x : Record) where
  -- the same of an index line
  pub first-line : (r : List ℕ) → Lacks (is 10) name → lines (index.line_of name x ++ r) ≡ index.line_of name x ∷ lines r
  unfolding index.line_of
  first-line r h = text-first name (columns_of x) r h

  pub line-name : (r : List ℕ) → take (length name) (index.line_of name x ++ r) ≡ name
  unfolding index.line_of
  line-name r = text-name name (columns_of x) r

  -- and is the name that is read
  pub name-read : Lacks (is 9) name → Lined x → name_of (index.line_of name x) ≡ name
  unfolding entry_of
  name-read h p = sym (line-sound 1 (index.line_of name x) (entry_of (length name) x) (written-reads 1 name x h p)).name ∙ (rw append-nil at (line-name []))

-- ---- a file that the call takes to its end

held-ended : (n : ℕ) (r : Found) → (held_in n n r).stop ≡ Ok tt → length r.rows ≤ n
unfolding held_in
held-ended n r h = go (ltb n (length r.rows)) refl h
  where
    go : (t : Bool) → ltb n (length r.rows) ≡ t → (cond t (record { rows = take n r.rows; stop = Err (TableFull n) }) r).stop ≡ Ok tt → length r.rows ≤ n
    go true e k = let z : ◌≡◌ {A = ℕ} 0 1 = cc in absurd (omega arith)
    go false e k = ltb-false _ _ e

within-ended : (m : ℕ) (r : Found) → (cond (over_limit m) (nothing (Err TooLong)) r).stop ≡ Ok tt → (m ≤ limit) × (r.stop ≡ Ok tt)
unfolding over_limit
within-ended m r h = go (ltb limit m) refl h
  where
    go : (t : Bool) → ltb limit m ≡ t → (cond t (nothing (Err TooLong)) r).stop ≡ Ok tt → (m ≤ limit) × (r.stop ≡ Ok tt)
    go true e k = let z : ◌≡◌ {A = ℕ} 0 1 = cc in absurd (omega arith)
    go false e k = (ltb-false _ _ e, k)

-- it is within the limit, the table has room for its rows, and they are all
pub record Taken (rule : SequenceRule) (f : List ℕ) (n : ℕ) : Type 0 where
  pub fits : length f ≤ limit
  pub room : length (file_by rule f 0).rows ≤ n
  pub whole : call_by rule f n ≡ file_by rule f 0
  pub ended : (file_by rule f 0).stop ≡ Ok tt

pub taken : (rule : SequenceRule) (f : List ℕ) (n : ℕ) → (call_by rule f n).stop ≡ Ok tt → Taken rule f n
unfolding call_by over_limit
taken rule f n h =
    let w = within-ended (length f) (held_in n n (file_by rule f 0)) h in
    let r = held-ended n (file_by rule f 0) w.1 in
    let a = held_all n n (file_by rule f 0) r in
    record { fits = w.0; room = r; whole = rw (le-ltb _ _ w.0) a; ended = rw a at w.1 }

-- an index within the limit, whose rows a table has room for, is read whole
pub index-whole : (t : List ℕ) (n : ℕ) → length t ≤ limit → length (index_at t 1 0).rows ≤ n → index_in t n ≡ index_at t 1 0
unfolding index_in over_limit
index-whole t n h k = rw (le-ltb _ _ h) (held_all n n (index_at t 1 0) k)

-- ---- writing the line of a row

-- a name without whitespace has no tab and no LF, so it and some numbers are written, if there is room
pub text-fronted : (name ns out : List ℕ) → Lacks is_space name → text_written name ns out ≡ pours (text_of name ns) out
unfolding is_space text_written
text-fronted name ns out h =
    let s : Lacks splits name = lacks_less is_space splits (λ b e. rw (not-space 9 b refl e, not-space 10 b refl e)) name h in
    rw (le-ltb (first_where splits name) (length name) (omega arith))

pub text-written : (name ns out : List ℕ) → Lacks is_space name → length (text_of name ns) ≤ length out
    → text_written name ns out ≡ gives (text_of name ns) out
unfolding pours
text-written name ns out h r = text-fronted name ns out h ∙ rw (le-ltb _ _ r)

-- a row of a table that was filled with some holds its record, if its name and its description lie in the bytes
pub row-held : (t : List ℕ) (xs : List Record) (d : Record) (k bytes : ℕ) → length xs ≤ row_count t → k < length xs → Lined (get_or xs k d)
    → (get_or xs k d).name_start + (get_or xs k d).name_length ≤ bytes → (get_or xs k d).description_start + (get_or xs k d).description_length ≤ bytes
    → named_at (with_rows t 0 xs) (length xs) k bytes ≡ Ok (get_or xs k d)
row-held t xs d k bytes h m p n i =
    named-row (with_rows t 0 xs) (length xs) k bytes (get_or xs k d)
    (held-stored t d xs k h m ∙ sym (sound-row k (get_or xs k d) (λ e. omega (arith, p.some-bases)) (λ e. omega (arith, p.some-width))))
    ∙ sym (name-inside k (get_or xs k d) bytes n i)
