-- Laws for RoundTrip.antt: the content of a written line, what the call wrote, and the text of what was read.
use Rattle.std.specs.Prelude.{ℕ, zero, suc, ◌+◌, ◌^◌, ◌≤◌, ◌<◌, ◌≡◌, refl, List, [], ◌∷◌, ◌++◌, Bool, true, false, cond, length, get_or, take, eqb, Result, Ok, Err}
use Rattle.std.proofs.Common.{sym, ap, ◌∙◌, arith, length-append, length-take, length-drop, take_at, take-take, length-take-le, ne_eqb}
use Rattle.std.proofs.Math.Bool.{and-false}
use Rattle.refusal.specs.declared.Refusal.{Refusal}
use Rattle.refusal.specs.Numbers.{over_limit}
use Rattle.refusal.specs.declared.Refusal.TheVariants.{TooLong}
use Rattle.lines.specs.Lines.{ends}
use Rattle.record.specs.declared.Record.{Record}
use Rattle.table.specs.Rows.{named_at, row_at}
use Rattle.table.specs.RowLaws.{HeldRow, named-known}
use Rattle.columns.specs.Bytes.{is}
use Rattle.columns.specs.Decimal.{decimal_of}
use Rattle.output.specs.Outcome.{leaves, refuses}
use Rattle.output.specs.Laws.{no-bytes}
use Rattle.columns.specs.Fields.{cut_at, tabbed, numbers_text, text_of}
use Rattle.columns.specs.Writing.{TextPut, text-known}
use Rattle.columns.specs.Lacks.{Lacks, lacks-ends, text-lacks}
use Rattle.columns.specs.Numbers.{Allowed, text-reads, reads_say}
use Rattle.columns.specs.Cut.{text-cut}
use Rattle.index_line.specs.Ends.{ends-behind}
use Rattle.index_line.specs.IndexLine.{entry_of, fields_of, record_of, content_says, columns_of, name_in, row_written, line_written, written_as}
use Rattle.index_line.specs.Laws.{Lined}

pub lined-allowed : (x : Record) → Lined x → (i : ℕ) → i < 4 → Allowed (2 + i) (get_or (columns_of x) i 0)
lined-allowed x p zero h = (p.fits-length, and-false (eqb x.length 0))
lined-allowed x p (suc zero) h = (p.fits-position, and-false (eqb x.position.0 0))
lined-allowed x p (suc (suc zero)) h = (p.fits-bases, rw (ne_eqb x.line_bases 0 (λ e. omega (arith, p.some-bases))))
lined-allowed x p (suc (suc (suc zero))) h = (p.fits_width, rw (ne_eqb x.line_width 0 (λ e. omega (arith, p.some-width))))
lined-allowed x p (suc (suc (suc (suc i)))) h = absurd (omega arith)

-- a name without a tab and numbers, as content
fields-some : (l : List ℕ) → 0 < length l → fields_of l ≡ cut_at 4 l
unfolding fields_of
fields-some [] h = absurd (omega arith)
fields-some (b ∷ l) h = refl

pub content-written : (line : ℕ) (name : List ℕ) (x : Record) → Lacks (is 9) name → Lined x → content_says line (name ++ numbers_text (columns_of x)) ≡ Ok (entry_of (length name) x)
unfolding content_says entry_of tabbed
content-written line name x h p =
    rw (fields-some (name ++ numbers_text (columns_of x)) (simp length-append (omega arith)), text-cut name (columns_of x) h, reads_say line (text-reads (columns_of x) 2 (lined-allowed x p)))

pub ends-digit : (name : List ℕ) (n : ℕ) (ns : List ℕ) → ends 13 (name ++ numbers_text (n ∷ ns)) ≡ false
unfolding tabbed
ends-digit name n ns =
    ends-behind 13 name 9 (decimal_of n ++ numbers_text ns)
    ∙ lacks-ends 13 (numbers_text (n ∷ ns)) (text-lacks (is 13) (λ b l. ne_eqb b 13 (λ e. omega arith)) refl (n ∷ ns))

-- a name inside the bytes has its length
pub name-long : (names : List ℕ) (x : Record) → x.name_start + x.name_length ≤ length names → length (name_in names x) ≡ x.name_length
unfolding name_in
name-long names x h = length-take-le _ _ (simp length-drop (omega arith))

-- what is known of a line that the call wrote: the row's, in k bytes at the front of the output
pub record LineWritten (names t : List ℕ) (n r : ℕ) (out : List ℕ) (k : ℕ) (after : List ℕ) : Type 0 where
  pub row : Record
  pub held : named_at t n r (length names) ≡ Ok row
  pub name : length (name_in names row) ≡ row.name_length
  pub put : TextPut (name_in names row) (columns_of row) out k after

pub line-written : (names t : List ℕ) (n r : ℕ) (out : List ℕ) (k : ℕ) (after : List ℕ) → written_as names t n r out ≡ leaves (Ok k) after
    → LineWritten names t n r out k after
unfolding written_as line_written
line-written names t n r out k after h = go (over_limit (length names)) (named_at t n r (length names)) refl h
  where
    go : (u : Bool) (o : Result Record Refusal) → named_at t n r (length names) ≡ o → cond u (refuses TooLong out) (row_written names out o) ≡ leaves (Ok k) after
        → LineWritten names t n r out k after
    go true o e q = absurd (no-bytes _ out k after q)
    go false (Err f) e q = absurd (no-bytes _ out k after q)
    go false (Ok x) e q =
        record { row = x; held = e; name = name-long names x (named-known t n r (length names) x e).1; put = text-known (name_in names x) (columns_of x) out k after q }

-- the numbers of a table, which is one of 64-bit numbers
pub row-lined : (t : List ℕ) (n r : ℕ) (x : Record) → ((i : ℕ) → get_or t i 0 < 2 ^ 64) → HeldRow t n r x → Lined x
unfolding row_at
row-lined t n r x f h = let e = h.numbers in
    record { some-bases = h.some-bases; some-width = h.some-width; fits-length = rw e (f _); fits-position = rw e (f _); fits-bases = rw e (f _); fits_width = rw e (f _) }

-- the front of a line's bytes is its name
pub line-front : (name : List ℕ) (x : Record) (k : ℕ) (after : List ℕ) → take k after ≡ text_of name (columns_of x) → take (length name) after ≡ name
unfolding text_of
line-front name x k after e =
    let rest : List ℕ = numbers_text (columns_of x) ++ (10 ∷ []) in
    let n : length name ≤ k = omega (arith, ap length e, length-append name rest, length-take k after) in
    sym (take-take (length name) k after n) ∙ (ap (take (length name)) e ∙ take_at name rest (length name) refl)

-- four numbers that were read stand in the line again
pub four : (vs : List ℕ) (n : ℕ) → length vs ≡ 4 → columns_of (record_of n vs) ≡ vs
four [] n h = absurd (omega arith)
four (a ∷ []) n h = absurd (omega arith)
four (a ∷ b ∷ []) n h = absurd (omega arith)
four (a ∷ b ∷ c ∷ []) n h = absurd (omega arith)
four (a ∷ b ∷ c ∷ d ∷ []) n h = refl
four (a ∷ b ∷ c ∷ d ∷ e ∷ r) n h = absurd (omega arith)
