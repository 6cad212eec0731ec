-- Refusals 2 to 4 of the checker come from a definition line alone: an index line that does not read is refused with a number of 9 or more.
use Rattle.std.specs.Prelude.{ℕ, zero, suc, ◌≤◌, ◌≡◌, refl, List, [], ◌∷◌, Bool, true, false, cond, length, Option, Some, None, Result, Ok, Err}
use Rattle.std.proofs.Common.{arith}
use Rattle.columns.specs.declared.fields.Field.{Field}
use Rattle.refusal.specs.Numbers.{numbers_of}
use Rattle.refusal.specs.declared.Refusal.{Refusal}
use Rattle.refusal.specs.declared.Refusal.TheVariants.{EmptyIndexLine, FieldAbsent, NotANumber, ZeroField}
use Rattle.lines.specs.Lines.{content_of}
use Rattle.lines.specs.Groups.{Group}
use Rattle.columns.specs.Decimal.{number_of, plain_number}
use Rattle.columns.specs.Fields.{zero_barred, placed, field_says, Numbers, front, numbers_from}
use Rattle.columns.specs.Fields.Numbers.{Are, Not}
use Rattle.index_line.specs.IndexLine.{fields_of, entry_read, fields_say, plain_end, only_if}
use Rattle.index_line.specs.IndexLine as index
use Rattle.checker.specs.FirstFault.{LineFault}
use Rattle.checker.specs.FirstFault.LineFault.{bad-line, other_name, other_length, other_place}

-- a refusal's number is 9 or more
abbrev pub High : Refusal → Type 0
High x = 9 ≤ (numbers_of x).refusal

field-high : (line place : ℕ) (f : List ℕ) (x : Refusal) → field_says line place f ≡ Err x → High x
unfolding field_says numbers_of
field-high line place f x h = go (number_of f) h
  where
    zero_high : (t : Bool) (v : ℕ) → cond {A = Result Field Refusal} t (Err (ZeroField line place)) (Ok (record { value = v; length = length f; plain = plain_number f })) ≡ Err x → High x
    zero_high true v k = let e : ZeroField line place ≡ x = cc in rw (← e) (omega arith)
    zero_high false v k = let z : ◌≡◌ {A = ℕ} 0 1 = cc in absurd (omega arith)

    go : (v : Option ℕ) → placed line place (length f) (plain_number f) v ≡ Err x → High x
    go None k = let e : NotANumber line place ≡ x = cc in rw (← e) (omega arith)
    go (Some v) k = zero_high (zero_barred place v) v k

numbers-high : (line place k : ℕ) (fs : List (List ℕ)) (x : Refusal) → numbers_from line place k fs ≡ Not x → High x
unfolding numbers_from numbers_of
numbers-high line place zero fs x h = let z : ◌≡◌ {A = ℕ} 0 1 = cc in absurd (omega arith)
numbers-high line place (suc k) [] x h = let e : FieldAbsent line place ≡ x = cc in rw (← e) (omega arith)
numbers-high line place (suc k) (f ∷ fs) x h = go (field_says line place f) refl (numbers_from line (suc place) k fs) (numbers-high line (suc place) k fs) h
  where
    go : (r : Result Field Refusal) → field_says line place f ≡ r → (ns : Numbers) → ((y : Refusal) → ns ≡ Not y → High y) → front r ns ≡ Not x → High x
    go (Err y) e ns m q = let v : y ≡ x = cc in rw (← v) (field-high line place f y e)
    go (Ok g) e (Not y) m q = let v : y ≡ x = cc in rw (← v) (m y refl)
    go (Ok g) e (Are vs p) m q = let z : ◌≡◌ {A = ℕ} 0 1 = cc in absurd (omega arith)

line-high : (n : ℕ) (l : List ℕ) (x : Refusal) → index.index_line_says n l ≡ Err x → High x
unfolding index.index_line_says index.content_says numbers_of
line-high n l x h = go (fields_of (content_of l)) h
  where
    numbers : (name : List ℕ) (ns : Numbers) → ((y : Refusal) → ns ≡ Not y → High y) → only_if (plain_end l) (entry_read (length name) ns) ≡ Err x → High x
    numbers name (Not y) k q = let v : y ≡ x = cc in rw (← v) (k y refl)
    numbers name (Are vs p) k q = let z : ◌≡◌ {A = ℕ} 0 1 = cc in absurd (omega arith)

    go : (fs : List (List ℕ)) → only_if (plain_end l) (fields_say n fs) ≡ Err x → High x
    go [] q = let v : EmptyIndexLine n ≡ x = cc in rw (← v) (omega arith)
    go (name ∷ fs) q = numbers name (numbers_from n 2 4 fs) (numbers-high n 2 4 fs) q

-- what is wrong between a record and its line
pub fault-high : (n start : ℕ) (g : Group) (l : List ℕ) (x : Refusal) → LineFault n start g l x → High x
unfolding numbers_of
fault-high n start g l x (bad-line y h) = line-high n l y h
fault-high n start g l x (other_name b k) = omega arith
fault-high n start g l x (other_length b s k) = omega arith
fault-high n start g l x (other_place b s c j m u k) = omega arith
