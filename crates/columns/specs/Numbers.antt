-- Fields that read as numbers, by what each is; and that numbers as they are written read so.
use Rattle.std.specs.Prelude.{ℕ, zero, suc, ◌+◌, ◌^◌, ◌≤◌, ◌<◌, ◌≡◌, refl, List, [], ◌∷◌, map, Bool, true, false, ◌&&◌, length, get_or, Result, Ok, Err}
use Rattle.std.proofs.Common.{sym, ap, ◌∙◌, true≢false, arith, add-zero, suc-add, add-suc}
use Rattle.refusal.specs.declared.Refusal.{Refusal}
use Rattle.columns.specs.Decimal.{decimal_of}
use Rattle.columns.specs.Digits.{read-written, written-plain, write_read, number_fits}
use Rattle.columns.specs.Fields.{zero_barred, field_says, Numbers, front, numbers_from}
use Rattle.columns.specs.Fields.Numbers.{Are, Not}
use Rattle.columns.specs.Reading.{Fine, good-is}
use Rattle.columns.specs.declared.fields.Field.{Field}

-- the first k of some fields are these numbers, all plain or not; the first has the given place
pub data Reads : ℕ → ℕ → List (List ℕ) → List ℕ → Bool → Type 0 where
  none : {place : ℕ} {fs : List (List ℕ)} → Reads place 0 fs [] true
  more : {place k : ℕ} {f : List ℕ} {fs : List (List ℕ)} {g : Field} {vs : List ℕ} {q : Bool}
      → Fine place f g → Reads (suc place) k fs vs q → Reads place (suc k) (f ∷ fs) (g.value ∷ vs) (g.plain && q)

-- numbers that were read are such
pub numbers-read : (line place k : ℕ) (fs : List (List ℕ)) (vs : List ℕ) (p : Bool) → numbers_from line place k fs ≡ Are vs p → Reads place k fs vs p
unfolding numbers_from
numbers-read line place zero fs vs p h = let v : vs ≡ [] = cc in let q : p ≡ true = cc in rw (v, q) none
numbers-read line place (suc k) [] vs p h = let z : ◌≡◌ {A = ℕ} 0 1 = cc in absurd (omega arith)
numbers-read line place (suc k) (f ∷ fs) vs p h = go (field_says line place f) refl (numbers_from line (suc place) k fs) refl (λ ws q. numbers-read line (suc place) k fs ws q) h
  where
    go : (r : Result Field Refusal) → field_says line place f ≡ r → (ns : Numbers) → numbers_from line (suc place) k fs ≡ ns
        → ((ws : List ℕ) (q : Bool) → numbers_from line (suc place) k fs ≡ Are ws q → Reads (suc place) k fs ws q)
        → front r ns ≡ Are vs p → Reads place (suc k) (f ∷ fs) vs p
    go (Err r) e ns g ih m = let z : ◌≡◌ {A = ℕ} 0 1 = cc in absurd (omega arith)
    go (Ok x) e (Not r) g ih m = let z : ◌≡◌ {A = ℕ} 0 1 = cc in absurd (omega arith)
    go (Ok x) e (Are ws q) g ih m =
        let v : vs ≡ x.value ∷ ws = cc in
        let b : p ≡ (x.plain && q) = cc in
        rw (v, b) (more (good-is line place f x e) (ih ws q g))

-- and are read in any line
fine-says : (line place : ℕ) (f : List ℕ) (g : Field) → Fine place f g → field_says line place f ≡ Ok g
unfolding field_says
fine-says line place f g x = rw (x.number, x.allowed, ← x.long, ← x.plain)

pub reads_say : {place k : ℕ} {fs : List (List ℕ)} {vs : List ℕ} {p : Bool} (line : ℕ) → Reads place k fs vs p → numbers_from line place k fs ≡ Are vs p
unfolding numbers_from
reads_say line none = refl
reads_say {place} line (more {f = f} {g = g} x r) = rw (fine-says line place f g x, reads_say line r)

-- ---- what is known of them

pub reads-count : {place k : ℕ} {fs : List (List ℕ)} {vs : List ℕ} {p : Bool} → Reads place k fs vs p → length vs ≡ k
reads-count none = refl
reads-count (more x r) = ap suc (reads-count r)

-- a number fits 64 bits, and is not 0 where it may not be
abbrev pub Allowed : ℕ → ℕ → Type 0
Allowed place v = (v < 2 ^ 64) × (zero_barred place v ≡ false)

pub reads-allowed : {place k : ℕ} {fs : List (List ℕ)} {vs : List ℕ} {p : Bool} → Reads place k fs vs p → (i : ℕ) → i < k → Allowed (place + i) (get_or vs i 0)
reads-allowed none i h = absurd (omega arith)
reads-allowed (more {f = f} {g = g} x r) zero h = rw add-zero (number_fits f g.value x.number, x.allowed)
reads-allowed (more x r) (suc i) h = rw (add-suc, ← suc-add) (reads-allowed r i (omega arith))

pub both : (a b : Bool) → (a && b) ≡ true → (a ≡ true) × (b ≡ true)
both true b e = (refl, e)
both false b e = absurd (true≢false (sym e))

-- plain numbers are written as they were read
pub reads-text : {place k : ℕ} {fs : List (List ℕ)} {vs : List ℕ} {p : Bool} → Reads place k fs vs p → p ≡ true → length fs ≤ k → map decimal_of vs ≡ fs
reads-text (none {fs = []}) e h = refl
reads-text (none {fs = f ∷ fs}) e h = absurd (omega arith)
reads-text (more {f = f} {g = g} {q = q} x r) e h =
    let t = both g.plain q e in
    rw (write_read f g.value x.number (sym x.plain ∙ t.0), reads-text r t.1 (omega arith))

-- numbers as they are written read so
pub text-reads : (ns : List ℕ) (place : ℕ) → ((i : ℕ) → i < length ns → Allowed (place + i) (get_or ns i 0)) → Reads place (length ns) (map decimal_of ns) ns true
text-reads [] place h = none
text-reads (n ∷ ns) place h =
    let a : Allowed place n = rw add-zero at (h 0 (omega arith)) in
    more {g = record { value = n; length = length (decimal_of n); plain = true }}
    (record { number = read-written n a.0; allowed = a.1; long = refl; plain = sym (written-plain n) })
    (text-reads ns (suc place) (λ i b. rw (suc-add, ← add-suc) (h (suc i) (omega arith))))
