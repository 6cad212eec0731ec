-- What the code's steps through a record find.
use Rattle.std.specs.Prelude.{ℕ, zero, suc, ◌+◌, ◌-◌, ◌≤◌, ◌<◌, ◌≡◌, List, [], ◌∷◌, length, take, Some, Result, Ok, Err, ⊤}
use Rattle.refusal.specs.declared.Refusal.{Refusal}
use Rattle.lines.specs.declared.Line.{Line}
use Rattle.lines.specs.Lines.{sum_bases, sum_widths}
use Rattle.indexer.specs.Index.{line_of}
use Rattle.fastq.specs.Fastq.{rest_of, qualities_of, refused_at}
use Rattle.fastq.specs.declared.Body.{Body}
use Rattle.fastq.specs.declared.QualityRow.{QualityRow}
use Rattle.fastq.specs.declared.Step.{Step}

-- the last of some lines, or one before them
unfoldable pub last_line : Line → List (List ℕ) → Line
last_line x [] = x
last_line x (l ∷ ls) = last_line (line_of l) ls

-- a body of k lines and n bases, the last of which is x, with some lines behind it, which begin at an offset
abbrev pub body_with : Line → ℕ → ℕ → Line → ℕ → List (List ℕ) → Body
body_with first k n x at ls = record { first = first; last = last_line x ls; count = k + length ls; bases = n + sum_bases ls; next = at + sum_widths ls }

abbrev pub rest_as : Line → ℕ → ℕ → Line → ℕ → List (List ℕ) → Result ⊤ Refusal → Result Body Refusal
rest_as first k n x at ls (Ok tt) = Ok (body_with first k n x at ls)
rest_as first k n x at ls (Err y) = Err y

unfoldable pub rest_says : Line → ℕ → ℕ → Line → ℕ → List (List ℕ) → Result Body Refusal
rest_says first k n x at ls = rest_as first k n x at ls (rest_of first ls)

-- n partners, all like the first but for the last
unfoldable pub partners_of : ℕ → Line → Line → List Line
partners_of zero first last = []
partners_of (suc zero) first last = last ∷ []
partners_of (suc (suc n)) first last = first ∷ partners_of (suc n) first last

-- the one in front
unfoldable pub partner_of : ℕ → Line → Line → Line
partner_of zero first last = first
partner_of (suc zero) first last = last
partner_of (suc (suc n)) first last = first

abbrev pub qualities_as : ℕ → List Line → List (List ℕ) → Result ⊤ Refusal → Result ℕ Refusal
qualities_as at ps qs (Ok tt) = Ok (at + sum_widths (take (length ps) qs))
qualities_as at ps qs (Err x) = Err x

unfoldable pub qualities_say : ℕ → List Line → List (List ℕ) → Result ℕ Refusal
qualities_say at ps qs = qualities_as at ps qs (qualities_of ps qs)

-- n of so many partners are like the first
unfoldable pub LikeFirst : ℕ → Line → Line → ℕ → Type 0
LikeFirst count first last n = (n ≤ count) × ((k : ℕ) → k < n → partner_of (count - k) first last ≡ first)

-- the step that a row makes with the offset behind its record, or a refusal
abbrev pub step_of : ℕ → Result (QualityRow × ℕ) Refusal → Step
step_of at (Ok r) = record { answer = Ok (Some r.0); next = r.1 }
step_of at (Err x) = refused_at at x
