-- What a host gets of a sheet, and what it leaves in the output and the list of starts.
use Rattle.std.specs.Prelude.{ℕ, ◌≡◌, List, Result, Ok, Err}
use Rattle.std.proofs.Common.{ap, ◌∙◌}
use Rattle.sheet.specs.declared.RegionRefused.{RegionRefused}
use Rattle.refusal.specs.Numbers.{numbers_of}
use Rattle.sheet.specs.Sheet.{SheetOutcome, leaves_both}
use Rattle.wakeluri.specs.declared.answer.Answer.{Answer}
use Rattle.wakeluri.specs.Answer.{fine, answer_of}

-- how many bytes were written; or the refusal, and as the next number the place of the refused region
unfoldable pub sheet_answer : Result ℕ RegionRefused → Answer
sheet_answer (Ok n) = answer_of fine n 0
sheet_answer (Err e) = answer_of (numbers_of e.refusal) 0 e.place

unfoldable pub sheet_told : SheetOutcome (Result ℕ RegionRefused) → SheetOutcome Answer
sheet_told o = leaves_both (sheet_answer o.answer) o.output o.starts

pub sheet-told : (r : Result ℕ RegionRefused) (out starts : List ℕ) (o : SheetOutcome (Result ℕ RegionRefused)) (a : Answer) → leaves_both r out starts ≡ o → a ≡ sheet_answer r → leaves_both a out starts ≡ sheet_told o
unfolding sheet_told
sheet-told r out starts o a e q = ap (λ (b : Answer). leaves_both b out starts) q ∙ ap sheet_told e
