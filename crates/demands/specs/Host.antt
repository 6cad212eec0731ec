-- What a host sees: the bytes that it lends, the lines that it joins, and the answers.
use Rattle.std.specs.Prelude.{ℕ, zero, suc, ◌*◌, ◌≤◌, ◌<◌, ◌≡◌, List, [], ◌++◌, length, get_or, take, drop, Option}
use Rattle.record.specs.declared.Position.{Position}
use Rattle.checker.specs.Accepts.{Accepts}
use Rattle.wakeluri.specs.declared.answer.Answer.{Answer}
use Rattle.mission.specs.TableOf.{record_count}
use Rattle.mission.specs.Asked.{asked_count, asked_bases}
use Rattle.demands.specs.Calls.{WriteIndexLine}
use Rattle.table.specs.Rows.{row_words}

-- what is lent are bytes
abbrev pub AreBytes : List ℕ → Type 0
AreBytes t = (i : ℕ) → get_or t i 0 < 256

-- the bytes of a row of a table
abbrev pub row_bytes : ℕ
row_bytes = row_words * 8

-- the checker's answer is 0 exactly if the index is accepted
pub record Exactly (file index : List ℕ) (a : Answer) : Type 0 where
  pub only_if : a.refusal ≡ 0 → Accepts file index
  pub if' : Accepts file index → a.refusal ≡ 0

-- a call that fills a table answers no refusal, and as many rows as the file has records
pub record Filled (file : List ℕ) (a : Answer) : Type 0 where
  pub refusal : a.refusal ≡ 0
  pub count : a.count ≡ record_count file

-- a read gives just the bases that are asked for: no refusal, their count, the bases at the front of the output, and the rest of it as it was
-- lent
pub record JustThose (file : List ℕ) (row : ℕ) (start end : Option Position) (out : List ℕ) (a : Answer) (out' : List ℕ) : Type 0 where
  pub refusal : a.refusal ≡ 0
  pub count : a.count ≡ asked_count file row start end
  pub output : out' ≡ asked_bases file row start end ++ drop (asked_count file row start end) out

-- what a call puts in an output needs so many bytes: with room for them it answers 0, and else 14, and how many they are
pub record Needs (needed : ℕ) (out : List ℕ) (a : Answer) : Type 0 where
  pub enough : needed ≤ length out → a.refusal ≡ 0
  pub short : length out < needed → (a.refusal ≡ 14) × (a.first ≡ needed)

-- the index line of a row needs so many bytes, whatever output is lent
pub record LineNeeds (file table' : List ℕ) (filled : Answer) (row : ℕ) : Type 0 where
  pub needed : ℕ
  pub always : (out out' : List ℕ) (written : Answer) → WriteIndexLine file table' filled.count row out written out' → Needs needed out written

-- the lines that a host joins: of the output for each of n rows, from row k on, as many bytes as the call says that it wrote
unfoldable pub joined : (ℕ → Answer) → (ℕ → List ℕ) → ℕ → ℕ → List ℕ
joined answers outputs k zero = []
joined answers outputs k (suc n) = take (answers k).count (outputs k) ++ joined answers outputs (suc k) n
