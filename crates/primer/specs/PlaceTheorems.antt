-- Of the calls: the answer is the first place that matches; it is none exactly if no place matches; each refusal is given exactly in
-- its case, the sizes before the primer's length, and that before its letters.
use Rattle.std.specs.Prelude.{ℕ, ◌+◌, ◌≤◌, ◌<◌, ◌≡◌, false, List, ◌↔◌, length, get_or, Some, None, Ok, Err}
use Rattle.refusal.specs.Numbers.{over_limit}
use Rattle.refusal.specs.declared.Refusal.TheVariants.{TooLong, PrimerLength, PrimerLetter}
use Rattle.letters.specs.Letters.{set_of}
use Rattle.primer.specs.Primer.{place_read, degeneracy_read}
use Rattle.primer.specs.Sequences.{stands_for}
use Rattle.primer.specs.Places.{MatchesAt, FirstAt, Sized, CodedTo, FirstUncoded}
use Rattle.primer.specs.PlaceLaws.{fits-coded}
use Rattle.primer.specs.AnswerLaws as laws

-- what is lent is within the size limit
abbrev pub Within : List ℕ → Type 0
Within s = over_limit (length s) ≡ false

-- a primer is taken: it has 1 to 31 letters, and each has a code
abbrev pub Taken : List ℕ → Type 0
Taken ps = Within ps × (Sized ps × CodedTo ps (length ps))

module _ (ps s : List ℕ) (from : ℕ) where
  pub place-told : (k : ℕ) → place_read ps s from ≡ Ok (Some k) ↔ (Taken ps × (Within s × FirstAt ps s from k))
  place-told k = laws.place-told ps s from k

  pub nothing-told : place_read ps s from ≡ Ok None ↔ (Taken ps × (Within s × ((k : ℕ) → from ≤ k → MatchesAt ps s k → ⊥)))
  nothing-told = laws.nothing-told ps s from

  -- 1, exactly for a primer or a text over the limit
  pub size-refused : place_read ps s from ≡ Err TooLong ↔ (Within ps × Within s → ⊥)
  size-refused = laws.size-refused ps s from

  -- 36, exactly for another length
  pub length-refused : place_read ps s from ≡ Err PrimerLength ↔ (Within ps × (Within s × (Sized ps → ⊥)))
  length-refused = laws.length-refused ps s from

  -- 37, exactly for a letter without a code, with the first such place
  pub letter-refused : (k : ℕ) → place_read ps s from ≡ Err (PrimerLetter k) ↔ (Within ps × (Within s × (Sized ps × FirstUncoded ps k)))
  letter-refused k = laws.letter-refused ps s from k

-- the same for the count
module _ (ps : List ℕ) where
  pub count-told : (n : ℕ) → degeneracy_read ps ≡ Ok n ↔ (Taken ps × (n ≡ length (stands_for ps)))
  count-told n = laws.count-told ps n

  pub count-size-refused : degeneracy_read ps ≡ Err TooLong ↔ (Within ps → ⊥)
  count-size-refused = laws.count-size-refused ps

  pub count-length-refused : degeneracy_read ps ≡ Err PrimerLength ↔ (Within ps × (Sized ps → ⊥))
  count-length-refused = laws.count-length-refused ps

  pub count-letter-refused : (k : ℕ) → degeneracy_read ps ≡ Err (PrimerLetter k) ↔ (Within ps × (Sized ps × FirstUncoded ps k))
  count-letter-refused k = laws.count-letter-refused ps k

-- a text byte without a code is in no match
pub no-code-no-match : (ps s : List ℕ) (k j : ℕ) → MatchesAt ps s k → j < length ps → set_of (get_or s (k + j) 0) ≡ 0 → ⊥
no-code-no-match ps s k j m h = fits-coded (get_or ps j 0) (get_or s (k + j) 0) (m.each j h)
