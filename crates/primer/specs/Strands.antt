-- The other strand: the reverse complement of a primer matches the reverse complement of a text exactly where the primer matches the text.
use Rattle.std.specs.Prelude.{ℕ, ◌+◌, ◌≡◌, List, ◌↔◌, length}
use Rattle.complement.specs.Complement.{given, reverse_complement_of}
use Rattle.primer.specs.Places.{MatchesAt}
use Rattle.primer.specs.StrandLaws.{strands, reversed-is}

-- a place k of the text is the place j of its reverse complement if so many bytes lie behind the match
pub other-strand : (ps s ps' s' : List ℕ) → reverse_complement_of ps ≡ given ps' → reverse_complement_of s ≡ given s' → (k j : ℕ) → k + length ps + j ≡ length s
    → MatchesAt ps s k ↔ MatchesAt ps' s' j
other-strand ps s ps' s' e f k j h = rw (← reversed-is ps ps' e, ← reversed-is s s' f) (strands ps s k j h)
