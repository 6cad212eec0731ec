-- A record's description, by its span.
use Rattle.std.specs.Prelude.{ℕ, zero, suc}

-- where a description of some bytes begins; 0 if it has none
abbrev pub described_at : ℕ → ℕ → ℕ
described_at start zero = 0
described_at start (suc n) = start
