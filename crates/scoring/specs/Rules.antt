-- When a typed byte is right: a rule for each edition.
use Rattle.std.specs.Prelude.{ℕ, ◌-◌, Bool, true, false, cond, not, ◌&&◌, eqb, ltb}
use Rattle.letters.specs.Letters.{set_of}
use Rattle.letters.specs.Sets.{inside}

-- an ASCII letter in upper case; another byte as it is
unfoldable pub folded : ℕ → ℕ
folded b = cond (ltb b 97) b (cond (ltb 122 b) b (b - 32))

-- edition 1: the typed byte t is the key's byte k, upper and lower case alike
unfoldable pub same : ℕ → ℕ → Bool
same k t = eqb (folded k) (folded t)

-- a byte that stands for a set of bases
unfoldable pub coded : ℕ → Bool
coded b = not (eqb (set_of b) 0)

-- edition 2: where both bytes have a code, the typed byte's set lies inside the key's; elsewhere as in edition 1
unfoldable pub lies : ℕ → ℕ → Bool
lies k t = cond (coded k && coded t) (inside (set_of t) (set_of k)) (same k t)

-- the rule of an edition: the second, or the first
abbrev pub rule_for : Bool → ℕ → ℕ → Bool
rule_for true = lies
rule_for false = same
