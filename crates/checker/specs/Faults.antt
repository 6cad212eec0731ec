-- Each refusal of the checker means what R43 of docs/RULES.md says, the first fault in the given order; and where that is the
-- first fault, the checker gives that refusal. FirstFault.antt says what each is.
use Rattle.std.specs.Prelude.{ℕ, ◌≡◌, List, Err}
use Rattle.refusal.specs.declared.Refusal.{Refusal}
use Rattle.checker.specs.Check.{check_of}
use Rattle.checker.specs.FirstFault.{FirstFault}
use Rattle.checker.specs.Said.{check-means, check-only}

pub refused-only-if : (f i : List ℕ) (x : Refusal) → check_of f i ≡ Err x → FirstFault f i x
refused-only-if f i x h = rw h at (check-means f i)

pub refused-if : (f i : List ℕ) (x : Refusal) → FirstFault f i x → check_of f i ≡ Err x
refused-if f i x e = check-only f i (Err x) e
