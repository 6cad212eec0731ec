-- `checker::check_from` meets its contract: behind the end of the index there is no line, wherever the place is.
use Rattle.std.proofs.Common.{ℕ, ◌≡◌, ◌∙◌, List, Bool, true, false, min, length, leb, leb-true, leb-false, refl, arith}
use Rattle.checker.specs.Check.{from_says}
use Rattle.checker.specs.Steps.{check-past}
use Rattle.checker.proofs.check_from.Goals as goal

nearer : (fasta index : List ℕ) (at line : ℕ) → from_says fasta at index (min line (length index)) ≡ from_says fasta at index line
nearer fasta index at line = go (leb line (length index)) refl
  where
    go : (b : Bool) → leb line (length index) ≡ b → from_says fasta at index (min line (length index)) ≡ from_says fasta at index line
    go true e = let m : min line (length index) ≡ line = omega (arith, leb-true _ _ e) in rw m
    go false e =
        let m : min line (length index) ≡ length index = omega (arith, leb-false _ _ e) in
        rw m (check-past fasta index at line (leb-false _ _ e))

pub returns : goal.returns
returns c = c.check_places.ensures ∙ rw c.min.ensures (nearer _ _ _ _)
