-- The records of a file, by its lines: a definition line, and the lines up to the next that begins with '>'.
use Rattle.std.specs.Prelude.{ℕ, List, [], ◌∷◌, cond}
use Rattle.lines.specs.Lines.{begins}

-- a definition line, and the lines of its sequence
pub record Group : Type 0 where
  pub def : List ℕ
  pub seq : List (List ℕ)

-- a line in front of some groups: a group that begins with '>' stays, any other becomes the line's sequence
abbrev pub attach : List ℕ → List Group → List Group
attach l [] = record { def = l; seq = [] } ∷ []
attach l (g ∷ gs) = cond (begins g.def) (record { def = l; seq = [] } ∷ g ∷ gs) (record { def = l; seq = g.def ∷ g.seq } ∷ gs)

-- the groups of some lines
unfoldable pub groups : List (List ℕ) → List Group
groups [] = []
groups (l ∷ ls) = attach l (groups ls)
