-- The addressing rule (docs/RULES.md, R18): where a base lies, over whole numbers.
use Rattle.std.specs.Prelude.{ℕ, zero, suc, ◌+◌, ◌-◌, ◌*◌, ◌/◌, ◌%◌, ◌^◌, List, [], ◌∷◌, Bool, cond, ◌&&◌, ltb, Option, Some, None}
use Rattle.record.specs.declared.Offset.{Offset}
use Rattle.record.specs.declared.Position.{Position}
use Rattle.record.specs.declared.Record.{Record}

-- where base number i + 1 lies, by position p, line bases b and line width w
unfoldable pub place_of : ℕ → ℕ → ℕ → ℕ → ℕ
place_of p b w i = p + i / b * w + i % b

-- where n bases lie, from number i + 1 on
unfoldable pub places_from : ℕ → ℕ → ℕ → ℕ → ℕ → List ℕ
places_from p b w i zero = []
places_from p b w i (suc n) = place_of p b w i ∷ places_from p b w (suc i) n

-- where a record says that base number i + 1 lies
abbrev pub place_in : Record → ℕ → ℕ
place_in x i = place_of x.position.0 x.line_bases x.line_width i

-- a whole number as an offset, if it is below 2 ^ 64
unfoldable pub offset_of : ℕ → Option Offset
offset_of n = cond (ltb n (2 ^ 64)) (Some (record { 0 = n })) None

-- does the rule apply to a base: positions begin at 1, and line bases and line width are not 0
unfoldable pub has_place : Record → Position → Bool
has_place x p = ltb 0 p.0 && (ltb 0 x.line_bases && ltb 0 x.line_width)

-- the offset of a base
unfoldable pub address_of : Record → Position → Option Offset
address_of x p = cond (has_place x p) (offset_of (place_in x (p.0 - 1))) None
