-- Bytes written as text, so that a person can read an example: `text ">s\nACGT\r\n"`.
use Rattle.std.specs.Prelude.{ℕ, List, [], ◌∷◌}
use Prim.Native.Char.{code}
use Prim.Native.String.{String, [] as empty, ◌∷◌ as ◌◂◌}

-- the bytes of a text of ASCII characters
abbrev pub text : String → List ℕ
text empty = []
text (c ◂ s) = code c ∷ text s
