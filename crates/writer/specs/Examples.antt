-- What must come out: examples of records and refusals, as one table with a single proof.
use Rattle.std.specs.Prelude.{ℕ, ◌≡◌, refl, List, [], ◌∷◌, true, false, Result, Ok}
use Prim.Native.String.{String}
use Rattle.ascii.specs.Text.{text}
use Rattle.refusal.specs.Numbers.{over_limit}
use Rattle.refusal.specs.declared.Refusal.{Refusal}
use Rattle.refusal.specs.declared.Refusal.TheVariants.{ZeroWidth, NameUnfit, DescriptionUnfit, BaseUnfit, NoRoom}
use Rattle.definition.specs.Definition.{is_space}
use Rattle.output.specs.Outcome.{Outcome, leaves, refuses, pours}
use Rattle.writer.specs.Text.{described_text, definition_text, contents_up_to, lines_text, sequence_text, record_text, any_of, name_unfit, description_unfit, barred, too_long, record_written}

-- a record without a description, and one with one, put in an output of some text
abbrev plain : String → String → ℕ → String → Outcome (Result ℕ Refusal)
plain name bases width out = record_written (text name) false [] (text bases) width (text out)

abbrev described : String → String → String → ℕ → String → Outcome (Result ℕ Refusal)
described name description bases width out = record_written (text name) true (text description) (text bases) width (text out)

abbrev bytes : ℕ → String → Outcome (Result ℕ Refusal)
bytes n out = leaves (Ok n) (text out)

abbrev refused : Refusal → String → Outcome (Result ℕ Refusal)
refused x out = refuses x (text out)

unfoldable pub asked : List (Outcome (Result ℕ Refusal))
asked =
    described "s" "d" "ACG" 2 "..........."
    ∷ plain "s" "" 1 "..."
    -- a byte short
    ∷ plain "s" "A" 60 "...."
    -- width 0 before an empty name; a vertical tab is no whitespace, a form feed is; 28 before 29, 29 before 30
    ∷ plain "" "" 0 ""
    ∷ plain "\u{b}" "" 1 "..."
    ∷ described "\u{c}" "" "" 1 ""
    ∷ described "s" "" ">" 1 ""
    ∷ described "s" "d " "" 1 ""
    ∷ plain "s" "A\r" 1 ""
    ∷ []

unfoldable pub answers : List (Outcome (Result ℕ Refusal))
answers =
    bytes 10 ">s d\nAC\nG\n."
    ∷ bytes 3 ">s\n"
    ∷ refused (NoRoom 5) "...."
    ∷ refused ZeroWidth ""
    ∷ bytes 3 ">\u{b}\n"
    ∷ refused NameUnfit ""
    ∷ refused DescriptionUnfit ""
    ∷ refused DescriptionUnfit ""
    ∷ refused BaseUnfit ""
    ∷ []

pub examples : asked ≡ answers
unfolding asked answers record_written too_long over_limit name_unfit description_unfit barred any_of is_space pours record_text definition_text described_text sequence_text lines_text contents_up_to
examples = refl
