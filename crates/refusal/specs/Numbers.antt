-- The table of refusals (docs/RULES.md, R2): the number of each case and its two numbers, 0 if none is named; and the size limit.
use Rattle.std.specs.Prelude.{ℕ, Bool, ltb}
use Rattle.refusal.specs.declared.Numbers.{Numbers}
use Rattle.refusal.specs.declared.Refusal.{Refusal}
use Rattle.refusal.specs.declared.Refusal.TheVariants as is

abbrev told : ℕ → ℕ → ℕ → Numbers
told n a b = record { refusal = n; first = a; second = b }

unfoldable pub numbers_of : Refusal → Numbers
numbers_of is.TooLong = told 1 0 0
numbers_of (is.EmptyDefinition first second) = told 2 first second
numbers_of (is.NoPrefix first second) = told 3 first second
numbers_of (is.NoName first second) = told 4 first second
numbers_of (is.NoBases offset) = told 5 offset 0
numbers_of (is.LineBases found expected) = told 6 found expected
numbers_of (is.LineWidth found expected) = told 7 found expected
numbers_of (is.TableFull rows) = told 8 rows 0
numbers_of (is.EmptyIndexLine line) = told 9 line 0
numbers_of (is.FieldAbsent line field) = told 10 line field
numbers_of (is.NotANumber line field) = told 11 line field
numbers_of (is.ZeroField line field) = told 12 line field
numbers_of (is.NameSplit place) = told 13 place 0
numbers_of (is.NoRoom needed) = told 14 needed 0
numbers_of is.NameUnknown = told 15 0 0
numbers_of is.BadBounds = told 16 0 0
numbers_of (is.PastLength length) = told 17 length 0
numbers_of (is.NotInFile base) = told 18 base 0
numbers_of (is.LineAbsent record') = told 19 record' 0
numbers_of (is.BytesLeft records) = told 20 records 0
numbers_of (is.NameDiffers record') = told 21 record' 0
numbers_of (is.LengthDiffers record') = told 22 record' 0
numbers_of (is.BaseElsewhere record' base) = told 23 record' base
numbers_of (is.NoComplement place byte) = told 24 place byte
numbers_of (is.BadRow row) = told 25 row 0
numbers_of is.AlreadyEnded = told 26 0 0
numbers_of is.ZeroWidth = told 27 0 0
numbers_of is.NameUnfit = told 28 0 0
numbers_of is.DescriptionUnfit = told 29 0 0
numbers_of is.BaseUnfit = told 30 0 0
numbers_of (is.MalformedExercise offset) = told 31 offset 0
numbers_of (is.UnknownNeededTag offset) = told 32 offset 0
numbers_of (is.UnknownEdition offset) = told 33 offset 0
numbers_of (is.NotInWindow base) = told 34 base 0
numbers_of is.WindowPastEnd = told 35 0 0
numbers_of is.PrimerLength = told 36 0 0
numbers_of (is.PrimerLetter place) = told 37 place 0
numbers_of is.NoPlusLine = told 38 0 0
numbers_of (is.QualityLine found expected) = told 39 found expected
numbers_of is.TooManyRegions = told 40 0 0
numbers_of is.TooFewStarts = told 41 0 0
numbers_of (is.NoIndexFits offset base) = told 42 offset base

-- is an input of so many bytes over the limit
unfoldable pub over_limit : ℕ → Bool
over_limit n = ltb 1099511627776 n
