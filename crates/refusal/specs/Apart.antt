-- A host sees enough of a refusal to know which it is: no refusal's number is 0, which means that the call was accepted, and no two refusals look the same.
use Rattle.std.specs.Prelude.{ℕ, ◌≤◌, ◌≡◌, refl, [], ◌∷◌, get_or}
use Rattle.std.proofs.Common.{sym, ap, ◌∙◌, arith}
use Rattle.refusal.specs.Numbers.{numbers_of}
use Rattle.refusal.specs.declared.Numbers.{Numbers}
use Rattle.refusal.specs.declared.Refusal.{Refusal}
use Rattle.refusal.specs.declared.Refusal.TheVariants as is

-- the table read backwards: the case of a number, with its two numbers. Any other number gives the first case
abbrev none : ℕ → ℕ → Refusal
none a b = is.TooLong

unfoldable pub case_of : ℕ → ℕ → ℕ → Refusal
case_of n =
    get_or
    (none
    ∷ (λ a b. is.TooLong)
    ∷ (λ a b. is.EmptyDefinition a b)
    ∷ (λ a b. is.NoPrefix a b)
    ∷ (λ a b. is.NoName a b)
    ∷ (λ a b. is.NoBases a)
    ∷ (λ a b. is.LineBases a b)
    ∷ (λ a b. is.LineWidth a b)
    ∷ (λ a b. is.TableFull a)
    ∷ (λ a b. is.EmptyIndexLine a)
    ∷ (λ a b. is.FieldAbsent a b)
    ∷ (λ a b. is.NotANumber a b)
    ∷ (λ a b. is.ZeroField a b)
    ∷ (λ a b. is.NameSplit a)
    ∷ (λ a b. is.NoRoom a)
    ∷ (λ a b. is.NameUnknown)
    ∷ (λ a b. is.BadBounds)
    ∷ (λ a b. is.PastLength a)
    ∷ (λ a b. is.NotInFile a)
    ∷ (λ a b. is.LineAbsent a)
    ∷ (λ a b. is.BytesLeft a)
    ∷ (λ a b. is.NameDiffers a)
    ∷ (λ a b. is.LengthDiffers a)
    ∷ (λ a b. is.BaseElsewhere a b)
    ∷ (λ a b. is.NoComplement a b)
    ∷ (λ a b. is.BadRow a)
    ∷ (λ a b. is.AlreadyEnded)
    ∷ (λ a b. is.ZeroWidth)
    ∷ (λ a b. is.NameUnfit)
    ∷ (λ a b. is.DescriptionUnfit)
    ∷ (λ a b. is.BaseUnfit)
    ∷ (λ a b. is.MalformedExercise a)
    ∷ (λ a b. is.UnknownNeededTag a)
    ∷ (λ a b. is.UnknownEdition a)
    ∷ (λ a b. is.NotInWindow a)
    ∷ (λ a b. is.WindowPastEnd)
    ∷ (λ a b. is.PrimerLength)
    ∷ (λ a b. is.PrimerLetter a)
    ∷ (λ a b. is.NoPlusLine)
    ∷ (λ a b. is.QualityLine a b)
    ∷ (λ a b. is.TooManyRegions)
    ∷ (λ a b. is.TooFewStarts)
    ∷ (λ a b. is.NoIndexFits a b)
    ∷ [])
    n
    none

-- both at once for each case: its number is not 0, and the table read backwards has it
abbrev Told : Refusal → Type 0
Told x = (1 ≤ (numbers_of x).refusal) × (x ≡ case_of (numbers_of x).refusal (numbers_of x).first (numbers_of x).second)

told : (x : Refusal) → Told x
unfolding numbers_of case_of
told is.TooLong = (omega arith, refl)
told (is.EmptyDefinition a b) = (omega arith, refl)
told (is.NoPrefix a b) = (omega arith, refl)
told (is.NoName a b) = (omega arith, refl)
told (is.NoBases a) = (omega arith, refl)
told (is.LineBases a b) = (omega arith, refl)
told (is.LineWidth a b) = (omega arith, refl)
told (is.TableFull a) = (omega arith, refl)
told (is.EmptyIndexLine a) = (omega arith, refl)
told (is.FieldAbsent a b) = (omega arith, refl)
told (is.NotANumber a b) = (omega arith, refl)
told (is.ZeroField a b) = (omega arith, refl)
told (is.NameSplit a) = (omega arith, refl)
told (is.NoRoom a) = (omega arith, refl)
told is.NameUnknown = (omega arith, refl)
told is.BadBounds = (omega arith, refl)
told (is.PastLength a) = (omega arith, refl)
told (is.NotInFile a) = (omega arith, refl)
told (is.LineAbsent a) = (omega arith, refl)
told (is.BytesLeft a) = (omega arith, refl)
told (is.NameDiffers a) = (omega arith, refl)
told (is.LengthDiffers a) = (omega arith, refl)
told (is.BaseElsewhere a b) = (omega arith, refl)
told (is.NoComplement a b) = (omega arith, refl)
told (is.BadRow a) = (omega arith, refl)
told is.AlreadyEnded = (omega arith, refl)
told is.ZeroWidth = (omega arith, refl)
told is.NameUnfit = (omega arith, refl)
told is.DescriptionUnfit = (omega arith, refl)
told is.BaseUnfit = (omega arith, refl)
told (is.MalformedExercise a) = (omega arith, refl)
told (is.UnknownNeededTag a) = (omega arith, refl)
told (is.UnknownEdition a) = (omega arith, refl)
told (is.NotInWindow a) = (omega arith, refl)
told is.WindowPastEnd = (omega arith, refl)
told is.PrimerLength = (omega arith, refl)
told (is.PrimerLetter a) = (omega arith, refl)
told is.NoPlusLine = (omega arith, refl)
told (is.QualityLine a b) = (omega arith, refl)
told is.TooManyRegions = (omega arith, refl)
told is.TooFewStarts = (omega arith, refl)
told (is.NoIndexFits a b) = (omega arith, refl)

-- no refusal's number is 0
pub never-zero : (x : Refusal) → 1 ≤ (numbers_of x).refusal
never-zero x = (told x).0

-- the number gives the case, and with the two numbers the refusal
pub case-by-number : (x : Refusal) → x ≡ case_of (numbers_of x).refusal (numbers_of x).first (numbers_of x).second
case-by-number x = (told x).1

-- two refusals that a host sees alike are the same
pub told-apart : (x y : Refusal) → numbers_of x ≡ numbers_of y → x ≡ y
told-apart x y e = case-by-number x ∙ (ap (λ (n : Numbers). case_of n.refusal n.first n.second) e ∙ sym (case-by-number y))
