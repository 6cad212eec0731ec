-- Fields one after another: what is written reads back, and a field that is passed over changes nothing.
use Rattle.std.specs.Prelude.{ℕ, zero, suc, ◌+◌, ◌*◌, ◌/◌, ◌%◌, ◌^◌, ◌≤◌, ◌<◌, ◌≡◌, Bool, true, false, cond, List, [], ◌∷◌, ◌++◌, eqb, ltb, get_or, take, drop, Result, Ok, Err}
use Rattle.std.proofs.Math.Path.{refl}
use Rattle.std.proofs.Common.{sym, ap, ◌∙◌, append_assoc, arith, add-zero, suc-add}
use Rattle.std.proofs.Math.ListN.{length, length-append}
use Rattle.std.proofs.Math.Seq.{take-append_seam, drop-append_seam}
use borrow.Author.Tests.{lt-ltb, le-ltb, ne_eqb}
use Rattle.exercise.specs.Numbers.{big_from, big_bytes, length-big_bytes, big-back}
use Rattle.exercise.specs.Reading.{known_to, bad, name_field, start_field, end_field, edition_field, valued, sized, judge, ended, begun, kept_by, length_by, unless, walk, says_from}
use Rattle.exercise.specs.Writing.{number_field, edition_bytes, text_of}
use Rattle.exercise.specs.Laws.{walk-pass, walk-stop, valued-length}
use Rattle.refusal.specs.declared.Refusal.{Refusal}
use Rattle.refusal.specs.declared.Refusal.TheVariants as refused
use Rattle.exercise.specs.declared.Exercise.{Exercise}
use Rattle.exercise.specs.declared.Kept.{Kept}

-- ---- one whole field at the front

module _ (newest : ℕ) (h : Kept) (at tag a b : ℕ) (body rest : List ℕ) (small : tag < 128) (size : a * 256 + b ≡ length body) where
  -- it is judged by its own bytes, whatever follows
  pub judge-field : judge newest h at tag (a ∷ b ∷ (body ++ rest)) ≡ valued newest h at tag (length body) body
  unfolding judge sized
  judge-field =
      let l : length body ≤ length (body ++ rest) = omega (arith, length-append body rest) in
      rw (lt-ltb tag 128 small, size, le-ltb (length (body ++ rest)) (length body) l, take-append_seam body rest)

  pub field-passes : (g : Kept) → valued newest h at tag (length body) body ≡ Ok (g, (length body))
      → walk newest h at 0 (tag ∷ a ∷ b ∷ (body ++ rest)) ≡ walk newest g (at + (3 + length body)) 0 rest
  field-passes g e =
      let q : 2 + length body ≡ suc (suc (length body)) = omega arith in
      walk-pass newest h at tag (a ∷ b ∷ (body ++ rest)) g (length body) (judge-field ∙ e) ∙ rw (q, drop-append_seam body rest)

-- ---- what is written reads back

name-read : (newest n : ℕ) (body : List ℕ) → valued newest begun 0 1 n body ≡ Ok ((record { wanted = 2; name_start = 3; name_length = n; start = 0; end = 0; edition = 0 }), n)
unfolding valued name_field
name-read newest n body = refl

start-read : (newest at n m v : ℕ) (b : List ℕ) → m ≡ 8 → big_from 0 b ≡ v
    → valued newest (record { wanted = 2; name_start = 3; name_length = n; start = 0; end = 0; edition = 0 }) at 2 m b ≡ Ok ((record { wanted = 3; name_start = 3; name_length = n; start = v; end = 0; edition = 0 }), m)
unfolding valued start_field
start-read newest at n m v b e f = rw (e, f)

end_read : (newest at n m w v : ℕ) (b : List ℕ) → m ≡ 8 → big_from 0 b ≡ v
    → valued newest (record { wanted = 3; name_start = 3; name_length = n; start = w; end = 0; edition = 0 }) at 3 m b ≡ Ok ((record { wanted = 4; name_start = 3; name_length = n; start = w; end = v; edition = 0 }), m)
unfolding valued end_field
end_read newest at n m w v b e f = rw (e, f)

edition-read : (newest at n w v e : ℕ) → known_to newest e ≡ true
    → valued newest (record { wanted = 4; name_start = 3; name_length = n; start = w; end = v; edition = 0 }) at 4 1 (e ∷ []) ≡ Ok ((record { wanted = 5; name_start = 3; name_length = n; start = w; end = v; edition = e }), 1)
unfolding valued edition_field
edition-read newest at n w v e k = rw k

edition-unread : (at n w v : ℕ)
    → valued 1 (record { wanted = 4; name_start = 3; name_length = n; start = w; end = v; edition = 0 }) at 4 1 (2 ∷ []) ≡ Err (refused.UnknownEdition at)
unfolding valued edition_field known_to
edition-unread at n w v = refl

all_read : (newest at n w v e : ℕ)
    → walk newest (record { wanted = 5; name_start = 3; name_length = n; start = w; end = v; edition = e }) at 0 [] ≡ Ok (record { name_start = 3; name_length = n; start = w; end = v; edition = e })
unfolding walk ended
all_read newest at n w v e = refl

-- up to its last field
to-edition : (newest : ℕ) (name : List ℕ) (start end edition : ℕ) → length name ≤ 65535 → start < 2 ^ 64 → end < 2 ^ 64
    → says_from newest (text_of name start end edition)
    ≡ walk newest (record { wanted = 4; name_start = 3; name_length = length name; start = start; end = end; edition = 0 }) (length name + 25) 0 (edition_bytes edition)
unfolding says_from text_of
to-edition newest name start end edition n s e = name-part ∙ (start-part ∙ (end-part ∙ ap (λ (i : ℕ). walk newest h₃ i 0 (edition_bytes edition)) place))
  where
    S : List ℕ
    S = big_bytes 8 start

    E : List ℕ
    E = big_bytes 8 end

    h₁ : Kept
    h₁ = record { wanted = 2; name_start = 3; name_length = length name; start = 0; end = 0; edition = 0 }

    h₂ : Kept
    h₂ = record { wanted = 3; name_start = 3; name_length = length name; start = start; end = 0; edition = 0 }

    h₃ : Kept
    h₃ = record { wanted = 4; name_start = 3; name_length = length name; start = start; end = end; edition = 0 }

    place : 0 + (3 + length name) + (3 + length S) + (3 + length E) ≡ length name + 25
    place = omega (arith, length-big_bytes 8 start, length-big_bytes 8 end)

    name-part : walk newest begun 0 0 (text_of name start end edition) ≡ walk newest h₁ (0 + (3 + length name)) 0 (number_field 2 start ++ (number_field 3 end ++ edition_bytes edition))
    name-part = field-passes newest begun 0 1 (length name / 256) (length name % 256) name (number_field 2 start ++ (number_field 3 end ++ edition_bytes edition)) (omega arith) (omega arith) h₁ (name-read newest (length name) name)

    start-part : walk newest h₁ (0 + (3 + length name)) 0 (number_field 2 start ++ (number_field 3 end ++ edition_bytes edition)) ≡ walk newest h₂ (0 + (3 + length name) + (3 + length S)) 0 (number_field 3 end ++ edition_bytes edition)
    start-part = field-passes newest h₁ (0 + (3 + length name)) 2 0 8 S (number_field 3 end ++ edition_bytes edition) (omega arith) (sym (length-big_bytes 8 start)) h₂ (start-read newest (0 + (3 + length name)) (length name) (length S) start S (length-big_bytes 8 start) (big-back 8 start (omega arith)))

    end-part : walk newest h₂ (0 + (3 + length name) + (3 + length S)) 0 (number_field 3 end ++ edition_bytes edition) ≡ walk newest h₃ (0 + (3 + length name) + (3 + length S) + (3 + length E)) 0 (edition_bytes edition)
    end-part = field-passes newest h₂ (0 + (3 + length name) + (3 + length S)) 3 0 8 E (edition_bytes edition) (omega arith) (sym (length-big_bytes 8 end)) h₃ (end_read newest (0 + (3 + length name) + (3 + length S)) (length name) (length E) start end E (length-big_bytes 8 end) (big-back 8 end (omega arith)))

pub written-reads : (newest : ℕ) (name : List ℕ) (start end edition : ℕ) → length name ≤ 65535 → start < 2 ^ 64 → end < 2 ^ 64 → known_to newest edition ≡ true
    → says_from newest (text_of name start end edition) ≡ Ok (record { name_start = 3; name_length = length name; start = start; end = end; edition = edition })
written-reads newest name start end edition n s e k =
    to-edition newest name start end edition n s e
    ∙ (field-passes newest _ (length name + 25) 4 0 1 (edition ∷ []) [] (omega arith) refl _ (edition-read newest (length name + 25) (length name) start end edition k)
    ∙ all_read newest _ (length name) start end edition)

-- and the name that is read is the name
pub written-name : (name : List ℕ) (start end edition : ℕ) → take (length name) (drop 3 (text_of name start end edition)) ≡ name
unfolding text_of
written-name name start end edition = take-append_seam name (number_field 2 start ++ (number_field 3 end ++ edition_bytes edition))

-- a reader of edition 1 refuses what is written in edition 2, with the offset of its field
pub older-refuses : (name : List ℕ) (start end : ℕ) → length name ≤ 65535 → start < 2 ^ 64 → end < 2 ^ 64
    → says_from 1 (text_of name start end 2) ≡ Err (refused.UnknownEdition (length name + 25))
older-refuses name start end n s e =
    to-edition 1 name start end 2 n s e
    ∙ walk-stop 1 _ (length name + 25) 4 (0 ∷ 1 ∷ 2 ∷ []) _ (judge-field 1 _ (length name + 25) 4 0 1 (2 ∷ []) [] (omega arith) refl ∙ edition-unread (length name + 25) (length name) start end)

-- ---- a field that is passed over

-- a tag that is none of the four, and below 128
pub record Unneeded (tag : ℕ) : Type 0 where
  pub below : tag < 128
  pub no_name : tag ≡ 1 → ⊥
  pub no_start : tag ≡ 2 → ⊥
  pub no_end : tag ≡ 3 → ⊥
  pub no-edition : tag ≡ 4 → ⊥

-- the bytes of a field
abbrev pub field_of : ℕ → List ℕ → List ℕ
field_of tag body = tag ∷ length body / 256 ∷ length body % 256 ∷ body

passed_over : (newest : ℕ) (h : Kept) (at tag n : ℕ) (body : List ℕ) → Unneeded tag → valued newest h at tag n body ≡ Ok (h, n)
unfolding valued
passed_over newest h at tag n body u = rw (ne_eqb tag 1 u.no_name, ne_eqb tag 2 u.no_start, ne_eqb tag 3 u.no_end, ne_eqb tag 4 u.no-edition)

walk-over : (newest : ℕ) (h : Kept) (at tag : ℕ) (body rest : List ℕ) → Unneeded tag → length body ≤ 65535
    → walk newest h at 0 (field_of tag body ++ rest) ≡ walk newest h (at + (3 + length body)) 0 rest
walk-over newest h at tag body rest u n =
    field-passes newest h at tag (length body / 256) (length body % 256) body rest u.below (omega arith) h (passed_over newest h at tag (length body) body u)

-- ---- the same fields at another offset

-- a refusal, and what is kept, d or c bytes later
abbrev pub later_refusal : ℕ → Refusal → Refusal
later_refusal d refused.TooLong = refused.TooLong
later_refusal d (refused.EmptyDefinition x y) = refused.EmptyDefinition x y
later_refusal d (refused.NoPrefix x y) = refused.NoPrefix x y
later_refusal d (refused.NoName x y) = refused.NoName x y
later_refusal d (refused.NoBases x) = refused.NoBases x
later_refusal d (refused.LineBases x y) = refused.LineBases x y
later_refusal d (refused.LineWidth x y) = refused.LineWidth x y
later_refusal d (refused.TableFull x) = refused.TableFull x
later_refusal d (refused.EmptyIndexLine x) = refused.EmptyIndexLine x
later_refusal d (refused.FieldAbsent x y) = refused.FieldAbsent x y
later_refusal d (refused.NotANumber x y) = refused.NotANumber x y
later_refusal d (refused.ZeroField x y) = refused.ZeroField x y
later_refusal d (refused.NameSplit x) = refused.NameSplit x
later_refusal d (refused.NoRoom x) = refused.NoRoom x
later_refusal d refused.NameUnknown = refused.NameUnknown
later_refusal d refused.BadBounds = refused.BadBounds
later_refusal d (refused.PastLength x) = refused.PastLength x
later_refusal d (refused.NotInFile x) = refused.NotInFile x
later_refusal d (refused.LineAbsent x) = refused.LineAbsent x
later_refusal d (refused.BytesLeft x) = refused.BytesLeft x
later_refusal d (refused.NameDiffers x) = refused.NameDiffers x
later_refusal d (refused.LengthDiffers x) = refused.LengthDiffers x
later_refusal d (refused.BaseElsewhere x y) = refused.BaseElsewhere x y
later_refusal d (refused.NoComplement x y) = refused.NoComplement x y
later_refusal d (refused.BadRow x) = refused.BadRow x
later_refusal d refused.AlreadyEnded = refused.AlreadyEnded
later_refusal d refused.ZeroWidth = refused.ZeroWidth
later_refusal d refused.NameUnfit = refused.NameUnfit
later_refusal d refused.DescriptionUnfit = refused.DescriptionUnfit
later_refusal d refused.BaseUnfit = refused.BaseUnfit
later_refusal d (refused.MalformedExercise at) = refused.MalformedExercise (at + d)
later_refusal d (refused.UnknownNeededTag at) = refused.UnknownNeededTag (at + d)
later_refusal d (refused.UnknownEdition at) = refused.UnknownEdition (at + d)
later_refusal d (refused.NotInWindow x) = refused.NotInWindow x
later_refusal d refused.WindowPastEnd = refused.WindowPastEnd
later_refusal d refused.PrimerLength = refused.PrimerLength
later_refusal d (refused.PrimerLetter x) = refused.PrimerLetter x
later_refusal d refused.NoPlusLine = refused.NoPlusLine
later_refusal d (refused.QualityLine x y) = refused.QualityLine x y
later_refusal d refused.TooManyRegions = refused.TooManyRegions
later_refusal d refused.TooFewStarts = refused.TooFewStarts
later_refusal d (refused.NoIndexFits x y) = refused.NoIndexFits x y

abbrev later : ℕ → Kept → Kept
later c h = record { wanted = h.wanted; name_start = h.name_start + c; name_length = h.name_length; start = h.start; end = h.end; edition = h.edition }

abbrev later_judged : ℕ → ℕ → Result (Kept × ℕ) Refusal → Result (Kept × ℕ) Refusal
later_judged c d (Ok (h, n)) = Ok ((later c h), n)
later_judged c d (Err r) = Err (later_refusal d r)

-- what is read, with the name c bytes later, and a refusal d
abbrev pub later_read : ℕ → ℕ → Result Exercise Refusal → Result Exercise Refusal
later_read c d (Ok e) = Ok (record { name_start = e.name_start + c; name_length = e.name_length; start = e.start; end = e.end; edition = e.edition })
later_read c d (Err r) = Err (later_refusal d r)

-- behind the name's field

later-either : (t : Bool) (c d : ℕ) (x' x y' y : Result (Kept × ℕ) Refusal) → x' ≡ later_judged c d x → y' ≡ later_judged c d y → cond t x' y' ≡ later_judged c d (cond t x y)
later-either true c d x' x y' y p q = p
later-either false c d x' x y' y p q = q

module _ (newest : ℕ) (h : Kept) (at n : ℕ) (body : List ℕ) (c d : ℕ) where
  name-later : eqb h.wanted 1 ≡ false → name_field (later c h) (at + d) n ≡ later_judged c d (name_field h at n)
  unfolding name_field bad
  name-later w = rw w

  start-later : start_field (later c h) (at + d) n body ≡ later_judged c d (start_field h at n body)
  unfolding start_field bad
  start-later = later-either (eqb h.wanted 2) c d _ _ _ _ (later-either (eqb n 8) c d _ _ _ _ refl refl) refl

  end_later : end_field (later c h) (at + d) n body ≡ later_judged c d (end_field h at n body)
  unfolding end_field bad
  end_later = later-either (eqb h.wanted 3) c d _ _ _ _ (later-either (eqb n 8) c d _ _ _ _ refl refl) refl

  edition-later : edition_field newest (later c h) (at + d) n body ≡ later_judged c d (edition_field newest h at n body)
  unfolding edition_field bad
  edition-later =
      later-either (eqb h.wanted 4) c d _ _ _ _ (later-either (eqb n 1) c d _ _ _ _ (later-either (known_to newest (get_or body 0 0)) c d _ _ _ _ refl refl) refl) refl

  valued-later : (tag : ℕ) → eqb h.wanted 1 ≡ false → valued newest (later c h) (at + d) tag n body ≡ later_judged c d (valued newest h at tag n body)
  unfolding valued
  valued-later tag w =
      later-either (eqb tag 1) c d _ _ _ _ (name-later w)
      (later-either (eqb tag 2) c d _ _ _ _ start-later (later-either (eqb tag 3) c d _ _ _ _ end_later (later-either (eqb tag 4) c d _ _ _ _ edition-later refl)))

judge-later : (newest : ℕ) (h : Kept) (at tag : ℕ) (s : List ℕ) (c d : ℕ) → eqb h.wanted 1 ≡ false
    → judge newest (later c h) (at + d) tag s ≡ later_judged c d (judge newest h at tag s)
unfolding judge sized bad
judge-later newest h at tag s c d w = later-either (ltb tag 128) c d _ _ _ _ (two s) refl
  where
    two : (l : List ℕ) → sized newest (later c h) (at + d) tag l ≡ later_judged c d (sized newest h at tag l)
    two [] = refl
    two (a ∷ []) = refl
    two (a ∷ b ∷ l) = later-either (ltb (length l) (a * 256 + b)) c d _ _ _ _ refl (valued-later newest h at (a * 256 + b) (take (a * 256 + b) l) c d tag w)

-- no field makes the name wanted again
abbrev Late : Result (Kept × ℕ) Refusal → Type 0
Late (Ok (g, n)) = eqb g.wanted 1 ≡ false
Late (Err r) = eqb 0 1 ≡ false

late-either : (t : Bool) (x y : Result (Kept × ℕ) Refusal) → Late x → Late y → Late (cond t x y)
late-either true x y p q = p
late-either false x y p q = q

judge-late : (newest : ℕ) (h : Kept) (at tag : ℕ) (s : List ℕ) → eqb h.wanted 1 ≡ false → Late (judge newest h at tag s)
unfolding judge sized valued name_field start_field end_field edition_field bad
judge-late newest h at tag s w = late-either (ltb tag 128) _ _ (two s) refl
  where
    field : (n : ℕ) (l : List ℕ) → Late (valued newest h at tag n l)
    field n l =
        late-either (eqb tag 1) _ _ (late-either (eqb h.wanted 1) _ _ refl refl)
        (late-either (eqb tag 2) _ _ (late-either (eqb h.wanted 2) _ _ (late-either (eqb n 8) _ _ refl refl) refl)
        (late-either (eqb tag 3) _ _ (late-either (eqb h.wanted 3) _ _ (late-either (eqb n 8) _ _ refl refl) refl)
        (late-either (eqb tag 4) _ _ (late-either (eqb h.wanted 4) _ _ (late-either (eqb n 1) _ _ (late-either (known_to newest (get_or l 0 0)) _ _ refl refl) refl) refl)
        w)))

    two : (l : List ℕ) → Late (sized newest h at tag l)
    two [] = refl
    two (a ∷ []) = refl
    two (a ∷ b ∷ l) = late-either (ltb (length l) (a * 256 + b)) _ _ refl (field (a * 256 + b) (take (a * 256 + b) l))

walk-later : (newest : ℕ) (h : Kept) (at k : ℕ) (s : List ℕ) (c d : ℕ) → eqb h.wanted 1 ≡ false
    → walk newest (later c h) (at + d) k s ≡ later_read c d (walk newest h at k s)
unfolding walk ended
walk-later newest h at k [] c d w = go (eqb h.wanted 5)
  where
    go : (t : Bool)
        → cond t (Ok (record { name_start = h.name_start + c; name_length = h.name_length; start = h.start; end = h.end; edition = h.edition })) (Err (refused.MalformedExercise (at + d)))
        ≡ later_read c d (cond t (Ok (record { name_start = h.name_start; name_length = h.name_length; start = h.start; end = h.end; edition = h.edition })) (Err (refused.MalformedExercise at)))
    go true = refl
    go false = refl
walk-later newest h at zero (tag ∷ s) c d w =
    rw (judge-later newest h at tag s c d w) (go (judge newest h at tag s) (judge-late newest h at tag s w) (λ g n v. walk-later newest g (suc at) (2 + n) s c d v))
  where
    go : (J : Result (Kept × ℕ) Refusal) → Late J → ((g : Kept) (n : ℕ) → eqb g.wanted 1 ≡ false → walk newest (later c g) (suc at + d) (2 + n) s ≡ later_read c d (walk newest g (suc at) (2 + n) s))
        → unless (later_judged c d J) (walk newest (kept_by (later_judged c d J)) (suc (at + d)) (2 + length_by (later_judged c d J)) s)
        ≡ later_read c d (unless J (walk newest (kept_by J) (suc at) (2 + length_by J) s))
    go (Ok (g, n)) v more = rw (← suc-add at d) (more g n v)
    go (Err r) v more = refl
walk-later newest h at (suc k) (b ∷ s) c d w = rw (← suc-add at d) (walk-later newest h (suc at) k s c d w)

-- up to the name's field

data Begins (d : ℕ) (J' J : Result (Kept × ℕ) Refusal) : Type 0 where
  again : (n : ℕ) → J' ≡ Ok (begun, n) → J ≡ Ok (begun, n) → Begins d J' J
  named : (g : Kept) (n : ℕ) → eqb g.wanted 1 ≡ false → J' ≡ Ok (later d g, n) → J ≡ Ok (g, n) → Begins d J' J
  stops : (r : Refusal) → J' ≡ Err (later_refusal d r) → J ≡ Err r → Begins d J' J

begins-either : (t : Bool) (d : ℕ) (x' x y' y : Result (Kept × ℕ) Refusal) → Begins d x' x → Begins d y' y → Begins d (cond t x' y') (cond t x y)
begins-either true d x' x y' y p q = p
begins-either false d x' x y' y p q = q

begins : (newest at tag : ℕ) (s : List ℕ) (d : ℕ) → Begins d (judge newest begun (at + d) tag s) (judge newest begun at tag s)
unfolding judge sized valued name_field start_field end_field edition_field bad
begins newest at tag s d = begins-either (ltb tag 128) d _ _ _ _ (two s) (stops (refused.UnknownNeededTag at) refl refl)
  where
    stop : Begins d (bad (at + d)) (bad at)
    stop = stops (refused.MalformedExercise at) refl refl

    place : at + d + 3 ≡ at + 3 + d
    place = omega arith

    field : (n : ℕ) (l : List ℕ) → Begins d (valued newest begun (at + d) tag n l) (valued newest begun at tag n l)
    field n l =
        begins-either (eqb tag 1) d _ _ _ _
        (named (record { wanted = 2; name_start = at + 3; name_length = n; start = 0; end = 0; edition = 0 }) n refl (ap (λ (i : ℕ). Ok ((record { wanted = 2; name_start = i; name_length = n; start = 0; end = 0; edition = 0 }), n)) place) refl)
        (begins-either (eqb tag 2) d _ _ _ _ stop
        (begins-either (eqb tag 3) d _ _ _ _ stop
        (begins-either (eqb tag 4) d _ _ _ _ stop (again n refl refl))))

    two : (l : List ℕ) → Begins d (sized newest begun (at + d) tag l) (sized newest begun at tag l)
    two [] = stop
    two (a ∷ []) = stop
    two (a ∷ b ∷ l) = begins-either (ltb (length l) (a * 256 + b)) d _ _ _ _ stop (field (a * 256 + b) (take (a * 256 + b) l))

walk-begun : (newest at k : ℕ) (s : List ℕ) (d : ℕ) → walk newest begun (at + d) k s ≡ later_read d d (walk newest begun at k s)
unfolding walk ended
walk-begun newest at k [] d = refl
walk-begun newest at zero (tag ∷ s) d =
    go (judge newest begun (at + d) tag s) (judge newest begun at tag s) (begins newest at tag s d) (λ n. walk-begun newest (suc at) (2 + n) s d)
  where
    go : (J' J : Result (Kept × ℕ) Refusal) → Begins d J' J → ((n : ℕ) → walk newest begun (suc at + d) (2 + n) s ≡ later_read d d (walk newest begun (suc at) (2 + n) s))
        → unless J' (walk newest (kept_by J') (suc (at + d)) (2 + length_by J') s) ≡ later_read d d (unless J (walk newest (kept_by J) (suc at) (2 + length_by J) s))
    go J' J (again n p q) more = rw (p, q, ← suc-add at d) (more n)
    go J' J (named g n v p q) more = rw (p, q, ← suc-add at d) (walk-later newest g (suc at) (2 + n) s d d v)
    go J' J (stops r p q) more = rw (p, q)
walk-begun newest at (suc k) (b ∷ s) d = rw (← suc-add at d) (walk-begun newest (suc at) k s d)

-- a field that is passed over, put in front: the same exercise, or the same refusal, so many bytes later
pub passed-front : (newest tag : ℕ) (body s : List ℕ) → Unneeded tag → length body ≤ 65535
    → says_from newest (field_of tag body ++ s) ≡ later_read (3 + length body) (3 + length body) (says_from newest s)
unfolding says_from
passed-front newest tag body s u n = walk-over newest begun 0 tag body s u n ∙ walk-begun newest 0 0 s (3 + length body)

-- ---- anywhere between fields

-- whole fields one after another, with tags below 128
pub data Fields : List ℕ → Type 0 where
  none : Fields []
  field : (tag a b : ℕ) (body rest : List ℕ) → tag < 128 → a * 256 + b ≡ length body → Fields rest → Fields (tag ∷ a ∷ b ∷ (body ++ rest))

-- an answer is another one; or the same with a refusal d bytes later, and a name d bytes later, or where it was
pub data Alike (d : ℕ) (r' r : Result Exercise Refusal) : Type 0 where
  same : r' ≡ r → Alike d r' r
  behind : r' ≡ later_read d d r → Alike d r' r
  before : r' ≡ later_read 0 d r → Alike d r' r

-- nothing is kept, or the name
data Begun (h : Kept) : Type 0 where
  unnamed : h ≡ begun → Begun h
  name-kept : eqb h.wanted 1 ≡ false → Begun h

later-none : (h : Kept) → later 0 h ≡ h
later-none h = rw (add-zero h.name_start)

unmoved : (e : Exercise) → e ≡ record { name_start = e.name_start + 0; name_length = e.name_length; start = e.start; end = e.end; edition = e.edition }
unmoved e = rw (add-zero e.name_start)

still-begun : (newest : ℕ) (h : Kept) (at tag : ℕ) (s : List ℕ) → Begun h → (g : Kept) (n : ℕ) → judge newest h at tag s ≡ Ok (g, n) → Begun g
still-begun newest h at tag s (unnamed b) g n e = go (begins newest at tag s 0) (rw b at e)
  where
    go : Begins 0 (judge newest begun (at + 0) tag s) (judge newest begun at tag s) → judge newest begun at tag s ≡ Ok (g, n) → Begun g
    go (again m p q) e =
        let u : ◌≡◌ {A = Kept × ℕ} (g, n) (begun, m) = cc in
        unnamed (ap (λ (y : Kept × ℕ). y.0) u)
    go (named f m v p q) e =
        let u : ◌≡◌ {A = Kept × ℕ} (g, n) (f, m) = cc in
        name-kept (rw (ap (λ (y : Kept × ℕ). y.0) u) v)
    go (stops r p q) e = let z : ◌≡◌ {A = ℕ} 0 1 = cc in absurd (omega arith)
still-begun newest h at tag s (name-kept w) g n e = name-kept (rw e at (judge-late newest h at tag s w))

module _ (newest utag : ℕ) (ubody s : List ℕ) (u : Unneeded utag) (long : length ubody ≤ 65535) where
  between_none : (h : Kept) (at : ℕ) → Begun h → Alike (3 + length ubody) (walk newest h at 0 (field_of utag ubody ++ s)) (walk newest h at 0 s)
  between_none h at (unnamed b) = rw b (behind (walk-over newest begun at utag ubody s u long ∙ walk-begun newest at 0 s (3 + length ubody)))
  between_none h at (name-kept w) =
      before (walk-over newest h at utag ubody s u long ∙ (ap (λ (g : Kept). walk newest g (at + (3 + length ubody)) 0 s) (sym (later-none h)) ∙ walk-later newest h at 0 s 0 (3 + length ubody) w))

  between : {pre : List ℕ} → Fields pre → (h : Kept) (at : ℕ) → Begun h
      → Alike (3 + length ubody) (walk newest h at 0 (pre ++ (field_of utag ubody ++ s))) (walk newest h at 0 (pre ++ s))
  between none h at b = between_none h at b
  between (field tag a b body rest small size more) h at w =
      rw (append_assoc body rest (field_of utag ubody ++ s), append_assoc body rest s)
      (go (valued newest h at tag (length body) body) refl (λ g v. between more g (at + (3 + length body)) v))
    where
      go : (J : Result (Kept × ℕ) Refusal) → valued newest h at tag (length body) body ≡ J
          → ((g : Kept) → Begun g → Alike (3 + length ubody) (walk newest g (at + (3 + length body)) 0 (rest ++ (field_of utag ubody ++ s))) (walk newest g (at + (3 + length body)) 0 (rest ++ s)))
          → Alike (3 + length ubody) (walk newest h at 0 (tag ∷ a ∷ b ∷ (body ++ (rest ++ (field_of utag ubody ++ s))))) (walk newest h at 0 (tag ∷ a ∷ b ∷ (body ++ (rest ++ s))))
      go (Ok (g, n)) e onward =
          let m : n ≡ length body = valued-length newest h at tag (length body) body g n e in
          let f : valued newest h at tag (length body) body ≡ Ok (g, (length body)) = rw m at e in
          let v = still-begun newest h at tag (a ∷ b ∷ (body ++ (rest ++ s))) w g (length body) (judge-field newest h at tag a b body (rest ++ s) small size ∙ f) in
          rw (field-passes newest h at tag a b body (rest ++ (field_of utag ubody ++ s)) small size g f, field-passes newest h at tag a b body (rest ++ s) small size g f) (onward g v)
      go (Err r) e onward =
          same
          (walk-stop newest h at tag (a ∷ b ∷ (body ++ (rest ++ (field_of utag ubody ++ s)))) r (judge-field newest h at tag a b body (rest ++ (field_of utag ubody ++ s)) small size ∙ e)
          ∙ sym (walk-stop newest h at tag (a ∷ b ∷ (body ++ (rest ++ s))) r (judge-field newest h at tag a b body (rest ++ s) small size ∙ e)))

  -- a field that is passed over changes nothing wherever it stands, but for places behind it
  pub passed-between : {pre : List ℕ} → Fields pre → Alike (3 + length ubody) (says_from newest (pre ++ (field_of utag ubody ++ s))) (says_from newest (pre ++ s))
  unfolding says_from
  passed-between f = between f begun 0 (unnamed refl)

  -- so what reads still reads, with the same bounds, edition and length of name
  pub passed_reads : {pre : List ℕ} → Fields pre → (e : Exercise) → says_from newest (pre ++ s) ≡ Ok e
      → (c : ℕ) × (says_from newest (pre ++ (field_of utag ubody ++ s)) ≡ Ok (record { name_start = e.name_start + c; name_length = e.name_length; start = e.start; end = e.end; edition = e.edition }))
  passed_reads {pre} f e q = go (passed-between f)
    where
      go : Alike (3 + length ubody) (says_from newest (pre ++ (field_of utag ubody ++ s))) (says_from newest (pre ++ s))
          → (c : ℕ) × (says_from newest (pre ++ (field_of utag ubody ++ s)) ≡ Ok (record { name_start = e.name_start + c; name_length = e.name_length; start = e.start; end = e.end; edition = e.edition }))
      go (same p) = (0, p ∙ (q ∙ ap Ok (unmoved e)))
      go (behind p) = (3 + length ubody, p ∙ rw q)
      go (before p) = (0, p ∙ rw q)
