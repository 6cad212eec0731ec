-- Bytes that end in LF are one line exactly if no LF stands before it; so a line that is written is one.
use Rattle.std.specs.Prelude.{ℕ, suc, ◌≡◌, refl, List, [], ◌∷◌, ◌++◌, Bool, true, false, cond, length, eqb}
use Rattle.std.proofs.Common.{ap, append_assoc, arith, length-append}
use borrow.Author.Tests.{eq-eqb, eqb-true, ne_eqb}
use Rattle.lines.specs.Lines.{line_len}
use Rattle.record.specs.declared.Record.{Record}
use Rattle.columns.specs.Bytes.{is, first_where}
use Rattle.columns.specs.Fields.{numbers_text, text_of, splits}
use Rattle.columns.specs.Lacks.{Lacks, lacks-head, lacks-tail, lacks-cons, lacks-append, text-lacks, splits-lf}
use Rattle.index_line.specs.IndexLine.{one_line, columns_of, line_of}

one-length : (c : List ℕ) → Lacks (is 10) c → line_len (c ++ (10 ∷ [])) ≡ length (c ++ (10 ∷ []))
unfolding line_len
one-length [] h = refl
one-length (b ∷ c) h = rw (lacks-head (is 10) b c h) (ap suc (one-length c (lacks-tail (is 10) b c h)))

length-one : (c : List ℕ) → line_len (c ++ (10 ∷ [])) ≡ length (c ++ (10 ∷ [])) → Lacks (is 10) c
unfolding line_len first_where
length-one [] h = refl
length-one (b ∷ c) h = go (eqb b 10) refl h (length-one c)
  where
    go : (t : Bool) → eqb b 10 ≡ t → cond t 1 (suc (line_len (c ++ (10 ∷ [])))) ≡ suc (length (c ++ (10 ∷ [])))
        → (line_len (c ++ (10 ∷ [])) ≡ length (c ++ (10 ∷ [])) → Lacks (is 10) c) → Lacks (is 10) (b ∷ c)
    go true e k f = absurd (omega (arith, length-append c (10 ∷ [])))
    go false e k f = lacks-cons (is 10) b c e (f (omega arith))

module _ (c : List ℕ) where
  pub lacks-one : Lacks (is 10) c → one_line (c ++ (10 ∷ [])) ≡ true
  unfolding one_line
  lacks-one h = eq-eqb _ _ (one-length c h)

  pub one-lacks : one_line (c ++ (10 ∷ [])) ≡ true → Lacks (is 10) c
  unfolding one_line
  one-lacks h = length-one c (eqb-true _ _ h)

-- the line of a name without an LF
pub line-one : (name : List ℕ) (x : Record) → Lacks splits name → one_line (line_of name x) ≡ true
unfolding line_of text_of
line-one name x h =
    rw (← append_assoc name (numbers_text (columns_of x)) (10 ∷ []))
    (lacks-one (name ++ numbers_text (columns_of x)) (lacks-append (is 10) name (numbers_text (columns_of x)) (splits-lf name h) (text-lacks (is 10) (λ b l. ne_eqb b 10 (λ e. omega arith)) refl (columns_of x))))
