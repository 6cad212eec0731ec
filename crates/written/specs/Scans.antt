-- The scanning rule gives a written record's bases too, and stops at its end.
use Rattle.std.specs.Prelude.{ℕ, ◌+◌, ◌≡◌, refl, Bool, true, false, cond, ◌||◌, length, eqb}
use Rattle.std.proofs.Math.Path.{ap, sym}
use Rattle.std.proofs.Common.{◌∙◌, arith}
use mathlib.Core.List.{List, [], ◌∷◌, ◌++◌, append-nil}
use Rattle.lines.specs.Lines.{lines, seq_of, seq_at, sum_widths}
use Rattle.sequence.specs.Scan.{scan_all}
use Rattle.sequence.specs.Clean.{has, Clean}
use Rattle.sequence.specs.Agree.{rules-agree}
use Rattle.columns.specs.Bytes.{is}
use Rattle.writer.specs.Text.{definition_text, contents_of, line_of, lines_text, record_text, any_of, barred}
use Rattle.writer.specs.Contents.{none_both, none-less, base-no-cr, base-no-prefix, bases-line, Good, a-content, good-contents, good-lines, good-seq}
use Rattle.writer.specs.Reads.{Writable, text-behind, record-bases, no_more}
use Rattle.written.specs.ContentLines.{lines_of, widths-text}
use Rattle.written.specs.Indexed.{text-long}

has-any : (c : ℕ) (s : List ℕ) → any_of (is c) s ≡ false → has c s ≡ false
unfolding has any_of
has-any c [] e = refl
has-any c (b ∷ s) e = go (eqb b c) e (has-any c s)
  where
    go : (t : Bool) → (t || any_of (is c) s) ≡ false → (any_of (is c) s ≡ false → has c s ≡ false) → cond t true (has c s) ≡ false
    go true e h = e
    go false e h = h e

lf-alone : any_of (is 62) (10 ∷ []) ≡ false
unfolding any_of
lf-alone = refl

-- the lines of contents hold no '>' and no CR
clean-contents : (rs : List (List ℕ)) → Good rs → Clean (lines_of rs)
unfolding Clean
clean-contents [] g = tt
clean-contents (r ∷ rs) (a-content h e g) = (
  record {
    no-prefix = has-any 62 (line_of r) (none_both (is 62) r (10 ∷ []) (none-less barred (is 62) base-no-prefix r e) lf-alone);
    no_return = rw (bases-line r e) (has-any 13 r (none-less barred (is 13) base-no-cr r e));
  },
  clean-contents rs g,
)

module _ (name : List ℕ) (t : Bool) (d bases : List ℕ) (w : ℕ) (x : Writable name t d bases w) where
  -- the sequence lines of a record are those of its contents
  pub its-lines : seq_at (record_text name t d bases w) (length (definition_text name t d)) ≡ lines_of (contents_of w bases)
  unfolding seq_at
  its-lines =
      let rs : List (List ℕ) = contents_of w bases in
      let g = good-contents w x.wide (length bases) bases x.based in
      ap (λ (l : List ℕ). seq_of (lines l)) (text-behind name t d bases w ∙ sym (append-nil (lines_text rs)))
      ∙ ap seq_of (good-lines rs g [])
      ∙ good-seq rs g (lines [])
      ∙ ap (λ (ls : List (List ℕ)). lines_of rs ++ ls) no_more
      ∙ append-nil (lines_of rs)

  pub written-scans : scan_all (record_text name t d bases w) (length (definition_text name t d)) ≡ record { bases = bases; place = length (record_text name t d bases w) }
  written-scans =
      let end : length (definition_text name t d) + sum_widths (lines_of (contents_of w bases)) ≡ length (record_text name t d bases w) = omega (arith, text-long name t d bases w, widths-text (contents_of w bases)) in
      rules-agree (record_text name t d bases w) (length (definition_text name t d)) (rw its-lines (clean-contents (contents_of w bases) (good-contents w x.wide (length bases) bases x.based)))
      ∙ rw (its-lines, record-bases name t d bases w x, end)
