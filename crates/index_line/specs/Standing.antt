-- A line as it is written, where it stands in a text: where it ends, whatever its numbers are, and what it says.
use Rattle.std.specs.Prelude.{ℕ, suc, ◌+◌, ◌-◌, ◌≤◌, ◌<◌, ◌≡◌, Bool, true, false, ◌&&◌, get_or, Ok, Err}
use Rattle.std.proofs.Math.Path.{refl, sym, ap}
use Rattle.std.proofs.Common.{◌∙◌, arith, take-append-drop, drop_of_length-le}
use mathlib.Core.List.{List, [], ◌∷◌, ◌++◌, map, append_assoc}
use Rattle.std.proofs.Math.ListN.{length, take, drop, length-append, length-drop}
use Rattle.std.proofs.Math.Seq.{length-take-le}
use borrow.Author.Tests.{ne_eqb}
use Rattle.lines.specs.Lines.{part, line_len, line_end, content_of, ends, chop}
use Rattle.refusal.specs.declared.Refusal.TheVariants.{EmptyIndexLine}
use Rattle.columns.specs.Bytes.{is}
use Rattle.columns.specs.Decimal.{decimal_of}
use Rattle.columns.specs.Fields.{cut_at, tabbed, numbers_text, text_of}
use Rattle.columns.specs.Lacks.{Lacks, lacks-head, lacks-tail, lacks-append, text-lacks, splits-lf, splits-tab}
use Rattle.columns.specs.Numbers.{Allowed, text-reads, reads_say}
use Rattle.columns.specs.Cut.{text-cut}
use Rattle.columns.specs.Standing.{LineAt}
use Rattle.index_line.specs.Columns.{plain_end, fields_in, content_says, line_says, SaidAt}
use Rattle.index_line.specs.IndexLine as index_line
use Rattle.index_line.specs.IndexLine.{record_of, entry_for, plain_only, fields_of, index_line_says}
use Rattle.index_line.specs.Ends.{content-lf, plain-lf}
use Rattle.index_line.specs.RoundTripLaws.{ends-digit}

-- ---- where it ends

ends-first : (c r : List ℕ) → Lacks (is 10) c → line_len ((c ++ (10 ∷ [])) ++ r) ≡ length (c ++ (10 ∷ []))
unfolding line_len
ends-first [] r h = refl
ends-first (b ∷ c) r h = rw (lacks-head (is 10) b c h) (ap suc (ends-first c r (lacks-tail (is 10) b c h)))

module _ (text : List ℕ) (at n e : ℕ) (ns : List ℕ) (h : LineAt text at n e ns) where
  pub standing-end : e ≡ line_end text at
  unfolding text_of
  standing-end =
      let name : List ℕ = take n (drop at text) in
      let c : List ℕ = name ++ numbers_text ns in
      let t : part text at e ≡ c ++ (10 ∷ []) = h.text ∙ sym (append_assoc name (numbers_text ns) (10 ∷ [])) in
      let clear : Lacks (is 10) c = lacks-append (is 10) name (numbers_text ns) (splits-lf name h.whole) (text-lacks (is 10) (λ b l. ne_eqb b 10 (λ q. omega arith)) refl ns) in
      let k : line_len (drop at text) ≡ length (c ++ (10 ∷ [])) =
      ap line_len (sym (take-append-drop (e - at) (drop at text)) ∙ ap (λ (l : List ℕ). l ++ drop (e - at) (drop at text)) t) ∙ ends-first c (drop (e - at) (drop at text)) clear in
      let m : length (part text at e) ≡ e - at = length-take-le (e - at) (drop at text) (omega (arith, length-drop at text, h.within)) in
      omega (arith, k, m, ap length t, length-append c (10 ∷ []))

  pub standing-name : length (take n (drop at text)) ≡ n
  standing-name = length-take-le n (drop at text) (omega (arith, length-drop at text, h.inside))

-- ---- what it says, by what a name and its numbers make

module _ {Entry : Type 0} (entry : ℕ → List ℕ → Bool → Entry) (only : Bool → Entry → Entry)
    (both : (p q : Bool) (k : ℕ) (vs : List ℕ) → only p (entry k vs q) ≡ entry k vs (p && q)) where
  -- numbers that can stand in a line, behind a name without tabs
  content-numbers : (line : ℕ) (name : List ℕ) (a : ℕ) (ns : List ℕ) → Lacks (is 9) name
      → ((i : ℕ) → i < length (a ∷ ns) → Allowed (2 + i) (get_or (a ∷ ns) i 0))
      → content_says entry (length (a ∷ ns)) line (name ++ numbers_text (a ∷ ns)) ≡ Ok (entry (length name) (a ∷ ns) true)
  unfolding tabbed
  content-numbers line name a ns h k =
      let e : fields_in (length (a ∷ ns)) (name ++ numbers_text (a ∷ ns)) ≡ name ∷ map decimal_of (a ∷ ns) = fields-some name a ns ∙ text-cut name (a ∷ ns) h in
      rw (e, reads_say line (text-reads (a ∷ ns) 2 k))
    where
      fields-some : (f : List ℕ) (b : ℕ) (vs : List ℕ) → fields_in (length (b ∷ vs)) (f ++ numbers_text (b ∷ vs)) ≡ cut_at (length (b ∷ vs)) (f ++ numbers_text (b ∷ vs))
      fields-some [] b vs = refl
      fields-some (c ∷ f) b vs = refl

  module _ (text : List ℕ) (at n e : ℕ) where
    pub line-standing : (ns : List ℕ) → LineAt text at n e ns → (line : ℕ) → 0 < length ns
        → SaidAt (line_says entry only (length ns)) line text at (Ok (entry n ns true)) e
    unfolding text_of
    line-standing [] h line k = absurd (omega arith)
    line-standing (a ∷ ns) h line k = record { end = standing-end text at n e (a ∷ ns) h; read = sym said }
      where
        name : List ℕ
        name = take n (drop at text)

        clear : ends 13 (name ++ numbers_text (a ∷ ns)) ≡ false
        clear = ends-digit name a ns

        allowed : (i : ℕ) → i < length (a ∷ ns) → Allowed (2 + i) (get_or (a ∷ ns) i 0)
        allowed i m = ((h.some i m).1, rw (ne_eqb (get_or (a ∷ ns) i 0) 0 (λ z. omega (arith, (h.some i m).0))))

        content : content_says entry (length (a ∷ ns)) line (name ++ numbers_text (a ∷ ns)) ≡ Ok (entry n (a ∷ ns) true)
        content = content-numbers line name a ns (splits-tab name h.whole) allowed ∙ ap (λ (m : ℕ). Ok (entry m (a ∷ ns) true)) (standing-name text at n e (a ∷ ns) h)

        said : line_says entry only (length (a ∷ ns)) line (part text at e) ≡ Ok (entry n (a ∷ ns) true)
        said =
            ap (line_says entry only (length (a ∷ ns)) line) (h.text ∙ sym (append_assoc name (numbers_text (a ∷ ns)) (10 ∷ [])))
            ∙ rw (plain-lf _ clear, content-lf _ clear, content) (ap Ok (both true true n (a ∷ ns)))

  -- where there is no line
  pub none-says : (n line : ℕ) (text : List ℕ) (at : ℕ) → length text ≤ at → SaidAt (line_says entry only n) line text at (Err (EmptyIndexLine line)) at
  unfolding content_of plain_end ends chop line_len
  none-says n line text at h =
      let z : at - at ≡ 0 = omega arith in
      let d : drop at text ≡ [] = drop_of_length-le text h in
      record { end = rw d (omega arith); read = rw z }

-- ---- a line of four numbers

pub standing-says : (text : List ℕ) (at n e : ℕ) (ns : List ℕ) → LineAt text at n e ns → (line : ℕ) → length ns ≡ 4
    → index_line.SaidAt line text at (Ok (record { «record» = record_of n ns; plain = true })) e
unfolding index_line_says index_line.content_says fields_of
standing-says text at n e ns h line k = rw k at (line-standing entry_for plain_only (λ p q m vs. refl) text at n e ns h line (omega (arith, k)))
