-- A written record is read back: its first line says the name and the description, and the bases by the line rule of the rest are those given.
use Rattle.std.specs.Prelude.{ℕ, zero, suc, ◌+◌, ◌-◌, ◌<◌, ◌≡◌, Bool, false, cond, ◌&&◌, ◌||◌, length, take, drop, get_or, eqb, Ok}
use Rattle.std.proofs.Math.Path.{refl, ap}
use Rattle.std.proofs.Common.{sym, ◌∙◌, true≢false, length-append, take_at, drop_at, get_or-append-add, eq-eqb, arith}
use mathlib.Core.List.{List, [], ◌∷◌, ◌++◌, map, append-nil, append_assoc}
use Rattle.std.proofs.Math.Bool.{true}
use Rattle.std.proofs.lemmas.Bool.{eqb-false}
use Rattle.lines.specs.Lines.{lines, chop, content_of, seq_of, seq_at, all_bases}
use Rattle.lines.specs.Laws.{chop-hit, chop-keep, content-cut}
use Rattle.lines.specs.declared.Span.{Span}
use Rattle.definition.specs.Definition.{is_space, spaced, run, kept, keep, described, named_of, content_says, definition_says}
use Rattle.definition.specs.Laws.{described-some}
use Rattle.definition.specs.declared.Definition.{Definition}
use Rattle.columns.specs.Bytes.{is}
use Rattle.output.specs.Outcome.{leaves, refuses, pours}
use Rattle.output.specs.Laws.{no-bytes, poured-known}
use Rattle.refusal.specs.declared.Refusal.TheVariants.{TooLong, ZeroWidth, NameUnfit, DescriptionUnfit, BaseUnfit}
use Rattle.writer.specs.Text.{described_text, definition_text, contents_of, line_of, lines_text, sequence_text, record_text, any_of, name_unfit, description_unfit, barred, too_long, record_written}
use Rattle.writer.specs.Contents.{either-false, none_both, none-at, none-less, lines-line, good-contents, contents-joined, good-lines, good-seq, good-bases}

-- what a call of writing does not refuse, but for room and the limit
pub record Writable (name : List ℕ) (t : Bool) (d bases : List ℕ) (w : ℕ) : Type 0 where
  pub named : name_unfit name ≡ false
  pub told : (t && description_unfit d) ≡ false
  pub based : any_of barred bases ≡ false
  pub wide : 0 < w

-- ---- the definition line

-- what it is to say: the places of the name and of the description; 0 and 0 where there is none
abbrev pub definition_of : List ℕ → Bool → List ℕ → Definition
definition_of name false d = record { name = record { start = 1; length = length name }; description = record { start = 0; length = 0 } }
definition_of name true d = record { name = record { start = 1; length = length name }; description = record { start = length name + 2; length = length d } }

-- a name
pub record GoodName (name : List ℕ) : Type 0 where
  pub some : 0 < length name
  pub whole : any_of is_space name ≡ false

pub good-name : (name : List ℕ) → name_unfit name ≡ false → GoodName name
unfolding name_unfit
good-name name e =
    let x = either-false (eqb (length name) 0) (any_of is_space name) e in
    let n : length name ≡ 0 → ⊥ = eqb-false _ _ x.0 in
    record { some = omega arith; whole = x.1 }

-- a description
pub record GoodDescription (d : List ℕ) : Type 0 where
  pub some : 0 < length d
  pub single : any_of (is 10) d ≡ false
  pub first : is_space (get_or d 0 0) ≡ false
  pub last : is_space (get_or d (length d - 1) 0) ≡ false

pub good-description : (d : List ℕ) → description_unfit d ≡ false → GoodDescription d
unfolding description_unfit
good-description d e =
    let x = either-false (eqb (length d) 0) _ e in
    let y = either-false (any_of (is 10) d) _ x.1 in
    let z = either-false (is_space (get_or d 0 0)) _ y.1 in
    let n : length d ≡ 0 → ⊥ = eqb-false _ _ x.0 in
    record { some = omega arith; single = y.0; first = z.0; last = z.1 }

-- whitespace has LF and CR
space-lf : (b : ℕ) → is_space b ≡ false → eqb b 10 ≡ false
unfolding is_space
space-lf b e = (either-false (eqb b 32 || eqb b 9) (eqb b 10) (either-false (eqb b 32 || eqb b 9 || eqb b 10) (eqb b 12) (either-false (eqb b 32 || eqb b 9 || eqb b 10 || eqb b 12) (eqb b 13) e).0).0).1

space-cr : (b : ℕ) → is_space b ≡ false → eqb b 13 ≡ false
unfolding is_space
space-cr b e = (either-false (eqb b 32 || eqb b 9 || eqb b 10 || eqb b 12) (eqb b 13) e).1

-- the name is all up to the whitespace behind it
run-name : (name rest : List ℕ) → any_of is_space name ≡ false → run (spaced false) rest ≡ 0 → run (spaced false) (name ++ rest) ≡ length name
unfolding run any_of
run-name [] rest e z = z
run-name (b ∷ name) rest e z =
    let x = either-false (is_space b) (any_of is_space name) e in
    rw x.0 (ap suc (run-name name rest x.1 z))

-- nothing comes off the end of a description
keep-last : (d : List ℕ) (j : ℕ) → length d ≡ suc j → is_space (get_or d j 0) ≡ false → keep is_space d ≡ suc j
unfolding keep
keep-last [] j h e = absurd (omega arith)
keep-last (b ∷ []) zero h e = rw e
keep-last (b ∷ []) (suc j) h e = absurd (omega arith)
keep-last (b ∷ c ∷ d) zero h e = absurd (omega arith)
keep-last (b ∷ c ∷ d) (suc j) h e = ap (kept (is_space b)) (keep-last (c ∷ d) j (omega arith) e)

run-first : (d : List ℕ) → is_space (get_or d 0 0) ≡ false → run (spaced true) d ≡ 0
unfolding run
run-first [] e = refl
run-first (b ∷ d) e = rw e

-- what a name and the rest say, by the place of the name's end
says-by : (s : List ℕ) (n : ℕ) (d : Definition) → run (spaced false) s ≡ n → named_of s n ≡ Ok d → content_says (62 ∷ s) ≡ Ok d
unfolding content_says
says-by s n d e h = rw e h

spanned : ℕ → List ℕ → Span
spanned n q = described (suc n + run (spaced true) q) (keep is_space (drop (run (spaced true) q) q))

named_by : (s q : List ℕ) (n : ℕ) → 0 < n → drop n s ≡ q → named_of s n ≡ Ok (record { name = record { start = 1; length = n }; description = spanned n q })
unfolding spanned
named_by s q zero h e = absurd (omega arith)
named_by s q (suc n) h e = rw e

span_none : (n : ℕ) → spanned n [] ≡ record { start = 0; length = 0 }
unfolding spanned run keep
span_none n = refl

span-some : (n : ℕ) (d : List ℕ) → GoodDescription d → spanned n (32 ∷ d) ≡ record { start = n + 2; length = length d }
unfolding spanned
span-some n d g =
    let one : run (spaced true) (32 ∷ d) ≡ 1 = behind-space (run-first d g.first) in
    let all : keep is_space d ≡ length d = keep-last d (length d - 1) (omega (arith, g.some)) g.last ∙ omega (arith, g.some) in
    let at : suc n + 1 ≡ n + 2 = omega arith in
    rw (one, all, at) (described-some (n + 2) (length d) g.some)
  where
    behind-space : run (spaced true) d ≡ 0 → run (spaced true) (32 ∷ d) ≡ 1
    behind-space e = unfold run in unfold is_space in rw e

name-stops : (t : Bool) (d : List ℕ) → run (spaced false) (described_text t d) ≡ 0
unfolding run described_text is_space
name-stops true d = refl
name-stops false d = refl

pub content-says : (name : List ℕ) (t : Bool) (d : List ℕ) → GoodName name → (t ≡ true → GoodDescription d) → content_says (62 ∷ (name ++ described_text t d)) ≡ Ok (definition_of name t d)
content-says name t d g k =
    says-by (name ++ described_text t d) (length name) (definition_of name t d) (run-name name (described_text t d) g.whole (name-stops t d))
    (named_by (name ++ described_text t d) (described_text t d) (length name) g.some (drop_at name (described_text t d) (length name) refl) ∙ ap Ok (spans t k))
  where
    spans : (t : Bool) → (t ≡ true → GoodDescription d) → record { name = record { start = 1; length = length name }; description = spanned (length name) (described_text t d) } ≡ definition_of name t d
    spans false k = unfold described_text in rw (span_none (length name))
    spans true k = unfold described_text in rw (span-some (length name) d (k refl))

-- the line as its content and LF
abbrev pub head_of : List ℕ → Bool → List ℕ → List ℕ
head_of name t d = 62 ∷ (name ++ described_text t d)

pub definition-line : (name : List ℕ) (t : Bool) (d : List ℕ) → definition_text name t d ≡ line_of (head_of name t d)
unfolding definition_text
definition-line name t d = ap (λ (l : List ℕ). 62 ∷ l) (sym (append_assoc name (described_text t d) (10 ∷ [])))

-- it has no other LF
pub head_clear : (name : List ℕ) (t : Bool) (d : List ℕ) → GoodName name → (t ≡ true → GoodDescription d) → any_of (is 10) (head_of name t d) ≡ false
unfolding any_of
head_clear name t d g k = none_both (is 10) name (described_text t d) (none-less is_space (is 10) space-lf name g.whole) (behind t k)
  where
    behind : (t : Bool) → (t ≡ true → GoodDescription d) → any_of (is 10) (described_text t d) ≡ false
    behind false k = unfold described_text in refl
    behind true k = unfold described_text in (k refl).single

-- nothing comes off the content, which does not end in CR
chop-tail : (a l : List ℕ) → 0 < length l → is_space (get_or l (length l - 1) 0) ≡ false → chop 13 (a ++ l) ≡ a ++ l
chop-tail a l h e =
    chop-keep 13 (a ++ l) (length a + (length l - 1)) (omega (arith, length-append a l))
    (λ q. true≢false (sym (eq-eqb _ _ (sym (get_or-append-add a l (length l - 1) 0) ∙ q)) ∙ space-cr _ e))

head-kept : (name : List ℕ) (t : Bool) (d : List ℕ) → GoodName name → (t ≡ true → GoodDescription d) → chop 13 (head_of name t d) ≡ head_of name t d
unfolding described_text
head-kept name false d g k = rw (append-nil name) (chop-tail (62 ∷ []) name g.some (none-at is_space name (length name - 1) g.whole (omega (arith, g.some))))
head-kept name true d g k =
    rw (append_assoc (62 ∷ name) (32 ∷ []) d) at (chop-tail ((62 ∷ name) ++ (32 ∷ [])) d (k refl).some (k refl).last)

pub line-says : (name : List ℕ) (t : Bool) (d : List ℕ) → GoodName name → (t ≡ true → GoodDescription d) → definition_says (definition_text name t d) ≡ Ok (definition_of name t d)
unfolding definition_says
line-says name t d g k =
    let l : List ℕ = head_of name t d in
    let cut : chop 10 (line_of l) ≡ l = chop-hit 10 l 10 refl in
    let content : content_of (line_of l) ≡ l = content-cut (line_of l) (λ q. absurd (omega (arith, ap length cut, length-append l (10 ∷ []), q))) ∙ ap (chop 13) cut ∙ head-kept name t d g k in
    ap content_says (ap content_of (definition-line name t d) ∙ content) ∙ content-says name t d g k

-- ---- the record

module _ (name : List ℕ) (t : Bool) (d bases : List ℕ) (w : ℕ) (x : Writable name t d bases w) where
  pub its-name : GoodName name
  its-name = good-name name x.named

  pub its-description : t ≡ true → GoodDescription d
  its-description e = good-description d (rw e at x.told)

  -- the lines of a record with whatever follows
  pub record-lines : (rest : List ℕ) → lines (record_text name t d bases w ++ rest) ≡ definition_text name t d ∷ (map line_of (contents_of w bases) ++ lines rest)
  unfolding record_text sequence_text
  record-lines rest =
      let rs : List (List ℕ) = contents_of w bases in
      rw (append_assoc (definition_text name t d) (lines_text rs) rest, definition-line name t d)
      (lines-line (head_of name t d) (lines_text rs ++ rest) (head_clear name t d its-name its-description)
      ∙ ap (λ (ls : List (List ℕ)). line_of (head_of name t d) ∷ ls) (good-lines rs (good-contents w x.wide (length bases) bases x.based) rest))

  -- the bases of its sequence lines
  pub record-bases : all_bases (map line_of (contents_of w bases)) ≡ bases
  record-bases = good-bases (contents_of w bases) (good-contents w x.wide (length bases) bases x.based) ∙ contents-joined w x.wide (length bases) bases (omega arith)

pub text-behind : (name : List ℕ) (t : Bool) (d bases : List ℕ) (w : ℕ) → drop (length (definition_text name t d)) (record_text name t d bases w) ≡ lines_text (contents_of w bases)
unfolding record_text sequence_text
text-behind name t d bases w = drop_at (definition_text name t d) (lines_text (contents_of w bases)) (length (definition_text name t d)) refl

described-bytes : (name d : List ℕ) → take (length d) (drop (length name + 2) (definition_text name true d)) ≡ d
unfolding definition_text described_text
described-bytes name d =
    let k : length (62 ∷ (name ++ (32 ∷ []))) ≡ length name + 2 = omega (arith, length-append name (32 ∷ [])) in
    ap (λ (l : List ℕ). take (length d) (drop (length name + 2) l)) (sym (append_assoc (62 ∷ name) (32 ∷ []) (d ++ (10 ∷ []))))
    ∙ ap (take (length d)) (drop_at (62 ∷ (name ++ (32 ∷ []))) (d ++ (10 ∷ [])) (length name + 2) k)
    ∙ take_at d (10 ∷ []) (length d) refl

named-bytes : (name : List ℕ) (t : Bool) (d : List ℕ) → take (length name) (drop 1 (definition_text name t d)) ≡ name
unfolding definition_text
named-bytes name t d = take_at name (described_text t d ++ (10 ∷ [])) (length name) refl

lines_none : lines [] ≡ []
unfolding lines
lines_none = refl

pub no_more : seq_of (lines []) ≡ []
unfolding lines seq_of
no_more = refl

-- what a written record is read as
pub record ReadsBack (name : List ℕ) (t : Bool) (d bases : List ℕ) (w : ℕ) : Type 0 where
  pub first : lines (record_text name t d bases w) ≡ definition_text name t d ∷ map line_of (contents_of w bases)
  pub says : definition_says (definition_text name t d) ≡ Ok (definition_of name t d)
  pub name-bytes : take (length name) (drop 1 (definition_text name t d)) ≡ name
  pub description-bytes : t ≡ true → take (length d) (drop (length name + 2) (definition_text name t d)) ≡ d
  pub bases-back : all_bases (seq_at (record_text name t d bases w) (length (definition_text name t d))) ≡ bases

pub written-reads : (name : List ℕ) (t : Bool) (d bases : List ℕ) (w : ℕ) → Writable name t d bases w → ReadsBack name t d bases w
unfolding seq_at
written-reads name t d bases w x =
    record {
      first = rw (append-nil (record_text name t d bases w), append-nil (map line_of (contents_of w bases))) at (rw lines_none at (record-lines name t d bases w x []));
      says = line-says name t d (its-name name t d bases w x) (its-description name t d bases w x);
      name-bytes = named-bytes name t d;
      description-bytes = λ e. rw e (described-bytes name d);
      bases-back = rest;
    }
  where
    rest : all_bases (seq_of (lines (drop (length (definition_text name t d)) (record_text name t d bases w)))) ≡ bases
    rest =
        let rs : List (List ℕ) = contents_of w bases in
        let g = good-contents w x.wide (length bases) bases x.based in
        let a : drop (length (definition_text name t d)) (record_text name t d bases w) ≡ lines_text rs ++ [] = text-behind name t d bases w ∙ sym (append-nil (lines_text rs)) in
        let b : seq_of (lines (lines_text rs ++ [])) ≡ map line_of rs = ap seq_of (good-lines rs g []) ∙ good-seq rs g (lines []) ∙ ap (λ (ls : List (List ℕ)). map line_of rs ++ ls) no_more ∙ append-nil (map line_of rs) in
        ap (λ (l : List ℕ). all_bases (seq_of (lines l))) a ∙ ap all_bases b ∙ record-bases name t d bases w x

-- ---- the call

-- what is known of a record that was written: k bytes at the front of the output
pub record RecordPut (name : List ℕ) (t : Bool) (d bases : List ℕ) (w : ℕ) (out : List ℕ) (k : ℕ) (after : List ℕ) : Type 0 where
  pub writable : Writable name t d bases w
  pub size : length (record_text name t d bases w) ≡ k
  pub front : take k after ≡ record_text name t d bases w
  pub rest : drop k after ≡ drop k out

pub call-put : (name : List ℕ) (t : Bool) (d bases : List ℕ) (w : ℕ) (out : List ℕ) (k : ℕ) (after : List ℕ)
    → record_written name t d bases w out ≡ leaves (Ok k) after → RecordPut name t d bases w out k after
unfolding record_written
call-put name t d bases w out k after h =
    go (too_long (length name) (length d) (length bases)) (eqb w 0) refl (name_unfit name) refl (t && description_unfit d) refl (any_of barred bases) refl h
  where
    text : List ℕ
    text = record_text name t d bases w

    go : (l z : Bool) → eqb w 0 ≡ z → (n : Bool) → name_unfit name ≡ n → (e : Bool) → (t && description_unfit d) ≡ e → (b : Bool) → any_of barred bases ≡ b
        → cond l (refuses TooLong out) (cond z (refuses ZeroWidth out) (cond n (refuses NameUnfit out) (cond e (refuses DescriptionUnfit out) (cond b (refuses BaseUnfit out) (pours text out))))) ≡ leaves (Ok k) after
        → RecordPut name t d bases w out k after
    go false false p false q false u false v m =
        let y : w ≡ 0 → ⊥ = eqb-false _ _ p in
        let f = poured-known text out k after m in
        record { writable = record { named = q; told = u; based = v; wide = omega arith }; size = f.size; front = f.front; rest = f.rest }
    go true z p n q e u b v m = absurd (no-bytes _ out k after m)
    go false true p n q e u b v m = absurd (no-bytes _ out k after m)
    go false false p true q e u b v m = absurd (no-bytes _ out k after m)
    go false false p false q true u b v m = absurd (no-bytes _ out k after m)
    go false false p false q false u true v m = absurd (no-bytes _ out k after m)
