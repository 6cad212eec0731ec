-- A record that its index line describes, told by what the fast way finds: the line as it is written, the name where it stands, and even lines.
use Rattle.std.specs.Prelude.{ℕ, zero, suc, ◌+◌, ◌-◌, ◌≤◌, ◌<◌, ◌≡◌, refl, List, [], ◌∷◌, Bool, true, false, cond, ◌&&◌, ◌||◌, length, drop, get_or, eqb, ltb, None, Ok}
use Rattle.std.proofs.Common.{ap, subst, ◌∙◌, true≢false, length-drop, drop-cons, get_or-drop, get_or-take, length-take-le, ext_get_or, eq-eqb, ne_eqb, eqb-true, ltb-true, ltb-false, arith, add-zero, zero-add}
use Rattle.std.proofs.Math.Path.{sym}
use Rattle.std.proofs.Math.ListN.{take}
use Rattle.std.proofs.Math.Seq.{take-take}
use Rattle.std.proofs.lemmas.Bool.{eqb-false}
use Rattle.std.specs.List.{list_any}
use Rattle.lines.specs.Lines.{part, line_len, line_end, chop, ends, content_of, seq_at}
use Rattle.lines.specs.Laws.{part_length, line_end-le}
use Rattle.lines.specs.Same.{same_bytes, same_refl}
use Rattle.definition.specs.Definition.{is_space, spaced, run, trim, described, content_says, definition_says}
use Rattle.definition.specs.declared.Definition.{Definition}
use Rattle.record.specs.Place.{place_in}
use Rattle.record.specs.declared.Record.{Record}
use Rattle.columns.specs.Standing.{LineAt}
use Rattle.index_line.specs.IndexLine.{record_of, name_in}
use Rattle.index_line.specs.Standing.{standing-says}
use Rattle.index_line.specs.Laws.{line-sound}
use Rattle.index_line.specs.declared.Entry.{Entry}
use Rattle.walking.specs.Places.{walked_as}
use Rattle.walking.specs.Even.{EvenTo}
use Rattle.walking.specs.declared.Walked.{Walked}
use Rattle.checker.specs.Check.{span_of}
use Rattle.checker.specs.Steps.{group_of, only_line, behind_at, check_at, step_of, Moved, check-next, judged-there, judged-same, judged-row, judged-named, stepped-next}
use Rattle.checker.specs.declared.Place.{Place}
use Rattle.checker.specs.declared.quick.Passed.{Passed}

-- ---- what the code finds

-- the n bytes of a from p on are those of b from q on, and above a space
pub record WordAt (a : List ℕ) (p : ℕ) (b : List ℕ) (q n : ℕ) : Type 0 where
  pub same : (k : ℕ) → k < n → get_or a (p + k) 0 ≡ get_or b (q + k) 0
  pub high : (k : ℕ) → k < n → 32 < get_or a (p + k) 0

-- none of the bytes of s from p up to e is an LF
pub record NoLf (s : List ℕ) (p e : ℕ) : Type 0 where
  pub clear : (k : ℕ) → p ≤ k → k < e → get_or s k 0 ≡ 10 → ⊥

-- the line at an offset is a definition line up to another, and its name is the n bytes of the index from a place on
pub record DefinedSo (f : List ℕ) (at start : ℕ) (i : List ℕ) (line n : ℕ) : Type 0 where
  pub here : at < length f
  pub end : start ≡ line_end f at
  pub inside : at + 1 + n < start
  pub some : 0 < n
  pub prefix : get_or f at 0 ≡ 62
  pub space : is_space (get_or f (at + 1 + n) 0) ≡ true
  pub word : WordAt f (at + 1) i line n

-- the record at an offset is accepted with the index line at a place, whatever came before
pub record PassedAt (f : List ℕ) (at : ℕ) (i : List ℕ) (line : ℕ) (r : Passed) : Type 0 where
  pub here : at < length f
  pub told : (k : ℕ) → Ok (record { fasta = r.fasta; index = r.index; records = k + 1 }) ≡ step_of f i (record { fasta = at; index = line; records = k })

-- ---- words

both : (a b : Bool) → (a && b) ≡ true → (a ≡ true) × (b ≡ true)
both true b e = (refl, e)
both false b e = absurd (true≢false (sym e))

module _ (a : List ℕ) (p : ℕ) (b : List ℕ) (q : ℕ) where
  pub word_none : WordAt a p b q 0
  word_none = record { same = λ k h. absurd (omega arith); high = λ k h. absurd (omega arith) }

  pub word_more : (n : ℕ) → WordAt a p b q n → get_or a (p + n) 0 ≡ get_or b (q + n) 0 → 32 < get_or a (p + n) 0 → WordAt a p b q (n + 1)
  word_more n h e l = record { same = λ k m. same k m (ltb k n) refl; high = λ k m. high k m (ltb k n) refl }
    where
      is_last : (k : ℕ) → k < n + 1 → ltb k n ≡ false → n ≡ k
      is_last k m t = omega (arith, ltb-false k n t)

      same : (k : ℕ) → k < n + 1 → (t : Bool) → ltb k n ≡ t → get_or a (p + k) 0 ≡ get_or b (q + k) 0
      same k m true t = h.same k (ltb-true _ _ t)
      same k m false t = rw (is_last k m t) at e

      high : (k : ℕ) → k < n + 1 → (t : Bool) → ltb k n ≡ t → 32 < get_or a (p + k) 0
      high k m true t = h.high k (ltb-true _ _ t)
      high k m false t = rw (is_last k m t) at l

  pub word-tested : (n : ℕ) (all : Bool) → (all ≡ true → WordAt a p b q n) → ((all && eqb (get_or a (p + n) 0) (get_or b (q + n) 0)) && ltb 32 (get_or a (p + n) 0)) ≡ true → WordAt a p b q (n + 1)
  word-tested n all h e =
      let t = both (all && eqb (get_or a (p + n) 0) (get_or b (q + n) 0)) (ltb 32 (get_or a (p + n) 0)) e in
      let u = both all (eqb (get_or a (p + n) 0) (get_or b (q + n) 0)) t.0 in
      word_more n (h u.0) (eqb-true _ _ u.1) (ltb-true _ _ t.1)

  -- m bytes more; the two parts may overlap
  pub word_on : (n m j : ℕ) → WordAt a p b q n → m ≤ n → WordAt a (p + m) b (q + m) j → WordAt a p b q (m + j)
  word_on n m j h l g = record { same = λ k r. same k r (ltb k m) refl; high = λ k r. high k r (ltb k m) refl }
    where
      same : (k : ℕ) → k < m + j → (t : Bool) → ltb k m ≡ t → get_or a (p + k) 0 ≡ get_or b (q + k) 0
      same k r true t = h.same k (omega (arith, ltb-true k m t))
      same k r false t =
          let d : m ≤ k = ltb-false k m t in
          let x : p + m + (k - m) ≡ p + k = omega arith in
          let y : q + m + (k - m) ≡ q + k = omega arith in
          rw (x, y) at (g.same (k - m) (omega arith))

      high : (k : ℕ) → k < m + j → (t : Bool) → ltb k m ≡ t → 32 < get_or a (p + k) 0
      high k r true t = h.high k (omega (arith, ltb-true k m t))
      high k r false t =
          let d : m ≤ k = ltb-false k m t in
          let x : p + m + (k - m) ≡ p + k = omega arith in
          rw x at (g.high (k - m) (omega arith))

  -- as lists
  pub word_bytes : (n : ℕ) → p + n ≤ length a → q + n ≤ length b → WordAt a p b q n → take n (drop p a) ≡ take n (drop q b)
  word_bytes n h k w =
      let x : length (take n (drop p a)) ≡ n = length-take-le n (drop p a) (omega (arith, length-drop p a)) in
      let y : length (take n (drop q b)) ≡ n = length-take-le n (drop q b) (omega (arith, length-drop q b)) in
      ext_get_or 0 (take n (drop p a)) (take n (drop q b)) (x ∙ sym y)
      (λ j l. let r : j < n = omega arith in rw (get_or-take n (drop p a) j 0 r, get_or-take n (drop q b) j 0 r, get_or-drop p a j 0, get_or-drop q b j 0) (w.same j r))

-- of parts, and so of what they are parts of
pub word-of-parts : (a : List ℕ) (p : ℕ) (b : List ℕ) (q n : ℕ) → WordAt (take n (drop p a)) 0 (take n (drop q b)) 0 n → WordAt a p b q n
word-of-parts a p b q n w = record { same = λ k l. here a p k l ∙ (rw (zero-add k) at (w.same k l) ∙ sym (here b q k l)); high = λ k l. rw (here a p k l) (rw (zero-add k) at (w.high k l)) }
  where
    here : (s : List ℕ) (i k : ℕ) → k < n → get_or s (i + k) 0 ≡ get_or (take n (drop i s)) k 0
    here s i k l = sym (get_or-take n (drop i s) k 0 l ∙ get_or-drop i s k 0)

-- ---- bytes without an LF

module _ (s : List ℕ) (p : ℕ) where
  pub clear_none : NoLf s p p
  clear_none = record { clear = λ k h l e. omega arith }

  -- the two parts may overlap
  pub clear-on : (i j e : ℕ) → NoLf s p i → j ≤ i → NoLf s j e → NoLf s p e
  clear-on i j e a h b = record { clear = λ k l m. go k l m (ltb k i) refl }
    where
      go : (k : ℕ) → p ≤ k → k < e → (t : Bool) → ltb k i ≡ t → get_or s k 0 ≡ 10 → ⊥
      go k l m true t = a.clear k l (ltb-true k i t)
      go k l m false t = b.clear k (omega (arith, ltb-false k i t)) m

  pub clear-more : (i : ℕ) → NoLf s p i → (get_or s i 0 ≡ 10 → ⊥) → NoLf s p (i + 1)
  clear-more i a n = clear-on i i (i + 1) a (omega arith) (record { clear = λ k l m e. let q : k ≡ i = omega arith in n (rw q at e) })

  pub clear-tested : (k : ℕ) (any : Bool) → (any ≡ false → NoLf s p (p + k)) → (any || eqb (get_or s (p + k) 0) 10) ≡ false → NoLf s p (p + (k + 1))
  clear-tested k any h e =
      let t = neither any (eqb (get_or s (p + k) 0) 10) e in
      let q : p + k + 1 ≡ p + (k + 1) = omega arith in
      rw q at (clear-more (p + k) (h t.0) (eqb-false (get_or s (p + k) 0) 10 t.1))
    where
      neither : (a b : Bool) → (a || b) ≡ false → (a ≡ false) × (b ≡ false)
      neither true b e = absurd (true≢false e)
      neither false b e = (refl, e)

-- none of a part is an LF
no-lf : (l : List ℕ) → list_any (λ b. eqb b 10) l ≡ false → (k : ℕ) → k < length l → get_or l k 0 ≡ 10 → ⊥
no-lf [] e k h q = omega arith
no-lf (b ∷ l) e zero h q = true≢false (rw (eq-eqb b 10 q) at e)
no-lf (b ∷ l) e (suc k) h q = no-lf l (behind (eqb b 10) (list_any (λ x. eqb x 10) l) e) k (omega arith) q
  where
    behind : (x y : Bool) → (x || y) ≡ false → y ≡ false
    behind true y r = absurd (true≢false r)
    behind false y r = r

pub clear-part : (s : List ℕ) (from to : ℕ) → to ≤ length s → list_any (λ b. eqb b 10) (take (to - from) (drop from s)) ≡ false → NoLf s from to
clear-part s from to h e = record { clear = λ k l m q. no-lf (take (to - from) (drop from s)) e (k - from) (omega (arith, length-take-le (to - from) (drop from s) (omega (arith, length-drop from s)))) (at k l m ∙ q) }
  where
    at : (k : ℕ) → from ≤ k → k < to → get_or (take (to - from) (drop from s)) (k - from) 0 ≡ get_or s k 0
    at k l m =
        let x : from + (k - from) ≡ k = omega arith in
        get_or-take (to - from) (drop from s) (k - from) 0 (omega arith) ∙ (get_or-drop from s (k - from) 0 ∙ ap (λ (y : ℕ). get_or s y 0) x)

-- a line whose first LF is byte m
lf-at : (s : List ℕ) (m : ℕ) → m < length s → ((k : ℕ) → k < m → get_or s k 0 ≡ 10 → ⊥) → get_or s m 0 ≡ 10 → line_len s ≡ suc m
unfolding line_len
lf-at [] m h g e = absurd (omega arith)
lf-at (b ∷ s) zero h g e = rw (eq-eqb b 10 e)
lf-at (b ∷ s) (suc m) h g e = rw (ne_eqb b 10 (g 0 (omega arith))) (ap suc (lf-at s m (omega arith) (λ k l. g (suc k) (omega arith)) e))

-- a definition line ends at its LF: there is none in its name, nor behind it
pub defined-end : (f : List ℕ) (at last : ℕ) (i : List ℕ) (line n : ℕ) → last < length f → at + n < last → get_or f at 0 ≡ 62 → WordAt f (at + 1) i line n → NoLf f (at + 1 + n) last
    → get_or f last 0 ≡ 10 → last + 1 ≡ line_end f at
defined-end f at last i line n h l p w c e =
    let m : ℕ = last - at in
    let q : at + m ≡ last = omega arith in
    let z = lf-at (drop at f) m (omega (arith, length-drop at f)) (λ k r x. byte k (omega arith) (ltb k 1) refl (ltb k (n + 1)) refl (sym (get_or-drop at f k 0) ∙ x)) (get_or-drop at f m 0 ∙ (ap (λ (y : ℕ). get_or f y 0) q ∙ e)) in
    omega (arith, z)
  where
    byte : (k : ℕ) → at + k < last → (t : Bool) → ltb k 1 ≡ t → (u : Bool) → ltb k (n + 1) ≡ u → get_or f (at + k) 0 ≡ 10 → ⊥
    byte k r true t u v x =
        let y : at + k ≡ at = omega (arith, ltb-true k 1 t) in
        omega (arith, p, rw y at x)
    byte k r false t true v x =
        let y : at + k ≡ at + 1 + (k - 1) = omega (arith, ltb-false k 1 t) in
        omega (arith, w.high (k - 1) (omega (arith, ltb-true k (n + 1) v, ltb-false k 1 t)), rw y at x)
    byte k r false t false v x = c.clear (at + k) (omega (arith, ltb-false k (n + 1) v)) r x

-- ---- a definition line, by its name

-- a byte above a space is no whitespace
high_word : (b : ℕ) → 32 < b → spaced false b ≡ true
unfolding is_space
high_word b h =
    rw (ne_eqb b 32 (λ q. omega arith), ne_eqb b 9 (λ q. omega arith), ne_eqb b 10 (λ q. omega arith), ne_eqb b 12 (λ q. omega arith), ne_eqb b 13 (λ q. omega arith))

run_is : (t : ℕ → Bool) (s : List ℕ) (n : ℕ) → n < length s → ((k : ℕ) → k < n → t (get_or s k 0) ≡ true) → t (get_or s n 0) ≡ false → run t s ≡ n
unfolding run
run_is t [] n h g e = absurd (omega arith)
run_is t (b ∷ s) zero h g e = rw e
run_is t (b ∷ s) (suc n) h g e = rw (g 0 (omega arith)) (ap suc (run_is t s n (omega arith) (λ k l. g (suc k) (omega arith)) e))

-- a final byte that is whitespace does not lengthen a word
chop-run : (b : ℕ) → spaced false b ≡ false → (s : List ℕ) → run (spaced false) (chop b s) ≡ run (spaced false) s
unfolding run chop
chop-run b h [] = refl
chop-run b h (x ∷ []) = go (eqb x b) refl
  where
    go : (t : Bool) → eqb x b ≡ t → run (spaced false) (cond t [] (x ∷ [])) ≡ cond (spaced false x) 1 0
    go true e = let q : x ≡ b = eqb-true x b e in rw (q, h)
    go false e = refl
chop-run b h (x ∷ y ∷ s) = ap (λ (n : ℕ). cond (spaced false x) (suc n) 0) (chop-run b h (y ∷ s))

chop-behind : (b x : ℕ) (s : List ℕ) → eqb x b ≡ false → chop b (x ∷ s) ≡ x ∷ chop b s
unfolding chop
chop-behind b x [] e = rw e
chop-behind b x (y ∷ s) e = refl

-- a definition line with a name of n bytes
record NamedSo (l : List ℕ) (n : ℕ) : Type 0 where
  pub definition : Definition
  pub says : definition_says l ≡ Ok definition
  pub name : definition.name ≡ record { start = 1; length = n }

named-content : (l u : List ℕ) (n : ℕ) → content_of l ≡ 62 ∷ u → run (spaced false) u ≡ n → 0 < n → NamedSo l n
unfolding definition_says content_says
named-content l u zero e r h = absurd (omega arith)
named-content l u (suc n) e r h = record {
  definition = record {
    name = record { start = 1; length = suc n };
    description = described (suc (suc n) + (trim (drop (suc n) u)).start) (trim (drop (suc n) u)).length;
  };
  says = rw (e, r);
  name = refl;
}

named-so : (s : List ℕ) (n : ℕ) → run (spaced false) s ≡ n → 0 < n → NamedSo (62 ∷ s) n
unfolding content_of is_space
named-so s n r h = go (ends 10 (62 ∷ s)) refl
  where
    go : (t : Bool) → ends 10 (62 ∷ s) ≡ t → NamedSo (62 ∷ s) n
    go true e =
        named-content (62 ∷ s) (chop 13 (chop 10 s)) n (rw (e, chop-behind 10 62 s refl) (chop-behind 13 62 (chop 10 s) refl))
        (chop-run 13 refl (chop 10 s) ∙ (chop-run 10 refl s ∙ r)) h
    go false e = named-content (62 ∷ s) s n (rw e) r h

module _ (f : List ℕ) (at start : ℕ) (i : List ℕ) (line n : ℕ) (d : DefinedSo f at start i line n) where
  abbrev def : List ℕ
  def = part f at start

  def-length : at + length def ≡ start
  def-length = omega (arith, part_length f at start (start-within), d.inside)
    where
      start-within : start ≤ length f
      start-within = rw d.end (line_end-le f at (omega (arith, d.here)))

  def-byte : (k : ℕ) → at + k < start → get_or def k 0 ≡ get_or f (at + k) 0
  def-byte k h = get_or-take (start - at) (drop at f) k 0 (omega arith) ∙ get_or-drop at f k 0

  def-whole : def ≡ 62 ∷ drop 1 def
  def-whole =
      let b : get_or def 0 0 ≡ 62 = def-byte 0 (omega (arith, d.inside)) ∙ (ap (λ (x : ℕ). get_or f x 0) (add-zero at) ∙ d.prefix) in
      drop-cons def 0 0 (omega (arith, def-length, d.inside)) ∙ ap (λ (x : ℕ). x ∷ drop 1 def) b

  def-word : WordAt def 1 i line n
  def-word = record { same = λ k l. byte k l ∙ d.word.same k l; high = λ k l. rw (byte k l) (d.word.high k l) }
    where
      byte : (k : ℕ) → k < n → get_or def (1 + k) 0 ≡ get_or f (at + 1 + k) 0
      byte k l =
          let x : at + (1 + k) ≡ at + 1 + k = omega arith in
          def-byte (1 + k) (omega (arith, d.inside)) ∙ ap (λ (y : ℕ). get_or f y 0) x

  def-run : run (spaced false) (drop 1 def) ≡ n
  def-run =
      run_is (spaced false) (drop 1 def) n (omega (arith, length-drop 1 def, def-length, d.inside))
      (λ k l. rw (get_or-drop 1 def k 0) (high_word (get_or def (1 + k) 0) (def-word.high k l))) last
    where
      last : spaced false (get_or (drop 1 def) n 0) ≡ false
      last =
          let x : at + (1 + n) ≡ at + 1 + n = omega arith in
          let b : get_or (drop 1 def) n 0 ≡ get_or f (at + 1 + n) 0 = get_or-drop 1 def n 0 ∙ (def-byte (1 + n) (omega (arith, d.inside)) ∙ ap (λ (y : ℕ). get_or f y 0) x) in
          rw (b, d.space)

  def-named : NamedSo def n
  def-named = subst (λ (l : List ℕ). NamedSo l n) (sym def-whole) (named-so (drop 1 def) n def-run d.some)

  -- ---- the record, by its index line and its even lines

  module _ (ns : List ℕ) (behind end : ℕ) (four : length ns ≡ 4) (h : LineAt i line n behind ns) (p : get_or ns 1 0 ≡ start)
      (even : EvenTo f start (get_or ns 0 0) (get_or ns 2 0) (get_or ns 3 0) end) where
    abbrev text : List ℕ
    text = part i line behind

    abbrev entry : Entry
    entry = record { «record» = record_of n ns; plain = true }

    text-inside : n ≤ length text
    text-inside = (line-sound 0 text entry (sym (standing-says i line n behind ns h 0 four).read)).inside

    module _ (nm : NamedSo def n) where
      same_names : span_of def nm.definition.name ≡ name_in text (record_of n ns)
      unfolding name_in
      same_names =
          let a : take n (drop 1 def) ≡ take n (drop line i) =
          word_bytes def 1 i line n (omega (arith, def-length, d.inside)) (omega (arith, h.inside)) def-word in
          let b : take n text ≡ take n (drop line i) =
          take-take n (behind - line) (drop line i) (omega (arith, text-inside, part_length i line behind h.within)) in
          rw nm.name (a ∙ sym b)

      told-of : (k : ℕ) → Ok (record { fasta = end; index = behind; records = k + 1 }) ≡ step_of f i (record { fasta = at; index = line; records = k })
      told-of k =
          let S : ℕ = at + length def in
          let x : Record = record_of n ns in
          let said = standing-says i line n behind ns h (k + 1) four in
          let v : Walked = record { bases = get_or ns 0 0; placed = None; next = end } in
          let walked : v ≡ walked_as (place_in x) S (seq_at f S) = rw (def-length, p) even.walked in
          let same : true ≡ same_bytes (span_of def nm.definition.name) (name_in text x) = rw same_names (sym (same_refl (name_in text x))) in
          let next : ℕ = behind_at f S in
          let a = judged-there (k + 1) S (seq_at f S) x v walked refl refl in
          let b = judged-same (k + 1) S next (span_of def nm.definition.name) (seq_at f S) (name_in text x) x true same refl in
          let c = judged-row (k + 1) S next (span_of def nm.definition.name) (seq_at f S) text (λ z. omega (arith, text-inside, d.some)) entry (sym said.read) in
          let e = judged-named (k + 1) at next (group_of def f S) (only_line text) nm.definition nm.says in
          stepped-next f i (record { fasta = at; index = line; records = k }) d.here (omega (arith, h.inside)) start behind d.end said.end (Ok end) (a ∙ (b ∙ (c ∙ e))) end refl

    pub passed-told : PassedAt f at i line (record { fasta = end; index = behind })
    passed-told = record { here = d.here; told = told-of def-named }

-- ---- records that are passed

-- from one place to another, which lead to the same
pub record PastGood (f i : List ℕ) (w n : Place) : Type 0 where
  pub on : w.fasta ≤ n.fasta
  pub counted : n.records ≤ n.fasta
  pub inside : n.index ≤ length i
  pub leads : check_at f i n ≡ check_at f i w

module _ (f i : List ℕ) (w : Place) where
  pub past-none : w.records ≤ w.fasta → w.index ≤ length i → PastGood f i w w
  past-none h k = record { on = omega arith; counted = h; inside = k; leads = refl }

  pub past-on : (n : Place) → PastGood f i w n → (r : Passed) → PassedAt f n.fasta i n.index r
      → Moved f i n (record { fasta = r.fasta; index = r.index; records = n.records + 1 })
  past-on n p r h = check-next f i n (record { fasta = r.fasta; index = r.index; records = n.records + 1 }) h.here p.inside (sym (h.told n.records))

  pub past_more : (n m : Place) → PastGood f i w n → Moved f i n m → PastGood f i w m
  past_more n m p h =
      record { on = omega (arith, p.on, h.on); counted = omega (arith, p.counted, h.on, h.records); inside = h.inside; leads = h.leads ∙ p.leads }
