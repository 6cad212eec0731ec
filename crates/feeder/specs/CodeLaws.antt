-- Laws that the code's proofs cite: of the bytes of a line, of a definition by its numbers, of a place, and of a stored row.
use Rattle.std.specs.Prelude.{ℕ, zero, suc, ◌+◌, ◌-◌, ◌*◌, ◌/◌, ◌%◌, ◌^◌, ◌≤◌, ◌<◌, min, ◌≡◌, List, [], ◌∷◌, Bool, cond, not, length, get_or, drop, Some, None, Result, Ok, Err, ⊤}
use Rattle.std.proofs.Math.Path.{refl, ap, sym}
use Rattle.std.proofs.Common.{◌∙◌, drop_of_length-le}
use Rattle.std.proofs.Math.Bool.{true, false}
use Rattle.std.proofs.Math.Dec.{eqb, eqb-suc-zero}
use Rattle.std.proofs.Math.Arith.{digits_div, digits_mod}
use borrow.Author.Tests.{eq-eqb, ne_eqb, eqb-true, eqb-false, lt-ltb, le-ltb}
use native.Mathlib.Omega.{arith}
use Rattle.std.proofs.Math.Nat.{div-add-mod', mod-lt}
use Rattle.refusal.specs.Numbers.{numbers_of}
use Rattle.refusal.specs.declared.Refusal.{Refusal}
use Rattle.refusal.specs.declared.Refusal.TheVariants.{TableFull}
use Rattle.lines.specs.Lines.{part, line_end, lines, chop, ends, begins, up_from}
use Rattle.lines.specs.Laws.{part-cons, part_length, lines_at-cut}
use Rattle.definition.specs.Definition.{is_space, spaced, run}
use Rattle.definition.specs.Laws.{described-none, described-some}
use Rattle.indexer.specs.LineSums.{skip, grow, named_as}
use Rattle.lines.specs.Feeding.{FedSum, absorb_sum, absorb_sums, feed_sum}
use Rattle.fitting.specs.declared.Rule.{Rule}
use Rattle.feeder.specs.declared.Waiting.{Waiting}
use Rattle.feeder.specs.declared.Settled.{Settled}
use Rattle.feeder.specs.declared.Fed.{Fed}
use Rattle.feeder.specs.Waiting.{unpack, no_line, waiting_of, grow_by}
use Rattle.feeder.specs.Small.{FitsWithin}
use Rattle.feeder.specs.SmallLaws.{fits-absorb}
use Rattle.feeder.specs.WaitingLaws.{new_line}
use Rattle.record.specs.declared.Record.{Record}
use Rattle.record.specs.Place.{place_of}
use Rattle.walking.specs.Places.{first_elsewhere}
use Rattle.walking.specs.Walk.{walk_stride, judged-there, judged-crosses, judged-elsewhere}
use Rattle.fitting.specs.declared.Numbers.{Numbers}
use Rattle.fitting.specs.Complete.{place_by}
use Rattle.table.specs.Numbers.{numbers_in, rest_of}
use Rattle.table.specs.Rows.{row_count}
use Rattle.table.specs.RowLaws.{without-row, kept-inside, full-outside}
use Rattle.table.specs.Bytes.{StoredIn}
use Rattle.feeder.specs.declared.Phase.TheVariants.{Definition, Halted}
use Rattle.feeder.specs.declared.Phase.{Phase}
use Rattle.feeder.specs.declared.Out.{Out}
use Rattle.feeder.specs.declared.Out.TheVariants.{Keeps, Emits}
use Rattle.feeder.specs.Machine.{Filling, filling, out_of, applied, step_by, machine, fed_in, SettleDone, AbsorbDone, FeedDone}

-- ---- the bytes of a line

pub ends-none : (l : List ℕ) → length l ≡ 0 → false ≡ ends 10 l
unfolding ends
ends-none [] h = refl
ends-none (x ∷ l) h = absurd (omega arith)

pub ends_last : (l : List ℕ) (n : ℕ) → suc n ≡ length l → eqb (get_or l n 0) 10 ≡ ends 10 l
unfolding ends
ends_last [] n h = absurd (omega arith)
ends_last (x ∷ []) zero h = refl
ends_last (x ∷ []) (suc n) h = absurd (omega arith)
ends_last (x ∷ y ∷ l) zero h = absurd (omega arith)
ends_last (x ∷ y ∷ l) (suc n) h = ends_last (y ∷ l) n (omega arith)

pub alone-none : (l : List ℕ) → length l ≡ 0 → true ≡ eqb (length (chop 10 l)) 0
unfolding chop
alone-none [] h = refl
alone-none (x ∷ l) h = absurd (omega arith)

pub alone-one : (l : List ℕ) → length l ≡ 1 → eqb (get_or l 0 0) 10 ≡ eqb (length (chop 10 l)) 0
unfolding chop
alone-one [] h = absurd (omega arith)
alone-one (x ∷ []) h = go (eqb x 10)
  where
    go : (t : Bool) → t ≡ eqb (length (cond t [] (x ∷ []))) 0
    go true = refl
    go false = refl
alone-one (x ∷ y ∷ l) h = absurd (omega arith)

pub alone-more : (l : List ℕ) → (length l ≡ 0 → ⊥) → (length l ≡ 1 → ⊥) → false ≡ eqb (length (chop 10 l)) 0
unfolding chop
alone-more [] h k = absurd (h refl)
alone-more (x ∷ []) h k = absurd (k refl)
alone-more (x ∷ y ∷ l) h k = sym (eqb-suc-zero (length (chop 10 (y ∷ l))))

pub begins-none : (l : List ℕ) → length l ≡ 0 → false ≡ begins l
begins-none [] h = refl
begins-none (x ∷ l) h = absurd (omega arith)

pub begins-first : (l : List ℕ) → (length l ≡ 0 → ⊥) → eqb (get_or l 0 0) 62 ≡ begins l
begins-first [] h = absurd (h refl)
begins-first (x ∷ l) h = refl

pub begins-part : (s : List ℕ) (at e : ℕ) → at < e → e ≤ length s → eqb (get_or s at 0) 62 ≡ begins (part s at e)
begins-part s at e h k = rw (part-cons s at e h k)

-- ---- a name and the whitespace behind it

pub skip-space : (s : List ℕ) → run (spaced true) s ≡ skip false s
unfolding skip run
skip-space [] = refl
skip-space (b ∷ s) = rw (skip-space s)

pub skip-name : (s : List ℕ) → run (spaced false) s + run (spaced true) (drop (run (spaced false) s) s) ≡ skip true s
unfolding skip run
skip-name [] = refl
skip-name (b ∷ s) = go (is_space b) (skip-name s) refl
  where
    go : (t : Bool) → run (spaced false) s + run (spaced true) (drop (run (spaced false) s) s) ≡ skip true s → is_space b ≡ t
        → cond (not t) (suc (run (spaced false) s)) 0 + run (spaced true) (drop (cond (not t) (suc (run (spaced false) s)) 0) (b ∷ s)) ≡ suc (skip (not t) s)
    go true h e = rw (e, skip-space s) (omega arith)
    go false h e = omega (arith, h)

-- the end of a name and of the whitespace behind it, from the start of a line and from further on
pub text-first : (l : List ℕ) (r e : ℕ) → r ≡ 1 + run (spaced false) (drop 1 l) → e ≡ r + run (spaced true) (drop r l) → e ≡ suc (skip true (drop 1 l))
text-first l r e h k =
    let q : r ≡ suc (run (spaced false) (drop 1 l)) = omega arith in
    k ∙ rw q (omega (arith, skip-name (drop 1 l), behind l (run (spaced false) (drop 1 l))))
  where
    behind : (l : List ℕ) (n : ℕ) → run (spaced true) (drop (suc n) l) ≡ run (spaced true) (drop n (drop 1 l))
    behind [] zero = refl
    behind [] (suc n) = refl
    behind (b ∷ l) n = refl

pub text-more : (l : List ℕ) (r e : ℕ) → r ≡ 0 + run (spaced false) (drop 0 l) → e ≡ r + run (spaced true) (drop r l) → e ≡ skip true l
text-more l r e h k =
    let q : r ≡ run (spaced false) l = omega arith in
    k ∙ rw q (skip-name l)

-- what a line says that begins with '>'
pub named_none : (n text kept : ℕ) → (n ≡ 0 → ⊥) → kept ≤ text → Ok (record { name = record { start = 1; length = n }; description = record { start = 0; length = 0 } }) ≡ named_as n text kept
named_none zero text kept h k = absurd (h refl)
named_none (suc n) text kept h k = rw (described-none text (kept - text) (omega arith))

pub named_some : (n text kept : ℕ) → (n ≡ 0 → ⊥) → text < kept
    → Ok (record { name = record { start = 1; length = n }; description = record { start = text; length = kept - text } }) ≡ named_as n text kept
named_some zero text kept h k = absurd (h refl)
named_some (suc n) text kept h k = rw (described-some text (kept - text) (omega arith))

-- a line that has grown, by its parts
module _ (t : Waiting) (l : List ℕ) (b : ℕ) (w : Bool) (hb : b ≡ (grow (unpack t) l).line.bases) (hw : w ≡ ends 10 l) where
  pub grown-yes : (n x k : ℕ) → true ≡ (grow (unpack t) l).starts → n ≡ (grow (unpack t) l).name → x ≡ (grow (unpack t) l).text → k ≡ (grow (unpack t) l).kept
      → record { width = t.width + length l; bases = b; whole = w; starts = true; name = n; text = x; kept = k } ≡ grow_by t l
  unfolding grow_by grow
  grown-yes n x k hs hn hx hk = rw (hb, hw, hn, hx, hk, ← hs)

  pub grown-no : false ≡ (grow (unpack t) l).starts → record { width = t.width + length l; bases = b; whole = w; starts = false; name = 0; text = 0; kept = 0 } ≡ grow_by t l
  unfolding grow_by grow
  grown-no hs = rw (hb, hw, ← hs)

-- ---- places

module _ (n : Numbers) (k at : ℕ) where
  pub place-before : at < n.position → false ≡ eqb at (place_by n k)
  unfolding place_of
  place-before h = sym (ne_eqb at (place_by n k) (λ e. omega arith))

  pub place_short : n.position ≤ at → at - n.position < k % n.bases → false ≡ eqb at (place_by n k)
  unfolding place_of
  place_short h m = sym (ne_eqb at (place_by n k) (λ e. omega arith))

  module _ (w : 0 < n.width) (h : n.position ≤ at) (m : k % n.bases ≤ at - n.position) where
    at-lines : at ≡ place_by n k → at - n.position - k % n.bases ≡ k / n.bases * n.width + 0
    unfolding place_of
    at-lines e = omega arith

    pub place-between : ((at - n.position - k % n.bases) % n.width ≡ 0 → ⊥) → false ≡ eqb at (place_by n k)
    place-between z = sym (ne_eqb at (place_by n k) (λ e. z (ap (λ (x : ℕ). x % n.width) (at-lines e) ∙ digits_mod (k / n.bases) w)))

    pub place-there : (at - n.position - k % n.bases) % n.width ≡ 0 → eqb ((at - n.position - k % n.bases) / n.width) (k / n.bases) ≡ eqb at (place_by n k)
    unfolding place_of
    place-there z = go (eqb ((at - n.position - k % n.bases) / n.width) (k / n.bases)) refl
      where
        is : (at - n.position - k % n.bases) / n.width ≡ k / n.bases → at ≡ place_by n k
        is e =
            let d = div-add-mod' (at - n.position - k % n.bases) n.width in
            let g : k / n.bases * n.width + (at - n.position - k % n.bases) % n.width ≡ at - n.position - k % n.bases = rw e at d in
            omega (arith, g, z)

        go : (t : Bool) → eqb ((at - n.position - k % n.bases) / n.width) (k / n.bases) ≡ t → t ≡ eqb at (place_by n k)
        go true e = sym (eq-eqb at (place_by n k) (is (eqb-true _ _ e)))
        go false e = sym (ne_eqb at (place_by n k) (λ q. eqb-false _ _ e (ap (λ (x : ℕ). x / n.width) (at-lines q) ∙ digits_div (k / n.bases) w)))

-- some bases from an offset on, behind k others
module _ (n : Numbers) (k at b : ℕ) (s : 0 < n.bases) (a : n.bases < n.width) (z : 0 < b) (m : at + b < 2 ^ 62) (t : Bool) (q : t ≡ eqb at (place_by n k)) where
  same : t ≡ eqb at ((walk_stride n.position n.bases n.width k).start.0 + (walk_stride n.position n.bases n.width k).passed)
  unfolding walk_stride place_of
  same = q ∙ go (eqb at (place_by n k)) refl
    where
      go : (t : Bool) → eqb at (place_by n k) ≡ t → t ≡ eqb at (min (n.position + k / n.bases * n.width) (2 ^ 64 - 1) + k % n.bases)
      go true e = sym (eq-eqb at _ (omega (arith, eqb-true at _ e)))
      go false e = sym (ne_eqb at _ (λ x. eqb-false at _ e (omega arith)))

  inside : (walk_stride n.position n.bases n.width k).passed < n.bases
  unfolding walk_stride
  inside = mod-lt k s

  pub bases-there : t ≡ true → b ≤ n.bases - k % n.bases → None ≡ first_elsewhere (place_by n) k (up_from at b)
  bases-there h l =
      (judged-there (walk_stride n.position n.bases n.width k) n.bases k (record { 0 = at }) b (omega arith) (λ e. omega arith) inside t same h (unfold walk_stride in l)
      ).says n.position n.width refl (λ e. absurd (omega arith))

  pub bases-cross : t ≡ true → n.bases - k % n.bases < b
      → Some ((record { 0 = k + (n.bases - k % n.bases) + 1 }), (record { 0 = at + (n.bases - k % n.bases) })) ≡ first_elsewhere (place_by n) k (up_from at b)
  unfolding walk_stride
  bases-cross h l =
      (judged-crosses (walk_stride n.position n.bases n.width k) n.bases k (record { 0 = at }) b (omega arith) (λ e. omega arith) inside t same h l
      ).says n.position n.width refl (λ e. absurd (omega arith))

  pub bases-elsewhere : t ≡ false → Some ((record { 0 = k + 1 }), (record { 0 = at })) ≡ first_elsewhere (place_by n) k (up_from at b)
  bases-elsewhere h =
      (judged-elsewhere (walk_stride n.position n.bases n.width k) n.bases k (record { 0 = at }) b (omega arith) (λ e. omega arith) inside t same h
      ).says n.position n.width refl (λ e. absurd (omega arith))

-- ---- a row that is stored

module _ (out : Out) (n : ℕ) (t : List ℕ) where
  pub settled-keeps : (p : Phase) → out ≡ Keeps p → SettleDone out n t (record { phase = p; rows = n }) t
  settled-keeps p e = record { is = unfold applied in rw e; rest = refl }

  module _ (x : Record) (z : ℕ) (e : out ≡ Emits x z) (told : Result ⊤ Refusal) (t' : List ℕ) (s : StoredIn t n x told t') where
    pub settled-row : told ≡ Ok tt → SettleDone out n t (record { phase = Definition z; rows = n + 1 }) t'
    unfolding applied
    settled-row k =
        let r = kept-inside (numbers_in t) n (sym s.stored.answer ∙ k) in
        record { is = rw (e, lt-ltb _ _ r) (ap (filling (Definition z) (n + 1)) s.stored.table); rest = s.rest }

    pub settled-full : (f : Refusal) → told ≡ Err f → SettleDone out n t (record { phase = Halted (numbers_of f); rows = n }) t'
    unfolding applied
    settled-full f k =
        let r = full-outside (numbers_in t) n f (sym s.stored.answer ∙ k) in
        record {
          is = rw (e, le-ltb _ _ r.0, r.1) (ap (filling (Halted (numbers_of (TableFull (row_count (numbers_in t))))) n) (s.stored.table ∙ without-row (numbers_in t) n x r.0));
          rest = s.rest;
        }

-- ---- a line behind what waits

pub fed-same : {a b : Filling} {h k : Waiting} → a ≡ b → h ≡ k → ◌≡◌ {A = FedSum Filling Waiting} (record { state = a; waiting = h }) (record { state = b; waiting = k })
fed-same e q = rw (e, q)

module _ (rule : Rule) (x : FedSum Filling Waiting) (l : List ℕ) where
  absorb-whole : x.waiting.whole ≡ true → absorb_sum (machine rule) x l ≡ record { state = step_by rule x.state x.waiting (begins l); waiting = waiting_of l }
  unfolding absorb_sum
  absorb-whole w = rw w

  absorb-open : x.waiting.whole ≡ false → absorb_sum (machine rule) x l ≡ record { state = x.state; waiting = grow_by x.waiting l }
  unfolding absorb_sum
  absorb-open w = rw w

module _ (rule : Rule) (f : Fed) (l before after : List ℕ) where
  step_is : (last : Bool) (out : Out) → last ≡ begins l → out ≡ out_of rule f.phase f.waiting last
      → applied f.rows (numbers_in before) out ≡ step_by rule (filling f.phase f.rows (numbers_in before)) f.waiting (begins l)
  unfolding step_by
  step_is last out b o = ap (applied f.rows (numbers_in before)) (o ∙ ap (out_of rule f.phase f.waiting) b)

  pub absorbed-whole : (last : Bool) (out : Out) (s : Settled) (n waiting : Waiting) → 0 < length l → f.waiting.whole ≡ true → last ≡ begins l → out ≡ out_of rule f.phase f.waiting last
      → SettleDone out f.rows before s after → n ≡ no_line → waiting ≡ grow_by n l → AbsorbDone rule f l before (record { phase = s.phase; rows = s.rows; waiting = waiting }) after
  absorbed-whole last out s n waiting z w b o d hn hh = record {
    is =
        fed-same (d.is ∙ step_is last out b o) (hh ∙ ap (λ (t : Waiting). grow_by t l) hn ∙ sym (new_line l z))
        ∙ sym (absorb-whole rule (fed_in f (numbers_in before)) l w);
    rest = d.rest;
  }

module _ (rule : Rule) (f : Fed) (l before : List ℕ) where
  pub absorbed-open : (waiting : Waiting) → f.waiting.whole ≡ false → waiting ≡ grow_by f.waiting l → AbsorbDone rule f l before (record { phase = f.phase; rows = f.rows; waiting = waiting }) before
  absorbed-open waiting w hh = record { is = fed-same refl hh ∙ sym (absorb-open rule (fed_in f (numbers_in before)) l w); rest = refl }

-- ---- line by line

-- what a piece from i on still leaves is what it leaves from the start
pub record FeedOn (rule : Rule) (f₀ : Fed) (p t₀ : List ℕ) (f : Fed) (i : ℕ) (t : List ℕ) : Type 0 where
  pub is : absorb_sums (machine rule) (fed_in f (numbers_in t)) (lines (drop i p)) ≡ feed_sum (machine rule) (fed_in f₀ (numbers_in t₀)) p
  pub rest : rest_of t ≡ rest_of t₀

module _ (rule : Rule) (f₀ : Fed) (p t₀ : List ℕ) where
  pub feed-start : FeedOn rule f₀ p t₀ f₀ 0 t₀
  unfolding feed_sum
  feed-start = record { is = refl; rest = refl }

  pub feed-done : (f : Fed) (i : ℕ) (t : List ℕ) → FeedOn rule f₀ p t₀ f i t → length p ≤ i → FeedDone rule f₀ p t₀ f t
  feed-done f i t o h = record { is = sym (none_left (fed_in f (numbers_in t))) ∙ o.is; rest = o.rest }
    where
      none_left : (x : FedSum Filling Waiting) → absorb_sums (machine rule) x (lines (drop i p)) ≡ x
      none_left x = rw (drop_of_length-le p h) (unfold lines absorb_sums in refl)

-- a line of a piece
module _ (rule : Rule) (f : Fed) (p : List ℕ) (i : ℕ) (t : List ℕ) where
  pub feed-line : (e : ℕ) (g : Fed) (u : List ℕ) → i < length p → e ≡ line_end p i → AbsorbDone rule f (part p i e) t g u
      → absorb_sums (machine rule) (fed_in g (numbers_in u)) (lines (drop e p)) ≡ absorb_sums (machine rule) (fed_in f (numbers_in t)) (lines (drop i p))
  feed-line e g u h q d =
      ap (λ (x : FedSum Filling Waiting). absorb_sums (machine rule) x (lines (drop e p))) d.is
      ∙ again (fed_in f (numbers_in t)) (part p i e) (lines (drop e p))
      ∙ ap (absorb_sums (machine rule) (fed_in f (numbers_in t))) (sym (rw q (lines_at-cut p i h)))
    where
      again : (x : FedSum Filling Waiting) (l : List ℕ) (ls : List (List ℕ)) → absorb_sums (machine rule) (absorb_sum (machine rule) x l) ls ≡ absorb_sums (machine rule) x (l ∷ ls)
      again x l ls = unfold absorb_sums in refl

  pub feed-fits : (c e : ℕ) (g : Fed) (u : List ℕ) → i < e → e ≤ length p → FitsWithin (c + i) f.phase f.waiting → AbsorbDone rule f (part p i e) t g u → FitsWithin (c + e) g.phase g.waiting
  feed-fits c e g u h k fits d =
      let n : c + i + length (part p i e) ≡ c + e = omega (arith, part_length p i e k) in
      let r = fits-absorb rule (c + i) (fed_in f (numbers_in t)) (part p i e) (omega (arith, part_length p i e k)) fits in
      rw (← d.is, n) at r
