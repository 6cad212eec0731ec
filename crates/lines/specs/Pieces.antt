-- A file in pieces: its lines and records by those of a first piece and of what follows, wherever the cut is: inside a line, between CR and
-- LF, behind an LF. Every line of the first piece that ends in LF is settled; all its records but the last are.
use Rattle.std.specs.Prelude.{ℕ, ◌+◌, ◌<◌, ◌≡◌, List, [], ◌∷◌, ◌++◌, Bool, true, false, cond, length, eqb}
use Rattle.std.proofs.Math.Path.{refl}
use Rattle.std.proofs.Common.{ap, sym, ◌∙◌, append-nil, length-append, arith}
use Rattle.std.proofs.Math.Dec.{eqb-suc-zero}
use Rattle.lines.specs.Lines.{lines, line_byte, onto, chop, ends, bases_of, begins, seq_of}
use Rattle.lines.specs.Groups.{Group, attach, groups}
use Rattle.lines.specs.GroupLaws.{after_seq, groups-cut}

-- ---- the lines of two pieces

-- some bytes in front of the first of some lines
abbrev pub before : List ℕ → List (List ℕ) → List (List ℕ)
before q [] = q ∷ []
before q (l ∷ ls) = (q ++ l) ∷ ls

-- the lines of a first piece, and those of what follows: the last of the first goes on, unless it ends in LF
unfoldable pub glue : List (List ℕ) → List (List ℕ) → List (List ℕ)
glue [] ms = ms
glue (l ∷ []) ms = cond (ends 10 l) (l ∷ ms) (before l ms)
glue (l ∷ k ∷ ls) ms = l ∷ glue (k ∷ ls) ms

glue-lf : (x : ℕ) (ls ms : List (List ℕ)) → eqb x 10 ≡ true → (x ∷ []) ∷ glue ls ms ≡ glue ((x ∷ []) ∷ ls) ms
unfolding glue ends
glue-lf x [] ms e = rw e
glue-lf x (l ∷ ls) ms e = refl

glue-onto : (x : ℕ) (ls ms : List (List ℕ)) → eqb x 10 ≡ false → onto x (glue ls ms) ≡ glue (onto x ls) ms
unfolding glue ends
glue-onto x [] [] e = rw e
glue-onto x [] (m ∷ ms) e = rw e
glue-onto x ([] ∷ []) [] e = rw e
glue-onto x ([] ∷ []) (m ∷ ms) e = rw e
glue-onto x ((b ∷ l) ∷ []) ms e = go (ends 10 (b ∷ l)) ms
  where
    go : (t : Bool) (ms : List (List ℕ)) → onto x (cond t ((b ∷ l) ∷ ms) (before (b ∷ l) ms)) ≡ cond t ((x ∷ b ∷ l) ∷ ms) (before (x ∷ b ∷ l) ms)
    go true ms = refl
    go false [] = refl
    go false (m ∷ ms) = refl
glue-onto x (l ∷ k ∷ ls) ms e = refl

pub lines-append : (a b : List ℕ) → lines (a ++ b) ≡ glue (lines a) (lines b)
unfolding lines
lines-append [] b = unfold glue in refl
lines-append (x ∷ a) b = ap (line_byte x) (lines-append a b) ∙ go (eqb x 10) refl
  where
    go : (t : Bool) → eqb x 10 ≡ t → cond t ((x ∷ []) ∷ glue (lines a) (lines b)) (onto x (glue (lines a) (lines b))) ≡ glue (cond t ((x ∷ []) ∷ lines a) (onto x (lines a))) (lines b)
    go true e = glue-lf x (lines a) (lines b) e
    go false e = glue-onto x (lines a) (lines b) e

-- ---- what a first piece settles

-- the lines of some that end in LF, up to the first that does not, and the bytes of that one
unfoldable pub whole_of : List (List ℕ) → List (List ℕ)
whole_of [] = []
whole_of (l ∷ ls) = cond (ends 10 l) (l ∷ whole_of ls) []

unfoldable pub open_of : List (List ℕ) → List ℕ
open_of [] = []
open_of (l ∷ ls) = cond (ends 10 l) (open_of ls) l

-- the lines that a piece settles, and the bytes behind its last LF
abbrev pub settled : List ℕ → List (List ℕ)
settled s = whole_of (lines s)

abbrev pub left : List ℕ → List ℕ
left s = open_of (lines s)

ends-cons : (x : ℕ) (l : List ℕ) → eqb x 10 ≡ false → ends 10 (x ∷ l) ≡ ends 10 l
unfolding ends
ends-cons x [] e = e
ends-cons x (y ∷ l) e = refl

ends-none : ends 10 [] ≡ false
unfolding ends
ends-none = refl

ends-lf : (x : ℕ) → eqb x 10 ≡ true → ends 10 (x ∷ []) ≡ true
unfolding ends
ends-lf x e = e

-- whatever follows, the settled lines stay, and the others are those of the bytes behind the last LF with what follows
pub lines-settled : (a b : List ℕ) → lines (a ++ b) ≡ settled a ++ lines (left a ++ b)
unfolding lines whole_of open_of
lines-settled [] b = refl
lines-settled (x ∷ a) b = go (eqb x 10) refl (lines a) (lines-settled a b)
  where
    turn : (t : Bool) (l : List ℕ) (ls : List (List ℕ)) → eqb x 10 ≡ false → lines (a ++ b) ≡ cond t (l ∷ whole_of ls) [] ++ lines (cond t (open_of ls) l ++ b)
        → onto x (lines (a ++ b)) ≡ cond t ((x ∷ l) ∷ whole_of ls) [] ++ lines (cond t (open_of ls) (x ∷ l) ++ b)
    turn true l ls e h = ap (onto x) h
    turn false l ls e h = rw e (ap (onto x) h)

    go : (t : Bool) → eqb x 10 ≡ t → (ls : List (List ℕ)) → lines (a ++ b) ≡ whole_of ls ++ lines (open_of ls ++ b)
        → cond t ((x ∷ []) ∷ lines (a ++ b)) (onto x (lines (a ++ b))) ≡ whole_of (cond t ((x ∷ []) ∷ ls) (onto x ls)) ++ lines (open_of (cond t ((x ∷ []) ∷ ls) (onto x ls)) ++ b)
    go true e ls h = rw (ends-lf x e) (ap (λ (k : List (List ℕ)). (x ∷ []) ∷ k) h)
    go false e [] h = rw (ends-cons x [] e ∙ ends-none) (rw e (ap (onto x) h))
    go false e (l ∷ ls) h = rw (ends-cons x l e) (turn (ends 10 l) l ls e h)

-- a piece by itself
pub lines_left : (a : List ℕ) → lines a ≡ settled a ++ lines (left a)
lines_left a = ap lines (sym (append-nil a)) ∙ lines-settled a [] ∙ ap (λ (q : List ℕ). settled a ++ lines q) (append-nil (left a))

-- the bytes behind the last LF are one line, or none
abbrev pub line : List ℕ → List (List ℕ)
line [] = []
line (b ∷ q) = (b ∷ q) ∷ []

pub left-line : (s : List ℕ) → lines (left s) ≡ line (left s)
unfolding lines open_of
left-line [] = refl
left-line (x ∷ s) = go (eqb x 10) refl (lines s) (left-line s)
  where
    one : (l : List ℕ) → onto x (line l) ≡ (x ∷ l) ∷ []
    one [] = refl
    one (b ∷ l) = refl

    turn : (t : Bool) (l : List ℕ) (ls : List (List ℕ)) → eqb x 10 ≡ false → lines (cond t (open_of ls) l) ≡ line (cond t (open_of ls) l) → lines (cond t (open_of ls) (x ∷ l)) ≡ line (cond t (open_of ls) (x ∷ l))
    turn true l ls e h = h
    turn false l ls e h = rw e (ap (onto x) h ∙ one l)

    go : (t : Bool) → eqb x 10 ≡ t → (ls : List (List ℕ)) → lines (open_of ls) ≡ line (open_of ls)
        → lines (open_of (cond t ((x ∷ []) ∷ ls) (onto x ls))) ≡ line (open_of (cond t ((x ∷ []) ∷ ls) (onto x ls)))
    go true e ls h = rw (ends-lf x e) h
    go false e [] h = rw (ends-cons x [] e ∙ ends-none) (rw e)
    go false e (l ∷ ls) h = rw (ends-cons x l e) (turn (ends 10 l) l ls e h)

-- piece by piece: what two settle, and what they leave, by what the first leaves
whole_append : (ls ms : List (List ℕ)) → (whole_of (whole_of ls ++ ms) ≡ whole_of ls ++ whole_of ms) × (open_of (whole_of ls ++ ms) ≡ open_of ms)
unfolding whole_of open_of
whole_append [] ms = (refl, refl)
whole_append (l ∷ ls) ms = go (ends 10 l) refl (whole_append ls ms)
  where
    go : (t : Bool) → ends 10 l ≡ t → (whole_of (whole_of ls ++ ms) ≡ whole_of ls ++ whole_of ms) × (open_of (whole_of ls ++ ms) ≡ open_of ms)
        → (whole_of (cond t (l ∷ whole_of ls) [] ++ ms) ≡ cond t (l ∷ whole_of ls) [] ++ whole_of ms) × (open_of (cond t (l ∷ whole_of ls) [] ++ ms) ≡ open_of ms)
    go true e h = rw e (ap (λ (k : List (List ℕ)). l ∷ k) h.0, h.1)
    go false e h = (refl, refl)

pub settled-append : (a b : List ℕ) → settled (a ++ b) ≡ settled a ++ settled (left a ++ b)
settled-append a b = ap whole_of (lines-settled a b) ∙ (whole_append (lines a) (lines (left a ++ b))).0

pub left-append : (a b : List ℕ) → left (a ++ b) ≡ left (left a ++ b)
left-append a b = ap open_of (lines-settled a b) ∙ (whole_append (lines a) (lines (left a ++ b))).1

-- ---- the records of two pieces

-- records that are known, and lines that follow: the last record takes the sequence lines at their front
unfoldable pub extend : List Group → List (List ℕ) → List Group
extend [] ls = groups ls
extend (g ∷ []) ls = record { def = g.def; seq = g.seq ++ seq_of ls } ∷ groups (after_seq ls)
extend (g ∷ h ∷ gs) ls = g ∷ extend (h ∷ gs) ls

attach-extend : (l : List ℕ) (gs : List Group) (ms : List (List ℕ)) → attach l (extend gs ms) ≡ extend (attach l gs) ms
unfolding extend
attach-extend l [] ms = unfold groups in groups-cut l ms
attach-extend l (g ∷ []) ms = go (begins g.def)
  where
    go : (t : Bool) → cond t (record { def = l; seq = [] } ∷ record { def = g.def; seq = g.seq ++ seq_of ms } ∷ groups (after_seq ms)) (record { def = l; seq = g.def ∷ (g.seq ++ seq_of ms) } ∷ groups (after_seq ms))
        ≡ extend (cond t (record { def = l; seq = [] } ∷ g ∷ []) (record { def = l; seq = g.def ∷ g.seq } ∷ [])) ms
    go true = refl
    go false = refl
attach-extend l (g ∷ h ∷ gs) ms = go (begins g.def)
  where
    go : (t : Bool) → cond t (record { def = l; seq = [] } ∷ g ∷ extend (h ∷ gs) ms) (record { def = l; seq = g.def ∷ g.seq } ∷ extend (h ∷ gs) ms)
        ≡ extend (cond t (record { def = l; seq = [] } ∷ g ∷ h ∷ gs) (record { def = l; seq = g.def ∷ g.seq } ∷ h ∷ gs)) ms
    go true = refl
    go false = refl

pub groups-append : (ls ms : List (List ℕ)) → groups (ls ++ ms) ≡ extend (groups ls) ms
unfolding groups
groups-append [] ms = unfold extend in refl
groups-append (l ∷ ls) ms = ap (attach l) (groups-append ls ms) ∙ attach-extend l (groups ls) ms

-- the records of two pieces, by what the first settles and leaves
pub groups-pieces : (a b : List ℕ) → groups (lines (a ++ b)) ≡ extend (groups (settled a)) (lines (left a ++ b))
groups-pieces a b = ap groups (lines-settled a b) ∙ groups-append (settled a) (lines (left a ++ b))

-- of some records all but the last are settled
pub records-settled : (gs : List Group) (g : Group) (ls : List (List ℕ))
    → extend (gs ++ (g ∷ [])) ls ≡ gs ++ (record { def = g.def; seq = g.seq ++ seq_of ls } ∷ groups (after_seq ls))
unfolding extend
records-settled [] g ls = refl
records-settled (h ∷ []) g ls = refl
records-settled (h ∷ k ∷ gs) g ls = ap (λ (x : List Group). h ∷ x) (records-settled (k ∷ gs) g ls)

-- and all of them once a '>' follows
extend-start : (gs : List Group) (m : List ℕ) (ms : List (List ℕ)) → begins m ≡ true → extend gs (m ∷ ms) ≡ gs ++ groups (m ∷ ms)
unfolding extend seq_of after_seq
extend-start [] m ms e = refl
extend-start (g ∷ []) m ms e = rw (e, append-nil g.seq)
extend-start (g ∷ h ∷ gs) m ms e = ap (λ (x : List Group). g ∷ x) (extend-start (h ∷ gs) m ms e)

pub groups-start : (ls : List (List ℕ)) (m : List ℕ) (ms : List (List ℕ)) → begins m ≡ true → groups (ls ++ (m ∷ ms)) ≡ groups ls ++ groups (m ∷ ms)
groups-start ls m ms e = groups-append ls (m ∷ ms) ∙ extend-start (groups ls) m ms e

-- ---- a line that grows

pub ends-append : (q l : List ℕ) → 0 < length l → ends 10 (q ++ l) ≡ ends 10 l
unfolding ends
ends-append [] l h = refl
ends-append (x ∷ q) [] h = absurd (omega arith)
ends-append (x ∷ []) (y ∷ l) h = refl
ends-append (x ∷ z ∷ q) (y ∷ l) h = ends-append (z ∷ q) (y ∷ l) h

chop-append : (b : ℕ) (q l : List ℕ) → 0 < length l → chop b (q ++ l) ≡ q ++ chop b l
unfolding chop
chop-append b [] l h = refl
chop-append b (x ∷ q) [] h = absurd (omega arith)
chop-append b (x ∷ []) (y ∷ l) h = refl
chop-append b (x ∷ z ∷ q) (y ∷ l) h = ap (λ (k : List ℕ). x ∷ k) (chop-append b (z ∷ q) (y ∷ l) h)

chop-open : (b : ℕ) (q : List ℕ) → ends b q ≡ false → chop b q ≡ q
unfolding chop ends
chop-open b [] e = refl
chop-open b (x ∷ []) e = rw e
chop-open b (x ∷ y ∷ q) e = ap (λ (k : List ℕ). x ∷ k) (chop-open b (y ∷ q) e)

-- the bases of an open line with more bytes: an LF alone adds none, and leaves out a CR before it; else all its bytes are bases, and the new ones'
pub bases-append : (q l : List ℕ) → ends 10 q ≡ false → 0 < length l → length (bases_of (q ++ l)) ≡ cond (eqb (length (chop 10 l)) 0) (length (bases_of q)) (length q + length (bases_of l))
bases-append q l e h = ap (λ (k : List ℕ). length (chop 13 k)) (chop-append 10 q l h) ∙ go (chop 10 l)
  where
    go : (k : List ℕ) → length (chop 13 (q ++ k)) ≡ cond (eqb (length k) 0) (length (bases_of q)) (length q + length (chop 13 k))
    go [] = rw (append-nil q, chop-open 10 q e)
    go (y ∷ k) = rw (eqb-suc-zero (length k), chop-append 13 q (y ∷ k) (omega arith)) (length-append q (chop 13 (y ∷ k)))
