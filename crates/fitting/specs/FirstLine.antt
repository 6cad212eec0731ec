-- The complete rule's numbers by lines: of a sequence whose first line has a base, line bases are that line's bases.
use Rattle.std.specs.Prelude.{ℕ, zero, suc, ◌+◌, ◌≤◌, ◌<◌, ◌≡◌, refl, List, [], ◌∷◌, ◌++◌, Bool, true, false, length, get_or, drop}
use Rattle.std.proofs.Common.{ap, sym, ◌∙◌, true≢false, eq-eqb, ne_eqb, ltb-true, arith}
use Rattle.std.proofs.Math.Seq.{drop-append_seam}
use Rattle.lines.specs.Lines.{chop, ends, bases_of, seq_at, none, first_line, tail_of, up_from, bases_at}
use Rattle.lines.specs.Laws.{chop-le, ends-chop, seq_at-next}
use Rattle.lines.specs.Alike.{is_like, first_like, unlike-last}
use Rattle.record.specs.EvenLines.{length-up_from}
use Rattle.fitting.specs.Complete.{besides, distance, numbers_for}
use Rattle.fitting.specs.Sound.{bases-inside}

-- ---- a line without a byte behind its bases is the last

-- the first line has a byte behind its bases, if another follows
abbrev pub Terminated : List (List ℕ) → Type 0
Terminated ls = none (tail_of ls) ≡ false → (first_line ls).bases < (first_line ls).width

pub terminated-here : (s : List ℕ) (at : ℕ) → at ≤ length s → Terminated (seq_at s at)
unfolding first_like is_like
terminated-here s at h = go (seq_at s at) refl
  where
    go : (ls : List (List ℕ)) → seq_at s at ≡ ls → Terminated ls
    go [] e = λ n. absurd (true≢false n)
    go (l ∷ ls) e = λ n. ended (ends 10 l) refl n
      where
        last : ends 10 l ≡ false → none (seq_at s (at + length l)) ≡ true
        last t = unlike-last s at (record { width = length l; bases = length (bases_of l) }) h (ap none e) (rw (e, t)) (rw e) (rw e)

        ended : (t : Bool) → ends 10 l ≡ t → none ls ≡ false → length (bases_of l) < length l
        ended true t n = omega (arith, ltb-true (length (chop 10 l)) (length l) (sym (ends-chop 10 l) ∙ t), chop-le 13 (chop 10 l))
        ended false t n = absurd (true≢false (sym (last t) ∙ ap none (rw e at (seq_at-next s at h)) ∙ n))

-- ---- the numbers of a sequence whose first line has a base

beside-up_from : (n o : ℕ) (rest : List ℕ) → ((x : ℕ) (xs : List ℕ) → rest ≡ x ∷ xs → x ≡ suc (o + n) → ⊥) → besides o (up_from (suc o) n ++ rest) ≡ n
unfolding besides up_from
beside-up_from zero o [] h = refl
beside-up_from zero o (x ∷ xs) h = rw (ne_eqb x (suc o) (λ e. h x xs refl (omega arith)))
beside-up_from (suc n) o rest h = rw (eq-eqb (suc o) (suc o) refl) (ap suc (beside-up_from n (suc o) rest (λ x xs e q. h x xs e (omega arith))))

drop-up_from : (o n : ℕ) (rest : List ℕ) → drop n (up_from o n ++ rest) ≡ rest
drop-up_from o n rest = ap (λ (k : ℕ). drop k (up_from o n ++ rest)) (sym (length-up_from o n)) ∙ drop-append_seam (up_from o n) rest

-- the first base behind a line is not side by side with its last
apart : (at n : ℕ) (l : List ℕ) (ls : List (List ℕ)) → length (bases_of l) ≡ suc n → (none ls ≡ false → length (bases_of l) < length l)
    → (x : ℕ) (xs : List ℕ) → bases_at (at + length l) ls ≡ x ∷ xs → x ≡ suc (at + n) → ⊥
unfolding bases_at
apart at n l [] e b x xs q r = let z : ◌≡◌ {A = ℕ} 0 1 = cc in omega arith
apart at n l (m ∷ ls) e b x xs q r =
    let k = (bases-inside (at + length l) (m ∷ ls) 0 (rw q (omega arith))).0 in
    let v : get_or (bases_at (at + length l) (m ∷ ls)) 0 0 ≡ x = rw q in
    omega (arith, b refl, k, v, e, r)

pub numbers-line : (start line at : ℕ) (l : List ℕ) (ls : List (List ℕ)) → 0 < length (bases_of l) → (none ls ≡ false → length (bases_of l) < length l)
    → numbers_for start line (bases_at at (l ∷ ls)) ≡ record { position = at; bases = length (bases_of l); width = distance line at (bases_at (at + length l) ls) }
unfolding numbers_for bases_at up_from
numbers-line start line at l ls z b = go (length (bases_of l)) refl z
  where
    go : (n : ℕ) → length (bases_of l) ≡ n → 0 < n
        → numbers_for start line (up_from at n ++ bases_at (at + length l) ls) ≡ record { position = at; bases = n; width = distance line at (bases_at (at + length l) ls) }
    go zero e m = absurd (omega arith)
    go (suc n) e m = rw (beside-up_from n at (bases_at (at + length l) ls) (apart at n l ls e b), drop-up_from (suc at) n (bases_at (at + length l) ls))
