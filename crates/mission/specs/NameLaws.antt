-- The name in a definition line, whatever its mark: none of its bytes is whitespace.
use Rattle.std.specs.Prelude.{ℕ, zero, suc, ◌+◌, ◌≤◌, ◌≡◌, refl, List, [], ◌∷◌, Bool, true, false, cond, not, length, take, drop, eqb, Ok, Err}
use Rattle.std.proofs.Common.{ap, sym, ◌∙◌, true≢false, take-take, eqb-true, arith}
use Rattle.lines.specs.Lines.{content_of}
use Rattle.lines.specs.Laws.{content-front}
use Rattle.definition.specs.Definition.{is_space, spaced, run, keep, described, named_of, marked_says, definition_says}
use Rattle.definition.specs.Laws.{run-le, marked-prefix}
use Rattle.definition.specs.declared.Definition.{Definition}
use Rattle.definition.specs.declared.Fault.TheVariants.{NoPrefix}
use Rattle.columns.specs.Bytes.{is, first_where}
use Rattle.columns.specs.Lacks.{Lacks, lacks-cons, lacks_less}
use Rattle.checker.specs.Check.{span_of}

-- the bytes up to the first whitespace have none
front-spaceless : (s : List ℕ) → Lacks is_space (take (run (spaced false) s) s)
unfolding run first_where
front-spaceless [] = refl
front-spaceless (b ∷ s) = go (is_space b) refl (front-spaceless s)
  where
    go : (t : Bool) → is_space b ≡ t → Lacks is_space (take (run (spaced false) s) s) → Lacks is_space (take (cond (not t) (suc (run (spaced false) s)) 0) (b ∷ s))
    go true e h = refl
    go false e h = lacks-cons is_space b (take (run (spaced false) s) s) e h

-- bytes behind the first of some, by what is known of their front
behind-first : (b n : ℕ) (s l : List ℕ) → n ≤ length s → take (suc (length s)) l ≡ b ∷ s → take n (drop 1 l) ≡ take n s
behind-first b n s [] h e = let z : ◌≡◌ {A = ℕ} 0 1 = cc in absurd (omega arith)
behind-first b n s (c ∷ l) h e =
    let q : take (length s) l ≡ s = cc in
    sym (take-take n (length s) l h) ∙ ap (take n) q

-- a name holds no whitespace, whatever its line's mark
pub marked-spaceless : (mark : ℕ) (l : List ℕ) (d : Definition) → marked_says mark (content_of l) ≡ Ok d → Lacks is_space (span_of l d.name)
unfolding marked_says
marked-spaceless mark l d h = go (content_of l) (content-front l) h
  where
    some : (b : ℕ) (s : List ℕ) (n : ℕ) → run (spaced false) s ≡ n → take (suc (length s)) l ≡ b ∷ s → named_of s n ≡ Ok d → Lacks is_space (span_of l d.name)
    some b s zero r c e = let z : ◌≡◌ {A = ℕ} 0 1 = cc in absurd (omega arith)
    some b s (suc n) r c e =
        let k : ℕ = run (spaced true) (drop (suc n) s) in
        let v : d ≡ record { name = record { start = 1; length = suc n }; description = described (suc (suc n) + k) (keep is_space (drop k (drop (suc n) s))) } = cc in
        let q : span_of l d.name ≡ take (suc n) s = ap (λ (x : Definition). span_of l x.name) v ∙ behind-first b (suc n) s l (omega (arith, r, run-le (spaced false) s)) c in
        rw (q, ← r) (front-spaceless s)

    go : (t : List ℕ) → take (length t) l ≡ t → marked_says mark t ≡ Ok d → Lacks is_space (span_of l d.name)
    go [] c e = let z : ◌≡◌ {A = ℕ} 0 1 = cc in absurd (omega arith)
    go (b ∷ s) c e = prefixed (eqb b mark) e
      where
        prefixed : (t : Bool) → cond t (named_of s (run (spaced false) s)) (Err NoPrefix) ≡ Ok d → Lacks is_space (span_of l d.name)
        prefixed true e = some b s (run (spaced false) s) refl c e
        prefixed false e = let z : ◌≡◌ {A = ℕ} 0 1 = cc in absurd (omega arith)

pub name-spaceless : (l : List ℕ) (d : Definition) → definition_says l ≡ Ok d → Lacks is_space (span_of l d.name)
unfolding definition_says
name-spaceless l d h = marked-spaceless 62 l d (marked-prefix (content_of l) ∙ h)

-- so it has none of the bytes that are whitespace
pub not-space : (n b : ℕ) → is_space n ≡ true → is_space b ≡ false → is n b ≡ false
not-space n b h e = go (eqb b n) refl
  where
    go : (t : Bool) → eqb b n ≡ t → t ≡ false
    go true q = absurd (true≢false (sym (ap is_space (eqb-true b n q) ∙ h) ∙ e))
    go false q = refl

pub spaceless-lacks : (n : ℕ) → is_space n ≡ true → (l : List ℕ) → Lacks is_space l → Lacks (is n) l
spaceless-lacks n h l k = lacks_less is_space (is n) (λ b e. not-space n b h e) l k
