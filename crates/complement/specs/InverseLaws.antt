-- Laws for Inverse.antt: a second pairing of letters undoes the first, except for U.
use Rattle.std.specs.Prelude.{ℕ, suc, ◌≡◌, refl, ◌↔◌, Bool, true, false, not, eqb}
use Prim.Native.Char.{code}
use Rattle.std.proofs.Common.{ap, ◌∙◌, eqb→eq, ne_eqb, arith}
use mathlib.Core.List.{List, [], ◌∷◌, ◌++◌, map, reverse_aux, cons≢nil}
use Rattle.std.proofs.lemmas.Bool.{eqb-false}
use Rattle.refusal.specs.declared.Refusal.{Refusal}
use Rattle.refusal.specs.declared.Refusal.TheVariants.{NoComplement}
use Rattle.letters.specs.Letters.{partner}
use Rattle.complement.specs.Complement.{Judged, given, first_or, when, faults}
use Rattle.letters.specs.Laws.{of-each}
use Rattle.complement.specs.Thymine.{thymine, NoU}

-- the complement's complement is the base, with T in the place of U
pub partner-twice : (b : ℕ) → (partner b ≡ 0 → ⊥) → partner (partner b) ≡ thymine b
unfolding partner thymine
partner-twice b h = eqb→eq _ _ (of-each (λ x y. eqb (partner y) (thymine x)) tt b h)

-- a complement has a complement
partner-again : (b : ℕ) → (partner b ≡ 0 → ⊥) → partner (partner b) ≡ 0 → ⊥
unfolding partner
partner-again b h e = rw e at (of-each (λ x y. not (eqb (partner y) 0)) tt b h)

-- each byte has a complement
abbrev pub Good : List ℕ → Type 0
Good [] = Unit {0}
Good (b ∷ s) = (partner b ≡ 0 → ⊥) × Good s

pub good : (at : ℕ) (s : List ℕ) → faults at s ≡ [] → Good s
unfolding faults
good at [] e = tt
good at (b ∷ s) e = go (eqb (partner b) 0) refl e (good (suc at) s)
  where
    go : (t : Bool) → eqb (partner b) 0 ≡ t → when t (NoComplement at b) ++ faults (suc at) s ≡ [] → (faults (suc at) s ≡ [] → Good s) → Good (b ∷ s)
    go true q e more = absurd (cons≢nil e)
    go false q e more = (eqb-false _ _ q, more e)

pub faultless : (at : ℕ) (s : List ℕ) → Good s → faults at s ≡ []
unfolding faults
faultless at [] g = refl
faultless at (b ∷ s) g = rw (ne_eqb _ _ g.0) (faultless (suc at) s g.1)

pub good-map : (s : List ℕ) → Good s → Good (map partner s)
good-map [] g = tt
good-map (b ∷ s) g = (partner-again b g.0, good-map s g.1)

pub good-onto : (s t : List ℕ) → Good s → Good t → Good (reverse_aux s t)
good-onto [] t g h = h
good-onto (b ∷ s) t g h = good-onto s (b ∷ t) g.1 (g.0, h)

pub map-onto : (s t : List ℕ) → map partner (reverse_aux s t) ≡ reverse_aux (map partner s) (map partner t)
map-onto [] t = refl
map-onto (b ∷ s) t = map-onto s (b ∷ t)

pub twice : (s : List ℕ) → Good s → map partner (map partner s) ≡ map thymine s
twice [] g = refl
twice (b ∷ s) g = rw (partner-twice b g.0, twice s g.1)

-- bytes that no refusal stands against are written
pub inside : (rs : List Refusal) (l t : List ℕ) → first_or rs l ≡ given t → (rs ≡ []) × (l ≡ t)
unfolding first_or
inside [] l t e = (refl, cc)
inside (r ∷ rs) l t e = let z : ◌≡◌ {A = ℕ} 0 1 = cc in absurd (omega arith)

without-u : (s : List ℕ) → NoU s → map thymine s ≡ s
unfolding thymine
without-u [] n = refl
without-u (b ∷ s) n = rw (ne_eqb _ _ n.0, ne_eqb _ _ n.1.0, without-u s n.1.1)

only-without-u : (s : List ℕ) → map thymine s ≡ s → NoU s
unfolding thymine
only-without-u [] e = tt
only-without-u (b ∷ s) e =
    let k : thymine b ≡ b = cc in
    (λ q. let z : code "T" ≡ code "U" = rw q at k in omega arith, (λ q. let z : code "t" ≡ code "u" = rw q at k in omega arith, only-without-u s (cc)))

-- with T in the place of U the bases stay the same exactly if none is U
pub exactly : (o : Judged) (s : List ℕ) → o ≡ given (map thymine s) → o ≡ given s ↔ NoU s
exactly o s e = (λ q. only-without-u s (cc), λ n. e ∙ ap given (without-u s n))
