-- Both complements are their own inverse exactly if no base is U. A second complement gives T for U (t for u), and every other base
-- again.
use Rattle.std.specs.Prelude.{ℕ, ◌≡◌, ◌↔◌, List, [], map, reverse}
use Rattle.std.proofs.Common.{ap, sym, ◌∙◌}
use Rattle.std.proofs.lemmas.List.{reverse-reverse}
use Rattle.letters.specs.Letters.{partner}
use Rattle.complement.specs.Complement.{given, first_or, faults, complement_of, reverse_complement_of}
use Rattle.complement.specs.Thymine.{thymine, NoU}
use Rattle.complement.specs.InverseLaws.{good, faultless, good-map, good-onto, map-onto, twice, inside, exactly}

-- the complement of a complement: the bases, with T in the place of U
pub complement-twice : (s t : List ℕ) → complement_of s ≡ given t → complement_of t ≡ given (map thymine s)
unfolding complement_of first_or
complement-twice s t e =
    let (n, q) = inside (faults 0 s) (map partner s) t e in
    let g = good 0 s n in
    rw (← q, faultless 0 (map partner s) (good-map s g), twice s g)

-- the same for the reverse complement
pub reverse-complement-twice : (s t : List ℕ) → reverse_complement_of s ≡ given t → reverse_complement_of t ≡ given (map thymine s)
unfolding reverse_complement_of first_or
reverse-complement-twice s t e =
    let (n, q) = inside (reverse (faults 0 s)) (reverse (map partner s)) t e in
    let g = good 0 s (sym (reverse-reverse (faults 0 s)) ∙ ap reverse n) in
    rw (← q, faultless 0 (reverse (map partner s)) (good-onto (map partner s) [] (good-map s g) tt), map-onto (map partner s) [], reverse-reverse, twice s g)

-- the complement of a complement is the bases themselves exactly if none is U
pub complement-own-inverse : (s t : List ℕ) → complement_of s ≡ given t → complement_of t ≡ given s ↔ NoU s
complement-own-inverse s t e = exactly (complement_of t) s (complement-twice s t e)

-- the same for the reverse complement
pub reverse-complement-own-inverse : (s t : List ℕ) → reverse_complement_of s ≡ given t → reverse_complement_of t ≡ given s ↔ NoU s
reverse-complement-own-inverse s t e = exactly (reverse_complement_of t) s (reverse-complement-twice s t e)
