-- Looking up and reading are two calls (request K8). Before, one call did both: `exactNamed` and `rawNamed` say what it answered. They are here
-- only so that the two calls can be compared with them.
--
-- `split-equals-exact`, `split-equals-raw`: for lent bytes within the limit, `index::find` (`rowRead`) and then the read of the row that it gives
-- (`exactRead`, `rawRead`) answer together as the one call did: 25 or 15 from the first, all else from the second.
--
-- `missing-name`: what changed. A name that no row has is refused before a file that is too long, for which the one call gave 1 (`long-file-exact`,
-- `long-file-raw`).
use Rattle.std.specs.Prelude.{ℕ, ◌≡◌, List, true, false, length, Option, Err}
use Rattle.record.specs.declared.Position.{Position}
use Rattle.refusal.specs.Numbers.{over_limit}
use Rattle.refusal.specs.declared.Refusal.TheVariants.{TooLong, NameUnknown}
use Rattle.index.specs.Find.{row_from, row_named, row_read}
use Rattle.output.specs.Outcome.{refuses}
use Rattle.region.specs.Exact.{exact_held, exact_read}
use Rattle.region.specs.Raw.{raw_held, raw_read}
use Rattle.region.specs.Refusals.{exact-refuses, raw-refuses}
use Rattle.region.specs.ByName.{row_for, read_found, exact_named, raw_named, Split, Small}
use Rattle.region.specs.SplitLaws.{split}

module _ (s names t : List ℕ) (u : ℕ) (name : List ℕ) (a e : Option Position) (out : List ℕ) where
  module _ (small : Small s names name) where
    pub split-equals-exact : Split (exact_named s names t u name a e out) (row_read names t u name) (λ r. exact_read s t u r a e out) out
    unfolding exact_named
    split-equals-exact = split s names t u name a e out small (λ r. exact_read s t u r a e out) (λ r x h. exact-refuses s t u r a e out small.file x h)

    pub split-equals-raw : Split (raw_named s names t u name a e out) (row_read names t u name) (λ r. raw_read s t u r a e out) out
    unfolding raw_named
    split-equals-raw = split s names t u name a e out small (λ r. raw_read s t u r a e out) (λ r x h. raw-refuses s t u r a e out small.file x h)

  -- ---- what changed

  -- for a file that is too long the one call gave 1, whatever the name. Now the second call gives it, for any row
  module _ (long : over_limit (length s) ≡ true) where
    pub long-file-exact : (exact_named s names t u name a e out ≡ refuses TooLong out) × ((r : ℕ) → exact_read s t u r a e out ≡ refuses TooLong out)
    unfolding exact_named read_found row_for exact_read exact_held
    long-file-exact = (rw long, λ r. rw long)

    pub long-file-raw : (raw_named s names t u name a e out ≡ refuses TooLong out) × ((r : ℕ) → raw_read s t u r a e out ≡ refuses TooLong out)
    unfolding raw_named read_found row_for raw_read raw_held
    long-file-raw = (rw long, λ r. rw long)

  -- and the first refuses the name before that, since no file is lent to it: here a name that no row has, for no row is in use
  pub missing-name : over_limit (length names) ≡ false → over_limit (length name) ≡ false → row_read names t 0 name ≡ Err NameUnknown
  unfolding row_read row_named row_from
  missing-name h k = rw (h, k)
