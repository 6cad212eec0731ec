-- Mending a base (docs/RULES.md, R55), its first part: one byte of a file that is a base is replaced by a byte other than LF, CR and '>'. The file has the same records, but
-- for that base; every base stays where it was; and an index that was accepted is accepted still.
use Rattle.std.specs.Prelude.{ℕ, ◌≡◌, List, set, Ok}
use Rattle.std.proofs.Common.{length-set}
use Rattle.checker.specs.Accepts.{Accepts}
use Rattle.checker.specs.Check.{check_of}
use Rattle.checker.specs.Exactly.{accepted-if, accepted-only-if}
use Rattle.checker.specs.Mend.{BaseAt, Plain}
use Rattle.checker.specs.MendedLaws.{matches-same, records-count, record_same, sequence-same}

module _ (f : List ℕ) (k j o b : ℕ) (x : BaseAt f k j o) (p : Plain b) where
  pub mended-accepted : (i : List ℕ) → Accepts f i → Accepts (set f o b) i
  mended-accepted i a =
      record {
        limits = record { fasta = rw (length-set f o b) a.limits.fasta; index = a.limits.index };
        count = rw (records-count f k j o b x p) a.count;
        each = λ r h. rw (sequence-same f k j o b x p r) (matches-same (record_same f k j o b x p r) (a.each r (rw (records-count f k j o b x p) at h)));
      }

  pub mended-checked : (i : List ℕ) → check_of f i ≡ Ok tt → check_of (set f o b) i ≡ Ok tt
  mended-checked i h = accepted-if (set f o b) i (mended-accepted i (accepted-only-if f i h))
