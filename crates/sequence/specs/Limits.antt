-- A limit that is larger than the file is no limit.
use Rattle.std.specs.Prelude.{ℕ, ◌<◌, ◌≡◌, List, length}
use Rattle.lines.specs.declared.Cursor.{Cursor}
use Rattle.sequence.specs.Laws.{scan-free}
use Rattle.sequence.specs.Read.{read_limit, read_whole}

-- the limited read then answers as the whole one, and leaves the same output
pub large-limit : (s : List ℕ) (limit : ℕ) (c : Cursor) (out : List ℕ) → length s < limit → read_limit s limit c out ≡ read_whole s c out
unfolding read_limit read_whole
large-limit s limit c out h = rw (scan-free s limit c.at h)
