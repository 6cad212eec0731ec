-- Numbers that fit: what holds of the numbers of a feeder, so that no sum of them is too large.
use Rattle.std.specs.Prelude.{ℕ, ◌+◌, ◌≤◌, ◌<◌, ◌^◌, ◌≡◌, true}
use Rattle.lines.specs.declared.Line.{Line}
use Rattle.fitting.specs.declared.Numbers.{Numbers}
use Rattle.feeder.specs.declared.Waiting.{Waiting}
use Rattle.feeder.specs.declared.Opened.{Opened}
use Rattle.feeder.specs.declared.SoFar.{SoFar}
use Rattle.feeder.specs.declared.SoFar.TheVariants.{Blank, Run, Rows}
use Rattle.feeder.specs.declared.Phase.{Phase}
use Rattle.feeder.specs.declared.Phase.TheVariants.{Definition, Lines, Halted, Ended}
use Rattle.feeder.specs.declared.Fed.{Fed}

-- a line that waits: nothing of it is more than its bytes, and its LF is no base
pub record SmallWaiting (t : Waiting) : Type 0 where
  pub bases : t.bases ≤ t.width
  pub ended : t.whole ≡ true → t.bases < t.width
  pub name : t.name ≤ t.width
  pub text : t.text ≤ t.width
  pub kept : t.kept ≤ t.width

-- no number is over m
pub record SmallOpened (m : ℕ) (d : Opened) : Type 0 where
  pub at : d.at ≤ m
  pub end : d.end ≤ m
  pub name-start : d.said.name.start ≤ m
  pub name-length : d.said.name.length ≤ m
  pub text-start : d.said.description.start ≤ m
  pub text-length : d.said.description.length ≤ m

-- the places of its name and its description in the file are numbers that fit
abbrev pub RowFits : Opened → Type 0
RowFits d = (d.at + d.said.name.start < 2 ^ 63) × (d.at + d.said.description.start < 2 ^ 63)

-- lines have a byte behind their bases
pub record SmallNumbers (m : ℕ) (n : Numbers) : Type 0 where
  pub position : n.position ≤ m
  pub bases : n.bases ≤ m
  pub width : n.width ≤ m
  pub some : 0 < n.bases
  pub apart : n.bases < n.width

-- before a line at z: a run ends before it
abbrev pub SmallSoFar : ℕ → ℕ → SoFar → Type 0
SmallSoFar m z Blank = Unit {0}
SmallSoFar m z (Run n) = SmallNumbers m n × (n.position + n.bases < z)
SmallSoFar m z (Rows n k) = SmallNumbers m n × (k ≤ m)

unfoldable pub SmallPhase : ℕ → Phase → Type 0
SmallPhase m (Definition at) = at ≤ m
SmallPhase m (Lines d t z) = SmallOpened m d × SmallSoFar m z t × (z ≤ m)
SmallPhase m (Halted n) = Unit {0}
SmallPhase m Ended = Unit {0}

-- a line x at z, behind a record's lines so far
pub record FitsIn (d : Opened) (t : SoFar) (z : ℕ) (x : Line) : Type 0 where
  pub opened : SmallOpened (2 ^ 60) d
  pub so_far : SmallSoFar (2 ^ 60) z t
  pub at : z ≤ 2 ^ 60
  pub width : x.width < 2 ^ 60
  pub bases : x.bases ≤ x.width

pub record SmallRows (d : Opened) (n : Numbers) (k z : ℕ) (x : Line) : Type 0 where
  pub opened : SmallOpened (2 ^ 60) d
  pub some : 0 < n.bases
  pub apart : n.bases < n.width
  pub count : k ≤ 2 ^ 60
  pub at : z ≤ 2 ^ 60
  pub width : x.width < 2 ^ 60
  pub bases : x.bases ≤ x.width
  pub here : 0 < x.bases

-- what is awaited and what waits, with c bytes at most
pub record FitsWithin (c : ℕ) (p : Phase) (t : Waiting) : Type 0 where
  pub most : ℕ
  pub phase : SmallPhase most p
  pub waiting : SmallWaiting t
  pub both : most + t.width ≤ c

abbrev pub Fits : ℕ → Fed → Type 0
Fits c f = FitsWithin c f.phase f.waiting
