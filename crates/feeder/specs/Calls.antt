-- What the calls of a feeder leave and answer, for any state and any bytes (docs/RULES.md, R57).
use Rattle.std.specs.Prelude.{ℕ, ◌+◌, ◌-◌, ◌≡◌, List, Bool, true, false, cond, not, ◌&&◌, ◌||◌, length, eqb, leb, ltb}
use Rattle.refusal.specs.Numbers.{numbers_of, over_limit}
use Rattle.refusal.specs.declared.Numbers as refused
use Rattle.refusal.specs.declared.Refusal.{Refusal}
use Rattle.refusal.specs.declared.Refusal.TheVariants.{TooLong, AlreadyEnded}
use Rattle.lines.specs.Feeding.{FedSum, feed_sum}
use Rattle.table.specs.Numbers.{numbers_in, rest_of}
use Rattle.fitting.specs.declared.Numbers.{Numbers}
use Rattle.fitting.specs.declared.Rule.{Rule}
use Rattle.feeder.specs.declared.Waiting.{Waiting}
use Rattle.feeder.specs.declared.Opened.{Opened}
use Rattle.feeder.specs.declared.SoFar.{SoFar}
use Rattle.feeder.specs.declared.SoFar.TheVariants.{Blank, Run, Rows}
use Rattle.feeder.specs.declared.Phase.{Phase}
use Rattle.feeder.specs.declared.Phase.TheVariants.{Definition, Lines, Halted, Ended}
use Rattle.feeder.specs.declared.Feeder.{Feeder}
use Rattle.feeder.specs.Waiting.{no_line}
use Rattle.feeder.specs.Machine.{Filling, filling, step_by, machine}

-- ---- states

-- the most bytes of a file
abbrev pub limit : ℕ
limit = 1099511627776

-- the start of a file
abbrev pub begun_by : Rule → Feeder
begun_by rule = record { rule = rule; total = 0; rows = 0; phase = Definition 0; waiting = no_line }

-- behind a refusal, or the end: the rows that stand, and nothing more
abbrev pub stopped : Rule → ℕ → Phase → Feeder
stopped rule n p = record { rule = rule; total = 0; rows = n; phase = p; waiting = no_line }

-- refused
abbrev pub refused_by : Feeder → Refusal → Feeder
refused_by f x = stopped f.rule f.rows (Halted (numbers_of x))

-- does a feeder take bytes
unfoldable pub live : Phase → Bool
live (Definition at) = true
live (Lines d t z) = true
live (Halted n) = false
live Ended = false

-- a feeder that takes no bytes, given some or the end: a refusal stays, and behind a good end this is refusal 26
unfoldable pub still_stopped : Feeder → Phase → Feeder
still_stopped f (Halted n) = f
still_stopped f Ended = refused_by f AlreadyEnded
still_stopped f (Definition at) = f
still_stopped f (Lines d t z) = f

-- could a call have left these numbers: none is over the limit, and they fit together
unfoldable pub sound_waiting : Waiting → Bool
sound_waiting t =
    ((((leb t.bases t.width && leb t.name t.width) && leb t.text t.width) && leb t.kept t.width) && leb t.width limit) && (not t.whole || ltb t.bases t.width)

unfoldable pub sound_opened : Opened → Bool
sound_opened d =
    ((((leb d.at limit && leb d.end limit) && leb d.said.name.start limit) && leb d.said.name.length limit)
    && leb d.said.description.start limit) && leb d.said.description.length limit

unfoldable pub sound_numbers : Numbers → Bool
sound_numbers n = (((leb n.position limit && leb n.bases limit) && leb n.width limit) && ltb 0 n.bases) && ltb n.bases n.width

-- a run ends before the next line
unfoldable pub sound_so_far : ℕ → SoFar → Bool
sound_so_far z Blank = true
sound_so_far z (Run n) = sound_numbers n && (ltb n.position z && ltb n.bases (z - n.position))
sound_so_far z (Rows n k) = sound_numbers n && leb k limit

unfoldable pub sound_phase : Phase → Bool
sound_phase (Definition at) = leb at limit
sound_phase (Lines d t z) = (sound_opened d && leb z limit) && sound_so_far z t
sound_phase (Halted n) = true
sound_phase Ended = true

unfoldable pub sound_of : Feeder → Bool
sound_of f = (leb f.total limit && sound_phase f.phase) && sound_waiting f.waiting

-- ---- the calls

-- a feeder, and the numbers of the table
pub record With : Type 0 where
  pub feeder : Feeder
  pub table : List ℕ

abbrev pub with : Feeder → List ℕ → With
with f t = record { feeder = f; table = t }

-- what lines leave: behind a refusal only that
unfoldable pub kept_by : Rule → ℕ → Phase → ℕ → Waiting → Feeder
kept_by rule total (Halted n) rows t = stopped rule rows (Halted n)
kept_by rule total (Definition at) rows t = record { rule = rule; total = total; rows = rows; phase = Definition at; waiting = t }
kept_by rule total (Lines d so z) rows t = record { rule = rule; total = total; rows = rows; phase = Lines d so z; waiting = t }
kept_by rule total Ended rows t = record { rule = rule; total = total; rows = rows; phase = Ended; waiting = t }

abbrev pub kept_in : Rule → ℕ → FedSum Filling Waiting → With
kept_in rule total x = with (kept_by rule total x.state.phase x.state.rows x.waiting) x.state.table

-- where a feeder stands
abbrev pub fed_of : Feeder → List ℕ → FedSum Filling Waiting
fed_of f t = record { state = filling f.phase f.rows t; waiting = f.waiting }

-- a piece: none changes nothing; then 26, then 1, then its lines
unfoldable pub piece_of : Feeder → List ℕ → List ℕ → With
piece_of f p t =
    cond (eqb (length p) 0) (with f t)
    (cond (live f.phase)
    (cond (sound_of f)
    (cond (over_limit (f.total + length p)) (with (refused_by f TooLong) t) (kept_in f.rule (f.total + length p) (feed_sum (machine f.rule) (fed_of f t) p)))
    (with (refused_by f TooLong) t))
    (with (still_stopped f f.phase) t))

-- what the end leaves
unfoldable pub closed_by : Rule → Phase → ℕ → Feeder
closed_by rule (Halted n) rows = stopped rule rows (Halted n)
closed_by rule (Definition at) rows = stopped rule rows Ended
closed_by rule (Lines d so z) rows = stopped rule rows Ended
closed_by rule Ended rows = stopped rule rows Ended

abbrev pub closed_in : Rule → Filling → With
closed_in rule st = with (closed_by rule st.phase st.rows) st.table

-- the end: 26, and then the line that waits is judged, if there is one
unfoldable pub end_of : Feeder → List ℕ → With
end_of f t =
    cond (live f.phase)
    (cond (sound_of f)
    (closed_in f.rule (cond (eqb f.waiting.width 0) (filling f.phase f.rows t) (step_by f.rule (filling f.phase f.rows t) f.waiting true)))
    (with (refused_by f TooLong) t))
    (with (still_stopped f f.phase) t)

-- ---- what a call leaves: the feeder, the table's numbers, and the rest of its bytes as it was

pub record CallDone (w : With) (before : List ℕ) (r : Feeder) (after : List ℕ) : Type 0 where
  pub is : with r (numbers_in after) ≡ w
  pub rest : rest_of after ≡ rest_of before

-- the refusal of a feeder; 0, 0 and 0 for none
unfoldable pub refusal_in : Phase → refused.Numbers
refusal_in (Halted n) = n
refusal_in (Definition at) = record { refusal = 0; first = 0; second = 0 }
refusal_in (Lines d t z) = record { refusal = 0; first = 0; second = 0 }
refusal_in Ended = record { refusal = 0; first = 0; second = 0 }
