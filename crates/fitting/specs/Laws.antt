-- Laws of one record by the complete rule: its numbers, and the walk over its lines.
use Rattle.std.specs.Prelude.{ℕ, ◌+◌, ◌-◌, ◌≤◌, ◌≡◌, List, Some, None, Ok, Err}
use Rattle.std.proofs.Math.Path.{ap, sym}
use Rattle.std.proofs.Common.{◌∙◌, arith}
use Rattle.std.proofs.Math.ListN.{length}
use Rattle.refusal.specs.declared.Refusal.TheVariants.{NoIndexFits}
use Rattle.definition.specs.declared.Definition.{Definition}
use Rattle.lines.specs.Lines.{seq_at, sum_bases, sum_widths}
use Rattle.record.specs.EvenLines.{length-bases_at}
use Rattle.record.specs.declared.Position.{Position}
use Rattle.record.specs.declared.Offset.{Offset}
use Rattle.indexer.specs.Rule.{row_for, sequence_by}
use Rattle.walking.specs.Places.{walked_as}
use Rattle.walking.specs.declared.Walked.{Walked}
use Rattle.fitting.specs.declared.Numbers.{Numbers}
use Rattle.fitting.specs.Complete.{place_by, places_say, fit, complete}
use Rattle.fitting.specs.BlankLines.{NumbersAt}

-- ---- a record whose definition line has been read, by its numbers r and the walk v from their position on

module _ (s : List ℕ) (at e : ℕ) (d : Definition) (le : at ≤ e) (r : Numbers) (n : NumbersAt s e r) where
  split : at + (e - at) ≡ e
  split = omega arith

  module _ (v : Walked) (h : v ≡ walked_as (place_by r) r.position (seq_at s r.position)) where
    same-bases : v.bases ≡ sum_bases (seq_at s e)
    unfolding walked_as
    same-bases = ap (λ (w : Walked). w.bases) h ∙ sym (length-bases_at r.position (seq_at s r.position)) ∙ ap length n.same.offsets ∙ length-bases_at e (seq_at s e)

    same_next : v.next ≡ e + sum_widths (seq_at s e)
    unfolding walked_as
    same_next = ap (λ (w : Walked). w.next) h ∙ n.same.next

    verdict : fit e (seq_at s e) ≡ places_say v.placed
    unfolding fit walked_as
    verdict = rw (← n.numbers, ← n.same.offsets, h)

    pub fit-there : v.placed ≡ None
        → record { answer = Ok (Some (row_for at d v.bases r.position r.bases r.width)); next = record { at = v.next } } ≡ sequence_by complete at (e - at) d (seq_at s e)
    unfolding sequence_by
    fit-there t = rw (split, verdict, t, same-bases, same_next, n.numbers, split)

    pub fit-elsewhere : (p : Position) (o : Offset) → v.placed ≡ Some (p, o)
        → record { answer = Err (NoIndexFits o.0 p.0); next = record { at = at } } ≡ sequence_by complete at (e - at) d (seq_at s e)
    unfolding sequence_by
    fit-elsewhere p o t = rw (split, verdict, t)
