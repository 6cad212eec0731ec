-- `region::inside::all_in` meets its contract: it judges four bases, and if they lie in the part all do.
use Rattle.std.proofs.Common.{◌+◌, ◌-◌, sym, refl, ◌∙◌, arith}
use Rattle.std.proofs.Math.Bool.{true≢false}
use Rattle.region.specs.PartLaws.{second_line, not-all, second-in, before-in, four-all}
use Rattle.region.proofs.inside.all_in.Goals as goal
use Rattle.region.proofs.inside.all_in.Goals.{then-is_in, else-is_in, then-is_in-2, else-is_in-2}

pub is_in-requires-then-is_in-2 : goal.is_in-requires-then-is_in-2
is_in-requires-then-is_in-2 c =
    (c.requires.some-bases, c.requires.some-width, rw c.second_line.ensures (omega (arith, c.requires.from_one, second-in c.args.x c.args.a.0 c.args.n c.requires)))

pub is_in-requires-then-is_in-3 : goal.is_in-requires-then-is_in-3
is_in-requires-then-is_in-3 c =
    (c.requires.some-bases, c.requires.some-width, rw (c.line_before.ensures, c.last_of-last.ensures) (omega (arith, c.requires.from_one, before-in c.args.x c.args.a.0 c.args.n c.requires _ refl)))

pub returns-then-is_in-3 : goal.returns-then-is_in-3
returns-then-is_in-3 c =
    elim c.if-is_in-2.branch [
      | then-is_in-2 w ↦
          elim c.if-is_in.branch [
            | then-is_in v ↦
                (let first = sym c.is_in.ensures ∙ v.if-is_in.true in
                let last = rw c.last_of-last.ensures at (sym v.is_in-then-is_in.ensures ∙ sym v.value-is ∙ w.if-is_in-2.true) in
                let second = rw w.second_line.ensures at (sym w.is_in-then-is_in-2.ensures ∙ sym w.value-is ∙ c.if-is_in-3.true) in
                c.is_in-then-is_in-3.ensures ∙ rw (c.line_before.ensures, c.last_of-last.ensures) (four-all c.args.x c.args.a.0 c.args.n c.requires _ refl _ _ first last second))
            | else-is_in v ↦ absurd (true≢false (sym w.if-is_in-2.true ∙ v.value-is ∙ v.if-is_in.false))
          ]
      | else-is_in-2 w ↦ absurd (true≢false (sym c.if-is_in-3.true ∙ w.value-is ∙ w.if-is_in-2.false))
    ]

pub returns-else-is_in-3 : goal.returns-else-is_in-3
returns-else-is_in-3 c =
    c.if-is_in-3.false
    ∙ elim c.if-is_in-2.branch [
      | then-is_in-2 w ↦
          (let i = second-in c.args.x c.args.a.0 c.args.n c.requires in
          not-all c.args.x c.args.a.0 c.args.n c.requires.from_one _ _ (second_line c.args.x c.args.a.0 c.args.n) i.0 i.1 (rw w.second_line.ensures at (sym w.is_in-then-is_in-2.ensures ∙ sym w.value-is ∙ c.if-is_in-3.false)))
      | else-is_in-2 w ↦
          elim c.if-is_in.branch [
            | then-is_in v ↦
                not-all c.args.x c.args.a.0 c.args.n c.requires.from_one _ _ (c.args.a.0 + (c.args.n - 1)) (omega arith) (omega (arith, c.requires.some)) (rw c.last_of-last.ensures at (sym v.is_in-then-is_in.ensures ∙ sym v.value-is ∙ w.if-is_in-2.false))
            | else-is_in v ↦ not-all c.args.x c.args.a.0 c.args.n c.requires.from_one _ _ c.args.a.0 (omega arith) (omega (arith, c.requires.some)) (sym c.is_in.ensures ∙ v.if-is_in.false)
          ]
    ]
