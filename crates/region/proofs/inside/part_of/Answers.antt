-- `region::inside::part_of` meets its contract: of four offsets the lowest is the lowest of all, and the highest the highest.
use Rattle.std.proofs.Common.{◌+◌, ◌-◌, ◌^◌, ◌≤◌, ◌≡◌, sym, refl, arith}
use Rattle.region.specs.Exact.{offsets_of}
use Rattle.region.specs.Part.{lowest, behind, part_of}
use Rattle.region.specs.PartLaws.{second_line, line_before, second-in, before-in, lowest-is, behind-is, part-smallest}
use Rattle.region.proofs.inside.part_of.Goals as goal
use Rattle.region.proofs.inside.part_of.Goals.{After-max-to, After-min-from}

pub offset_in-requires : goal.offset_in-requires
offset_in-requires c =
    (c.requires.addressable.some-bases, c.requires.addressable.some-width, c.requires.addressable.from_one, omega (arith, c.requires.lie_in.each c.args.a.0 (omega arith) (omega (arith, c.requires.addressable.some))))

pub offset_in-requires-2 : goal.offset_in-requires-2
offset_in-requires-2 c =
    let i = second-in c.args.x c.args.a.0 c.args.n c.requires.addressable in
    let e = c.second_line.ensures in
    (c.requires.addressable.some-bases, c.requires.addressable.some-width, rw e (omega (arith, i, c.requires.addressable.from_one)), rw e (omega (arith, c.requires.lie_in.each (second_line c.args.x c.args.a.0 c.args.n) i.0 i.1)))

pub offset_in-requires-3 : goal.offset_in-requires-3
offset_in-requires-3 c =
    let e = c.last_of-last.ensures in
    (c.requires.addressable.some-bases, c.requires.addressable.some-width, rw e (omega (arith, c.requires.addressable.from_one)), rw e (omega (arith, c.requires.lie_in.each (c.args.a.0 + (c.args.n - 1)) (omega arith) (omega (arith, c.requires.addressable.some)))))

pub line_before-requires : goal.line_before-requires
line_before-requires c =
    (c.requires.addressable.some-bases, c.requires.addressable.some, rw c.last_of-last.ensures (omega (arith, c.requires.addressable.from_one, c.requires.addressable.some)))

pub offset_in-requires-4 : goal.offset_in-requires-4
offset_in-requires-4 c =
    let i = before-in c.args.x c.args.a.0 c.args.n c.requires.addressable (c.args.a.0 + (c.args.n - 1)) refl in
    let e = c.line_before.ensures in
    (c.requires.addressable.some-bases, c.requires.addressable.some-width, rw (e, c.last_of-last.ensures) (omega (arith, i, c.requires.addressable.from_one)), rw (e, c.last_of-last.ensures) (omega (arith, c.requires.lie_in.each (line_before c.args.x (c.args.a.0 + (c.args.n - 1)) c.args.n) i.0 i.1)))

-- the two ends
low : (c : After-min-from) → c.min-from.result ≡ lowest (offsets_of c.args.x c.args.a.0 c.args.n)
low c =
    rw (c.min-from.ensures, c.offset_in-2.ensures, c.second_line.ensures, c.offset_in.ensures) (sym (lowest-is c.args.x c.args.a.0 c.args.n c.requires.addressable))

high : (c : After-max-to) → c.max-to.result + 1 ≡ behind (offsets_of c.args.x c.args.a.0 c.args.n)
high c =
    rw (c.max-to.ensures, c.offset_in-4.ensures, c.line_before.ensures, c.offset_in-3.ensures, c.last_of-last.ensures)
    (sym (behind-is c.args.x c.args.a.0 c.args.n c.requires.addressable (c.args.a.0 + (c.args.n - 1)) refl))

pub overflow_add-result : goal.overflow_add-result
overflow_add-result c =
    let m = part-smallest c.args.x c.args.a.0 c.args.n c.requires.addressable.from_one c.requires.addressable.some 0 (2 ^ 63) c.requires.lie_in in
    let h : c.max-to.result + 1 ≤ 2 ^ 63 = rw (high (goal.at.overflow_add-result c).After-max-to) m.1 in
    omega arith

pub returns : goal.returns
unfolding part_of
returns c = rw (low (goal.at.returns c).After-min-from, high (goal.at.returns c).After-max-to)
