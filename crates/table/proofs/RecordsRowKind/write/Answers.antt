-- `Records::write` meets its contract: eight numbers put one behind the other are the words of the record.
use Rattle.std.proofs.Common.{suc, ◌+◌, ◌≡◌, arith}
use Rattle.table.specs.Rows.{words_of}
use Rattle.table.proofs.RecordsRowKind.write.Goals as goal

pub returns-clause-numbers : goal.returns-clause-numbers
unfolding words_of
returns-clause-numbers g c =
    let b = c.args.b in
    let e1 : b + 1 ≡ suc b = omega arith in
    let e2 : b + 2 ≡ suc (suc b) = omega arith in
    let e3 : b + 3 ≡ suc (suc (suc b)) = omega arith in
    let e4 : b + 4 ≡ suc (suc (suc (suc b))) = omega arith in
    let e5 : b + 5 ≡ suc (suc (suc (suc (suc b)))) = omega arith in
    let e6 : b + 6 ≡ suc (suc (suc (suc (suc (suc b))))) = omega arith in
    let e7 : b + 7 ≡ suc (suc (suc (suc (suc (suc (suc b)))))) = omega arith in
    rw (c.put-8.ensures.numbers, c.put-7.ensures.numbers, c.put-6.ensures.numbers, c.put-5.ensures.numbers, c.put-4.ensures.numbers, c.put-3.ensures.numbers, c.put-2.ensures.numbers, c.put.ensures.numbers, e1, e2, e3, e4, e5, e6, e7)
