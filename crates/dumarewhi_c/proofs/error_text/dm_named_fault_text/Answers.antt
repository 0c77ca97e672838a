use Rattle.std.proofs.Common.{◌-◌, ◌^◌, ◌≤◌, ◌++◌, codes, length, arith}
use Rattle.c_values.proofs.Puts.{puts_more}
use Rattle.dumarewhi_c.proofs.error_text.dm_named_fault_text.Goals as goal

pub returns : goal.returns
returns c =
    let room = c.args.text.now in
    let name = c.args.name.now in
    let one = c.put_text-end.new.room in
    let two = c.put_text-end-2.new.room in
    let after = c.put_text.new.room in
    let short : length room ≤ 2 ^ 64 - 1 = omega arith in
    let before = puts_more room one two name (codes " ") 0 c.put_text-end.result c.put_text-end-2.result short c.put_text-end.ensures c.put_text-end-2.ensures in
    (_, puts_more room two after (name ++ codes " ") _ 0 c.put_text-end-2.result c.put_text.result short before c.put_text.ensures)
