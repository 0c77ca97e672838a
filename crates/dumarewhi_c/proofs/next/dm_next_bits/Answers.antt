use Rattle.std.proofs.Common.{◌≡◌, ◌-◌, length, ap, subst, arith}
use Rattle.std.specs.Prelude.{None}
use Rattle.c_values.specs.Cursors.{IsBits, exact_bit_strings}
use Rattle.c_values.proofs.ExactBits.{exact_bits, finishes_there, left_at, value_of}
use Rattle.der_cursor.specs.Cursors.{ReadsValue, end_of, list_end, list_end_of, place_of, rules_of}
use Rattle.dumarewhi_c.proofs.next.dm_next_bits.Goals as goal

pub returns-clause-exactly : goal.returns-clause-exactly
returns-clause-exactly c =
    let old = c.resume-fields.result in
    let new = c.bits.new.self in
    let found = c.with_unused_bits_tested-found.result in
    let begin = c.resume-fields.ensures in
    let place : place_of old ≡ 0 = omega (arith, begin.end, ap length begin.octets) in
    let outside : list_end_of old ≡ None = ap (λ b. list_end b (end_of old)) begin.inside in
    let read = exact_bits (rules_of old) old c.bits.result found new place outside c.bits.ensures c.with_unused_bits_tested-found.ensures in
    let by_rules = subst (λ r. ReadsValue value_of (exact_bit_strings r) 3 old found (left_at found old new)) begin.rules read in
    (old, left_at found old new, found, begin, by_rules, finishes_there IsBits _ old new found _ _ _ _ c.finish_bits.ensures)
