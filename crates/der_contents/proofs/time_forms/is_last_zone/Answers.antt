use Rattle.der_contents.specs.Grammar.{IsSign, NumberThen, OneThen}
use Rattle.der_contents.specs.TimeForms.{EndsOffset}
use Rattle.der_contents.proofs.FormLaws.{z_or_end_no_sign}
use Rattle.der_contents.proofs.GrammarLaws.{left_told, no_front, one_front, one_is, right_told, told_behind}
use Rattle.der_contents.proofs.time_forms.is_last_zone.Goals as goal

pub returns-in-Some : goal.returns-in-Some
returns-in-Some c =
    left_told _ _ _
    (λ h. one_is IsSign _ c.args.octets.now c.in-Some.ensures (z_or_end_no_sign c.args.octets.now h))
    (told_behind (OneThen IsSign) (one_front IsSign) (NumberThen 0 23 EndsOffset) c.args.octets.now
    c.in-Some.offset.now c.is_short_offset.result c.in-Some.ensures c.is_short_offset.ensures)

pub returns-in-None : goal.returns-in-None
returns-in-None c =
    right_told _ _ _
    (no_front (OneThen IsSign) (one_front IsSign) (NumberThen 0 23 EndsOffset) c.args.octets.now c.in-None.ensures)
    c.is_z_or_end.ensures
