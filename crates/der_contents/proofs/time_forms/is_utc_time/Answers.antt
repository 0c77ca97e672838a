use Rattle.der_contents.specs.TimeForms.{EndsUtcTime, UtcToMinute}
use Rattle.der_contents.proofs.FormLaws.{utc_front}
use Rattle.der_contents.proofs.GrammarLaws.{never_told, no_front, told_behind}
use Rattle.der_contents.proofs.time_forms.is_utc_time.Goals as goal

pub returns-in-Some : goal.returns-in-Some
returns-in-Some c =
    told_behind UtcToMinute utc_front EndsUtcTime c.args.octets.now c.in-Some.rest.now c.ends_utc_time.result
    c.in-Some.ensures c.ends_utc_time.ensures

pub returns-in-None : goal.returns-in-None
returns-in-None c = never_told _ (no_front UtcToMinute utc_front EndsUtcTime c.args.octets.now c.in-None.ensures)
