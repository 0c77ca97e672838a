use Rattle.der_contents.specs.TimeForms.{CenturyToHour, EndsHour}
use Rattle.der_contents.proofs.FormLaws.{generalized_front}
use Rattle.der_contents.proofs.GrammarLaws.{never_told, no_front, told_behind}
use Rattle.der_contents.proofs.time_forms.is_generalized_time.Goals as goal

pub returns-in-Some : goal.returns-in-Some
returns-in-Some c =
    told_behind CenturyToHour generalized_front EndsHour c.args.octets.now c.in-Some.rest.now c.ends_hour.result
    c.in-Some.ensures c.ends_hour.ensures

pub returns-in-None : goal.returns-in-None
returns-in-None c = never_told _ (no_front CenturyToHour generalized_front EndsHour c.args.octets.now c.in-None.ensures)
