use Rattle.der_show.proofs.WhyLaws.{why_there}
use Rattle.der_show.proofs.why.why_at.Goals as goal

pub returns-in-Some : goal.returns-in-Some
returns-in-Some c =
    let n = c.name.ensures in
    why_there c.args.refused.now c.args.place c.in-Some.place c.name.result c.in-Some.is c.refusal.ensures n.class n.number
    c.why_wrong-wrong.ensures c.why_of.ensures
