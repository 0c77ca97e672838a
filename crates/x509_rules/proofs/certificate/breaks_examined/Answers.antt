use Rattle.x509_rules.proofs.certificate.breaks_examined.Goals as goal

pub returns-in-Fields : goal.returns-in-Fields
returns-in-Fields c = rw c.in-Fields.is c.breaks.ensures

pub returns-in-Critical : goal.returns-in-Critical
returns-in-Critical c = rw c.in-Critical.is c.has.ensures

pub returns-in-NotCritical : goal.returns-in-NotCritical
returns-in-NotCritical c = rw c.in-NotCritical.is c.has-in-NotCritical.ensures

pub returns-in-Value : goal.returns-in-Value
returns-in-Value c = rw c.in-Value.is c.breaks_value.ensures

pub returns-in-Whole : goal.returns-in-Whole
returns-in-Whole c = rw c.in-Whole.is c.breaks_whole.ensures

pub returns-in-Attribute : goal.returns-in-Attribute
returns-in-Attribute c = rw c.in-Attribute.is c.breaks_attribute.ensures
