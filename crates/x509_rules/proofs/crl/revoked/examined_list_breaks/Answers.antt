use Rattle.x509_rules.proofs.crl.revoked.examined_list_breaks.Goals as goal

pub returns-in-Critical : goal.returns-in-Critical
returns-in-Critical c = rw c.in-Critical.is c.list_has.ensures

pub returns-in-NotCritical : goal.returns-in-NotCritical
returns-in-NotCritical c = rw c.in-NotCritical.is c.list_has-in-NotCritical.ensures

pub returns-in-Value : goal.returns-in-Value
returns-in-Value c = rw c.in-Value.is c.list_has-in-Value.ensures

pub returns-in-Entry : goal.returns-in-Entry
returns-in-Entry c = rw c.in-Entry.is c.breaks_of_entry.ensures

pub returns-in-Whole : goal.returns-in-Whole
returns-in-Whole c = rw c.in-Whole.is c.breaks_whole_list.ensures
