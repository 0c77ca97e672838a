use Rattle.std.proofs.Common.{None, Some, refl, subst}
use Rattle.der_base.specs.declared.rules.Rules.TheVariants.{Der}
use Rattle.der_extensions.specs.GeneralNames.{GeneralName, dns_name, name_of}
use Rattle.der_extensions.specs.Takes.{general_name_takes}
use Rattle.c_formats.specs.Found.{IsDns, ended, found}
use Rattle.c_formats.specs.Items.{left}
use Rattle.c_formats.proofs.Finding.{still_ahead}
use Rattle.c_formats.proofs.found.first_dns_name.Goals as goal

pub loop-name-init : goal.loop-name-init
loop-name-init c = λ r f. f

pub returns-in-Some-dns_text : goal.returns-in-Some-dns_text
returns-in-Some-dns_text c =
    let t = c.in-Some-dns_text.text.now in
    let rest = left c.next_item.new.list in
    let is = subst (λ v. GeneralName Der (left c.loop-name.names) v rest) c.in-Some-dns_text.ensures c.in-Some.ensures.found in
    c.loop-name.invariant (Some (dns_name t, rest)) (found (dns_name t) is (t, refl))

pub loop-name-smaller : goal.loop-name-smaller
loop-name-smaller c = general_name_takes Der (left c.loop-name.names) (name_of c.in-Some.name) (left c.next_item.new.list) c.in-Some.ensures.found

pub loop-name-preserved : goal.loop-name-preserved
loop-name-preserved c =
    still_ahead {Item = GeneralName Der} {P = IsDns} (name_of c.in-Some.name) c.loop-name.invariant c.in-Some.ensures.found c.in_default-dns_text.ensures

pub returns : goal.returns
returns c = c.loop-name.invariant None (ended c.in_default.ensures.0)
