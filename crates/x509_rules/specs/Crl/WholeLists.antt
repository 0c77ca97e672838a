-- The rules of a list of revoked certificates as a whole.
use Rattle.std.specs.Prelude.{◌≡◌, ◌≢◌, ◌⊎◌, Some, None, []}
use Rattle.std.specs.Option.{IsSomeAnd}
use Rattle.x509.specs.Crl.Lists.{Signed}
use Rattle.x509.specs.declared.certificate.Version.TheVariants.{V2}
use Rattle.x509.specs.Rules.{AreIndistinct, HasDescent, HasFraction, IsEarly, NameBreaksDer, ParametersBreakDer}
use Rattle.x509_rules.specs.declared.crl.entries.EntryRule.TheVariants.{Without}
use Rattle.x509_value_rules.specs.declared.facts.Fact.{Fact}
use Rattle.x509_value_rules.specs.declared.facts.Fact.TheVariants.{Present, Says}
use Rattle.der_extensions.specs.declared.known.KnownExtension.{KnownExtension}
use Rattle.der_extensions.specs.declared.known.KnownExtension.TheVariants as known
use Rattle.x509_rule_facts.specs.declared.value_facts.ValueFact.{ValueFact}
use Rattle.x509_rule_facts.specs.declared.value_facts.ValueFact.TheVariants.{KeyIdentifier, RemoveFromCrl}
use Rattle.x509_rules.specs.declared.crl.whole_list.WholeListRule.{WholeListRule}
use Rattle.x509_rules.specs.declared.crl.whole_list.WholeListRule.TheVariants as rule
use Rattle.x509_rule_facts.specs.Attributes.{HasMistyped}
use Rattle.x509_rules.specs.Crl.Entries.{SomeEntry}
use Rattle.x509_value_rules.specs.Facts.{Shows}
use Rattle.x509_rule_facts.specs.ValueFacts.{extension_of_fact}

-- one of the list's extensions is this one, and shows the fact
abbrev pub ListHas : KnownExtension → Fact → Signed → Type 0
ListHas k f l = Shows k f l.tbs_cert_list.extensions

-- the value of the extension that the fact is about says it
abbrev pub ListTells : ValueFact → Signed → Type 0
ListTells f l = ListHas (extension_of_fact f) (Says f) l

-- it is a list of changes (5.2.4)
abbrev pub IsDelta : Signed → Type 0
IsDelta l = ListHas known.DeltaCrlIndicator Present l

-- an entry has the reason removeFromCRL
abbrev pub HasRemoval : Signed → Type 0
HasRemoval l = SomeEntry (Without known.ReasonCode (Says RemoveFromCrl)) l.tbs_cert_list.revoked

-- the list breaks the rule
abbrev pub BreaksWholeList : WholeListRule → Signed → Type 0
BreaksWholeList rule.SameAlgorithms l = l.algorithm ≢ l.tbs_cert_list.signature
BreaksWholeList rule.SecondVersion l = (l.tbs_cert_list.version ≢ V2) × (l.tbs_cert_list.extensions ≢ [])
BreaksWholeList rule.NamedIssuer l = l.tbs_cert_list.issuer ≡ []
BreaksWholeList rule.OrderedAttributes l = HasDescent l.tbs_cert_list.issuer
BreaksWholeList rule.TypedAttributes l = HasMistyped l.tbs_cert_list.issuer
BreaksWholeList rule.DerValues l = ParametersBreakDer l.algorithm ⊎ ParametersBreakDer l.tbs_cert_list.signature
    ⊎ NameBreaksDer l.tbs_cert_list.issuer
BreaksWholeList rule.UtcTimeTo2049 l =
    let t = l.tbs_cert_list in IsEarly t.this_update ⊎ IsSomeAnd t.next_update IsEarly
BreaksWholeList rule.WholeSeconds l =
    let t = l.tbs_cert_list in HasFraction t.this_update ⊎ IsSomeAnd t.next_update HasFraction
BreaksWholeList rule.NextUpdate l = l.tbs_cert_list.next_update ≡ None
BreaksWholeList rule.DistinctExtensions l = AreIndistinct l.tbs_cert_list.extensions
BreaksWholeList rule.SomeEntries l = l.tbs_cert_list.revoked ≡ Some []
BreaksWholeList rule.KeyIdentifierOfIssuer l = ¬ ListTells KeyIdentifier l
BreaksWholeList rule.Number l = ¬ ListHas known.CrlNumber Present l
BreaksWholeList rule.FreshestOfComplete l = IsDelta l × ListHas known.FreshestCrl Present l
BreaksWholeList rule.RemovalOfDelta l = HasRemoval l × (¬ IsDelta l)
