use Rattle.x509_rules.proofs.crl.whole_list.breaks_whole_list.Goals as goal

pub returns-in-SameAlgorithms : goal.returns-in-SameAlgorithms
returns-in-SameAlgorithms c = rw c.in-SameAlgorithms.is c.breaks_same_algorithms.ensures

pub returns-in-SecondVersion : goal.returns-in-SecondVersion
returns-in-SecondVersion c = rw c.in-SecondVersion.is c.breaks_second_version.ensures

pub returns-in-NamedIssuer : goal.returns-in-NamedIssuer
returns-in-NamedIssuer c = rw c.in-NamedIssuer.is c.breaks_named_issuer.ensures

pub returns-in-OrderedAttributes : goal.returns-in-OrderedAttributes
returns-in-OrderedAttributes c = rw c.in-OrderedAttributes.is c.breaks_ordered_attributes.ensures

pub returns-in-TypedAttributes : goal.returns-in-TypedAttributes
returns-in-TypedAttributes c = rw c.in-TypedAttributes.is c.breaks_typed_attributes.ensures

pub returns-in-DerValues : goal.returns-in-DerValues
returns-in-DerValues c = rw c.in-DerValues.is c.breaks_der_values.ensures

pub returns-in-UtcTimeTo2049 : goal.returns-in-UtcTimeTo2049
returns-in-UtcTimeTo2049 c = rw c.in-UtcTimeTo2049.is c.breaks_utc_time_to_2049.ensures

pub returns-in-WholeSeconds : goal.returns-in-WholeSeconds
returns-in-WholeSeconds c = rw c.in-WholeSeconds.is c.breaks_whole_seconds.ensures

pub returns-in-NextUpdate : goal.returns-in-NextUpdate
returns-in-NextUpdate c = rw c.in-NextUpdate.is c.breaks_next_update.ensures

pub returns-in-SomeEntries : goal.returns-in-SomeEntries
returns-in-SomeEntries c = rw c.in-SomeEntries.is c.breaks_some_entries.ensures

pub returns-in-KeyIdentifierOfIssuer : goal.returns-in-KeyIdentifierOfIssuer
returns-in-KeyIdentifierOfIssuer c = rw c.in-KeyIdentifierOfIssuer.is c.breaks_key_identifier_of_issuer.ensures

pub returns-in-Number : goal.returns-in-Number
returns-in-Number c = rw c.in-Number.is c.breaks_number.ensures

pub returns-in-FreshestOfComplete : goal.returns-in-FreshestOfComplete
returns-in-FreshestOfComplete c = rw c.in-FreshestOfComplete.is c.breaks_freshest_of_complete.ensures

pub returns-in-RemovalOfDelta : goal.returns-in-RemovalOfDelta
returns-in-RemovalOfDelta c = rw c.in-RemovalOfDelta.is c.breaks_removal_of_delta.ensures

pub returns-in-DistinctExtensions : goal.returns-in-DistinctExtensions
returns-in-DistinctExtensions c = rw c.in-DistinctExtensions.is c.breaks_distinct_extensions.ensures
