use Rattle.std.proofs.Common.{◌≡◌, ◌∙◌, Option, ap, sym, rules, tests}
use Rattle.std.specs.Option.{option_map}
use Rattle.std.proofs.lemmas.Iterator.{YieldsList-from_slice}
use Rattle.std.proofs.lemmas.Iterator.Search.{find_from_yields_List}
use Rattle.der_base.specs.Oids.{octets_of}
use Rattle.der_base.specs.TreeEquality.{same_octets}
use Rattle.oid_names.proofs.OwnLaws.{name_found}
use Rattle.oid_names.proofs.own.OwnNames.name_of.Goals as goal

pub returns-in_err-entry : goal.returns-in_err-entry
returns-in_err-entry c =
    let items = c.args.self.now.entries.items in
    let w = c.args.octets.now in
    let found = find_from_yields_List (λ e. same_octets (octets_of e.identifier) w) _ _ c.find.result c.find.ensures.ran
    (YieldsList-from_slice items (c.iter.ensures.rest ∙ c.deref.ensures.value)) (λ x b q k. search (rules, tests)) in
    ap (option_map (λ n. n.now)) c.from_residual.ensures ∙ ap (λ r. option_map (λ e. e.name.now) (option_map (λ e. e.now) r)) (sym c.in_err-entry.was)
    ∙ name_found items w (option_map (λ e. e.now) c.find.result) found

pub returns : goal.returns
returns c =
    let items = c.args.self.now.entries.items in
    let w = c.args.octets.now in
    let found = find_from_yields_List (λ e. same_octets (octets_of e.identifier) w) _ _ c.find.result c.find.ensures.ran
    (YieldsList-from_slice items (c.iter.ensures.rest ∙ c.deref.ensures.value)) (λ x b q k. search (rules, tests)) in
    ap (λ r. option_map (λ e. e.name.now) (option_map (λ e. e.now) r)) (sym c.in_ok-entry.was)
    ∙ name_found items w (option_map (λ e. e.now) c.find.result) found
