use Rattle.std.proofs.Common.{◌≡◌, ◌∙◌, rules, sym}
use Rattle.x509.specs.Certificates.{extension_of}
use Rattle.x509.specs.Lists.{extensions_left}
use Rattle.x509_value_rules.proofs.SortedLaws.{sorted_all, sorted_none, sorted_one, sorted_past}
use Rattle.x509_value_rules.proofs.sorted.slots_of.Goals as goal

pub loop-extension-init : goal.loop-extension-init
loop-extension-init c =
    let e : extensions_left c.into_iter-extension-iterator.result ≡ c.args.extensions.octets.now = search rules in
    sorted_none e

pub put-requires : goal.put-requires
put-requires c = c.loop-extension.invariant.all

pub loop-extension-preserved : goal.loop-extension-preserved
loop-extension-preserved c = sorted_past (extension_of c.in-Some.extension) c.in-Some.ensures.steps c.loop-extension.invariant (λ k e. c.in_default.ensures k (c.absolute_octets.ensures ∙ e))

pub returns : goal.returns
returns c = sorted_all c.loop-extension.invariant c.in-None.ensures.steps.0

pub loop-extension-preserved-in-Some-known_extension : goal.loop-extension-preserved-in-Some-known_extension
loop-extension-preserved-in-Some-known_extension c = sorted_one (extension_of c.in-Some.extension) c.in-Some.ensures.steps c.loop-extension.invariant c.in-Some-known_extension.known (sym c.absolute_octets.ensures ∙ c.in-Some-known_extension.ensures) c.put.ensures
