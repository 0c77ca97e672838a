use Rattle.std.proofs.Common.{List, ℕ, [], ap, codes, subst}
use Rattle.der_base.specs.declared.rules.Rules.TheVariants.{Ber}
use Rattle.der_cursor.specs.Formats.{Only, Required}
use Rattle.messages.specs.Ldap.Messages.{Message, MessageValue, message_of}
use Rattle.der_show.specs.Messages.{Is, IsLdap}
use Rattle.der_show.proofs.ByTypeLaws.{shows_on}
use Rattle.der_show.proofs.Found.{after_error, none_left, some_left}
use Rattle.der_show.proofs.ldap_message.ldap_words.Goals as goal

pub returns-then-is_empty : goal.returns-then-is_empty
unfolding Only
returns-then-is_empty c =
    let none = none_left c.in-Ok.rest.now c.if-is_empty.ensures in
    let m = message_of c.in-Ok._message in
    let read : Required Message Ber c.args.octets.now m [] =
    subst (λ rest. Required Message Ber c.args.octets.now m rest) none c.in-Ok.ensures.value.found in
    shows_on (λ i. (v : MessageValue) × Is Ber Message i v) c.args.types.now (codes "LDAPMessage") c.args.octets.now
    c.words_by_name.result (m, read) c.words_by_name.ensures

pub returns-in-Ok : goal.returns-in-Ok
unfolding Only
returns-in-Ok c = λ w v words.
    some_left c.in-Ok.rest.now c.if-is_empty.ensures (ap (λ (x : MessageValue × List ℕ). x.1) (c.in-Ok.ensures.value.only (v.0, []) v.1))

pub returns : goal.returns
unfolding Only
returns c =
    after_error (λ found. IsLdap c.args.types.now c.args.octets.now found) _ c.none_after.ensures
    (λ no w v words. no (c.in-Err.ensures.value.only (v.0, []) v.1))
