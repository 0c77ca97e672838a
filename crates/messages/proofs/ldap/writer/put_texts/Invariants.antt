use Rattle.std.proofs.Common.{take}
use Rattle.std.specs.List.{flat_map}
use Rattle.der_writer.specs.Fields.{OctetString}
use Rattle.der_writer.specs.Written.{Puts}
use Rattle.messages.proofs.ldap.writer.put_texts.Given as goal

-- those before the index are put
abbrev pub invariant-loop-text : goal.invariant-loop-text
invariant-loop-text l = Puts (flat_map (λ x. OctetString x.now) (take l.text-index l.texts)) l.fn.fields l.fields
