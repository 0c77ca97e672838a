use Rattle.std.proofs.Common.{List, ℕ}
use Rattle.std.specs.Fmt.{HasWritten, IsPlainFormatter}
use Rattle.x509_keys.specs.Request.Lists.{attributes_left}
use Rattle.x509.specs.Formats.{spells}
use Rattle.x509_keys.specs.Request.Requests.{attribute}
use Rattle.extension_text.proofs.NamesLaws.LoopLaws.{Goes}
use Rattle.certificate_text.specs.Requests.{IsRequestAttribute}
use Rattle.certificate_text.proofs.request.write_attributes.Given as goal

-- what was sent goes before the texts of the values that are left
abbrev pub invariant-loop-attribute : goal.invariant-loop-attribute
invariant-loop-attribute g l = record {
  done : IsPlainFormatter l.fn.f → (sent : List ℕ) × Goes (spells attribute) IsRequestAttribute l.fn.attributes.octets.now sent (attributes_left l.attribute-iterator)
      × HasWritten g.W.Write.write_str_gives l.fn.f sent l.f;
}
