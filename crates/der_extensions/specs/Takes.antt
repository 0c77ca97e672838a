-- A general name and any element have at least one octet, so a list of them ends.
use Rattle.der_cursor.specs.Formats.{AnyElement, Explicit, Implicit, ObjectIdentifier, OctetString, Octets, Required}
use Rattle.der_cursor.specs.Formats.{Sequence, Text}
use Rattle.der_cursor.proofs.FormatLaws.{element_takes, required_takes}
use Rattle.der_extensions.specs.GeneralNames.{GeneralName, Name, OtherName, other_name, rfc822_name, dns_name}
use Rattle.der_extensions.specs.GeneralNames.{x400_address, directory_name, edi_party_name, ip_address, registered_id}
use Rattle.der_extensions.specs.GeneralNames.{uniform_resource_identifier}
use Rattle.der_extensions.specs.Lists.{TakesOctets}

pub general_name_takes : TakesOctets GeneralName
unfolding GeneralName
general_name_takes r i (other_name v) rest z = required_takes (Implicit 0 OtherName) r i v rest z
general_name_takes r i (rfc822_name v) rest z = required_takes (Implicit 1 (Text 22)) r i v rest z
general_name_takes r i (dns_name v) rest z = required_takes (Implicit 2 (Text 22)) r i v rest z
general_name_takes r i (x400_address v) rest z = required_takes (Implicit 3 (Sequence Octets)) r i v rest z
general_name_takes r i (directory_name v) rest z = required_takes (Explicit 4 (Required Name)) r i v rest z
general_name_takes r i (edi_party_name v) rest z = required_takes (Implicit 5 (Sequence Octets)) r i v rest z
general_name_takes r i (uniform_resource_identifier v) rest z = required_takes (Implicit 6 (Text 22)) r i v rest z
general_name_takes r i (ip_address v) rest z = required_takes (Implicit 7 OctetString) r i v rest z
general_name_takes r i (registered_id v) rest z = required_takes (Implicit 8 ObjectIdentifier) r i v rest z

pub any_takes : TakesOctets AnyElement
unfolding AnyElement
any_takes r i v rest z = element_takes r v.0 v.1 v.2 i (v.3, rest) z.0
