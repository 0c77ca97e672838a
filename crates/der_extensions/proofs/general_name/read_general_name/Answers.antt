use Rattle.std.proofs.Common.{rules}
use Rattle.der_extensions.proofs.NameLaws.{no_alternative}
use Rattle.der_extensions.proofs.NameLaws.{other_name_chosen, rfc822_name_chosen, dns_name_chosen}
use Rattle.der_extensions.proofs.NameLaws.{x400_address_chosen, directory_name_chosen, edi_party_name_chosen}
use Rattle.der_extensions.proofs.NameLaws.{uniform_resource_identifier_chosen, ip_address_chosen, registered_id_chosen}
use Rattle.der_extensions.proofs.general_name.read_general_name.Goals as goal

pub returns-then-is_next : goal.returns-then-is_next
returns-then-is_next c = other_name_chosen (search rules) c.read_other_name.ensures

pub returns-then-is_next-2 : goal.returns-then-is_next-2
returns-then-is_next-2 c = rfc822_name_chosen (search rules) c.read_rfc822_name.ensures

pub returns-then-is_next-3 : goal.returns-then-is_next-3
returns-then-is_next-3 c = dns_name_chosen (search rules) c.read_dns_name.ensures

pub returns-then-is_next-4 : goal.returns-then-is_next-4
returns-then-is_next-4 c = x400_address_chosen (search rules) c.read_x400_address.ensures

pub returns-then-is_next-5 : goal.returns-then-is_next-5
returns-then-is_next-5 c = directory_name_chosen (search rules) c.read_directory_name.ensures

pub returns-then-is_next-6 : goal.returns-then-is_next-6
returns-then-is_next-6 c = edi_party_name_chosen (search rules) c.read_edi_party_name.ensures

pub returns-then-is_next-7 : goal.returns-then-is_next-7
returns-then-is_next-7 c = uniform_resource_identifier_chosen (search rules) c.read_uniform_resource_identifier.ensures

pub returns-then-is_next-8 : goal.returns-then-is_next-8
returns-then-is_next-8 c = ip_address_chosen (search rules) c.read_ip_address.ensures

pub returns-then-is_next-9 : goal.returns-then-is_next-9
returns-then-is_next-9 c = registered_id_chosen (search rules) c.read_registered_id.ensures

pub returns : goal.returns
returns c = no_alternative (search rules) (search rules) (search rules) (search rules) (search rules) (search rules) (search rules) (search rules) (search rules)
