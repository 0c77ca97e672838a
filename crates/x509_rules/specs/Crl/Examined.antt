-- A list of revoked certificates, and what was found of it.
use Rattle.std.specs.Prelude.{◌≡◌, IfSome}
use Rattle.x509.specs.Crl.Lists.{Signed as SignedList, certificate_list_of}
use Rattle.x509_rules.specs.declared.crl.examined.ExaminedList.{ExaminedList}
use Rattle.x509_rules.specs.Crl.Marks.{AreMarks}
use Rattle.x509_value_rules.specs.Sorted.{IsSorted}

abbrev pub signed_list_of : ExaminedList → SignedList
signed_list_of x = certificate_list_of x.signed.now

pub record IsExaminedList (x : ExaminedList) : Type 0 where
  pub its_own : x.extensions.extensions.octets.now ≡ (signed_list_of x).tbs_cert_list.extensions
  pub sorted : IsSorted x.extensions
  pub entries : IfSome x.marks (λ marks. AreMarks (signed_list_of x).tbs_cert_list.revoked marks)
