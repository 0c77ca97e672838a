use Rattle.der_object.proofs.text.send_leaf.Goals as goal

pub returns-in-OctetString : goal.returns-in-OctetString
returns-in-OctetString g c = rw c.in-OctetString.is c.send_octets-in-OctetString.ensures

pub returns-in-RelativeOID : goal.returns-in-RelativeOID
returns-in-RelativeOID g c = rw c.in-RelativeOID.is c.send_identifier-in-RelativeOID.ensures

pub returns-in-VideotexString : goal.returns-in-VideotexString
returns-in-VideotexString g c = rw c.in-VideotexString.is c.send_plain-in-VideotexString.ensures

pub returns-in-ObjectDescriptor : goal.returns-in-ObjectDescriptor
returns-in-ObjectDescriptor g c = rw c.in-ObjectDescriptor.is c.send_quoted-in-ObjectDescriptor.ensures

pub returns-in-GeneralString : goal.returns-in-GeneralString
returns-in-GeneralString g c = rw c.in-GeneralString.is c.send_quoted-in-GeneralString.ensures

pub returns-in-GeneralizedTime : goal.returns-in-GeneralizedTime
returns-in-GeneralizedTime g c = rw c.in-GeneralizedTime.is c.send_moment-in-GeneralizedTime.ensures
