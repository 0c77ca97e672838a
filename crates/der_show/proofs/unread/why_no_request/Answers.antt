use Rattle.std.proofs.Common.{ℕ, ap, refl, sym}
use Rattle.x509_keys.specs.Request.Requests.{FieldFault, field_fault as fault}
use Rattle.der_show.proofs.unread.why_no_request.Goals as goal

offset_in : FieldFault → ℕ
offset_in e = e.1.offset

pub returns-in-Err : goal.returns-in-Err
unfolding offset_in
returns-in-Err c = (
  c.in-Err.e,
  refl,
  record {
    none = λ v h. c.in-Err.ensures.only v h;
    refused = c.in-Err.ensures.found;
    only = λ x h. sym (ap offset_in (c.in-Err.ensures.refuses (fault x) h));
  },
)
