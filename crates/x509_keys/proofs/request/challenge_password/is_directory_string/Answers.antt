use Rattle.std.proofs.Common.{subst, sym}
use Rattle.x509_keys.specs.Request.Requests.{IsDirectoryStringType}
use Rattle.x509_keys.proofs.request.challenge_password.is_directory_string.Goals as goal

pub returns-then-is_primitive_type : goal.returns-then-is_primitive_type
returns-then-is_primitive_type c = (
  λ h.
      let p = c.is_primitive_type.ensures.0 c.if-is_primitive_type.true in
      (p.0, p.1, subst (λ t. IsDirectoryStringType t) c.tag.ensures (c.is_directory_string_type.ensures.0 h)),
  λ e. c.is_directory_string_type.ensures.1 (subst (λ t. IsDirectoryStringType t) (sym c.tag.ensures) e.2),
)
