use Rattle.std.proofs.Common.{refl, inl, inr, rules}
use Rattle.std.proofs.lemmas.Bool.{false≢true}
use Rattle.der_base.specs.Text.{IsTextOf}
use Rattle.der_values.proofs.texts.read_text.Goals as goal

pub returns-in-Some : goal.returns-in-Some
returns-in-Some c =
    let h = c.in-Some.ensures in
    rw c.requires (((λ e. false≢true e), ((λ n. n h.1), tt)), h.2)

pub returns-in-None : goal.returns-in-None
returns-in-None c =
    let wrong : ¬ IsTextOf c.args.tag.0 c.args.octets.now = search rules in
    rw c.requires (inr ((λ e. false≢true e), inl (wrong, refl)))
