-- One more item, or what is skipped, behind the items of a text.
use Rattle.std.proofs.Common.{ℕ, ◌+◌, ◌≤◌, List, [], ◌∷◌, ◌++◌, length, arith}
use Rattle.asn1_modules.specs.declared.token.Token.{Token}
use Rattle.asn1_modules.specs.Items.{IsPartOf, Lie}

pub lie_more : (text : List ℕ) (begin : ℕ) (ts : List Token) (m end : ℕ) → Lie text begin ts m → m ≤ end
    → Lie text begin ts end
lie_more text begin [] m end h le = omega (arith, h, le)
lie_more text begin (t ∷ ts) m end h le = (h.0, (h.1.0, lie_more text (t.offset + length t.text.now) ts m end h.1.1 le))

pub lie_push : (text : List ℕ) (begin : ℕ) (ts : List Token) (t : Token) (m end : ℕ) → Lie text begin ts m
    → m ≤ t.offset → IsPartOf text t → t.offset + length t.text.now ≤ end → Lie text begin (ts ++ t ∷ []) end
lie_push text begin [] t m end h le part out = (omega (arith, h, le), (part, out))
lie_push text begin (x ∷ xs) t m end h le part out =
    (h.0, (h.1.0, lie_push text (x.offset + length x.text.now) xs t m end h.1.1 le part out))
