use Rattle.std.proofs.Common.{◌≡◌, ◌≢◌, ◌≤◌, ℕ, List, [], ◌∷◌, length, get_or, refl, sym, ap, ◌∙◌, arith}
use Rattle.der_base.specs.Octets.{number, octets}
use Rattle.der_base.proofs.Octets.ShortestLengths.{IsBytes, bytes_from, octets_number}
use Rattle.text_json.proofs.number.without_leading_zeros.Goals as goal

pub loop-rest-init : goal.loop-rest-init
loop-rest-init c = record { same = refl; bytes = bytes_from c.args.padded.now (λ k. omega (arith, c.type_inv.padded k)) }

-- octets that begin with none that is 0 are the fewest of their number
fewest : (w : List ℕ) → 1 ≤ length w → get_or w 0 0 ≢ 0 → IsBytes w → octets (number w) ≡ w
fewest [] some high are = absurd (omega arith)
fewest (b ∷ w) some high are = octets_number b w high are

pub returns-then-first-ne0 : goal.returns-then-first-ne0
returns-then-first-ne0 c =
    let rest = c.loop-rest.rest.now in
    sym (ap octets (sym c.loop-rest.invariant.same) ∙ fewest rest c.in-len1-up.len_at_least c.if-first-ne0.true c.loop-rest.invariant.bytes)
