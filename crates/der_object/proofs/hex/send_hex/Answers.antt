use Rattle.std.proofs.Common.{◌≡◌, ◌∷◌, rules}
use Rattle.der_object.proofs.Sending.{wrote_then, wrote_stop, wrote_exit}
use Rattle.der_object.proofs.hex.send_hex.Goals as goal

pub returns-in_err-send : goal.returns-in_err-send
returns-in_err-send g c =
    let all : c.args.octets.now ≡ c.in-Some.first.now ∷ c.in-Some.others.now = search rules in
    rw (all, ← c.digit.ensures, ← c.digit-2.ensures) (wrote_exit _ c.from_residual.ensures.1 (wrote_stop _ c.in_err-send.ensures))

pub returns-in_err-send_spaced : goal.returns-in_err-send_spaced
returns-in_err-send_spaced g c =
    let all : c.args.octets.now ≡ c.in-Some.first.now ∷ c.in-Some.others.now = search rules in
    rw (all, ← c.digit.ensures, ← c.digit-2.ensures) (wrote_then c.in_ok-send.ensures (wrote_exit _ c.from_residual-in_err-send_spaced.ensures.1 (wrote_stop _ c.in_err-send_spaced.ensures)))

pub returns : goal.returns
returns g c =
    let all : c.args.octets.now ≡ c.in-Some.first.now ∷ c.in-Some.others.now = search rules in
    rw (all, ← c.digit.ensures, ← c.digit-2.ensures) (wrote_then c.in_ok-send.ensures (wrote_then c.in_ok-send_spaced.ensures c.send-3.ensures))
