use Rattle.std.proofs.Common.{◌≡◌, ◌++◌, ◌-◌, ◌/◌, arith, length, take, refl, subst, sym}
use Rattle.std.proofs.Math.Seq.{take-append_seam}
use Rattle.c_formats.specs.Decode.{DecodesFound}
use Rattle.c_formats.proofs.Decoding.{found_decoded}
use Rattle.c_formats.proofs.decode.decode_first.Goals as goal

pub returns : goal.returns
returns c =
    let octets = c.take_block-error.new.octets in
    let characters = c.take_block-error.new.characters in
    let room = c.args.room.now in
    let size = c.take_block-error.new.block.length in
    let k = c.take_block-error.result in
    let r = c.next_block.result in
    let half : length octets ≡ length room / 2 = omega (arith, c.take_block-error.auto.octets, c.split_at_mut-octets.ensures.front_len) in
    let others : length c.split_at_mut-octets.result.1.now ≡ length room - length room / 2 = omega (arith, c.split_at_mut-octets.ensures.back_len) in
    let front : octets ≡ take (length room / 2) (octets ++ characters) = sym (subst (λ n. take n (octets ++ characters) ≡ octets) half (take-append_seam octets characters)) in
    let decoded = found_decoded r _ _ _ _ _ octets k refl c.take_block-error.ensures in
    (r, (c.next_block.ensures.ok, c.next_block.ensures.err), subst (λ w. DecodesFound r (length room - length room / 2) w size k) front (subst (λ n. DecodesFound r n octets size k) others decoded))
