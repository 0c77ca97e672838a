use Rattle.std.proofs.Common.{◌≡◌, ◌∙◌, ◌+◌, ◌-◌, ◌<◌, ap, arith, length, sym}
use Rattle.std.specs.Prelude.{count_by}
use Rattle.std.specs.Char.{is_ascii_hexdigit}
use Rattle.std.proofs.Math.Seq.{drop-length, take-length}
use Rattle.der_input.specs.Plain.{begins_characters, without_margin}
use Rattle.der_input.proofs.Dumps.{first_from, first_none, later}
use Rattle.der_input.proofs.plain.characters_begin.Goals as goal

pub octets-init : goal.octets-init
octets-init c =
    let line = c.args.line.now in
    record {
      within = omega arith;
      digits = c.digits_in-digits.ensures ∙ sym (ap (count_by is_ascii_hexdigit) (take-length line));
      characters = sym (ap (λ w. length (without_margin w)) (drop-length line));
      begin = sym (first_none (begins_characters line) (length line));
    }

pub octets-preserved : goal.octets-preserved
octets-preserved c =
    let line = c.args.line.now in
    let k = c.octets.offset - 1 in
    let small : c.octets.offset - 1 < length line = omega (arith, c.octets.invariant.within, c.octets-test.true) in
    let next : c.octets.offset ≡ c.octets.offset - 1 + 1 = omega (arith, c.octets-test.true) in
    let none = sym c.begins_characters.ensures ∙ c.if-begins_characters.false in
    record {
      within = omega (arith, small);
      digits = c.digits_before-digits.ensures;
      characters = c.behind_margin-characters.ensures;
      begin = c.octets.invariant.begin ∙ ap (λ m. first_from (begins_characters line) m (length line)) next
          ∙ sym (later (begins_characters line) k (length line) small none);
    }
