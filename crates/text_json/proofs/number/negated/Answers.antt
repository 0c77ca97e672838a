use Rattle.std.proofs.Common.{◌≡◌, ◌+◌, ◌*◌, ◌-◌, ◌/◌, ◌%◌, ◌^◌, [], ◌∷◌, ◌++◌, length, reverse, sym, ap, ◌∙◌, rules, arith, length-append}
use Rattle.std.proofs.Math.Nat.{pow-suc}
use Rattle.std.proofs.lemmas.List.{reverse-append, length-reverse}
use Rattle.der_base.specs.Octets.{number}
use Rattle.der_base.proofs.Octets.ShortestLengths.{bytes_from}
use Rattle.text_json.proofs.Negatives.{at_end, in_front, magnitude, none, one_less}
use Rattle.text_json.proofs.number.negated.Goals as goal

pub loop-last-preserved : goal.loop-last-preserved
loop-last-preserved c =
    let w = c.args.content.now in
    let before = c.in-Some.before.now in
    let b = c.from.result in
    let borrowed = c.loop-last.borrowed in
    let left = 256 - b - borrowed in
    let r = c.loop-last.reversed.items in
    let p = 256 ^ length r in
    let same : c.in-Some.last.now ≡ b = search rules in
    let e = c.in-Some.ensures.cases.0 ∙ ap (λ k. before ++ k ∷ []) same in
    let new : c.push.new.self.items ≡ r ++ (left % 256) ∷ [] = search rules in
    let rest : number c.loop-last.rest.now ≡ number before * 256 + b = ap number e ∙ at_end 0 before b in
    let all : (number before * 256 + b + borrowed) * p ≡ number w + number (reverse r) =
    ap (λ k. (k + borrowed) * p) (sym rest) ∙ c.loop-last.invariant.sum in
    let octet : left % 256 + b + borrowed ≡ (1 - left / 256) * 256 = omega (arith, same, c.loop-last.invariant.small) in
    let less = one_less (number before) b borrowed (left % 256) (1 - left / 256) p (number w) (number (reverse r)) octet all in
    let more : length c.push.new.self.items ≡ length r + 1 = ap length new ∙ length-append r ((left % 256) ∷ []) in
    let power : 256 ^ length c.push.new.self.items ≡ p * 256 = ap (λ k. 256 ^ k) (more ∙ omega arith) ∙ pow-suc 256 (length r) in
    let digits : number (reverse c.push.new.self.items) ≡ left % 256 * p + number (reverse r) =
    ap (λ l. number (reverse l)) new ∙ ap number (reverse-append r ((left % 256) ∷ [])) ∙ in_front (left % 256) (reverse r)
    ∙ ap (λ k. left % 256 * 256 ^ k + number (reverse r)) (length-reverse r) in
    record {
      sum = ap (λ k. (number before + (1 - left / 256)) * k) power ∙ less ∙ ap (λ k. number w + k) (sym digits);
      long = omega (arith, ap length e, length-append before (b ∷ []), more, c.loop-last.invariant.long);
      small = omega arith;
    }

pub returns : goal.returns
returns c =
    let w = c.args.content.now in
    let r = c.loop-last.reversed.items in
    let borrowed = c.loop-last.borrowed in
    let before = c.loop-last.invariant in
    let nothing : length c.loop-last.rest.now ≡ 0 = c.in_default.ensures.cases in
    let long : length w ≡ length r = omega (arith, nothing, before.long) in
    let left : borrowed ≡ number c.loop-last.rest.now + borrowed = omega (arith, none c.loop-last.rest.now nothing) in
    let sum : borrowed * 256 ^ length w ≡ number w + number (reverse r) =
    ap (λ k. borrowed * 256 ^ k) long ∙ ap (λ k. k * 256 ^ length r) left ∙ before.sum in
    ap number c.reverse.ensures.items
    ∙ magnitude w (reverse r) borrowed (bytes_from w (λ k. omega (arith, c.type_inv.content k))) c.requires before.small sum
