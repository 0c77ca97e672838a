use Rattle.std.proofs.Common.{◌≡◌, ◌+◌, [], ◌∷◌, ◌++◌, length, arith, rules}
use Rattle.asn1_modules.specs.declared.token.Token.{Token}
use Rattle.asn1_modules.proofs.Laid.{lie_more, lie_push}
use Rattle.asn1_modules.proofs.lexer.push_item.Goals as goal

pub returns-in_ok-push : goal.returns-in_ok-push
returns-in_ok-push c =
    let end = c.args.offset + length c.args.text.now in
    let t : Token = record { kind = c.in-Some.kind; text = c.args.text; offset = c.args.offset } in
    let e : c.push.new.self.items ≡ c.args.tokens.now.items ++ t ∷ [] = search rules in
    λ whole laid part. rw e
    (lie_push whole 0 c.args.tokens.now.items t c.args.offset end laid (omega arith) part (omega arith))

pub returns-in_default : goal.returns-in_default
returns-in_default c =
    let end = c.args.offset + length c.args.text.now in
    λ whole laid part. lie_more whole 0 c.args.tokens.now.items c.args.offset end laid (omega arith)
