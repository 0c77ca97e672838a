use Rattle.std.proofs.Common.{sym, subst}
use Rattle.der_cursor.specs.Cursors.{octets_left, rules_of}
use Rattle.der_cursor.specs.Elements.{MarkerFollows}
use Rattle.der_cursor.proofs.ShortElements.{short_spells, short_marker}
use Rattle.der_cursor.proofs.cursor.Cursor.find.Goals as goal

pub returns-in-Some : goal.returns-in-Some
returns-in-Some c =
    let i = octets_left c.args.self.now in
    let r = rules_of c.args.self.now in
    let found = c.in-Some.found in
    let (none, short) = c.in-Some.ensures in (
      (
        short_spells c.args.class c.args.constructed c.args.tag.0 i found.content.now found.rest.now short r,
        subst (λ m. MarkerFollows r i m) (sym none) (short_marker c.args.class c.args.constructed c.args.tag.0 i found.content.now found.rest.now short r),
      ),
      tt,
    )
