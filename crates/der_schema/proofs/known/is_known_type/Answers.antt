use Rattle.std.proofs.Common.{◌≡◌, true, false, subst, sym, ◌∙◌}
use Rattle.der_schema.specs.Known.{IsOfType, root_at}
use Rattle.der_schema.specs.Meaning.{Root, all_types}
use Rattle.der_schema.proofs.known.is_known_type.Goals as goal

pub returns-then-is_of_type : goal.returns-then-is_of_type
returns-then-is_of_type c =
    let r = c.args.rules in
    let i = c.args.input.now in
    let t : IsOfType (root_at (all_types c.args.types.now) c.args.known.now) r i =
    subst (λ (z : Root). IsOfType z r i) c.schema_of.ensures.root (c.is_of_type.ensures.0 c.if-is_of_type.true) in (
      λ it. record {
        of_type = t;
        told = sym (c.has_signs.ensures t.is_tree.visited t.is_tree.visits) ∙ it;
      },
      λ k. c.has_signs.ensures k.of_type.is_tree.visited k.of_type.is_tree.visits ∙ k.told,
    )

pub returns : goal.returns
returns c =
    let r = c.args.rules in
    let i = c.args.input.now in (
      λ f. absurd (cc),
      λ k.
          let is : c.is_of_type.result ≡ true =
          c.is_of_type.ensures.1 (subst (λ (z : Root). IsOfType z r i) (sym c.schema_of.ensures.root) k.of_type) in
          let other : c.is_of_type.result ≡ false = c.if-is_of_type.false in
          absurd (cc),
    )
