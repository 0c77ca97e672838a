use Rattle.std.proofs.Common.{refl, inl}
use Rattle.der_readers.proofs.TypesLaws.ContentsRead.{ber_leaf, der_leaf, leaf_result}
use Rattle.der_readers.proofs.types.typed.read_leaf.Goals as goal

pub returns-in-Ber : goal.returns-in-Ber
returns-in-Ber c =
    rw c.in-Ber.is (λ l i rest f. leaf_result _ _ _ _ c.read_leaf.result c.read_leaf.ensures
    (λ x k. ber_leaf l c.args.constructed c.args.tag.0 i c.args.octets.now rest x f k)
    (λ e r. (refl, c.requires.mapped, inl r)))

pub returns-in-Der : goal.returns-in-Der
returns-in-Der c =
    rw c.in-Der.is (λ l i rest f. leaf_result _ _ _ _ c.read_leaf-in-Der.result c.read_leaf-in-Der.ensures
    (λ x k. der_leaf l c.args.constructed c.args.tag.0 i c.args.octets.now rest x f k)
    (λ e r. (refl, c.requires.mapped, inl r)))
