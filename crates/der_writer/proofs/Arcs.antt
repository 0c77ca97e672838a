-- Identifiers by their arcs.
use Rattle.std.proofs.Common.{◌≡◌, ℕ, ◌+◌, ◌*◌, false, true, List, ◌∷◌, ◌++◌, subst, Ok}
use Rattle.std.specs.List.{flat_map}
use Rattle.der_base.specs.OidArcs.{have_subidentifier, octets_of_arcs}
use Rattle.der_base.specs.Octets.{groups}
use Rattle.der_writer.specs.declared.writer.Writer.{Writer}
use Rattle.der_writer.specs.Written.{Puts, PutsArcs, leaf}

pub arcs_put : (x y v : ℕ) (others : List ℕ) (old new : Writer) → have_subidentifier x y ≡ true → v ≡ 40 * x + y
    → Puts (leaf old.implicit 6 (groups v ++ flat_map groups others)) old new → PutsArcs (octets_of_arcs false (x ∷ y ∷ others)) old (Ok tt) new
arcs_put x y v others old new have value put =
    let P : ℕ → Type 0 = λ n. Puts (leaf old.implicit 6 (groups n ++ flat_map groups others)) old new in
    rw have (subst P value put)
