use Rattle.std.proofs.Common.{◌+◌, ◌<◌, ◌∷◌, ℕ, List, length, drop, get_or, subst, arith}
use Rattle.der_base.proofs.Oids.Arcs.{ReadSoFar, read_small, octet_at}
use Rattle.der_base.proofs.oid.split_subidentifier.Goals as goal

-- the octet that is read next
ahead : (w : List ℕ) (k n : ℕ) → k < length w → ReadSoFar w (drop k w) k n → ReadSoFar w (get_or w k 0 ∷ drop (k + 1) w) k n
ahead w k n within h = subst (λ l. ReadSoFar w l k n) (octet_at w k within) h

pub overflow_mul-number : goal.overflow_mul-number
overflow_mul-number c =
    let w = c.args.octets.now in
    let k = c.loop-index.index in
    omega (arith, read_small w (get_or w k 0) (drop (k + 1) w) k c.loop-index.number (ahead w k c.loop-index.number (omega arith) c.loop-index.invariant))

pub overflow_add-number : goal.overflow_add-number
overflow_add-number c =
    let w = c.args.octets.now in
    let k = c.loop-index.index in
    omega (arith, c.from.ensures, read_small w (get_or w k 0) (drop (k + 1) w) k c.loop-index.number (ahead w k c.loop-index.number (omega arith) c.loop-index.invariant))
