-- A number that is put.
use Rattle.std.proofs.Common.{◌≡◌, ℕ, subst}
use Rattle.der_base.specs.Octets.{shortest_integer}
use Rattle.der_writer.specs.declared.writer.Writer.{Writer}
use Rattle.der_writer.specs.Written.{Puts, leaf}

-- the same number
pub number_put : {a b : Writer} {m n : ℕ} (t : ℕ) → m ≡ n → Puts (leaf a.implicit t (shortest_integer m)) a b → Puts (leaf a.implicit t (shortest_integer n)) a b
number_put {a = a} {b = b} t e h = let P : ℕ → Type 0 = λ k. Puts (leaf a.implicit t (shortest_integer k)) a b in subst P e h
