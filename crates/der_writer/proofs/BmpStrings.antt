-- The octets of a BMPString, by the tests of its value.
use Rattle.std.proofs.Common.{◌≡◌, ℕ, ◌%◌, List, length, false, arith, inl, inr}
use Rattle.std.proofs.lemmas.Bool.{false≢true}
use Rattle.der_base.specs.declared.rules.Rules.TheVariants.{Der}
use Rattle.der_base.specs.LeafRefusal.{IsFirstRefusal, NoneHolds}
use Rattle.der_base.specs.Refusal.{Refusal}
use Rattle.der_base.specs.Text.{IsUtf16}
use Rattle.der_base.proofs.Leaves.Decided.{sure, decided_false}
use Rattle.der_values.specs.Kinds.{content_tests}
use Rattle.der_writer.specs.Written.{IsBmp}

even : (n : ℕ) → ¬ (n % 2 ≡ 1) → n % 2 ≡ 0
even n h = grind arith

pub passes : (w : List ℕ) → NoneHolds (content_tests Der false 30 w) → IsBmp w
passes w n = (even (length w) n.1.1.0, sure (IsUtf16 w) (decided_false _) n.1.1.1.0)

pub refused : (w : List ℕ) (e : Refusal) → IsFirstRefusal (content_tests Der false 30 w) e → ¬ IsBmp w
refused w e (inl h) b = absurd (false≢true h.0)
refused w e (inr (n, inl h)) b = absurd (false≢true h.0)
refused w e (inr (n, inr (m, inl h))) b = let k = h.0 in omega (arith, b.0)
refused w e (inr (n, inr (m, inr (o, inl h)))) b = h.0 b.1
refused w e (inr (n, inr (m, inr (o, inr h)))) b = absurd h.1
