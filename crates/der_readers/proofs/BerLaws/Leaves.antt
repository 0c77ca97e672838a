-- The octets of a text are its content, by either rules.
use Rattle.std.proofs.Common.{◌≡◌, ℕ, Bool, true, false, List, refl, inr}
use Rattle.std.specs.Prelude.{◌||◌}
use Rattle.std.proofs.lemmas.Bool.{false≢true}
use Rattle.der_base.specs.declared.rules.Rules.{Rules}
use Rattle.der_base.specs.declared.rules.Rules.TheVariants.{Ber, Der}
use Rattle.der_base.specs.Leaf.{IsLeafContent}
use Rattle.der_base.specs.LeafRefusal.{Test, NoneHolds, ber_tests, choose}
use Rattle.der_base.specs.Text.{is_text_type, IsTextOf}
use Rattle.der_base.specs.Tree.{Content, string}
use Rattle.der_base.proofs.Leaves.Always.{decided_text}
use Rattle.der_base.proofs.Leaves.Decided.{sure}
use Rattle.der_values.specs.Kinds.{leaf_tests}

of_chosen : (a : Bool) (ls ts : List Test) → a ≡ true → NoneHolds (choose a ls ts) → NoneHolds ls
of_chosen true ls ts e n = n
of_chosen false ls ts e n = absurd (false≢true e)

one_chosen : (a b : Bool) (ls ts : List Test) → a ≡ true → NoneHolds ls → NoneHolds (choose (a || b) ls ts)
one_chosen true b ls ts e n = n
one_chosen false b ls ts e n = absurd (false≢true e)

text_tests : (r : Rules) (t : ℕ) (w : List ℕ) → is_text_type t ≡ true → NoneHolds (ber_tests false t w) → NoneHolds (leaf_tests r t w)
text_tests Ber t w h n = n
text_tests Der t w h n = one_chosen (is_text_type t) _ _ _ h n

pub text_read : (r : Rules) (t : ℕ) (w v : List ℕ) (x : Content) → is_text_type t ≡ true → x ≡ string t v → NoneHolds (ber_tests false t w) × (v ≡ w) → NoneHolds (leaf_tests r t w) × IsLeafContent false t w x
text_read r t w v x h e n =
    let text : IsTextOf t w = sure _ (decided_text t w) (of_chosen (is_text_type t) _ _ h n.0).1.0 in
    rw (e, n.1) (text_tests r t w h n.0, (refl, inr (inr (inr (h, refl, text))), refl))
