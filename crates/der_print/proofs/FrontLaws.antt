-- What precedes the value, part by part.
use Rattle.std.proofs.Common.{◌≡◌, ℕ, List, ◌++◌, ap, ◌∙◌, append_assoc}
use Rattle.der_print.specs.declared.style.Limit.{Limit}
use Rattle.der_print.specs.Cuts.{behind, cut}
use Rattle.der_print.specs.Parts.{AddsPart}

-- a text after others
further : (o l w v : List ℕ) → l ≡ o ++ w → l ++ v ≡ o ++ (w ++ v)
further o l w v e = ap (λ t. t ++ v) e ∙ append_assoc o w v

-- texts one after another, as one
pub as_one : (o a x b f c z d : List ℕ) → o ++ a ++ x ++ b ++ f ++ c ++ z ++ d ≡ o ++ (a ++ x ++ b ++ f ++ c ++ z ++ d)
as_one o a x b f c z d =
    further o (o ++ a ++ x ++ b ++ f ++ c ++ z) (a ++ x ++ b ++ f ++ c ++ z) d
    (further o (o ++ a ++ x ++ b ++ f ++ c) (a ++ x ++ b ++ f ++ c) z
    (further o (o ++ a ++ x ++ b ++ f) (a ++ x ++ b ++ f) c
    (further o (o ++ a ++ x ++ b) (a ++ x ++ b) f
    (further o (o ++ a ++ x) (a ++ x) b (append_assoc o a x)))))

-- a part where so much is left
pub part_behind : (limit left rest : Limit) (text w : List ℕ) {new : List ℕ} → limit ≡ left → AddsPart limit text w new rest
    → (new ≡ w ++ cut left text) × (rest ≡ behind left (cut left text))
part_behind limit left rest text w same part =
    (part.octets ∙ ap (λ l. w ++ cut l text) same, part.left ∙ ap (λ l. behind l (cut l text)) same)

pub same_part : {w v : List ℕ} {l m : Limit} (text : List ℕ) → w ≡ v → l ≡ m → w ++ cut l text ≡ v ++ cut m text
same_part {v = v} {l = l} text e same = ap (λ o. o ++ cut l text) e ∙ ap (λ x. v ++ cut x text) same
