-- What is hidden.
use Rattle.std.proofs.Common.{◌≡◌, ◌≢◌, Bool, Option, Some, None, List, ℕ, refl}
use Rattle.der_elements.specs.Visits.{Visited}
use Rattle.der_schema.specs.declared.schema.Secrecy.{Secrecy}
use Rattle.der_schema.specs.declared.schema.Secrecy.TheVariants.{Public, Secret, SecretUnread}
use Rattle.der_schema.specs.declared.words.Words.{Words}
use Rattle.der_schema.specs.Meaning.{Label}
use Rattle.type_words.specs.Items.{Place, hidden, step_by}

skipped : (text : List ℕ) (item : Bool) (secrecy : Secrecy) (words : Option Words) (p : Place) (i : List ℕ) (v : Visited)
    → secrecy ≢ Public
    → let s = step_by (Some (record { text = text; is_item = item; secrecy = secrecy; words = words })) p i v in
    (s.item ≡ None) × (s.inside ≡ hidden)
skipped text item Public words p i v secret = absurd (secret refl)
skipped text item SecretUnread words p i v secret = (refl, refl)
skipped text item Secret words p i v secret = (refl, refl)

pub secret : (l : Label) (p : Place) (i : List ℕ) (v : Visited) → l.secrecy ≢ Public
    → let s = step_by (Some l) p i v in (s.item ≡ None) × (s.inside ≡ hidden)
secret l p i v is = skipped l.text l.is_item l.secrecy l.words p i v is

stays : (text : List ℕ) (item : Bool) (secrecy : Secrecy) (words : Option Words) (i : List ℕ) (v : Visited)
    → let s = step_by (Some (record { text = text; is_item = item; secrecy = secrecy; words = words })) hidden i v in
    (s.item ≡ None) × (s.after ≡ hidden) × (s.inside ≡ hidden)
stays text item Public None i v = (refl, refl, refl)
stays text item Public (Some x) i v = (refl, refl, refl)
stays text item SecretUnread words i v = (refl, refl, refl)
stays text item Secret words i v = (refl, refl, refl)

pub hidden_stays : (o : Option Label) (i : List ℕ) (v : Visited)
    → let s = step_by o hidden i v in (s.item ≡ None) × (s.after ≡ hidden) × (s.inside ≡ hidden)
hidden_stays None i v = (refl, refl, refl)
hidden_stays (Some l) i v = stays l.text l.is_item l.secrecy l.words i v
