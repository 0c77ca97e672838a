-- Texts that are written one after another. A and B say that the calls were Ok.
use Rattle.std.proofs.Common.{◌++◌, [], List, ℕ, refl}
use Rattle.std.specs.Fmt.{HasWritten, IsPlainFormatter}
use Rattle.std.specs.declared.fmt.Formatter.{Formatter}
use Rattle.std.proofs.Output.{has_written_append, writes_in_calls_nil}
use Rattle.extension_text.specs.Names.Pieces.{Exactly, Then}

module _ {W : Type 0} {took : W → List ℕ → W → Type 0} where
  -- a text of which no other is right
  pub one : {f g : Formatter W} {A : Type 0} {t : List ℕ} → (IsPlainFormatter f → A → HasWritten took f t g) → IsPlainFormatter f → A → (text : List ℕ) × Exactly t text × HasWritten took f text g
  one {t = t} w = λ plain ok. (t, refl, w plain ok)

  -- no text
  pub nothing : {f : Formatter W} {A : Type 0} → IsPlainFormatter f → A → (text : List ℕ) × Exactly [] text × HasWritten took f text f
  nothing = λ plain ok. ([], refl, record { wrote = writes_in_calls_nil _ _; plain = plain })

  -- one text and another
  pub next : {f g h : Formatter W} {A B : Type 0} {P Q : List ℕ → Type 0} → (IsPlainFormatter f → A → (text : List ℕ) × P text × HasWritten took f text g) → A → (IsPlainFormatter g → B → (text : List ℕ) × Q text × HasWritten took g text h)
      → IsPlainFormatter f → B → (text : List ℕ) × Then P Q text × HasWritten took f text h
  next a ok b = λ plain last.
      let x = a plain ok in
      let y = b x.2.plain last in (
        x.0 ++ y.0,
        record { first = x.0; second = y.0; is_first = x.1; is_second = y.1; whole = refl },
        has_written_append _ _ _ _ _ _ x.2 y.2,
      )

  -- the same of texts of which no other is right
  pub along : {f g h : Formatter W} {A B : Type 0} {a b : List ℕ} → (IsPlainFormatter f → A → HasWritten took f a g) → A → (IsPlainFormatter g → B → HasWritten took g b h)
      → IsPlainFormatter f → B → HasWritten took f (a ++ b) h
  along x ok y = λ plain last. let p = x plain ok in has_written_append _ _ _ _ _ _ p (y p.plain last)

  -- texts that are right by P are so by Q
  pub restated : {f g : Formatter W} {A : Type 0} {P Q : List ℕ → Type 0} → ((t : List ℕ) → P t → Q t) → (IsPlainFormatter f → A → (text : List ℕ) × P text × HasWritten took f text g) → IsPlainFormatter f → A → (text : List ℕ) × Q text × HasWritten took f text g
  restated k w = λ plain ok. let x = w plain ok in (x.0, k x.0 x.1, x.2)
