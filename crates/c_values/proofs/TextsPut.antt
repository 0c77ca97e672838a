-- Texts that are tested, and put.
use Rattle.std.proofs.Common.{◌≡◌, ◌≢◌, ℕ, Bool, true, false, List, inr, refl, subst}
use Rattle.std.specs.Prelude.{◌||◌, ◌==◌, Result, Ok, Err}
use Rattle.std.proofs.lemmas.Bool.{false≢true}
use Rattle.der_base.specs.declared.error.Error.{Error as BerError}
use Rattle.der_base.specs.Text.{is_text_type}
use Rattle.der_writer.specs.declared.writer.Writer.{Writer}
use Rattle.der_writer.specs.Written.{PutsText}
use Rattle.c_values.specs.Tested.{PutsAnyText}
use Rattle.c_values.specs.Values.{is_string_type}

or_true : (x : Bool) → (x || true) ≡ true
or_true true = refl
or_true false = refl

text_type : (t : ℕ) → is_text_type t ≡ true → is_string_type t ≡ true
text_type t text = rw text (or_true (t == 30))

no_bmp : (t : ℕ) → is_text_type t ≡ true → t ≢ 30
no_bmp t text e = let P : ℕ → Type 0 = λ n. is_text_type n ≡ true in false≢true (subst P e text)

pub text_put : (t : ℕ) (w : List ℕ) (old new : Writer) (r : Result (Unit {0}) BerError) → is_text_type t ≡ true → PutsText t w old r new
    → PutsAnyText t w old r new
text_put t w old new (Ok u) text h = (text_type t text, (h.0, (λ e. absurd (no_bmp t text e))), h.1)
text_put t w old new (Err x) text h = (inr (text_type t text, (λ is. h.0 is.0), h.1), h.2)
