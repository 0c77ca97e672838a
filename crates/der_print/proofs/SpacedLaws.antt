-- A value after a space.
use Rattle.std.proofs.Common.{ℕ, List, ◌++◌, Option, Some, None, Result, codes}
use Rattle.std.proofs.Output.{has_written_append}
use Rattle.std.specs.Fmt.{DisplaysOnOk, HasWritten, IsPlainFormatter}
use Rattle.std.specs.Option.{option_map}
use Rattle.std.specs.declared.fmt.Formatter.{Formatter}
use Rattle.std.specs.declared.fmt.Error.{Error}

pub spaced : {W : Type 0} (took : W → List ℕ → W → Type 0) (f g h : Formatter W) (r : Result (Unit {0}) Error) (o : Option (List ℕ))
    → (IsPlainFormatter f → HasWritten took f (codes " ") g) → DisplaysOnOk took g r o h
    → DisplaysOnOk took f r (option_map (λ text. codes " " ++ text) o) h
spaced took f g h r None before shown = tt
spaced took f g h r (Some text) before shown = λ plain ok. let space = before plain in has_written_append _ _ _ _ _ _ space (shown space.plain ok)
