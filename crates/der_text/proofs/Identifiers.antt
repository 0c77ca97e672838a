-- The octets of identifiers.
use Rattle.std.proofs.Common.{◌≡◌, inl, inr, ℕ, true, false, List, sym, ap, ◌∙◌}
use Rattle.std.specs.Prelude.{◌⊎◌, if◌then◌else◌, Some, None, Result, Ok, Err}
use Rattle.std.specs.List.{list_all}
use Rattle.der_base.specs.declared.error.OidParseError.{OidParseError}
use Rattle.der_base.specs.declared.error.OidParseError.TheVariants.{OutOfMemory}
use Rattle.der_base.specs.declared.oid.Oid.{Oid}
use Rattle.der_base.specs.OidArcs.{dotted_arcs, octets_if_arcs}
use Rattle.der_base.specs.Oids.{Makes, octets_of}
use Rattle.der_text.specs.Words.{identifier_octets, if_made, is_dotted}

made : (r : Result (List ℕ) OidParseError) (x : Oid) → ((let y : Result Oid OidParseError = Ok x in y ≡ Err OutOfMemory) ⊎ Makes false r (Ok x))
    → Some (octets_of x) ≡ if_made r
made (Ok w) x (inl e) = cc
made (Ok w) x (inr m) = ap Some m.0
made (Err e) x (inl h) = cc
made (Err e) x (inr m) = absurd m

pub identifier_made : (w text : List ℕ) (x : Oid) → list_all is_dotted w ≡ true → text ≡ w
    → ((let y : Result Oid OidParseError = Ok x in y ≡ Err OutOfMemory) ⊎ Makes false (octets_if_arcs (dotted_arcs text)) (Ok x))
    → Some (octets_of x) ≡ identifier_octets w
unfolding identifier_octets
identifier_made w text x all e h =
    made (octets_if_arcs (dotted_arcs text)) x h ∙ ap (λ t. if_made (octets_if_arcs (dotted_arcs t))) e
    ∙ ap (λ b. if b then if_made (octets_if_arcs (dotted_arcs w)) else None) (sym all)
