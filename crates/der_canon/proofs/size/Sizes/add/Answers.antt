use Rattle.std.proofs.Common.{sym, inl, inr}
use Rattle.der_canon.proofs.Sizings.{some_map}
use Rattle.der_canon.proofs.size.Sizes.add.Goals as goal

pub returns-then-has_header-clause-adds : goal.returns-then-has_header-clause-adds
returns-then-has_header-clause-adds c = some_map c.add_element.result _ _ (λ h. inr (sym c.if-has_header.ensures, h)) c.add_element.ensures.adds

pub returns-else-has_header-clause-adds : goal.returns-else-has_header-clause-adds
returns-else-has_header-clause-adds c = some_map c.add_part.result _ _ (λ h. inl (sym c.if-has_header.ensures, h)) c.add_part.ensures.adds
