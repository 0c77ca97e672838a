-- Elements of an input that are certificates, CRLs or certification requests.
use Rattle.std.specs.Prelude.{ℕ, ◌+◌, Some, List, drop, take}
use Rattle.std.specs.Option.{unwrap_or}
use Rattle.der_elements.specs.Visits.{Visited}
use Rattle.der_show.specs.declared.known.Known.{Known}
use Rattle.der_show.specs.Known.{IsKnown}

-- the octets of an element: its header, and as many content octets as the header says
abbrev pub octets_in : List ℕ → Visited → List ℕ
octets_in i v = take (v.header + unwrap_or v.length 0) (drop v.offset i)

-- an element is a certificate, a CRL or a certification request
abbrev pub IsInWords : List ℕ → Visited → Type 0
IsInWords i v = (known : Known) × IsKnown (octets_in i v) (Some known)
