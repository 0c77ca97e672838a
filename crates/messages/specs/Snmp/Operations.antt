-- The operations of each version.
use Rattle.std.specs.Prelude.{◌≡◌, ◌≢◌, ℕ, Bool, true, false, Option, MatchOption}
use Rattle.messages.specs.declared.snmp.message.Operation.{Operation}
use Rattle.messages.specs.declared.snmp.message.Operation.TheVariants.{GetRequest, GetNextRequest, Response, SetRequest}
use Rattle.messages.specs.declared.snmp.message.Operation.TheVariants.{Trap}
use Rattle.messages.specs.declared.snmp.message.Operation.TheVariants.{GetBulkRequest, InformRequest, TrapOfVersion2}
use Rattle.messages.specs.declared.snmp.message.Operation.TheVariants.{Report}
use Rattle.messages.specs.declared.snmp.message.Version.{Version}
use Rattle.messages.specs.declared.snmp.message.Version.TheVariants.{One, TwoC}

-- the tag number of each                                                      (RFC 1157 4.1, RFC 3416 3)
abbrev pub number_of : Operation → ℕ
number_of GetRequest = 0
number_of GetNextRequest = 1
number_of Response = 2
number_of SetRequest = 3
number_of Trap = 4
number_of GetBulkRequest = 5
number_of InformRequest = 6
number_of TrapOfVersion2 = 7
number_of Report = 8

-- the version has the operation
abbrev pub has : Version → Operation → Bool
has One GetBulkRequest = false
has One InformRequest = false
has One TrapOfVersion2 = false
has One Report = false
has TwoC Trap = false
has v o = true

-- the operation of this tag number, if there is one
abbrev pub IsOperationAt : ℕ → Option Operation → Type 0
IsOperationAt n result = MatchOption result ((o : Operation) → number_of o ≢ n) (λ o. number_of o ≡ n)
