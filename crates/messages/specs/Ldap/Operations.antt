-- The operations, and their tags.
use Rattle.std.specs.Prelude.{◌≡◌, ◌≢◌, ℕ, Option, MatchOption}
use Rattle.messages.specs.declared.ldap.message.Operation.{Operation}
use Rattle.messages.specs.declared.ldap.message.Operation.TheVariants.{BindRequest, BindResponse, UnbindRequest}
use Rattle.messages.specs.declared.ldap.message.Operation.TheVariants.{SearchRequest}
use Rattle.messages.specs.declared.ldap.message.Operation.TheVariants.{SearchResultEntry, SearchResultDone, ModifyRequest}
use Rattle.messages.specs.declared.ldap.message.Operation.TheVariants.{ModifyResponse, AddRequest, AddResponse}
use Rattle.messages.specs.declared.ldap.message.Operation.TheVariants.{DelRequest}
use Rattle.messages.specs.declared.ldap.message.Operation.TheVariants.{DelResponse, ModifyDNRequest, ModifyDNResponse}
use Rattle.messages.specs.declared.ldap.message.Operation.TheVariants.{CompareRequest, CompareResponse, AbandonRequest}
use Rattle.messages.specs.declared.ldap.message.Operation.TheVariants.{SearchResultReference, ExtendedRequest}
use Rattle.messages.specs.declared.ldap.message.Operation.TheVariants.{ExtendedResponse, IntermediateResponse}

-- the tag number of each                                                      (RFC 4511 appendix B)
abbrev pub number_of : Operation → ℕ
number_of BindRequest = 0
number_of BindResponse = 1
number_of UnbindRequest = 2
number_of SearchRequest = 3
number_of SearchResultEntry = 4
number_of SearchResultDone = 5
number_of ModifyRequest = 6
number_of ModifyResponse = 7
number_of AddRequest = 8
number_of AddResponse = 9
number_of DelRequest = 10
number_of DelResponse = 11
number_of ModifyDNRequest = 12
number_of ModifyDNResponse = 13
number_of CompareRequest = 14
number_of CompareResponse = 15
number_of AbandonRequest = 16
number_of SearchResultReference = 19
number_of ExtendedRequest = 23
number_of ExtendedResponse = 24
number_of IntermediateResponse = 25

-- the operation of this tag number, if there is one
abbrev pub IsOperationAt : ℕ → Option Operation → Type 0
IsOperationAt n result = MatchOption result ((o : Operation) → number_of o ≢ n) (λ o. number_of o ≡ n)
