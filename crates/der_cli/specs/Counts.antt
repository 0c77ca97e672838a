-- The count of files.
use Rattle.std.specs.Prelude.{◌==◌, ◌&&◌, nat_lt, Bool, true, false}
use Rattle.der_cli.specs.declared.summary.Outcome.{Outcome}
use Rattle.der_cli.specs.declared.summary.Outcome.TheVariants.{Accepted, Rejected, Unread}
use Rattle.der_cli.specs.declared.summary.Summary.{Summary}

-- what became of a file that was read
abbrev pub outcome_of : Bool → Outcome
outcome_of true = Accepted
outcome_of false = Rejected

abbrev pub is_accepted : Outcome → Bool
is_accepted Accepted = true
is_accepted Rejected = false
is_accepted Unread = false

-- whether each file that was counted was read and accepted
abbrev pub are_accepted : Summary → Bool
are_accepted s = s.refused == 0 && s.unread == 0

-- whether a file was counted, each was accepted, and each folder was read to its end and contains a file
abbrev pub is_good : Summary → Bool
is_good s = nat_lt 0 s.files && (are_accepted s && s.is_whole)
