use Rattle.std.proofs.Common.{length, ◌≤◌, List}
use Rattle.std.specs.Io.KnownBytes.{append_known}
use Rattle.der_parser.specs.Tree.{Node}
use Rattle.derdump.specs.Elements.{AreElements, Elements}
use Rattle.derdump.specs.Outputs.{TookOutputs}
use Rattle.derdump.specs.Sinks.{octets_of}
use Rattle.derdump.specs.Words.{rules_of}
use Rattle.derdump.proofs.run.print_elements.Given as goal

-- what was read so far is elements, each has its line, written or pending, and if the input is elements throughout, what is left of it is
abbrev pub invariant-loop-rest : goal.invariant-loop-rest
invariant-loop-rest g l = record {
  in_range : length l.rest ≤ length l.input;
  printed : (os : List Node) × Elements (rules_of l.command) l.input os l.rest
      × TookOutputs l.command (octets_of g.W.Write.contents l.fn.out) (append_known (octets_of g.W.Write.contents l.out) l.pending.items) os;
  whole : AreElements (rules_of l.command) l.input → AreElements (rules_of l.command) l.rest;
}

abbrev pub decreases-loop-rest : goal.decreases-loop-rest
decreases-loop-rest g l = length l.rest
