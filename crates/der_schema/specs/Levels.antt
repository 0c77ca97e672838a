-- The open contents of a namer.
use Rattle.std.specs.Prelude.{List, map, take}
use Rattle.der_schema.specs.declared.level.Level.{Level}
use Rattle.der_schema.specs.declared.levels.Levels.{Levels}
use Rattle.der_schema.specs.declared.schema.Component.{Component}
use Rattle.der_schema.specs.Meaning.{State, state_of}

abbrev pub levels_of : Levels → List Level
levels_of ls = take ls.len ls.cells.levels

abbrev pub states_in : List Component → Levels → List State
states_in ts ls = map (state_of ts) (levels_of ls)
