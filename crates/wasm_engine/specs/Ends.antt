-- What an answer says of a run.
use Rattle.wasm_tree.specs.Machine.{Config, Over, Trapped}
use Rattle.wasm_engine.specs.declared.engine.End.{End}
use Rattle.wasm_engine.specs.declared.engine.End.TheVariants.{Done, Trap, StillRunning}

-- where the run is, if it goes on there
abbrev pub config_at : End → Config → Config
config_at (Done k) c = Over k
config_at Trap c = Trapped
config_at StillRunning c = c
