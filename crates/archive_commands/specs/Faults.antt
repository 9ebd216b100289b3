-- Why a command of the archive fails.
use Rattle.archive_runs.specs.declared.run_fault.RunFault.{RunFault}
use Rattle.archive_runs.specs.declared.run_fault.RunFault.TheVariants as run
use Rattle.command_line.specs.declared.tool_fault.ToolFault.{ToolFault}
use Rattle.command_line.specs.declared.tool_fault.ToolFault.TheVariants.{Memory, Socket, Transfer}

-- The command's fault for a fault of a transfer. A put writes nothing, and a get into memory, where a write fails only if
-- that runs out.
abbrev pub run_fault : RunFault → ToolFault
run_fault run.Socket = Socket
run_fault (run.Transfer why) = Transfer why
run_fault run.Memory = Memory
run_fault run.Write = Memory
