-- Why a command fails.
use Rattle.std.specs.Prelude.{◌≡◌, ◌⊎◌, ℕ, List, Option, IfSome, Result, Ok, Err}
use Rattle.std.specs.Io.KnownBytes.{IsAtEnd}
use Rattle.tws_file.specs.declared.file_fault.FileFault.{FileFault}
use Rattle.tws_file.specs.declared.file_fault.FileFault.TheVariants as file
use Rattle.byte_output.specs.declared.out_fault.OutFault.{OutFault}
use Rattle.byte_output.specs.declared.out_fault.OutFault.TheVariants as out
use Rattle.tws_file.specs.Fault.{HasFileFault}
use Rattle.command_line.specs.declared.tool_fault.ToolFault.{ToolFault}
use Rattle.command_line.specs.declared.tool_fault.ToolFault.TheVariants.{Read, Write, Unreadable, Memory, Socket, Transfer}

-- the command's fault for a fault of writing
abbrev pub written_fault : OutFault → ToolFault
written_fault out.Io = Write
written_fault out.Memory = Memory

-- the command's fault for a fault of reading a file
abbrev pub input_fault : ℕ → FileFault → ToolFault
input_fault index file.Memory = Memory
input_fault index fault = Unreadable index fault

-- an input was not read to its end
abbrev pub IsReadFault : ToolFault → Type 0
IsReadFault e = (e ≡ Read) ⊎ (e ≡ Memory)

-- an input that is reported as unreadable was read to its end
abbrev pub IsReadOut : (left : Option (List ℕ)) → ToolFault → Type 0
IsReadOut left Read = Unit {0}
IsReadOut left Write = Unit {0}
IsReadOut left (Unreadable index fault) = IsAtEnd left
IsReadOut left Memory = Unit {0}
IsReadOut left Socket = Unit {0}
IsReadOut left (Transfer why) = Unit {0}

-- the fault occurs before anything is written
abbrev pub IsBeforeOutput : ToolFault → Type 0
IsBeforeOutput Read = Unit {0}
IsBeforeOutput Write = ⊥
IsBeforeOutput (Unreadable index fault) = Unit {0}
IsBeforeOutput Memory = ⊥
IsBeforeOutput Socket = Unit {0}
IsBeforeOutput (Transfer why) = Unit {0}

-- no file was read from the input with this index, which had these bytes
abbrev pub ReadFails : ℕ → Option (List ℕ) → ToolFault → Type 0
ReadFails index known Read = Unit {0}
ReadFails index known Write = ⊥
ReadFails index known (Unreadable i fault) = (i ≡ index) × IfSome known (λ (bytes : List ℕ). HasFileFault bytes fault)
ReadFails index known Memory = Unit {0}
ReadFails index known Socket = ⊥
ReadFails index known (Transfer why) = ⊥

-- the exit status of a program that failed with this fault
abbrev pub status_of : ToolFault → ℕ
status_of Read = 2
status_of Write = 2
status_of (Unreadable index fault) = 3
status_of Memory = 2
status_of Socket = 2
status_of (Transfer why) = 4

-- the exit status of a command with this result
abbrev pub answer_status : Result (Unit {0}) ToolFault → ℕ
answer_status (Ok done) = 0
answer_status (Err e) = status_of e
