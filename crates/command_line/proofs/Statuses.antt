-- The exit status of a command, by its result.
use Rattle.std.proofs.Common.{◌≡◌, ◌≢◌, ℕ, List, [], ◌∷◌, ◌++◌, length, length-append, ap, Result, Ok, Err, OnOk, IfErr, arith}
use Rattle.command_line.specs.declared.tool_fault.ToolFault.{ToolFault}
use Rattle.command_line.specs.declared.tool_fault.ToolFault.TheVariants.{Read, Write, Unreadable, Memory, Socket, Transfer}
use Rattle.command_line.specs.Faults.{answer_status, status_of}

-- a text that ends a line has a byte
pub line_some : (line text : List ℕ) → text ≡ line ++ 10 ∷ [] → text ≢ []
line_some line text is = λ none. let bad : length text ≡ 0 = ap length none in omega (arith, bad, ap length is, length-append line (10 ∷ []))

-- no fault has status 0
status_some : (e : ToolFault) → status_of e ≢ 0
status_some Read = λ is. omega (arith, is)
status_some Write = λ is. omega (arith, is)
status_some (Unreadable index fault) = λ is. omega (arith, is)
status_some Memory = λ is. omega (arith, is)
status_some Socket = λ is. omega (arith, is)
status_some (Transfer why) = λ is. omega (arith, is)

-- no fault has status 1, that of a usage error
status_no_usage : (e : ToolFault) → status_of e ≢ 1
status_no_usage Read = λ is. omega (arith, is)
status_no_usage Write = λ is. omega (arith, is)
status_no_usage (Unreadable index fault) = λ is. omega (arith, is)
status_no_usage Memory = λ is. omega (arith, is)
status_no_usage Socket = λ is. omega (arith, is)
status_no_usage (Transfer why) = λ is. omega (arith, is)

-- only a command that succeeded has status 0
pub at_zero : {P : Type 0} (r : Result (Unit {0}) ToolFault) → OnOk r P → answer_status r ≡ 0 → P
at_zero (Ok done) p zero = p
at_zero (Err e) p zero = absurd (status_some e zero)

-- no result of a command has the status of a usage error
pub no_usage : (r : Result (Unit {0}) ToolFault) → answer_status r ≢ 1
no_usage (Ok done) = λ is. omega (arith, is)
no_usage (Err e) = status_no_usage e

pub map_ok : {P Q : Type 0} (r : Result (Unit {0}) ToolFault) → (P → Q) → OnOk r P → OnOk r Q
map_ok (Ok done) f p = f p
map_ok (Err e) f p = tt

pub map_err : {P Q : ToolFault → Type 0} (r : Result (Unit {0}) ToolFault) → ((e : ToolFault) → P e → Q e) → IfErr r P → IfErr r Q
map_err (Ok done) f p = tt
map_err (Err e) f p = f e p
