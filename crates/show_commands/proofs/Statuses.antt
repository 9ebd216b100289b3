-- What a run did, by the result of its command.
use Rattle.std.proofs.Common.{◌≡◌, ◌∙◌, ℕ, List, Option, Result, Ok, Err, OnOk, IfErr, ap, arith, inl, inr, subst}
use Rattle.std.specs.Io.KnownBytes.{IsAtEnd}
use Rattle.tws_file.specs.Text.{File}
use Rattle.command_line.specs.declared.tool_fault.ToolFault.{ToolFault}
use Rattle.command_line.specs.declared.tool_fault.ToolFault.TheVariants.{Read, Write, Unreadable, Memory, Socket, Transfer}
use Rattle.command_line.specs.Faults.{IsReadOut, answer_status}
use Rattle.show_commands.specs.Written.{FileRan, Ran, Writes, WriteFails}

-- what a command of one input did, by the exit status
pub ran : (text : File → List ℕ) (r : Result (Unit {0}) ToolFault) (known left old new : Option (List ℕ)) →
    OnOk r (IsAtEnd left) → IfErr r (IsReadOut left) → OnOk r (Writes text known old new) →
    IfErr r (WriteFails text known old new) → Ran text (answer_status r) known left old new
ran text (Ok done) known left old new end out writes fails =
    record {
      done = λ e. (end, writes);
      failed = λ e. absurd (omega (arith, e));
      unreadable = λ e. absurd (omega (arith, e));
      never = λ e. omega (arith, e);
      few = omega arith;
    }
ran text (Err Read) known left old new end out writes fails =
    record {
      done = λ e. absurd (omega (arith, e));
      failed = λ e. inl fails;
      unreadable = λ e. absurd (omega (arith, e));
      never =
          λ e. omega (arith, e);
      few = omega arith;
    }
ran text (Err Write) known left old new end out writes fails =
    record {
      done = λ e. absurd (omega (arith, e));
      failed = λ e. inr fails;
      unreadable = λ e. absurd (omega (arith, e));
      never =
          λ e. omega (arith, e);
      few = omega arith;
    }
ran text (Err (Unreadable index fault)) known left old new end out writes fails =
    record {
      done = λ e. absurd (omega (arith, e));
      failed = λ e. absurd (omega (arith, e));
      unreadable =
          λ e. (out, fails.0, (fault, fails.1.1));
      never = λ e. omega (arith, e);
      few = omega arith;
    }
ran text (Err Memory) known left old new end out writes fails =
    record {
      done = λ e. absurd (omega (arith, e));
      failed = λ e. fails;
      unreadable = λ e. absurd (omega (arith, e));
      never =
          λ e. omega (arith, e);
      few = omega arith;
    }
ran text (Err Socket) known left old new end out writes fails = absurd fails
ran text (Err (Transfer why)) known left old new end out writes fails = absurd fails

-- the same over a file that is opened by its name
file_ran : (text : File → List ℕ) (status : ℕ) (known left old new : Option (List ℕ)) → Ran text status known left old new → FileRan text status known old new
file_ran text status known left old new ran =
    record {
      done = λ e. (ran.done e).1;
      failed = ran.failed;
      unreadable = λ e. ((ran.unreadable e).1, (ran.unreadable e).2);
      never = ran.never;
      few = ran.few;
    }

-- what a command of one input did that read the file of this name, as it was opened
pub ran_named : (text : File → List ℕ) (bytes_of : List ℕ → Option (List ℕ)) (name opened : List ℕ) (r : Result (Unit {0}) ToolFault) (had left old new : Option (List ℕ)) →
    had ≡ bytes_of opened → opened ≡ name → OnOk r (IsAtEnd left) → IfErr r (IsReadOut left) → OnOk r (Writes text had old new) →
    IfErr r (WriteFails text had old new) → FileRan text (answer_status r) (bytes_of name) old new
ran_named text bytes_of name opened r had left old new had-is opened-is end out writes fails =
    subst (λ (known : Option (List ℕ)). FileRan text (answer_status r) known old new) (had-is ∙ ap bytes_of opened-is)
    (file_ran text (answer_status r) had left old new (ran text r had left old new end out writes fails))
