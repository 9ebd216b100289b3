-- What a transfer printed, by its result.
use Rattle.std.proofs.Common.{◌≡◌, ◌≢◌, ◌≤◌, ℕ, List, Option, Some, None, Result, Ok, Err, OnOk, IfErr, refl, arith, inl}
use Rattle.command_line.specs.declared.tool_fault.ToolFault.{ToolFault}
use Rattle.command_line.specs.declared.tool_fault.ToolFault.TheVariants.{Read, Write, Unreadable, Memory, Socket, Transfer}
use Rattle.command_line.specs.Faults.{answer_status}
use Rattle.archive_commands.specs.Lines.{IsCutText, Says, Transfers, Unsaid}

-- ---- transfers

some_host : (host : ℕ) → Some host ≢ None
some_host host is = absurd cc

-- the output before and after
module _ (old new : Option (List ℕ)) where
  -- what a transfer printed at a status other than 1, if a host was found
  ended : (text : ℕ → List ℕ) (host status : ℕ) → status ≢ 1 → status ≤ 4 → (status ≡ 0 → Says text old new) → (status ≡ 2 → IsCutText text old new) → (status ≢ 0 → status ≢ 2 → new ≡ old)
      → Transfers (Some host) text status old new
  ended text host status found few done failed other =
      record { done = done; failed = failed; other = other; bad = (λ e. absurd (found e), λ none. absurd (some_host host none)); few = few }

  -- if it printed nothing
  silent : (text : ℕ → List ℕ) (host status : ℕ) → status ≢ 0 → status ≢ 1 → status ≤ 4 → new ≡ old → Transfers (Some host) text status old new
  silent text host status undone found few same = ended text host status found few (λ e. absurd (undone e)) (λ e. inl same) (λ a b. same)

  -- if its line was cut
  cut : (text : ℕ → List ℕ) (host : ℕ) → IsCutText text old new → Transfers (Some host) text 2 old new
  cut text host line = ended text host 2 (λ e. omega (arith, e)) (omega arith) (λ e. absurd (omega (arith, e))) (λ e. line) (λ a b. absurd (b refl))

  -- by its result
  pub transfers : (text : ℕ → List ℕ) (host : ℕ) (r : Result (Unit {0}) ToolFault) → OnOk r (Says text old new) → IfErr r (Unsaid text old new) →
      Transfers (Some host) text (answer_status r) old new
  transfers text host (Ok done) says unsaid =
      ended text host 0 (λ e. omega (arith, e)) (omega arith) (λ e. says) (λ e. absurd (omega (arith, e))) (λ a b. absurd (a refl))
  transfers text host (Err Read) says unsaid = silent text host 2 (λ e. omega (arith, e)) (λ e. omega (arith, e)) (omega arith) unsaid
  transfers text host (Err Write) says unsaid = cut text host unsaid
  transfers text host (Err (Unreadable index fault)) says unsaid = silent text host 3 (λ e. omega (arith, e)) (λ e. omega (arith, e)) (omega arith) unsaid
  transfers text host (Err Memory) says unsaid = cut text host unsaid
  transfers text host (Err Socket) says unsaid = silent text host 2 (λ e. omega (arith, e)) (λ e. omega (arith, e)) (omega arith) unsaid
  transfers text host (Err (Transfer why)) says unsaid = silent text host 4 (λ e. omega (arith, e)) (λ e. omega (arith, e)) (omega arith) unsaid

  -- what a transfer printed if no host was found: nothing, at status 1
  pub no_host : (text : ℕ → List ℕ) (status : ℕ) → status ≡ 1 → new ≡ old → Transfers None text status old new
  no_host text status one same =
      record {
        done = λ e. absurd (omega (arith, e, one));
        failed = λ e. absurd (omega (arith, e, one));
        other = λ a b. same;
        bad = (λ e. refl, λ n. one);
        few = omega (arith, one);
      }
