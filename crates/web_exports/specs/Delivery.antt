-- What a call leaves in the host's memory.
use Rattle.std.specs.Prelude.{◌≡◌, ◌≢◌, ℕ, ◌≤◌, List, length, take}
use Rattle.web_answers.specs.declared.web_fault.WebFault.{WebFault}
use Rattle.web_answers.specs.Answers.{words_of}

-- Why there is no answer is at the front of the room, in words.
abbrev pub Explains : (IsFault : WebFault → Type 0) → (room : List ℕ) (len : ℕ) → Type 0
Explains IsFault room len = (fault : WebFault) × IsFault fault × (take len room ≡ words_of fault)

-- The status that a call returned, the room before and after, and the length that it said. `IsAnswer` says what an answer
-- is, and `IsFault` when a fault comes.
pub record Delivers (IsAnswer : List ℕ → Type 0) (IsFault : WebFault → Type 0) (status : ℕ) (old new : List ℕ) (len : ℕ) : Type 0 where
  pub done : status ≡ 0 → IsAnswer (take len new)
  pub failed : status ≡ 1 → Explains IsFault new len
  -- there was no room
  pub unwritten : status ≡ 2 → new ≡ old
  pub fits : status ≢ 2 → len ≤ length new
  pub few : status ≤ 2
