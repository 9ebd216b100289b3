-- How the bytes of an input are taken as they come.
use Rattle.std.proofs.Common.{◌≡◌, ◌≢◌, ◌⊎◌, ℕ, ◌+◌, ◌≤◌, ◌<◌, List, [], ◌++◌, length, Option, None, Some, IfSome, refl, sym, subst, arith, inr, ⊎_elim, length-append}
use Rattle.std.specs.Io.KnownBytes.{Consumes}
use Rattle.tws_file.specs.declared.file_fault.FileFault.{FileFault}
use Rattle.tws_file.specs.declared.file_fault.FileFault.TheVariants as file
use Rattle.tws_file.specs.Text.{File, Record}
use Rattle.tws_file.specs.Fault.{HasFileFault, IsLasting}
use Rattle.tws_reader.specs.PartReader.{FailsPart, HasRead, PartReading}
use Rattle.tws_reader.specs.Steps.{IsLeft, file_so_far}
use Rattle.tws_reader.proofs.InParts.{read_none, read_some}
use Rattle.tws_reader.proofs.Lasting.{lasting-append}
use Rattle.tws_reader.proofs.ReadSoFar.{no_lasting}
use Rattle.tftp_ends.specs.declared.limits.TheConstants.{MAX_FILE}
use Rattle.command_line.specs.declared.limits.TheConstants.{INPUT_PIECE}
use Rattle.command_line.specs.declared.tool_fault.ToolFault.{ToolFault}
use Rattle.command_line.specs.declared.tool_fault.ToolFault.TheVariants.{Read, Write, Unreadable, Memory, Socket, Transfer}
use Rattle.command_line.specs.Faults.{input_fault}
use Rattle.command_line.specs.Reading.{RefusesPiece, TakesAll}
use Rattle.archive_commands.specs.Put.{IsLong, IsReadUp, IsSound, ReadsAtMost, RefusesBytes, WholeFails}

-- ---- a piece

left_so_far : (head : Option File) (records : List Record) (rest : List ℕ) → IsLeft head rest → IsLeft (file_so_far head records) rest
left_so_far None records rest left = left
left_so_far (Some head) records rest left = left

-- a reader without a fault has read sound bytes
pub sound_bytes : (p : PartReading) (records : List Record) (bytes : List ℕ) → p.fault ≡ None → HasRead p records bytes → IsSound bytes
sound_bytes p records bytes none h =
    let to = read_none p records bytes none h in
    λ e lasts fault.
    no_lasting (file_so_far p.head records) p.rest p.offset to.at (left_so_far p.head records p.rest to.left) e lasts
    (subst (λ (xs : List ℕ). HasFileFault xs e) (sym to.text) fault)

-- the fault of a piece that is refused, unless memory ran out, is one of the bytes that lasts
module _ (p new : PartReading) (records : List Record) (bytes piece : List ℕ) (read : HasRead p records bytes) where
  lasts_in : (fault : FileFault) → FailsPart p piece new fault → IsLasting fault × HasFileFault (bytes ++ piece) fault
  lasts_in fault fails = read_some new (records ++ []) (bytes ++ piece) fault fails.kept (fails.hands_out records bytes read)

  refused_by : (fault : FileFault) → (fault ≢ file.Memory → FailsPart p piece new fault) → RefusesBytes (bytes ++ piece) (input_fault 0 fault)
  refused_by (file.ShortHeader n) fails = let lasts = lasts_in (file.ShortHeader n) (fails (λ is. absurd cc)) in (refl, lasts.0, lasts.1)
  refused_by file.BadSignature fails = let lasts = lasts_in file.BadSignature (fails (λ is. absurd cc)) in (refl, lasts.0, lasts.1)
  refused_by (file.BadRuleset code) fails = let lasts = lasts_in (file.BadRuleset code) (fails (λ is. absurd cc)) in (refl, lasts.0, lasts.1)
  refused_by (file.ShortRecord offset) fails = let lasts = lasts_in (file.ShortRecord offset) (fails (λ is. absurd cc)) in (refl, lasts.0, lasts.1)
  refused_by (file.BadSize offset) fails = let lasts = lasts_in (file.BadSize offset) (fails (λ is. absurd cc)) in (refl, lasts.0, lasts.1)
  refused_by (file.MoveCut place) fails = let lasts = lasts_in (file.MoveCut place) (fails (λ is. absurd cc)) in (refl, lasts.0, lasts.1)
  refused_by file.Memory fails = tt

  pub refused_push : (fault : FileFault) (e : ToolFault) → e ≡ input_fault 0 fault → (fault ≢ file.Memory → FailsPart p piece new fault) → RefusesBytes (bytes ++ piece) e
  refused_push fault e is fails = subst (RefusesBytes (bytes ++ piece)) (sym is) (refused_by fault fails)

-- ---- an input

-- a fault of the bytes that were read, which lasts, is one of the whole input
whole_fault : (old new : Option (List ℕ)) (begin : List ℕ) (fault : FileFault) → Consumes old new begin → IsLasting fault → HasFileFault begin fault →
    IfSome old (λ (bytes : List ℕ). HasFileFault bytes fault)
whole_fault None new begin fault consumed lasts is = tt
whole_fault (Some xs) None begin fault consumed lasts is = absurd consumed
whole_fault (Some xs) (Some ys) begin fault consumed lasts is = subst (λ (bytes : List ℕ). HasFileFault bytes fault) (sym consumed) (lasting-append begin ys fault lasts is)

-- sound bytes that are too many are the beginning of one that is too long
long_input : (old new : Option (List ℕ)) (begin : List ℕ) → Consumes old new begin → MAX_FILE < length begin → IsSound begin → IsLong old
long_input None new begin consumed long sound = tt
long_input (Some xs) None begin consumed long sound = absurd consumed
long_input (Some xs) (Some ys) begin consumed long sound = record { begin = begin; rest = ys; split = consumed; long = long; sound = sound }

-- what an input had and has left, and what its sink has taken
module _ {S : Type 0} (has_taken : S → List ℕ → Type 0) (old new : Option (List ℕ)) (sink : S)
    (has : (s : S) (bytes : List ℕ) → has_taken s bytes → (length bytes ≤ MAX_FILE) × IsSound bytes) where
  -- the reading of an input failed
  abbrev Fails : ToolFault → Type 0
  Fails e = ((e ≡ Read) × TakesAll has_taken old new sink) ⊎ RefusesPiece has_taken RefusesBytes old new e

  up_by : (e : ToolFault) → RefusesPiece has_taken RefusesBytes old new e → IsReadUp old new e
  up_by Read r = tt
  up_by Write r = tt
  up_by (Unreadable index fault) r = inr (record {
    bytes = r.bytes;
    piece = r.piece;
    small = r.small;
    consumed = r.consumed;
    sound = (has r.sink r.bytes r.taken).1;
    lasts = r.refused.1;
    is = r.refused.2;
  })
  up_by Memory r = tt
  up_by Socket r = tt
  up_by (Transfer why) r = tt

  whole_by : (e : ToolFault) → RefusesPiece has_taken RefusesBytes old new e → WholeFails old e
  whole_by Read r = tt
  whole_by Write r = r.refused
  whole_by (Unreadable index fault) r = (r.refused.0, whole_fault old new (r.bytes ++ r.piece) fault r.consumed r.refused.1 r.refused.2)
  whole_by Memory r = tt
  whole_by Socket r = r.refused
  whole_by (Transfer why) r = (r.refused.0, long_input old new (r.bytes ++ r.piece) r.consumed r.refused.1 r.refused.2)

  -- it was read up to there
  pub fails_up : (e : ToolFault) → Fails e → IsReadUp old new e
  fails_up e fails = ⊎_elim (λ broke. subst (IsReadUp old new) (sym broke.0) tt) (up_by e) fails

  -- for this reason
  pub fails_whole : (e : ToolFault) → Fails e → WholeFails old e
  fails_whole e fails = ⊎_elim (λ broke. subst (WholeFails old) (sym broke.0) tt) (whole_by e) fails

  -- and no further
  pub fails_most : (e : ToolFault) → Fails e → ReadsAtMost (MAX_FILE + INPUT_PIECE) old new
  fails_most e fails =
      ⊎_elim (λ broke. record { bytes = broke.1.bytes; consumed = broke.1.consumed; few = omega (arith, (has sink broke.1.bytes broke.1.taken).0) })
      (λ (r : RefusesPiece has_taken RefusesBytes old new e). record { bytes = r.bytes ++ r.piece; consumed = r.consumed; few = omega (arith, (has r.sink r.bytes r.taken).0, r.small, length-append r.bytes r.piece) })
      fails
