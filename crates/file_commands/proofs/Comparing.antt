-- What `compare` did, by its result.
use Rattle.std.proofs.Common.{◌≡◌, ◌≢◌, ◌∙◌, ℕ, zero, suc, Bool, true, false, List, [], ◌∷◌, ◌++◌, Option, Result, Ok, Err, IfOk, IfErr, inl, inr, refl, sym, subst, arith}
use Rattle.std.specs.List.{flat_map}
use Rattle.tws_file.specs.declared.file_fault.FileFault.{FileFault}
use Rattle.command_line.specs.declared.tool_fault.ToolFault.{ToolFault}
use Rattle.command_line.specs.declared.tool_fault.ToolFault.TheVariants.{Read, Write, Unreadable, Memory, Socket, Transfer}
use Rattle.tws_file.specs.Text.{File}
use Rattle.tws_compare.specs.Compare.{rows_of}
use Rattle.tws_compare.specs.Counts.{counts_of}
use Rattle.tws_compare.specs.Lines.{counts_line, row_line}
use Rattle.command_line.proofs.Statuses.{at_zero}
use Rattle.file_commands.specs.Notes.{IsSayFault}
use Rattle.file_commands.proofs.Unsaid.{nothing_yet}
use Rattle.file_commands.specs.Compare.{AreTexts, Compares, ComparesFiles, ComparesInputs, CompareFails, FilesFail, compare_status, compared_text}

-- the inputs, and the output before and after
module _ (better : Bool) (mine theirs old new : Option (List ℕ)) where
  -- one of the inputs is unreadable
  blamed : (index : ℕ) (fault : FileFault) → CompareFails better mine theirs old new (Unreadable index fault) → ComparesInputs better mine theirs 3 old new
  blamed zero fault fails = record {
    done = λ e. absurd (omega (arith, e));
    other = λ e. absurd (omega (arith, e));
    failed = λ e. absurd (omega (arith, e));
    unreadable = λ e. (fails.0, inl (fault, fails.1));
    few = omega arith;
  }
  blamed (suc zero) fault fails = record {
    done = λ e. absurd (omega (arith, e));
    other = λ e. absurd (omega (arith, e));
    failed = λ e. absurd (omega (arith, e));
    unreadable = λ e. (fails.0, inr (fault, fails.1.1));
    few = omega arith;
  }
  blamed (suc (suc n)) fault fails = absurd fails.1

  -- nothing was written, or not all
  unwritten : new ≡ old → ComparesInputs better mine theirs 2 old new
  unwritten same = record {
    done = λ e. absurd (omega (arith, e));
    other = λ e. absurd (omega (arith, e));
    failed = λ e. inl same;
    unreadable = λ e. absurd (omega (arith, e));
    few = omega arith;
  }

  -- two files that were read
  module _ (m t : File) (texts : AreTexts mine theirs m t) where
    pub files_compared : (r : Result Bool ToolFault) → IfOk r (ComparesFiles better m t old new) → IfOk r (Compares better mine theirs old new)
    files_compared (Ok same) compared = (m, t, texts, compared)
    files_compared (Err fault) compared = tt

    pub files_fail : (r : Result Bool ToolFault) → IfErr r (FilesFail better m t old new) → IfErr r (CompareFails better mine theirs old new)
    files_fail (Ok same) fails = tt
    files_fail (Err Read) fails = absurd fails
    files_fail (Err Write) fails = (m, t, texts, fails)
    files_fail (Err (Unreadable index fault)) fails = absurd fails
    files_fail (Err Memory) fails = fails
    files_fail (Err Socket) fails = absurd fails
    files_fail (Err (Transfer why)) fails = absurd fails

  pub compares_inputs : (r : Result Bool ToolFault) → IfOk r (Compares better mine theirs old new) → IfErr r (CompareFails better mine theirs old new) →
      ComparesInputs better mine theirs (compare_status r) old new
  compares_inputs (Ok true) compared fails = record {
    done = λ e. compared;
    other = λ e. absurd (omega (arith, e));
    failed = λ e. absurd (omega (arith, e));
    unreadable = λ e. absurd (omega (arith, e));
    few = omega arith;
  }
  compares_inputs (Ok false) compared fails = record {
    done = λ e. absurd (omega (arith, e));
    other = λ e. compared;
    failed = λ e. absurd (omega (arith, e));
    unreadable = λ e. absurd (omega (arith, e));
    few = omega arith;
  }
  compares_inputs (Err Read) compared fails = unwritten fails
  compares_inputs (Err Write) compared fails = record {
    done = λ e. absurd (omega (arith, e));
    other = λ e. absurd (omega (arith, e));
    failed = λ e. inr fails;
    unreadable = λ e. absurd (omega (arith, e));
    few = omega arith;
  }
  compares_inputs (Err (Unreadable index fault)) compared fails = blamed index fault fails
  compares_inputs (Err Memory) compared fails = unwritten fails
  compares_inputs (Err Socket) compared fails = absurd fails
  compares_inputs (Err (Transfer why)) compared fails = absurd fails

-- ---- what was said

last_some : (xs ys : List ℕ) → ys ≢ [] → xs ++ ys ≢ []
last_some [] ys some = some
last_some (x ∷ xs) ys some = λ none. absurd cc

-- what is written of two files has a byte
compared_some : (better : Bool) (m t : File) → compared_text better m t ≢ []
compared_some false m t = last_some (flat_map row_line (rows_of m t)) (counts_line (counts_of (rows_of m t))) (λ none. absurd cc)
compared_some true m t = λ none. absurd cc

-- what was to be said of two files was not
pub compare_unsaid : (better : Bool) (mine theirs old : Option (List ℕ)) (m t : File) → AreTexts mine theirs m t → (e : ToolFault) → IsSayFault e → CompareFails better mine theirs old old e
compare_unsaid better mine theirs old m t texts Read fails = absurd fails
compare_unsaid better mine theirs old m t texts Write fails = (m, t, texts, nothing_yet old (compared_text better m t) (compared_some better m t))
compare_unsaid better mine theirs old m t texts (Unreadable index fault) fails = absurd fails
compare_unsaid better mine theirs old m t texts Memory fails = refl
compare_unsaid better mine theirs old m t texts Socket fails = absurd fails
compare_unsaid better mine theirs old m t texts (Transfer why) fails = absurd fails

-- it was said, whatever came of them
pub said_before : {P : Type 0} (r : Result Bool ToolFault) → P → IfOk r (λ (same : Bool). same ≡ true → P)
said_before (Ok same) p = λ is. p
said_before (Err e) p = tt

-- it is still so at status 0 if the report of the end says nothing
pub still_said : {E : Type 0} (P : E → Type 0) (left new : E) (r : Result Bool ToolFault) (status : ℕ) → status ≡ compare_status r → IfOk r (λ (same : Bool). same ≡ true → P left) →
    (status ≡ 0 → new ≡ left) → status ≡ 0 → P new
still_said P left new (Ok true) status is said silent none = subst P (sym (silent none)) (said refl)
still_said P left new (Ok false) status is said silent none = absurd (omega (arith, is, none))
still_said P left new (Err e) status is said silent none = at_zero (Err e) tt (sym is ∙ none)
