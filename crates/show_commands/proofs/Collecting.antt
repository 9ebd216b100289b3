-- Inputs with known bytes, which are read in order, and what a command over them did, by its result.
use Rattle.std.proofs.Common.{◌≡◌, ℕ, zero, suc, ◌+◌, ◌<◌, List, [], ◌∷◌, ◌++◌, length, take, drop, get_or, slice_set, map, Option, Some, IfSome, Result, Ok, Err, OnOk, IfErr, inl, inr, refl, ap, sym, subst, ◌∙◌, arith, get_or-drop, drop-drop}
use Rattle.std.specs.List.{AllByRecursion}
use Rattle.std.proofs.Math.Seq.{take-length}
use Rattle.std.proofs.lemmas.List.{take_more, take_more_set, take-map, get_or-map, drop-set-lt, length-set, length-map, map-append}
use Rattle.std.specs.Io.KnownBytes.{IsAtEnd}
use Rattle.byte_output.proofs.Lists.{at_some, all_append}
use Rattle.tws_file.specs.Text.{File, IsText, IsReadable}
use Rattle.tws_file.specs.Fault.{HasFileFault}
use Rattle.command_line.specs.declared.tool_fault.ToolFault.{ToolFault}
use Rattle.command_line.specs.declared.tool_fault.ToolFault.TheVariants.{Read, Write, Unreadable, Memory, Socket, Transfer}
use Rattle.command_line.specs.Faults.{ReadFails, IsReadOut, answer_status}
use Rattle.show_commands.specs.SeveralInputs.{AreFiles, AreReported, CollectFails, IsFirstUnreadable, AreReadOut, FilesFail, FilesRan}

-- ---- what is known

-- the last of what is known, and the rest
pub reported_split : (knowns : List (Option (List ℕ))) (known : Option (List ℕ)) (texts : List (List ℕ)) → AreReported (knowns ++ known ∷ []) texts
    → (front : List (List ℕ)) × (last : List ℕ) × (texts ≡ front ++ last ∷ []) × AreReported knowns front × (known ≡ Some last)
reported_split [] known [] reported = absurd reported
reported_split [] known (t ∷ []) reported = ([], t, refl, tt, reported.0)
reported_split [] known (t ∷ u ∷ texts) reported = absurd reported.1
reported_split (k ∷ knowns) known [] reported = absurd reported
reported_split (k ∷ knowns) known (t ∷ texts) reported =
    let rest = reported_split knowns known texts reported.1 in
    (t ∷ rest.0, rest.1, ap (λ (xs : List (List ℕ)). t ∷ xs) rest.2, (reported.0, rest.3), rest.4)

-- the first i inputs have the first i texts
reported_take : (i : ℕ) (knowns : List (Option (List ℕ))) (texts : List (List ℕ)) → AreReported knowns texts → AreReported (take i knowns) (take i texts)
reported_take zero knowns texts reported = tt
reported_take (suc i) [] [] reported = tt
reported_take (suc i) [] (t ∷ texts) reported = absurd reported
reported_take (suc i) (k ∷ knowns) [] reported = absurd reported
reported_take (suc i) (k ∷ knowns) (t ∷ texts) reported = (reported.0, reported_take i knowns texts reported.1)

reported_length : (knowns : List (Option (List ℕ))) (texts : List (List ℕ)) → AreReported knowns texts → length knowns ≡ length texts
reported_length [] [] reported = refl
reported_length [] (t ∷ texts) reported = absurd reported
reported_length (k ∷ knowns) [] reported = absurd reported
reported_length (k ∷ knowns) (t ∷ texts) reported = ap suc (reported_length knowns texts reported.1)

-- the input at an index has the text at that index
reported_at : (knowns : List (Option (List ℕ))) (texts : List (List ℕ)) (i : ℕ) (k : Option (List ℕ)) → AreReported knowns texts → i < length knowns → get_or knowns i k ≡ Some (get_or texts i [])
reported_at [] texts i k reported inside = absurd (omega arith)
reported_at (x ∷ knowns) [] i k reported inside = absurd reported
reported_at (x ∷ knowns) (t ∷ texts) zero k reported inside = reported.0
reported_at (x ∷ knowns) (t ∷ texts) (suc i) k reported inside = reported_at knowns texts i k reported.1 (omega (arith, inside))

-- ---- lists of inputs

-- the loop over the inputs has come to the one at `i`, which is as it was before the loop
module _ {R : Type 0} (reported : R → Option (List ℕ)) (now old : List R) (i : ℕ) (x : R) (others : drop i now ≡ drop i old) (inside : i < length old) (x-is : x ≡ get_or now i x) where
  -- that input is the one of the list before the loop
  still : x ≡ get_or old i x
  still =
      let at : i ≡ i + 0 = omega arith in
      x-is ∙ ap (λ (n : ℕ). get_or now n x) at ∙ sym (get_or-drop i now 0 x) ∙ ap (λ (rs : List R). get_or rs 0 x) others ∙ get_or-drop i old 0 x ∙ ap (λ (n : ℕ). get_or old n x) (sym at)

  -- what is known of the first inputs, and of the next one
  pub known_more : map reported (take (i + 1) old) ≡ map reported (take i old) ++ reported x ∷ []
  known_more =
      ap (map reported) (take_more old i x inside ∙ ap (λ (y : R). take i old ++ y ∷ []) (sym still))
      ∙ map-append reported (take i old) (x ∷ [])

  -- the input fails, and those before it are readable
  pub input_fails : (e : ToolFault) → ((texts : List (List ℕ)) → AreReported (map reported (take i old)) texts → AllByRecursion IsReadable texts) → ReadFails i (reported x) e → CollectFails (map reported old) e
  input_fails Read readable fails = tt
  input_fails Write readable fails = absurd fails
  input_fails (Unreadable index fault) readable fails = λ texts are.
      let size = reported_length (map reported old) texts are in
      let same = reported_at (map reported old) texts i (reported x) are (omega (arith, inside, length-map old reported)) in
      let this : reported x ≡ Some (get_or texts i []) = ap reported still ∙ sym (get_or-map reported old i x (reported x) inside) ∙ same in
      let front = subst (λ (ks : List (Option (List ℕ))). AreReported ks (take i texts)) (take-map reported i old) (reported_take i (map reported old) texts are) in
      subst (λ (n : ℕ). IsFirstUnreadable texts n fault) (sym fails.0) (record {
        within = omega (arith, inside, size, length-map old reported);
        before = readable (take i texts) front;
        has_fault = at_some (λ (bytes : List ℕ). HasFileFault bytes fault) (reported x) (get_or texts i []) this fails.1;
      })
  input_fails Memory readable fails = tt
  input_fails Socket readable fails = absurd fails
  input_fails (Transfer why) readable fails = absurd fails

-- ---- an input that was read

pub set_count : {R : Type 0} (now old : List R) (i : ℕ) (y : R) → length now ≡ length old → length (slice_set now i y) ≡ length old
set_count now old i y count = length-set now i y ∙ count

-- writing an input back leaves the inputs after it
pub others_stay : {R : Type 0} (now old : List R) (i : ℕ) (y : R) → drop i now ≡ drop i old → drop (i + 1) (slice_set now i y) ≡ drop (i + 1) old
others_stay now old i y others =
    drop-set-lt (i + 1) now i y (omega arith) ∙ sym (drop-drop 1 i now) ∙ ap (drop 1) others ∙ drop-drop 1 i old

-- once it is read to its end, so are the inputs up to it
pub one_more_ended : {R : Type 0} (reported : R → Option (List ℕ)) (now : List R) (i : ℕ) (y : R) → i < length now →
    AllByRecursion (λ (r : R). IsAtEnd (reported r)) (take i now) → IsAtEnd (reported y) →
    AllByRecursion (λ (r : R). IsAtEnd (reported r)) (take (i + 1) (slice_set now i y))
one_more_ended {R} reported now i y inside ended last =
    subst (AllByRecursion (λ (r : R). IsAtEnd (reported r))) (sym (take_more_set now i y inside)) (all_append (λ (r : R). IsAtEnd (reported r)) (take i now) (y ∷ []) ended (last, tt))

-- the inputs up to one that fails
pub read_out : {R : Type 0} (reported : R → Option (List ℕ)) (now : List R) (i : ℕ) (y : R) (known : Option (List ℕ))
    (e : ToolFault) → i < length now → AllByRecursion (λ (r : R). IsAtEnd (reported r)) (take i now) → ReadFails i known e →
    IsReadOut (reported y) e → AreReadOut reported (slice_set now i y) e
read_out reported now i y known Read inside ended fails out = tt
read_out reported now i y known Write inside ended fails out = tt
read_out {R} reported now i y known (Unreadable index fault) inside ended fails out =
    subst (λ (n : ℕ). AllByRecursion (λ (r : R). IsAtEnd (reported r)) (take (n + 1) (slice_set now i y))) (sym fails.0) (one_more_ended reported now i y inside ended out)
read_out reported now i y known Memory inside ended fails out = tt
read_out reported now i y known Socket inside ended fails out = tt
read_out reported now i y known (Transfer why) inside ended fails out = tt

-- ---- the files that were read

more_files : (knowns : List (Option (List ℕ))) (files : List File) (known : Option (List ℕ)) (file : File) → AreFiles knowns files
    → IfSome known (λ (bytes : List ℕ). IsText bytes file) → AreFiles (knowns ++ known ∷ []) (files ++ file ∷ [])
more_files [] [] known file are text = (text, tt)
more_files [] (f ∷ files) known file are text = absurd are
more_files (k ∷ knowns) [] known file are text = absurd are
more_files (k ∷ knowns) (f ∷ files) known file are text = (are.0, more_files knowns files known file are.1 text)

-- one more input, from which a file was read
pub files_more : (knowns : List (Option (List ℕ))) (files after : List File) (known : Option (List ℕ)) (file : File) → AreFiles knowns files
    → IfSome known (λ (bytes : List ℕ). IsText bytes file) → after ≡ files ++ file ∷ [] → AreFiles (knowns ++ known ∷ []) after
files_more knowns files after known file are text after-is = rw after-is (more_files knowns files known file are text)

-- the inputs are texts of files
pub are_readable : (knowns : List (Option (List ℕ))) (files : List File) (texts : List (List ℕ)) → AreFiles knowns files → AreReported knowns texts → AllByRecursion IsReadable texts
are_readable [] [] [] are reported = tt
are_readable [] [] (t ∷ texts) are reported = absurd reported
are_readable [] (f ∷ files) texts are reported = absurd are
are_readable (k ∷ knowns) [] texts are reported = absurd are
are_readable (k ∷ knowns) (f ∷ files) [] are reported = absurd reported
are_readable (k ∷ knowns) (f ∷ files) (t ∷ texts) are reported =
    ((f, at_some (λ (bytes : List ℕ). IsText bytes f) k t reported.0 are.0), are_readable knowns files texts are.1 reported.1)

-- all inputs were read
pub all_files : (R : Type 0) (reported : R → Option (List ℕ)) (inputs : List R) (i : ℕ) (files : List File) →
    i ≡ length inputs → AreFiles (map reported (take i inputs)) files → AreFiles (map reported inputs) files
all_files R reported inputs i files end so_far =
    subst (λ (xs : List R). AreFiles (map reported xs) files) (ap (λ (n : ℕ). take n inputs) end ∙ take-length inputs) so_far

-- ---- by the exit status

-- what a command over several inputs did
pub files_ran : (Whole Prefix : Type 0) (knowns : List (Option (List ℕ))) (r : Result (Unit {0}) ToolFault)
    (old new : Option (List ℕ)) → OnOk r Whole → IfErr r (FilesFail Prefix knowns old new) → FilesRan Whole Prefix knowns (answer_status r) old new
files_ran Whole Prefix knowns (Ok done) old new writes fails =
    record {
      done = λ e. writes;
      failed = λ e. absurd (omega (arith, e));
      unreadable = λ e. absurd (omega (arith, e));
      never =
          λ e. omega (arith, e);
      few = omega arith;
    }
files_ran Whole Prefix knowns (Err Read) old new writes fails =
    record {
      done = λ e. absurd (omega (arith, e));
      failed = λ e. inl fails;
      unreadable = λ e. absurd (omega (arith, e));
      never =
          λ e. omega (arith, e);
      few = omega arith;
    }
files_ran Whole Prefix knowns (Err Write) old new writes fails =
    record {
      done = λ e. absurd (omega (arith, e));
      failed = λ e. inr fails;
      unreadable = λ e. absurd (omega (arith, e));
      never =
          λ e. omega (arith, e);
      few = omega arith;
    }
files_ran Whole Prefix knowns (Err (Unreadable index fault)) old new writes fails =
    record {
      done = λ e. absurd (omega (arith, e));
      failed = λ e. absurd (omega (arith, e));
      unreadable =
          λ e. (fails.0, (index, fault, fails.1));
      never = λ e. omega (arith, e);
      few = omega arith;
    }
files_ran Whole Prefix knowns (Err Memory) old new writes fails =
    record {
      done = λ e. absurd (omega (arith, e));
      failed = λ e. fails;
      unreadable = λ e. absurd (omega (arith, e));
      never =
          λ e. omega (arith, e);
      few = omega arith;
    }
files_ran Whole Prefix knowns (Err Socket) old new writes fails = absurd fails
files_ran Whole Prefix knowns (Err (Transfer why)) old new writes fails = absurd fails
