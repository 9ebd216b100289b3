-- What `show` is asked for, and how it writes several files one after another.
use Rattle.std.proofs.Common.{◌≡◌, ◌≢◌, ℕ, ◌+◌, ◌<◌, ◌≤◌, List, [], ◌∷◌, ◌++◌, length, drop, get_or, min, Option, refl, ap, sym, subst, ◌∙◌, arith, codes, inr, length-drop}
use Rattle.std.specs.List.{flat_map, zip}
use Rattle.std.specs.Io.KnownBytes.{Appends}
use Rattle.std.proofs.lemmas.List.{drop_more}
use Rattle.clap.specs.Words.{Text}
use Rattle.tws_file.specs.Text.{File}
use Rattle.tws_file.specs.Words.{line}
use Rattle.byte_output.specs.Output.{AppendsPrefix, Sends}
use Rattle.byte_output.proofs.Sending.{Appends-nil, Appends-then, Sends-none, Sends-then, all_sent, prefix_more, prefix_then}
use Rattle.command_line.specs.declared.source.Source.{Source}
use Rattle.command_line.specs.declared.source.Source.TheVariants.{Standard}
use Rattle.command_line.specs.Arguments.{AreSources}
use Rattle.show_commands.specs.declared.show.ShowArguments.{ShowArguments}
use Rattle.byte_output.specs.declared.out_fault.OutFault.{OutFault}
use Rattle.byte_output.specs.declared.out_fault.OutFault.TheVariants as out
use Rattle.command_line.specs.Faults.{written_fault}
use Rattle.show_commands.specs.SeveralInputs.{AreFiles, FilesFail, FilesRanFrom}
use Rattle.show_commands.specs.Written.{RanFrom}
use Rattle.show_commands.specs.Show.{AreShown, ShowPrefix, ShowRanFrom, ShowWrites, files_text, later_text, shown_text}

-- ---- the inputs

-- some input was named
pub some_shown : (names : List Text) (sources : List Source) → length sources ≢ 0 → AreSources names sources → AreShown names sources
some_shown [] [] some are = absurd (some refl)
some_shown [] (source ∷ sources) some are = absurd are
some_shown (name ∷ names) sources some are = are

-- no input was named
pub none_shown : (names : List Text) (sources after : List Source) → length sources ≡ 0 → AreSources names sources → after ≡ sources ++ Standard ∷ [] → AreShown names after
none_shown [] [] after none are is = is
none_shown [] (source ∷ sources) after none are is = absurd are
none_shown (name ∷ names) [] after none are is = absurd are
none_shown (name ∷ names) (source ∷ sources) after none are is = absurd (omega (arith, none))

module _ (arguments : ShowArguments) (bytes_of : List ℕ → Option (List ℕ)) (Unread : Type 0) (status : ℕ) (known left old new : Option (List ℕ)) where
  -- one input is shown as a command of one input does it
  pub one_ran : (sources : List Source) → length sources ≡ 1 → (source : Source) → source ≡ get_or sources 0 source →
      RanFrom source bytes_of Unread (shown_text arguments) status known left old new → ShowRanFrom sources bytes_of Unread arguments status known left old new
  one_ran [] one source is ran = absurd (omega (arith, one))
  one_ran (s ∷ []) one source is ran = subst (λ (x : Source). RanFrom x bytes_of Unread (shown_text arguments) status known left old new) is ran
  one_ran (s ∷ t ∷ sources) one source is ran = absurd (omega (arith, one))

  -- not one input
  pub several_ran : (sources : List Source) → length sources ≢ 1 →
      FilesRanFrom sources bytes_of Unread (ShowWrites arguments) (ShowPrefix arguments) status known left old new → ShowRanFrom sources bytes_of Unread arguments status known left old new
  several_ran [] several ran = ran
  several_ran (s ∷ []) several ran = absurd (several refl)
  several_ran (s ∷ t ∷ sources) several ran = ran

-- ---- a line with a name, and a text

-- nothing of them is written
pub line_unwritten : (old : Option (List ℕ)) (name text : List ℕ) → AppendsPrefix old old (line (codes "file " ++ name) ++ text)
line_unwritten old name text = record { rest = line (codes "file " ++ name) ++ text; some = λ none. absurd cc; sends = Sends-none old (line (codes "file " ++ name) ++ text) }

-- both are written
pub both_written : (old mid new : Option (List ℕ)) (first second written : List ℕ) → written ≡ first → Appends old mid written → Appends mid new second → Appends old new (first ++ second)
both_written old mid new first second written is one two = subst (λ (x : List ℕ). Appends old new (x ++ second)) is (Appends-then old mid new written second one two)

-- ---- a text for each pair

short_zip : {A B : Type 0} (xs : List A) (ys : List B) → min (length xs) (length ys) ≡ 0 → zip xs ys ≡ []
short_zip [] ys none = refl
short_zip (x ∷ xs) [] none = refl
short_zip (x ∷ xs) (y ∷ ys) none = absurd (omega (arith, none))

module _ {A B : Type 0} (text : A × B → List ℕ) (xs : List A) (ys : List B) where
  -- the texts of the pairs from index i on
  abbrev pub texts_from : ℕ → List ℕ
  texts_from i = flat_map text (zip (drop i xs) (drop i ys))

  module _ (all : List ℕ) where
    -- past the end of one list there are none
    pub all_written : (old new : Option (List ℕ)) (i : ℕ) → min (length xs) (length ys) ≤ i → Sends old new all (texts_from i) → Appends old new all
    all_written old new i end so_far =
        let none : texts_from i ≡ [] = ap (flat_map text) (short_zip (drop i xs) (drop i ys) (omega (arith, end, length-drop i xs, length-drop i ys))) in
        all_sent old new new all (texts_from i) so_far (subst (Appends new new) (sym none) (Appends-nil new))

    module _ (old mid new : Option (List ℕ)) (i : ℕ) (x : A) (y : B) (first : i < length xs) (second : i < length ys) (x-is : x ≡ get_or xs i x) (y-is : y ≡ get_or ys i y) (so_far : Sends old mid all (texts_from i)) where
      -- the text of the pair at index i, and then the others
      texts_more : texts_from i ≡ text (x, y) ++ texts_from (i + 1)
      texts_more =
          let heads : zip (drop i xs) (drop i ys) ≡ zip (get_or xs i x ∷ drop (i + 1) xs) (get_or ys i y ∷ drop (i + 1) ys) =
          ap (λ (firsts : List A). zip firsts (drop i ys)) (drop_more xs i x first) ∙ ap (λ (seconds : List B). zip (get_or xs i x ∷ drop (i + 1) xs) seconds) (drop_more ys i y second) in
          ap (flat_map text) heads
          ∙ ap (λ (a : A). text (a, get_or ys i y) ++ texts_from (i + 1)) (sym x-is)
          ∙ ap (λ (b : B). text (x, b) ++ texts_from (i + 1)) (sym y-is)

      -- one more text is written
      pub one_more : Appends mid new (text (x, y)) → Sends old new all (texts_from (i + 1))
      one_more wrote = Sends-then old mid new all (texts_from i) so_far (texts_from (i + 1))
          (record { sent = text (x, y); cut = texts_more; appends = wrote })

      -- a proper prefix of the next text is written
      pub one_cut : AppendsPrefix mid new (text (x, y)) → AppendsPrefix old new all
      one_cut wrote = prefix_then old mid new all (texts_from i) so_far
          (subst (AppendsPrefix mid new) (sym texts_more) (prefix_more mid new (text (x, y)) wrote (texts_from (i + 1))))

-- ---- all files

-- no file is shown
pub no_text : (arguments : ShowArguments) (sources : List Source) (files : List File) → min (length sources) (length files) ≡ 0 → files_text arguments (zip sources files) ≡ []
no_text arguments sources files none = ap (files_text arguments) (short_zip sources files none)

module _ (arguments : ShowArguments) (sources : List Source) (files : List File) (file : File) (some : length sources ≢ 0) (also : length files ≢ 0) (file-is : file ≡ get_or files 0 file) where
  -- the text of the first file, and then those of the others
  first_text : files_text arguments (zip sources files) ≡ shown_text arguments file ++ texts_from (later_text arguments) sources files 1
  first_text = first_of sources files some also file-is
    where
      first_of : (ss : List Source) (fs : List File) → length ss ≢ 0 → length fs ≢ 0 → file ≡ get_or fs 0 file →
          files_text arguments (zip ss fs) ≡ shown_text arguments file ++ texts_from (later_text arguments) ss fs 1
      first_of [] fs none also is = absurd (none refl)
      first_of (s ∷ ss) [] none also is = absurd (also refl)
      first_of (s ∷ ss) (f ∷ fs) none also is = ap (λ (x : File). shown_text arguments x ++ flat_map (later_text arguments) (zip ss fs)) (sym is)

  module _ (old new : Option (List ℕ)) where
    pub first_written : Appends old new (shown_text arguments file) → Sends old new (files_text arguments (zip sources files)) (texts_from (later_text arguments) sources files 1)
    first_written wrote = record { sent = shown_text arguments file; cut = first_text; appends = wrote }

    pub first_cut : AppendsPrefix old new (shown_text arguments file) → AppendsPrefix old new (files_text arguments (zip sources files))
    first_cut wrote = subst (AppendsPrefix old new) (sym first_text) (prefix_more old new (shown_text arguments file) wrote (texts_from (later_text arguments) sources files 1))

module _ (arguments : ShowArguments) (knowns : List (Option (List ℕ))) (sources : List Source) (files : List File) (old new : Option (List ℕ)) (sources-are : sources ≡ arguments.files.items) (are : AreFiles knowns files) where
  same_text : files_text arguments (zip sources files) ≡ files_text arguments (zip arguments.files.items files)
  same_text = ap (λ (ss : List Source). files_text arguments (zip ss files)) sources-are

  -- the text of the files that were read was written
  pub shows_files : Appends old new (files_text arguments (zip sources files)) → ShowWrites arguments knowns old new
  shows_files wrote = (files, are, subst (Appends old new) same_text wrote)

  -- it was not written whole
  pub show_fails : (fault : OutFault) → AppendsPrefix old new (files_text arguments (zip sources files)) → FilesFail (ShowPrefix arguments knowns old new) knowns old new (written_fault fault)
  show_fails out.Io part = (files, are, subst (AppendsPrefix old new) same_text part)
  show_fails out.Memory part = inr (files, are, subst (AppendsPrefix old new) same_text part)
