-- A text of a head, rows and an end, gathered part by part and written as it grows large.
use Rattle.std.proofs.Common.{◌≡◌, ◌≢◌, ℕ, ◌∷◌, List, [], ◌++◌, Option, ap, subst, ◌∙◌, append_assoc, append-nil}
use Rattle.std.specs.List.{flat_map}
use Rattle.std.proofs.lemmas.List.Concat.{flat_map-append}
use Rattle.tws_file.specs.declared.«ruleset».Ruleset.{Ruleset}
use Rattle.tws_file.specs.Text.{File}
use Rattle.byte_output.specs.Output.{Sends, AppendsPrefix}
use Rattle.byte_output.proofs.Sending.{Sends-none, Sends-push, prefix_more, prefix_sent}
use Rattle.tws_pages.specs.Page.{page_end, section_head, section_of, table_end}

-- ---- with an end

module _ (old new : Option (List ℕ)) (start head rows last pushed : List ℕ) (pushed-is : pushed ≡ start ++ head) where
  whole-is : pushed ++ rows ++ last ≡ start ++ (head ++ rows ++ last)
  whole-is =
      ap (λ (x : List ℕ). x ++ rows ++ last) pushed-is ∙ ap (λ (x : List ℕ). x ++ last) (append_assoc start head rows) ∙
      append_assoc start (head ++ rows) last

  -- nothing was written
  pub none_written : last ≢ [] → AppendsPrefix old old (start ++ (head ++ rows ++ last))
  none_written some =
      subst (λ (x : List ℕ). AppendsPrefix old old x) (append_assoc start (head ++ rows) last)
      (prefix_sent old old old (start ++ (head ++ rows)) (start ++ (head ++ rows)) (Sends-none old (start ++ (head ++ rows))) last some)

  -- the rows were not gathered
  pub rows_failed : AppendsPrefix old new (pushed ++ rows) → AppendsPrefix old new (start ++ (head ++ rows ++ last))
  rows_failed p = subst (λ (x : List ℕ). AppendsPrefix old new x) whole-is (prefix_more old new (pushed ++ rows) p last)

  module _ (left : List ℕ) (sends : Sends old new (pushed ++ rows) left) where
    -- the end was not gathered
    pub last_failed : last ≢ [] → AppendsPrefix old new (start ++ (head ++ rows ++ last))
    last_failed some = subst (λ (x : List ℕ). AppendsPrefix old new x) whole-is (prefix_sent old new new (pushed ++ rows) left sends last some)

    -- it was gathered too
    pub all_gathered : (text : List ℕ) → text ≡ left ++ last → Sends old new (start ++ (head ++ rows ++ last)) text
    all_gathered text text-is = rw (text-is, ← whole-is) (Sends-push old new new (pushed ++ rows) left sends last)

-- ---- from an empty text on

module _ (old new : Option (List ℕ)) (empty text : List ℕ) (empty-is : empty ≡ []) where
  pub prefix_from_empty : AppendsPrefix old new (empty ++ text) → AppendsPrefix old new text
  prefix_from_empty p = subst (λ (x : List ℕ). AppendsPrefix old new (x ++ text)) empty-is p

  pub sends_from_empty : (left : List ℕ) → Sends old new (empty ++ text) left → Sends old new text left
  sends_from_empty left s = subst (λ (x : List ℕ). Sends old new (x ++ text) left) empty-is s

-- ---- parts that are not empty

pub table_end_some : table_end ≢ []
unfolding table_end
table_end_some none = absurd cc

pub page_end_some : page_end ≢ []
unfolding page_end
page_end_some none = absurd cc

-- ---- sections

-- the head was gathered, with this name and these counts
pub head_counted : (rules : Ruleset) (start pushed : List ℕ) (name named : Option (List ℕ)) (solutions ticks m n : ℕ) → name ≡ named → solutions ≡ m → ticks ≡ n
    → pushed ≡ start ++ section_head rules name solutions ticks → pushed ≡ start ++ section_head rules named m n
head_counted rules start pushed name named solutions ticks m n name-is solutions-is ticks-is pushed-is = rw (← name-is, ← solutions-is, ← ticks-is) pushed-is

-- the sections of these files
abbrev pub of_files : List File → List ℕ
of_files files = flat_map section_of files

pub of_files-append : (xs ys : List File) → of_files (xs ++ ys) ≡ of_files xs ++ of_files ys
of_files-append xs ys = flat_map-append section_of xs ys

pub of_files-one : (file : File) → of_files (file ∷ []) ≡ section_of file
of_files-one file = append-nil (section_of file)
