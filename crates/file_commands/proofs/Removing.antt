-- The file without a level, once it is written.
use Rattle.std.proofs.Common.{◌≡◌, ◌≢◌, ℕ, zero, suc, ◌+◌, ◌<◌, ◌≤◌, Bool, true, false, not, List, [], Option, None, Some, IfSome, length, refl, ap, subst, arith}
use Rattle.std.specs.Prelude.{count_by}
use Rattle.std.proofs.lemmas.List.Filters.{length-filter_both}
use Rattle.std.proofs.lemmas.List.Sums.{length-filter}
use Rattle.tws_file.specs.declared.key.Key.{Key}
use Rattle.tws_file.specs.Text.{File, IsText, Record, text_of}
use Rattle.tws_compare.specs.Without.{file_without, records_without, solves, text_without}
use Rattle.command_line.specs.Saying.{Says}
use Rattle.show_commands.specs.Saying.{SaysOf}
use Rattle.file_commands.specs.Notes.{unless}
use Rattle.file_commands.specs.Without.{count_note, no_solution, removal_note}

-- what was put is the text without the level of the file that was read
pub put_without : (Put : List ℕ → Type 0) (key : Key) (file left : File) (known : Option (List ℕ)) → IfSome known (λ (bytes : List ℕ). IsText bytes file) → left ≡ file_without key file → Put (text_of left) →
    IfSome known (λ (bytes : List ℕ). (read : File) × IsText bytes read × Put (text_without key read))
put_without Put key file left None text is put = tt
put_without Put key file left (Some bytes) text is put = (file, text, subst Put (ap text_of is) put)

-- its text has a byte
pub without_some : (key : Key) (file : File) → text_without key file ≢ []
without_some key file = λ none. absurd cc

-- ---- what was said

-- the records that were removed, and those that are left
removed_and_left : (key : Key) (rs : List Record) → length (records_without key rs) + count_by (solves key) rs ≡ length rs
removed_and_left key rs = omega (arith, length-filter_both (solves key) (λ (r : Record). not (solves key r)) (λ (r : Record). refl) rs, length-filter (solves key) rs)

-- none were removed exactly if no fewer are left
note_is : (key : Key) (b : Bool) (left all count : ℕ) → left + count ≡ all → (b ≡ true → left < all) → (b ≡ false → all ≤ left) → unless b (no_solution key) ≡ count_note count key
note_is key true left all zero sum fewer same = absurd (omega (arith, sum, fewer refl))
note_is key true left all (suc count) sum fewer same = refl
note_is key false left all zero sum fewer same = refl
note_is key false left all (suc count) sum fewer same = absurd (omega (arith, sum, same refl))

pub said_removal : (key : Key) (file left : File) (b : Bool) (Silent : Type 0) (known old new : Option (List ℕ)) → IfSome known (λ (bytes : List ℕ). IsText bytes file) → left ≡ file_without key file →
    (b ≡ true → length left.records < length file.records) → (b ≡ false → length file.records ≤ length left.records) →
    Says (unless b (no_solution key)) Silent old new → SaysOf (removal_note key) Silent known old new
said_removal key file left b Silent known old new text is fewer same said =
    let size : length left.records ≡ length (records_without key file.records) = ap (λ (f : File). length f.records) is in
    let sum : length left.records + count_by (solves key) file.records ≡ length file.records = omega (arith, size, removed_and_left key file.records) in
    (file, text, subst (λ (words : List ℕ). Says words Silent old new) (note_is key b (length left.records) (length file.records) (count_by (solves key) file.records) sum fewer same) said)
