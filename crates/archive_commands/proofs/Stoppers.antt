-- The first solution of a file that stops Tile World, and the lines that name it.
use Rattle.std.proofs.Common.{◌≡◌, ◌∙◌, ◌<◌, ◌+◌, ℕ, Bool, List, [], ◌∷◌, ◌++◌, length, map, take, get_or, Option, None, Some, Ok, refl, sym, ap, subst, arith, append_assoc, append-nil}
use Rattle.std.specs.List.{AllZip}
use Rattle.std.proofs.lemmas.List.{map-append, take_more}
use Rattle.tws_file.specs.declared.key.Key.{Key}
use Rattle.tws_file.specs.Text.{Record}
use Rattle.tws_reader.specs.PartReader.{IsTextWith}
use Rattle.tws_reader.specs.Steps.{with_records}
use Rattle.tftp_packet.specs.declared.endpoint.Endpoint.{Endpoint}
use Rattle.archive_wire.specs.Wire.{Entry}
use Rattle.command_line.specs.declared.source.Source.{Source}
use Rattle.command_line.specs.Saying.{Says}
use Rattle.archive_commands.specs.Labels.{are_several, label_of}
use Rattle.archive_commands.specs.PutFiles.{AreRead, NotesStopping, SendsFiles, SendsSaid}
use Rattle.archive_commands.specs.PutSaid.{PutSaid}
use Rattle.archive_commands.specs.Stopping.{IsFirstStopping, first_key, first_stopping, stopping_key, stopping_line, stopping_lines}

-- ---- which one it is

first_key-assoc : (x y z : Option Key) → first_key (first_key x y) z ≡ first_key x (first_key y z)
first_key-assoc None y z = refl
first_key-assoc (Some key) y z = refl

first_key-none : (x : Option Key) → first_key x None ≡ x
first_key-none None = refl
first_key-none (Some key) = refl

pub first_stopping-append : (xs ys : List Record) → first_stopping (xs ++ ys) ≡ first_key (first_stopping xs) (first_stopping ys)
first_stopping-append [] ys = refl
first_stopping-append (x ∷ xs) ys = ap (first_key (stopping_key x)) (first_stopping-append xs ys) ∙ sym (first_key-assoc (stopping_key x) (first_stopping xs) (first_stopping ys))

-- after the records that a piece completes
pub first_pushed : (records pushed more : List Record) (found next : Option Key) → found ≡ first_stopping records → pushed ≡ more → next ≡ first_key found (first_stopping pushed) → next ≡ first_stopping (records ++ more)
first_pushed records pushed more found next found-is same next-is =
    next-is ∙ ap (λ (k : Option Key). first_key k (first_stopping pushed)) found-is ∙ ap (λ (rs : List Record). first_key (first_stopping records) (first_stopping rs)) same ∙ sym (first_stopping-append records more)

-- after one more record of a list
pub first_next : {T : Type 0} (record_of : T → Record) (items : List T) (i : ℕ) (item : T) (before found next : Option Key) → i < length items → item ≡ get_or items i item
    → found ≡ first_key before (first_stopping (map record_of (take i items))) → next ≡ first_key found (stopping_key (record_of item))
    → next ≡ first_key before (first_stopping (map record_of (take (i + 1) items)))
first_next {T} record_of items i item before found next inside is found-is next-is =
    let first : List Record = map record_of (take i items) in
    let key = stopping_key (record_of item) in
    let more : map record_of (take (i + 1) items) ≡ first ++ record_of item ∷ [] =
    ap (map record_of) (take_more items i item inside ∙ ap (λ (x : T). take i items ++ x ∷ []) (sym is)) ∙ map-append record_of (take i items) (item ∷ []) in
    let whole : first_stopping (map record_of (take (i + 1) items)) ≡ first_key (first_stopping first) key =
    ap first_stopping more ∙ first_stopping-append first (record_of item ∷ []) ∙ ap (first_key (first_stopping first)) (first_key-none key) in
    next-is ∙ ap (λ (k : Option Key). first_key k key) found-is ∙ first_key-assoc before (first_stopping first) key ∙ ap (first_key before) (sym whole)

-- that of a file whose records were handed out
pub first_of_text : (records : List Record) (bytes : List ℕ) (found : Option Key) → found ≡ first_stopping records → IsTextWith records bytes → IsFirstStopping bytes found
first_of_text records bytes found is with = record { file = with_records with.head records; text = with.text; first = is }

-- ---- the lines

-- a line of three parts, after a text
pub added_line : (text start label rest one two three : List ℕ) → one ≡ text ++ start → two ≡ one ++ label → three ≡ two ++ rest → three ≡ text ++ (start ++ (label ++ rest))
added_line text start label rest one two three p q r =
    r ∙ ap (λ (xs : List ℕ). xs ++ rest) (q ∙ ap (λ (xs : List ℕ). xs ++ label) p)
    ∙ append_assoc (text ++ start) label rest ∙ append_assoc text start (label ++ rest)

lines_snoc : (several : Bool) (sources : List Source) (source : Source) (texts : List (List ℕ)) (found : List (Option Key)) (one : Option Key) → length sources ≡ length texts → AllZip IsFirstStopping texts found
    → stopping_lines several (sources ++ source ∷ []) (found ++ one ∷ []) ≡ stopping_lines several sources found ++ stopping_line (label_of several source) one
lines_snoc several [] source [] [] one same all = append-nil (stopping_line (label_of several source) one)
lines_snoc several [] source [] (k ∷ found) one same all = absurd all
lines_snoc several [] source (t ∷ texts) found one same all = absurd (omega (arith, same))
lines_snoc several (s ∷ sources) source [] found one same all = absurd (omega (arith, same))
lines_snoc several (s ∷ sources) source (t ∷ texts) [] one same all = absurd all
lines_snoc several (s ∷ sources) source (t ∷ texts) (k ∷ found) one same all =
    ap (λ (xs : List ℕ). stopping_line (label_of several s) k ++ xs) (lines_snoc several sources source texts found one (omega (arith, same)) all.1)
    ∙ sym (append_assoc (stopping_line (label_of several s) k) (stopping_lines several sources found) (stopping_line (label_of several source) one))

zip_snoc : (texts : List (List ℕ)) (text : List ℕ) (found : List (Option Key)) (one : Option Key) → AllZip IsFirstStopping texts found → IsFirstStopping text one
    → AllZip IsFirstStopping (texts ++ text ∷ []) (found ++ one ∷ [])
zip_snoc [] text [] one all first = (first, tt)
zip_snoc [] text (k ∷ found) one all first = absurd all
zip_snoc (t ∷ texts) text [] one all first = absurd all
zip_snoc (t ∷ texts) text (k ∷ found) one all first = (all.0, zip_snoc texts text found one all.1 first)

-- after one more file of a loop over the files
pub notes_more : {T : Type 0} (items : T → List ℕ) (several : Bool) (sources : List Source) (i : ℕ) (source : Source) (texts after : List T) (text : T) (one : Option Key) (note now : List ℕ) → i < length sources → source ≡ get_or sources i source
    → length (take i sources) ≡ length (map items texts) → NotesStopping several (take i sources) (map items texts) note → IsFirstStopping (items text) one → after ≡ texts ++ text ∷ [] → now ≡ note ++ stopping_line (label_of several source) one
    → NotesStopping several (take (i + 1) sources) (map items after) now
notes_more {T} items several sources i source texts after text one note now inside is same notes first after-is now-is =
    let more : take (i + 1) sources ≡ take i sources ++ source ∷ [] = take_more sources i source inside ∙ ap (λ (x : Source). take i sources ++ x ∷ []) (sym is) in
    let ts : map items after ≡ map items texts ++ items text ∷ [] = ap (map items) after-is ∙ map-append items texts (text ∷ []) in
    record {
      found = notes.found ++ one ∷ [];
      first = subst (λ (xs : List (List ℕ)). AllZip IsFirstStopping xs (notes.found ++ one ∷ [])) (sym ts) (zip_snoc (map items texts) (items text) notes.found one notes.first first);
      note_is = now-is ∙ ap (λ (xs : List ℕ). xs ++ stopping_line (label_of several source) one) notes.note_is
          ∙ sym (lines_snoc several (take i sources) source (map items texts) notes.found one same notes.first) ∙ ap (λ (ss : List Source). stopping_lines several ss (notes.found ++ one ∷ [])) (sym more);
    }

-- as many files were read as there are texts
pub read_long : (bytes_of : List ℕ → Option (List ℕ)) (sources : List Source) (texts : List (List ℕ)) (given left : Option (List ℕ)) → AreRead bytes_of sources texts given left → length sources ≡ length texts
read_long bytes_of [] [] given left are = refl
read_long bytes_of [] (t ∷ texts) given left are = absurd are
read_long bytes_of (s ∷ sources) [] given left are = absurd are
read_long bytes_of (s ∷ sources) (t ∷ texts) given left are = omega (arith, read_long bytes_of sources texts are.0 left are.2)

pub notes_none : (several : Bool) → NotesStopping several [] [] []
notes_none several = record { found = []; first = tt; note_is = refl }

-- ---- the whole

-- what was said of the files that were read, and how they were sent; these are the sources of `put`, by another name
module _ (sources given_sources : List Source) (texts : List (List ℕ)) (note said : List ℕ) (same : sources ≡ given_sources) (said-is : said ≡ note) (notes : NotesStopping (are_several sources) sources texts note) where
  pub sends_files : (better : Bool) (to : Endpoint) (status : ℕ) (before after : Option (List Entry)) (old new : Option (List ℕ)) → SendsSaid better (are_several sources) said to sources texts status before after old new
      → SendsFiles better given_sources (Ok texts) to status before after old new
  sends_files better to status before after old new sends =
      subst (λ (ss : List Source). SendsFiles better ss (Ok texts) to status before after old new) same
      (said, record { found = notes.found; first = notes.first; note_is = said-is ∙ notes.note_is }, sends)

  pub put_said : {E : Type 0} (contents : E → Option (List ℕ)) (bytes_of : List ℕ → Option (List ℕ)) (given left : Option (List ℕ)) (old mid new : E) → mid ≡ old → AreRead bytes_of sources texts given left
      → Says said (new ≡ mid) (contents mid) (contents new) → PutSaid bytes_of given_sources given (new ≡ old) (contents old) (contents new)
  put_said {E} contents bytes_of given left old mid new silent read says =
      subst (λ (ss : List Source). PutSaid bytes_of ss given (new ≡ old) (contents old) (contents new)) same
      (record {
        texts = texts;
        left = left;
        read = read;
        found = notes.found;
        first = notes.first;
        says = subst (λ (text : List ℕ). Says text (new ≡ old) (contents old) (contents new)) (said-is ∙ notes.note_is) (subst (λ (e : E). Says said (new ≡ e) (contents e) (contents new)) silent says);
      })
