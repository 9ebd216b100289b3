-- What stands in the text of a password's cell.
use lib.Utf8.{encode, next}
use Rattle.std.proofs.Common.{◌≡◌, ℕ, ◌+◌, ◌<◌, ◌≤◌, ◌/◌, ◌==◌, ◌||◌, cond, ltb, Bool, true, false, List, [], ◌∷◌, ◌++◌, refl, sym, subst, inl, inr, ◌∙◌, arith, append_assoc, append-nil}
use Rattle.std.specs.Prelude.{Contains, codes}
use Rattle.std.specs.List.{list_all, list_any}
use Rattle.std.proofs.lemmas.Bool.{eqb-false, ne_eqb, eqb-true, and_parts, cond_both, or_from, or_parts}
use Rattle.std.proofs.lemmas.Bool.Decides.{nat_tests}
use Rattle.std.proofs.lemmas.List.Folds.{list_any-append}
use Rattle.std.proofs.lemmas.Str.{encode_ascii}
use Rattle.byte_output.specs.Bytes.{IsBytes}
use Rattle.tws_file.specs.Words.{hex}
use Rattle.tws_tables.proofs.Digits.{no_digits}
use Rattle.tws_pages.specs.Escaping.{BeginsReference, IsReference, Shows, by_itself, by_reference, no_text, escaped, escaped_char, is_mark, is_printable, references, shown_password}

-- `&`
abbrev is_ampersand : ℕ → Bool
is_ampersand c = c == 38

-- each `&` in the text begins a reference
AreReferences : List ℕ → Type 0
AreReferences text = (front rest : List ℕ) → text ≡ front ++ 38 ∷ rest → BeginsReference (38 ∷ rest)

-- ---- one character more

module _ (more : List ℕ) (all : AreReferences more) where
  -- that is no `&`
  after_other : (c : ℕ) → is_ampersand c ≡ false → AreReferences (c ∷ more)
  unfolding AreReferences
  after_other c other [] rest is = let same : c ≡ 38 = cc in absurd (cc (rw same at other))
  after_other c other (f ∷ front) rest is = let tail : more ≡ front ++ 38 ∷ rest = cc in all front rest tail

-- a text without `&`
no_reference : (text : List ℕ) → list_any is_ampersand text ≡ false → AreReferences text
unfolding AreReferences
no_reference [] none [] rest is = absurd cc
no_reference [] none (f ∷ front) rest is = absurd cc
no_reference (c ∷ text) none front rest is =
    let parts = or_parts (is_ampersand c) (list_any is_ampersand text) none in
    after_other text (no_reference text parts.1) c parts.0 front rest is

-- no `&` in a text, and then another text
skipped : (text more : List ℕ) → list_any is_ampersand text ≡ false → AreReferences more → AreReferences (text ++ more)
skipped [] more none all = all
skipped (c ∷ text) more none all =
    let parts = or_parts (is_ampersand c) (list_any is_ampersand text) none in
    after_other (text ++ more) (skipped text more parts.1 all) c parts.0

-- a reference, and then another text
after_reference : (name more : List ℕ) → Contains references (38 ∷ name) → list_any is_ampersand name ≡ false → AreReferences more → AreReferences (38 ∷ (name ++ more))
unfolding AreReferences
after_reference name more known none all [] rest is = record { reference = 38 ∷ name; known = known; rest = more; text_is = sym is }
after_reference name more known none all (f ∷ front) rest is = let tail : name ++ more ≡ front ++ 38 ∷ rest = cc in skipped name more none all front rest tail

-- ---- characters

-- a printable character is ASCII
pub printable_small : (c : ℕ) → is_printable c ≡ true → c < 128
printable_small c e = grind (arith, nat_tests)

-- ---- the bytes of a character

module _ (p : ℕ → Bool) (large : (b : ℕ) → 128 ≤ b → p b ≡ false) where
  byte : (b : ℕ) (more : List ℕ) → 128 ≤ b → list_any p more ≡ false → list_any p (b ∷ more) ≡ false
  byte b more above none = or_from (p b) (list_any p more) (large b above) none

  -- what neither it nor a byte that is not ASCII is, none of its bytes is
  encoded : (c : ℕ) → p c ≡ false → list_any p (encode c) ≡ false
  unfolding encode
  encoded c none =
      let P : List ℕ → Type 0 = λ bytes. list_any p bytes ≡ false in
      let last : List ℕ = next c ∷ [] in
      let two : List ℕ = next (c / 64) ∷ last in
      let last-none : list_any p last ≡ false = byte (next c) [] (omega arith) refl in
      let two-none : list_any p two ≡ false = byte (next (c / 64)) last (omega arith) last-none in
      cond_both (ltb c 128) (c ∷ []) (cond (ltb c 2048) ((192 + c / 64) ∷ last) (cond (ltb c 65536) ((224 + c / 4096) ∷ two) ((240 + c / 262144) ∷ next (c / 4096) ∷ two))) P
      (λ small. or_from (p c) false none refl)
      (λ more. cond_both (ltb c 2048) ((192 + c / 64) ∷ last) (cond (ltb c 65536) ((224 + c / 4096) ∷ two) ((240 + c / 262144) ∷ next (c / 4096) ∷ two)) P
      (λ small. byte (192 + c / 64) last (omega arith) last-none)
      (λ more. cond_both (ltb c 65536) ((224 + c / 4096) ∷ two) ((240 + c / 262144) ∷ next (c / 4096) ∷ two) P
      (λ small. byte (224 + c / 4096) two (omega arith) two-none)
      (λ more. byte (240 + c / 262144) (next (c / 4096) ∷ two) (omega arith) (byte (next (c / 4096)) two (omega arith) two-none))))

unmarked : (c : ℕ) → (c == 60) ≡ false → (c == 62) ≡ false → (c == 34) ≡ false → (c == 39) ≡ false → is_mark c ≡ false
unmarked c less greater quote apostrophe =
    or_from ((c == 60) || (c == 62) || (c == 34)) (c == 39) (or_from ((c == 60) || (c == 62)) (c == 34) (or_from (c == 60) (c == 62) less greater) quote) apostrophe

large_unmarked : (b : ℕ) → 128 ≤ b → is_mark b ≡ false
large_unmarked b above =
    unmarked b (ne_eqb b 60 (λ e. absurd (omega arith))) (ne_eqb b 62 (λ e. absurd (omega arith))) (ne_eqb b 34 (λ e. absurd (omega arith)))
    (ne_eqb b 39 (λ e. absurd (omega arith)))

large_other : (b : ℕ) → 128 ≤ b → is_ampersand b ≡ false
large_other b above = ne_eqb b 38 (λ e. absurd (omega arith))

-- ---- texts of cells

-- the text has no marks, and wherever it stands each `&` in it begins a reference
record IsCellText (text : List ℕ) : Type 0 where
  unmarked : list_any is_mark text ≡ false
  before : (more : List ℕ) → AreReferences more → AreReferences (text ++ more)

reference_text : (name : List ℕ) → Contains references (38 ∷ name) → list_any is_ampersand name ≡ false → list_any is_mark (38 ∷ name) ≡ false → IsCellText (38 ∷ name)
reference_text name known none unmarked = record { unmarked = unmarked; before = λ more all. after_reference name more known none all }

-- a text of no special characters
plain_text : (text : List ℕ) → list_any is_mark text ≡ false → list_any is_ampersand text ≡ false → IsCellText text
plain_text text unmarked none = record { unmarked = unmarked; before = λ more all. skipped text more none all }

char_text : (c : ℕ) → IsCellText (escaped_char c)
char_text c =
    cond_both (c == 60) _ _ IsCellText (λ e. reference_text (codes "lt;") (0, omega arith, refl) refl refl)
    (λ less. cond_both (c == 62) _ _ IsCellText (λ e. reference_text (codes "gt;") (1, omega arith, refl) refl refl)
    (λ greater. cond_both (c == 38) _ _ IsCellText (λ e. reference_text (codes "amp;") (2, omega arith, refl) refl refl)
    (λ ampersand. cond_both (c == 34) _ _ IsCellText (λ e. reference_text (codes "quot;") (3, omega arith, refl) refl refl)
    (λ quote. cond_both (c == 39) _ _ IsCellText (λ e. reference_text (codes "#39;") (4, omega arith, refl) refl refl)
    (λ apostrophe. plain_text (encode c) (encoded is_mark large_unmarked c (unmarked c less greater quote apostrophe)) (encoded is_ampersand large_other c ampersand))))))

-- the text of any characters
chars_text : (chars : List ℕ) → IsCellText (escaped chars)
chars_text [] = record { unmarked = refl; before = λ more references. references }
chars_text (c ∷ chars) =
    let first = char_text c in
    let others = chars_text chars in
    record {
      unmarked = list_any-append is_mark (escaped_char c) (escaped chars) ∙ or_from (list_any is_mark (escaped_char c)) (list_any is_mark (escaped chars)) first.unmarked others.unmarked;
      before = λ more references. rw (append_assoc (escaped_char c) (escaped chars) more) (first.before (escaped chars ++ more) (others.before more references));
    }

pub text_unmarked : (chars : List ℕ) → list_any is_mark (escaped chars) ≡ false
text_unmarked chars = (chars_text chars).unmarked

pub text_references : (chars front rest : List ℕ) → escaped chars ≡ front ++ 38 ∷ rest → BeginsReference (38 ∷ rest)
unfolding AreReferences
text_references chars front rest is = (chars_text chars).before [] (no_reference [] refl) front rest (append-nil (escaped chars) ∙ is)

-- ---- passwords

-- the text of a password's cell
password_cell : (password : List ℕ) → IsBytes password → IsCellText (shown_password password)
password_cell password fits =
    cond_both (list_all is_printable password) (escaped password) (codes "x" ++ hex password) IsCellText (λ printable. chars_text password)
    (λ other. plain_text (codes "x" ++ hex password) (no_digits is_mark refl password fits) (no_digits is_ampersand refl password fits))

pub no_marks : (password : List ℕ) → IsBytes password → list_any is_mark (shown_password password) ≡ false
no_marks password fits = (password_cell password fits).unmarked

pub only_references : (password front rest : List ℕ) → IsBytes password → shown_password password ≡ front ++ 38 ∷ rest → BeginsReference (38 ∷ rest)
unfolding AreReferences
only_references password front rest fits is =
    (password_cell password fits).before [] (no_reference [] refl) front rest (append-nil (shown_password password) ∙ is)

-- ---- what is shown

-- wherever the text stands, it shows as the character
ShowsAs : (char : ℕ) → List ℕ → Type 0
ShowsAs char text = (more chars : List ℕ) → Shows more chars → Shows (text ++ more) (char ∷ chars)

reference_shown : (name : List ℕ) (char : ℕ) (c : ℕ) → IsReference name char → (c == char) ≡ true → ShowsAs c name
unfolding ShowsAs
reference_shown name char c is same more chars shows =
    let e : char ≡ c = sym (eqb-true c char same) in
    subst (λ (d : ℕ). Shows (name ++ more) (d ∷ chars)) e (by_reference name char more chars is shows)

char_shown : (c : ℕ) → is_printable c ≡ true → ShowsAs c (escaped_char c)
unfolding ShowsAs
char_shown c printable =
    cond_both (c == 60) _ _ (ShowsAs c) (reference_shown (codes "&lt;") 60 c (inl (refl, refl)))
    (λ less. cond_both (c == 62) _ _ (ShowsAs c) (reference_shown (codes "&gt;") 62 c (inr (inl (refl, refl))))
    (λ greater. cond_both (c == 38) _ _ (ShowsAs c) (reference_shown (codes "&amp;") 38 c (inr (inr (inl (refl, refl)))))
    (λ ampersand. cond_both (c == 34) _ _ (ShowsAs c) (reference_shown (codes "&quot;") 34 c (inr (inr (inr (inl (refl, refl))))))
    (λ quote. cond_both (c == 39) _ _ (ShowsAs c) (reference_shown (codes "&#39;") 39 c (inr (inr (inr (inr (refl, refl))))))
    (λ apostrophe. rw (encode_ascii c (printable_small c printable)) (λ more chars shows. by_itself c more chars (eqb-false c 38 ampersand) shows))))))

pub chars_shown : (chars : List ℕ) → list_all is_printable chars ≡ true → Shows (escaped chars) chars
unfolding ShowsAs
chars_shown [] all = no_text
chars_shown (c ∷ chars) all =
    let parts = and_parts (is_printable c) (list_all is_printable chars) all in
    char_shown c parts.0 (escaped chars) chars (chars_shown chars parts.1)

pub shown_as_itself : (password : List ℕ) → list_all is_printable password ≡ true → Shows (shown_password password) password
shown_as_itself password all = rw all (chars_shown password all)
