-- Words without blanks, newlines and `#` are the words of the line, and the lines of the text, that they are spelled in.
use Rattle.std.proofs.Common.{◌≡◌, ℕ, ◌==◌, Bool, false, cond, List, [], ◌∷◌, ◌++◌, refl, ap, sym, ◌∙◌, append_assoc}
use Rattle.schedule_text.specs.Schedule.{is_blank, filled, words_after, words_of, lines_after, lines_of}
use Rattle.schedule_text.specs.Spelling.{spelled}

-- a byte that neither ends a word nor a line, and begins no comment
abbrev pub IsPlain : ℕ → Type 0
IsPlain b = ((b == 35) ≡ false) × (is_blank b ≡ false) × ((b == 10) ≡ false)

abbrev pub ArePlain : List ℕ → Type 0
ArePlain [] = Unit {0}
ArePlain (b ∷ bs) = IsPlain b × ArePlain bs

-- some plain bytes
abbrev pub IsWord : List ℕ → Type 0
IsWord [] = ⊥
IsWord (b ∷ bs) = IsPlain b × ArePlain bs

abbrev pub AreWords : List (List ℕ) → Type 0
AreWords [] = Unit {0}
AreWords (w ∷ ws) = IsWord w × AreWords ws

append-nil : (bs : List ℕ) → bs ++ [] ≡ bs
append-nil [] = refl
append-nil (b ∷ bs) = ap (λ (cs : List ℕ). b ∷ cs) (append-nil bs)

-- ---- the words of a line

words-plain : (b : ℕ) (word bs : List ℕ) → IsPlain b → words_after word (b ∷ bs) ≡ words_after (word ++ b ∷ []) bs
words-plain b word bs plain =
    ap (λ (t : Bool). cond t (filled word) (cond (is_blank b) (filled word ++ words_after [] bs) (words_after (word ++ b ∷ []) bs))) plain.0
    ∙ ap (λ (t : Bool). cond t (filled word ++ words_after [] bs) (words_after (word ++ b ∷ []) bs)) plain.1

words-on : (word bs rest : List ℕ) → ArePlain bs → words_after word (bs ++ rest) ≡ words_after (word ++ bs) rest
words-on word [] rest plain = ap (λ (w : List ℕ). words_after w rest) (sym (append-nil word))
words-on word (b ∷ bs) rest plain =
    words-plain b word (bs ++ rest) plain.0
    ∙ words-on (word ++ b ∷ []) bs rest plain.1
    ∙ ap (λ (w : List ℕ). words_after w rest) (append_assoc word (b ∷ []) bs)

pub words_of-spelled : (words : List (List ℕ)) → AreWords words → words_of (spelled words) ≡ words
words_of-spelled [] plain = refl
words_of-spelled ([] ∷ ws) plain = absurd plain.0
words_of-spelled ((b ∷ bs) ∷ ws) plain =
    words-on [] (b ∷ bs) (32 ∷ spelled ws) plain.0 ∙ ap (λ (vs : List (List ℕ)). (b ∷ bs) ∷ vs) (words_of-spelled ws plain.1)

-- ---- the lines of a text

lines-plain : (b : ℕ) (line bs : List ℕ) → (b == 10) ≡ false → lines_after line (b ∷ bs) ≡ lines_after (line ++ b ∷ []) bs
lines-plain b line bs plain = ap (λ (t : Bool). cond t (line ∷ lines_after [] bs) (lines_after (line ++ b ∷ []) bs)) plain

lines-on : (line bs rest : List ℕ) → ArePlain bs → lines_after line (bs ++ rest) ≡ lines_after (line ++ bs) rest
lines-on line [] rest plain = ap (λ (l : List ℕ). lines_after l rest) (sym (append-nil line))
lines-on line (b ∷ bs) rest plain =
    lines-plain b line (bs ++ rest) plain.0.2
    ∙ lines-on (line ++ b ∷ []) bs rest plain.1
    ∙ ap (λ (l : List ℕ). lines_after l rest) (append_assoc line (b ∷ []) bs)

are_plain : (word : List ℕ) → IsWord word → ArePlain word
are_plain [] plain = absurd plain
are_plain (b ∷ bs) plain = plain

lines-spelled : (line : List ℕ) (words : List (List ℕ)) (rest : List ℕ) → AreWords words
    → lines_after line (spelled words ++ rest) ≡ lines_after (line ++ spelled words) rest
lines-spelled line [] rest plain = ap (λ (l : List ℕ). lines_after l rest) (sym (append-nil line))
lines-spelled line (w ∷ ws) rest plain =
    ap (lines_after line) (append_assoc w (32 ∷ spelled ws) rest)
    ∙ lines-on line w (32 ∷ (spelled ws ++ rest)) (are_plain w plain.0)
    ∙ lines-plain 32 (line ++ w) (spelled ws ++ rest) refl
    ∙ lines-spelled ((line ++ w) ++ 32 ∷ []) ws rest plain.1
    ∙ ap (λ (l : List ℕ). lines_after l rest) (append_assoc (line ++ w) (32 ∷ []) (spelled ws) ∙ append_assoc line w (32 ∷ spelled ws))

pub lines_of-spelled : (words : List (List ℕ)) (rest : List ℕ) → AreWords words → lines_of (spelled words ++ 10 ∷ rest) ≡ spelled words ∷ lines_of rest
lines_of-spelled words rest plain = lines-spelled [] words (10 ∷ rest) plain
