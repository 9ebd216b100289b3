-- The text of a file, followed by a rest that begins no record, can be cut in only one way.
use Rattle.std.proofs.Common.{◌≡◌, ℕ, List, [], ◌∷◌, ◌++◌, length, refl, sym, ◌∙◌, arith, append_assoc, append-nil}
use Rattle.std.specs.List.{flat_map}
use Rattle.tws_file.specs.declared.«ruleset».Ruleset.{Ruleset}
use Rattle.tws_file.specs.declared.«ruleset».Ruleset.TheVariants.{Lynx, Ms}
use Rattle.tws_file.specs.Fields.{ruleset_code}
use Rattle.tws_file.specs.Text.{File, Record, header_text, text_of, record_text, IsFile, IsRecord, IsText, BeginsNoRecord}
use Rattle.byte_output.proofs.Lists.{append_parts}
use Rattle.tws_moves.proofs.Codes.{one_cut}
use Rattle.tws_file.proofs.RecordText.{record_texts}

-- the code of a ruleset determines it
ruleset_code-injective : (q r : Ruleset) → ruleset_code q ≡ ruleset_code r → q ≡ r
ruleset_code-injective Lynx Lynx e = refl
ruleset_code-injective Lynx Ms e = absurd (omega arith)
ruleset_code-injective Ms Lynx e = absurd (omega arith)
ruleset_code-injective Ms Ms e = refl

-- the text of a file's header
abbrev header_of : File → List ℕ
header_of f = header_text f.ruleset f.word f.extra

-- two files have the same header, and the same bytes follow it
record HasSameHeader (f g : File) (x y : List ℕ) : Type 0 where
  rules : f.ruleset ≡ g.ruleset
  word : f.word ≡ g.word
  extra : f.extra ≡ g.extra
  rest : x ≡ y

-- texts that begin with whole headers have the same header and the same rest
header_parts : (f g : File) (x y : List ℕ) → IsFile f → IsFile g → header_of f ++ x ≡ header_of g ++ y → HasSameHeader f g x y
header_parts f g x y ff fg e =
    let code : ruleset_code f.ruleset ≡ ruleset_code g.ruleset = cc in
    let after : f.word ++ (length f.extra ∷ f.extra) ++ x ≡ g.word ++ (length g.extra ∷ g.extra) ++ y = cc in
    let regrouped = sym (append_assoc f.word (length f.extra ∷ f.extra) x) ∙ after ∙ append_assoc g.word (length g.extra ∷ g.extra) y in
    let word = append_parts f.word g.word (length f.extra ∷ (f.extra ++ x)) (length g.extra ∷ (g.extra ++ y)) (ff.word_length ∙ sym fg.word_length) regrouped in
    let second = word.1 in
    let count : length f.extra ≡ length g.extra = cc in
    let rest : f.extra ++ x ≡ g.extra ++ y = cc in
    let extra = append_parts f.extra g.extra x y count rest in
    record { rules = ruleset_code-injective f.ruleset g.ruleset code; word = word.0; extra = extra.0; rest = extra.1 }

-- an empty rest begins no record
pub nothing_begins : BeginsNoRecord []
nothing_begins r more fits e = absurd cc

-- two files whose texts, each followed by a rest that begins no record, are equal are the same file
pub text_parts : (f g : File) (x y : List ℕ) → IsFile f → IsFile g → BeginsNoRecord x → BeginsNoRecord y → text_of f ++ x ≡ text_of g ++ y → (f ≡ g) × (x ≡ y)
text_parts f g x y ff fg nx ny e =
    let records_f = flat_map record_text f.records in
    let records_g = flat_map record_text g.records in
    let header = header_parts f g (records_f ++ x) (records_g ++ y) ff fg (sym (append_assoc (header_of f) records_f x) ∙ e ∙ append_assoc (header_of g) records_g y) in
    let records = one_cut IsRecord record_text record_texts f.records g.records x y ff.records fg.records nx ny header.rest in
    let rules = header.rules in
    let word = header.word in
    let extra = header.extra in
    let same = records.0 in
    let make : Ruleset → List ℕ → List ℕ → List Record → File = λ k w b r. record { «ruleset» = k; word = w; extra = b; records = r } in
    let whole : make f.ruleset f.word f.extra f.records ≡ make g.ruleset g.word g.extra g.records = cc in
    (whole, records.1)

-- no two files have the same text
pub one_file : (bytes : List ℕ) (f g : File) → IsText bytes f → IsText bytes g → f ≡ g
one_file bytes f g tf tg =
    (text_parts f g [] [] tf.fits tg.fits nothing_begins nothing_begins (append-nil (text_of f) ∙ sym tf.text ∙ tg.text ∙ sym (append-nil (text_of g)))).0
