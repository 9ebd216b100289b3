-- What a page asks of one file or of two: a text of them, or why there is none.
use Rattle.std.specs.Prelude.{◌≡◌, ◌≢◌, ℕ, List, [], ◌∷◌, ◌++◌, codes}
use Rattle.tws_file.specs.Text.{File, IsText}
use Rattle.tws_file.specs.Fault.{HasFileFault}
use Rattle.tws_file.specs.Words.{fault_words}
use Rattle.tws_best.specs.Best.{Collected, IsCollectionOf, collection_text}
use Rattle.web_answers.specs.declared.web_fault.WebFault.{WebFault}
use Rattle.web_answers.specs.declared.web_fault.WebFault.TheVariants.{First, Second, Rulesets, Memory}

-- the bytes are a file's text, and the answer is this text of the file
abbrev pub Answers : (File → List ℕ) → (bytes answer : List ℕ) → Type 0
Answers text bytes answer = (file : File) × IsText bytes file × (answer ≡ text file)

-- the bytes are the texts of two files of one ruleset, and the answer is this text of the two
abbrev pub AnswersBoth : (File → File → List ℕ) → (first second answer : List ℕ) → Type 0
AnswersBoth text first second answer = (mine : File) × (theirs : File) × IsText first mine × IsText second theirs × (mine.ruleset ≡ theirs.ruleset) × (answer ≡ text mine theirs)

-- the answer is the text of the collection over both texts
abbrev pub AnswersBest : (first second answer : List ℕ) → Type 0
AnswersBest first second answer = (best : Collected) × IsCollectionOf best.ruleset (first ∷ second ∷ []) best × (answer ≡ collection_text best)

-- why there is no answer of one file
abbrev pub FailsAlone : (bytes : List ℕ) → WebFault → Type 0
FailsAlone bytes (First fault) = HasFileFault bytes fault
FailsAlone bytes (Second fault) = ⊥
FailsAlone bytes Rulesets = ⊥
FailsAlone bytes Memory = Unit {0}

-- why there is none of two
abbrev pub Fails : (first second : List ℕ) → WebFault → Type 0
Fails first second (First fault) = HasFileFault first fault
Fails first second (Second fault) = HasFileFault second fault
Fails first second Rulesets = (mine : File) × (theirs : File) × IsText first mine × IsText second theirs × (mine.ruleset ≢ theirs.ruleset)
Fails first second Memory = Unit {0}

-- ---- why, in words

abbrev pub words_of : WebFault → List ℕ
words_of (First fault) = codes "first file: " ++ fault_words fault
words_of (Second fault) = codes "second file: " ++ fault_words fault
words_of Rulesets = codes "different rulesets"
words_of Memory = codes "out of memory"
