-- What a collection has of all solutions: the best one for each level number and password, whatever the order of the files.
use Rattle.std.specs.Prelude.{◌≡◌, ℕ, List, [], ◌∷◌, ◌++◌, length, Contains}
use Rattle.std.specs.declared.cmp.Ordering.{Ordering}
use Rattle.std.specs.declared.cmp.Ordering.TheVariants.{Less}
use Rattle.std.specs.Ordering.{nat_cmp, on, then_cmp}
use Rattle.std.specs.Cmp.Lexicographic.{slice_cmp}
use Rattle.std.specs.List.{flat_map, AllByRecursion}
use Rattle.byteorder.specs.Endian.{little_bytes}
use Rattle.tws_file.specs.declared.key.Key.{Key}
use Rattle.tws_file.specs.declared.«ruleset».Ruleset.{Ruleset}
use Rattle.tws_file.specs.declared.«ruleset».Ruleset.TheVariants.{Lynx, Ms}
use Rattle.tws_file.specs.Text.{Solution, Record, pad, set, bare, solution, File, IsSolution, IsText, body_of, header_text}
use Rattle.tws_best.specs.Rank.{rank_of, IsBelow}

-- a solution: the key of its level, and the body of its record
pub record KeyedBody : Type 0 where
  pub key : Key
  pub body : List ℕ

abbrev pub keyed_body : Solution → KeyedBody
keyed_body s = record { key = s.key; body = body_of (solution s) }

-- some solution has this key and this body
pub record IsKeyedBody (e : KeyedBody) : Type 0 where
  pub solved : Solution
  pub fits : IsSolution solved
  pub is : e ≡ keyed_body solved

-- some solution has this body
pub record IsBody (body : List ℕ) : Type 0 where
  pub solved : Solution
  pub fits : IsSolution solved
  pub is : body ≡ body_of (solution solved)

-- ---- the solutions of files

-- the solutions among records: not pads, records of the set or bare ones
abbrev pub solved_in : List Record → List KeyedBody
solved_in [] = []
solved_in (pad ∷ rs) = solved_in rs
solved_in (set rest ∷ rs) = solved_in rs
solved_in (bare key ∷ rs) = solved_in rs
solved_in (solution s ∷ rs) = keyed_body s ∷ solved_in rs

-- the solutions of a file, if it is of this ruleset
abbrev pub solved_by : Ruleset → Ruleset → List Record → List KeyedBody
solved_by Lynx Lynx rs = solved_in rs
solved_by Lynx Ms rs = []
solved_by Ms Lynx rs = []
solved_by Ms Ms rs = solved_in rs

-- the solutions of all files of this ruleset
abbrev pub solutions_of : Ruleset → List File → List KeyedBody
solutions_of rules files = flat_map (λ (file : File). solved_by rules file.ruleset file.records) files

-- a solution of this ruleset in a file whose text is among these. Bytes that are not a file's text have no solutions.
pub record IsSolutionIn (rules : Ruleset) (texts : List (List ℕ)) (e : KeyedBody) : Type 0 where
  pub text : List ℕ
  pub among : Contains texts text
  pub file : File
  pub is_text : IsText text file
  pub present : Contains (solutions_of rules (file ∷ [])) e

-- ---- what is best

-- a solution of the set, such that no other for the same level and password has a lower rank
pub record IsBest (IsMember : KeyedBody → Type 0) (e : KeyedBody) : Type 0 where
  pub member : IsMember e
  pub least : (f : KeyedBody) → IsMember f → f.key ≡ e.key → IsBelow (rank_of f.body) (rank_of e.body) → ⊥

-- by number, and then by the bytes of the password
abbrev pub key_cmp : Key → Key → Ordering
key_cmp = then_cmp (on (λ k. k.number) nat_cmp) (on (λ k. k.password) (slice_cmp nat_cmp))

-- each key is below those after it, so no key occurs twice
abbrev pub IsRising : List KeyedBody → Type 0
IsRising [] = Unit {0}
IsRising (e ∷ es) = AllByRecursion (λ (f : KeyedBody). key_cmp e.key f.key ≡ Less) es × IsRising es

-- some entry has this key
pub record HasKey (entries : List KeyedBody) (key : Key) : Type 0 where
  pub entry : KeyedBody
  pub present : Contains entries entry
  pub key_is : entry.key ≡ key

-- a collection of the best of a set, as entries in the order of their keys: it has the keys that the set has, and at
-- each key a best solution
pub record IsBestOf (IsMember : KeyedBody → Type 0) (entries : List KeyedBody) : Type 0 where
  pub rising : IsRising entries
  pub best : (e : KeyedBody) → Contains entries e → IsBest IsMember e
  pub every : (f : KeyedBody) → IsMember f → HasKey entries f.key

-- ---- collections

-- the best solutions so far, in the order of their keys
pub record Collected : Type 0 where
  pub «ruleset» : Ruleset
  pub entries : List KeyedBody

-- what a collection can have: solutions, with each key only once
pub record AreCollected (entries : List KeyedBody) : Type 0 where
  pub rising : IsRising entries
  pub solved : AllByRecursion IsKeyedBody entries

abbrev pub IsCollected : Collected → Type 0
IsCollected c = AreCollected c.entries

-- the size in four bytes, and the body
abbrev pub body_text : List ℕ → List ℕ
body_text body = little_bytes 4 (length body) ++ body

abbrev pub keyed_body_text : KeyedBody → List ℕ
keyed_body_text e = body_text e.body

abbrev pub collection_header : Ruleset → List ℕ
collection_header rules = header_text rules (0 ∷ 0 ∷ []) []

-- a header without further bytes, and a record for each solution, by rising number and then by the bytes of the
-- password
abbrev pub collection_text : Collected → List ℕ
collection_text c = collection_header c.ruleset ++ flat_map keyed_body_text c.entries

-- the collection over all files of this ruleset whose texts are among these
pub record IsCollectionOf (rules : Ruleset) (texts : List (List ℕ)) (c : Collected) : Type 0 where
  pub ruleset_is : c.ruleset ≡ rules
  pub best : IsBestOf (IsSolutionIn rules texts) c.entries

-- the collection has this body at this key
abbrev pub HasBody : List KeyedBody → Key → List ℕ → Type 0
HasBody entries key body = Contains entries (record { key = key; body = body })

-- the text of the best over the readable files of this ruleset among these, in whatever order they arrived
abbrev pub IsBestOver : Ruleset → (texts : List (List ℕ)) → (text : List ℕ) → Type 0
IsBestOver rules texts text = (c : Collected) × IsCollectionOf rules texts c × (text ≡ collection_text c)
