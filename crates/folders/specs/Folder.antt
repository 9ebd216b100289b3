-- What a folder may have under each name, now and after a crash. Each fact bounds from above what is possible, so a call
-- that fails needs no clause of its own: it may have had its effect.
use Rattle.std.specs.Prelude.{◌≡◌, ◌≤◌, ℕ, List, Option, None, Some, Vec}

-- a text that was read, if there was a file
abbrev pub texts_of : {A : Type 0} → Option (Vec ℕ A) → Option (List ℕ)
texts_of None = None
texts_of (Some text) = Some text.items

-- nothing is possible that was not
abbrev pub Narrows : {X : Type 0} → (old new : X → Type 0) → Type 0
Narrows {X} old new = (x : X) → new x → old x

-- nothing else is possible
abbrev pub Only : {X : Type 0} → X → (possible : X → Type 0) → Type 0
Only {X} one possible = (x : X) → possible x → x ≡ one

-- what can be read under each name, or what a crash may leave there: a text, or no file
abbrev pub Texts : Type 1
Texts = List ℕ → Option (List ℕ) → Type 0

-- what the file under each name may hold after a crash
abbrev pub Files : Type 1
Files = List ℕ → List ℕ → Type 0

-- What a folder may have.
pub record FolderModel (D : Type 0) : Type 1 where
  -- what a read may return
  pub reads : D → Texts
  -- what a file may hold after a crash
  pub holds : D → Files
  -- what a crash at this moment may leave
  pub leaves : D → Texts
  -- the moment, as a number that does not fall
  pub moment : D → ℕ
  -- what a crash at some moment from that one on might have left, during a call or between two
  pub left_since : D → ℕ → Texts
  -- this moment is one of those since an earlier one
  pub counts_now : (d : D) (t : ℕ) (name : List ℕ) (left : Option (List ℕ)) → t ≤ moment d → leaves d name left → left_since d t name left
  -- since this moment there is no other
  pub only_now : (d : D) (name : List ℕ) (left : Option (List ℕ)) → left_since d (moment d) name left → leaves d name left

-- a folder of which nothing is known
abbrev pub no_model : {D : Type 0} → FolderModel D
no_model = record {
  reads = λ _ _ _. Unit {0};
  holds = λ _ _ _. Unit {0};
  leaves = λ _ _ _. Unit {0};
  moment = λ _. 0;
  left_since = λ _ _ _ _. Unit {0};
  counts_now = λ _ _ _ _ _ _. tt;
  only_now = λ _ _ _ _. tt;
}

-- For one name nothing is possible that was not.
pub record NarrowsAt {D : Type 0} (m : FolderModel D) (old new : D) (name : List ℕ) : Type 0 where
  pub now : Narrows (m.reads old name) (m.reads new name)
  pub held : Narrows (m.holds old name) (m.holds new name)
  pub left : Narrows (m.leaves old name) (m.leaves new name)

-- Under this name nothing is possible that was not, and a crash at any moment left what was possible before.
pub record Stays {D : Type 0} (m : FolderModel D) (old new : D) (name : List ℕ) : Type 0 where
  pub possible : NarrowsAt m old new name
  pub later : m.moment old ≤ m.moment new
  pub each : (left : Option (List ℕ)) → m.left_since new (m.moment old) name left → m.leaves old name left
  -- for a run that began earlier
  pub before : (t : ℕ) (left : Option (List ℕ)) → t ≤ m.moment old → m.left_since new t name left → m.left_since old t name left

-- what a crash may leave under a name once the folder is synced: no file if none can be read, or what the file may hold
abbrev pub IsSettled : (reads : Option (List ℕ) → Type 0) → (holds : List ℕ → Type 0) → Option (List ℕ) → Type 0
IsSettled reads holds None = reads None
IsSettled reads holds (Some text) = holds text
