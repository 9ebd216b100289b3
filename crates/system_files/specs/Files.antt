-- Files by their names, and how they change.
use Rattle.std.specs.Prelude.{◌≡◌, ◌≢◌, ℕ, Bool, true, false, List, Option, Some, IfSome}

-- a file can be opened, as far as that is known
abbrev pub CanOpen : (opens : Option Bool) → Type 0
CanOpen opens = IfSome opens (λ (it : Bool). it ≡ true)

abbrev pub CannotOpen : (opens : Option Bool) → Type 0
CannotOpen opens = IfSome opens (λ (it : Bool). it ≡ false)

-- each file whose bytes were known still has them
abbrev pub Keeps : (before after : List ℕ → Option (List ℕ)) → Type 0
Keeps before after = (name bytes : List ℕ) → before name ≡ Some bytes → after name ≡ Some bytes

-- the file of this name has this text, if that is known, and each other file still has its bytes
pub record Publishes (name : List ℕ) (text : Option (List ℕ)) (before after : List ℕ → Option (List ℕ)) : Type 0 where
  pub published : IfSome text (λ (bytes : List ℕ). after name ≡ Some bytes)
  pub others : (other bytes : List ℕ) → other ≢ name → before other ≡ Some bytes → after other ≡ Some bytes
