-- What reaches an archive, and what it has of it.
use Rattle.std.specs.Prelude.{◌≡◌, ℕ, List, [], ◌∷◌, ◌++◌, Contains}
use Rattle.tws_file.specs.declared.«ruleset».Ruleset.{Ruleset}
use Rattle.tws_file.specs.Text.{File, IsText}
use Rattle.tws_best.specs.Best.{KeyedBody, Collected, solutions_of}
use Rattle.tws_best.specs.Steps.{IsHeld}
use Rattle.archive_mirrors.specs.Archives.{Archives, Copy, Event, takes, fetches, puts, puts_better, skips, restarts, run_from, copy_of, own_of}

-- These events bring all that one archive's collection stands for now to another archive.
abbrev pub Reaches : Ruleset → Archives → List Event → (there here : ℕ) → Type 0
Reaches rules w events there here =
    (text : List ℕ) → Contains (w.sources rules there) text → Contains ((run_from events w).sources rules here) text

-- the event puts this copy at an archive, or what of it is better, or finds nothing better
abbrev pub Brings : Event → (here : ℕ) → Copy → Type 0
Brings (takes archive text) here copy = ⊥
Brings (fetches archive rules text) here copy = ⊥
Brings (puts archive one) here copy = (archive ≡ here) × (one ≡ copy)
Brings (puts_better archive one own text) here copy = (archive ≡ here) × (one ≡ copy)
Brings (skips archive one own) here copy = (archive ≡ here) × (one ≡ copy)
Brings (restarts archive) here copy = ⊥

-- A sync: one archive's collection is fetched, and later it is put at another one, or what of it is better, or nothing of it
-- is; any events come before, between and after.
pub record Syncs (rules : Ruleset) (w : Archives) (events : List Event) (there here : ℕ) : Type 0 where
  pub text : List ℕ
  pub before : List Event
  pub between : List Event
  pub put : Event
  pub after : List Event
  pub split : events ≡ before ++ fetches there rules text ∷ (between ++ put ∷ after)
  pub put_is : Brings put here (copy_of (run_from before w) there rules text)

-- the collection has for each solution of the file with this text one that is no worse; other bytes have no solutions
abbrev pub HoldsText : Collected → (text : List ℕ) → Type 0
HoldsText c text = (f : File) → IsText text f → (e : KeyedBody) → Contains (solutions_of c.ruleset (f ∷ [])) e → IsHeld (Contains c.entries) e

-- the new collection has for each solution of the old one one that is no worse
abbrev pub IsNoWorse : (old new : Collected) → Type 0
IsNoWorse old new = (e : KeyedBody) → Contains old.entries e → IsHeld (Contains new.entries) e

-- what each of these archives stands for now reaches the archive
abbrev pub AllReach : Ruleset → Archives → List Event → (archives : List ℕ) → (here : ℕ) → Type 0
AllReach rules w events archives here = (there : ℕ) → Contains archives there → Reaches rules w events there here

-- nothing is taken from outside but by these archives
abbrev pub OnlyAt : List ℕ → List Event → Type 0
OnlyAt archives events = (here : ℕ) (text : List ℕ) → Contains (own_of here events) text → Contains archives here
