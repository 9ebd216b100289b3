-- How a run of a folder's calls goes on, for one name: it stays, or it gets a text, and the same after a crash.
use Rattle.std.proofs.Common.{◌≡◌, ℕ, List, Option, None, Some, inl, inr, ⊎_elim, ap, arith, le_refl}
use Rattle.folders.specs.Folder.{FolderModel, Stays, Narrows, IsSettled}
use Rattle.folders.specs.Publishing.{Replaces, HasOnly, IsWritten}

-- any folder
module _ {D : Type 0} {m : FolderModel D} where
  -- what does not change stays
  pub stays_same : {d : D} {name : List ℕ} → Stays m d d name
  stays_same {d} {name} = record {
    possible = record { now = λ x h. h; held = λ x h. h; left = λ x h. h };
    later = le_refl (m.moment d);
    each = λ left since. m.only_now d name left since;
    before = λ t left le since. since;
  }

  -- a name that stays twice stays
  pub stays_then : {old mid new : D} {name : List ℕ} → Stays m old mid name → Stays m mid new name → Stays m old new name
  stays_then {old} {mid} {new} {name} a b = record {
    possible = record {
      now = λ r h. a.possible.now r (b.possible.now r h);
      held = λ r h. a.possible.held r (b.possible.held r h);
      left = λ r h. a.possible.left r (b.possible.left r h);
    };
    later = omega (arith, a.later, b.later);
    each = λ left since. a.each left (b.before (m.moment old) left a.later since);
    before = λ t left le since. a.before t left le (b.before t left (omega (arith, le, a.later)) since);
  }

  -- a name that stays is one that gets this text or stays
  pub replaces_by : {old new : D} {name text : List ℕ} → Stays m old new name → Replaces m old new name text
  replaces_by {old} {new} {name} {text} a = record {
    now = λ r h. inl (a.possible.now r h);
    left = λ r h. inl (a.possible.left r h);
    later = a.later;
    each = λ left since. inl (a.each left since);
    before = λ t left le since. inl (a.before t left le since);
  }

  -- a name that stays, and then may get this text
  pub replaces_after : {old mid new : D} {name text : List ℕ} → Stays m old mid name → Replaces m mid new name text → Replaces m old new name text
  replaces_after {old} {mid} {new} {name} {text} a b = record {
    now = λ r h. ⊎_elim (λ was. inl (a.possible.now r was)) (λ is. inr is) (b.now r h);
    left = λ r h. ⊎_elim (λ was. inl (a.possible.left r was)) (λ is. inr is) (b.left r h);
    later = omega (arith, a.later, b.later);
    each = λ left since. ⊎_elim (λ was. inl (a.each left was)) (λ is. inr is) (b.before (m.moment old) left a.later since);
    before = λ t left le since. ⊎_elim (λ was. inl (a.before t left le was)) (λ is. inr is) (b.before t left (omega (arith, le, a.later)) since);
  }

  -- a name that may get this text, and then stays
  pub replaces_then : {old mid new : D} {name text : List ℕ} → Replaces m old mid name text → Stays m mid new name → Replaces m old new name text
  replaces_then {old} {mid} {new} {name} {text} a b = record {
    now = λ r h. a.now r (b.possible.now r h);
    left = λ r h. a.left r (b.possible.left r h);
    later = omega (arith, a.later, b.later);
    each = λ left since. a.each left (b.before (m.moment old) left a.later since);
    before = λ t left le since. a.before t left le (b.before t left (omega (arith, le, a.later)) since);
  }

  -- the rename of a file that was written
  pub is_moved : {old mid : D} {from to text : List ℕ} → Narrows (m.reads old from) (m.reads mid to) → Narrows (m.holds old from) (m.holds mid to) → IsWritten m old from text → IsWritten m mid to text
  is_moved moved held written = record { now = λ r h. written.now r (moved r h); held = λ t h. written.held t (held t h) }

  pub stays_written : {mid new : D} {name text : List ℕ} → Stays m mid new name → IsWritten m mid name text → IsWritten m new name text
  stays_written stays written = record { now = λ r h. written.now r (stays.possible.now r h); held = λ t h. written.held t (stays.possible.held t h) }

  -- a name that has only this text leaves only this text, once the folder is synced
  pub has_only : {mid new : D} {to text : List ℕ} → IsWritten m mid to text → Stays m mid new to →
      ((name : List ℕ) (left : Option (List ℕ)) → m.leaves new name left → IsSettled (m.reads mid name) (m.holds mid name) left) → HasOnly m new to text
  has_only {mid} {new} {to} {text} was stays settled = record {
    now = λ r h. was.now r (stays.possible.now r h);
    held = λ t h. was.held t (stays.possible.held t h);
    left = λ left h. by left (settled to left h);
  }
    where
      by : (left : Option (List ℕ)) → IsSettled (m.reads mid to) (m.holds mid to) left → left ≡ Some text
      by None h = was.now None h
      by (Some t) h = ap Some (was.held t h)
