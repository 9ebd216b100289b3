-- A folder in memory after one more change.
use Rattle.std.proofs.Common.{◌≡◌, ◌≢◌, ◌⊎◌, inl, inr, ⊎_elim, ℕ, ◌≤◌, Bool, true, false, cond, List, ◌∷◌, length, Option, None, Some, Result, Ok, Err, OnOk, OnErr, refl, sym, ap, ◌∙◌, subst, arith}
use Rattle.std.specs.Prelude.{option_and_then, reverse, ◌||◌, if◌then◌else◌}
use Rattle.std.specs.Str.{bytes_eq}
use Rattle.std.proofs.lemmas.Slice.Eq.{bytes_eq-Decides}
use Rattle.folders.specs.declared.memory_folder.FolderChange.{FolderChange}
use Rattle.folders.specs.declared.memory_folder.FolderChange.TheVariants.{Synced}
use Rattle.folders.specs.declared.memory_folder.MemoryFolder.{MemoryFolder}
use Rattle.folders.specs.Folder.{Stays}
use Rattle.folders.specs.Publishing.{IsWritten, Replaces}
use Rattle.folders.specs.Memory.{touches, text_at, is_synced, latest, file, disk, leaves, since, since_now, since_only, newest, memory_model}
use Rattle.folders.proofs.Steps.{replaces_by, stays_then}

-- two texts are equal or not
pub equal : (xs ys : List ℕ) → xs ≡ ys → bytes_eq xs ys ≡ true
equal xs ys is = (bytes_eq-Decides xs ys).1 is

pub unequal : (xs ys : List ℕ) → (xs ≡ ys → ⊥) → bytes_eq xs ys ≡ false
unequal xs ys not = false_of (bytes_eq xs ys) (λ is. not ((bytes_eq-Decides xs ys).0 is))
  where
    false_of : (b : Bool) → (b ≡ true → ⊥) → b ≡ false
    false_of true never = absurd (never refl)
    false_of false never = refl

-- a change of other names leaves the file under a name
file_other : (c : FolderChange) (cs : List FolderChange) (name : List ℕ) → touches name c ≡ false → file (c ∷ cs) name ≡ file cs name
file_other c cs name apart = ap (λ (b : Bool). option_and_then (text_at name) (cond b (Some c) (latest name cs))) apart

file_same : (c : FolderChange) (cs : List FolderChange) (name : List ℕ) → touches name c ≡ true → file (c ∷ cs) name ≡ text_at name c
file_same c cs name is = ap (λ (b : Bool). option_and_then (text_at name) (cond b (Some c) (latest name cs))) is

-- the disk is as it was
disk_other : (c : FolderChange) (cs : List FolderChange) → is_synced c ≡ false → disk (c ∷ cs) ≡ disk cs
disk_other c cs unsynced = ap (λ (b : Bool). cond b cs (disk cs)) unsynced

-- the changes of two folders in memory, as lists: under this name nothing is possible that was not
record Kept (old new : List FolderChange) (name : List ℕ) : Type 0 where
  now : file new name ≡ file old name
  left : (o : Option (List ℕ)) → leaves new name o → leaves old name o
  later : length old ≤ length new
  since : (t : ℕ) (o : Option (List ℕ)) → t ≤ length old → since t new name o → since t old name o

kept_stays : (f g : MemoryFolder) (name : List ℕ) → Kept (newest f) (newest g) name → Stays memory_model f g name
kept_stays f g name k = record {
  possible = record { now = λ o is. is ∙ k.now; held = λ t is. sym k.now ∙ is; left = k.left };
  later = k.later;
  each = λ o h. since_only (newest f) name o (k.since (length (newest f)) o (omega arith) h);
  before = k.since;
}

-- with one more change that leaves this name
kept_more : (c : FolderChange) (cs : List FolderChange) (name : List ℕ) → file (c ∷ cs) name ≡ file cs name → ((o : Option (List ℕ)) → leaves (c ∷ cs) name o → leaves cs name o) → Kept cs (c ∷ cs) name
kept_more c cs name now left = record {
  now = now;
  left = left;
  later = omega arith;
  since = λ t o le h. earlier t o h;
}
  where
    earlier : (t : ℕ) (o : Option (List ℕ)) → since t (c ∷ cs) name o → since t cs name o
    earlier t o (inl new) = since_now t cs name o (left o new)
    earlier t o (inr old) = old.1

leaves_other : (c : FolderChange) (cs : List FolderChange) (name : List ℕ) → touches name c ≡ false → is_synced c ≡ false → (o : Option (List ℕ)) → leaves (c ∷ cs) name o → leaves cs name o
leaves_other c cs name apart unsynced o (inl is) = inl (is ∙ ap (λ (ds : List FolderChange). file ds name) (disk_other c cs unsynced))
leaves_other c cs name apart unsynced o (inr is) = inr (is ∙ file_other c cs name apart)

leaves_synced : (cs : List FolderChange) (name : List ℕ) (o : Option (List ℕ)) → leaves (Synced ∷ cs) name o → leaves cs name o
leaves_synced cs name o (inl is) = inr is
leaves_synced cs name o (inr is) = inr is

-- a folder with the same changes
pub stays_as : (f g : MemoryFolder) (name : List ℕ) → g.changes.items ≡ f.changes.items → Stays memory_model f g name
stays_as f g name is = kept_stays f g name (subst (λ (cs : List FolderChange). Kept (newest f) cs name) (sym same) (record {
  now = refl;
  left = λ o h. h;
  later = omega arith;
  since = λ t o le h. h;
}))
  where
    same : newest g ≡ newest f
    same = ap reverse is

-- a name that a change does not touch, whether it was added or not
pub stays_other : {E : Type 0} (r : Result (Unit {0}) E) (f g : MemoryFolder) (c : FolderChange) (name : List ℕ) → OnOk r (newest g ≡ c ∷ newest f) → OnErr r (g.changes.items ≡ f.changes.items) →
    is_synced c ≡ false → touches name c ≡ false → Stays memory_model f g name
stays_other (Ok done) f g c name is same unsynced apart =
    kept_stays f g name (subst (λ (cs : List FolderChange). Kept (newest f) cs name) (sym is)
    (kept_more c (newest f) name (file_other c (newest f) name apart) (leaves_other c (newest f) name apart unsynced)))
stays_other (Err e) f g c name is same unsynced apart = stays_as f g name same

pub stays_synced : {E : Type 0} (r : Result (Unit {0}) E) (f g : MemoryFolder) (name : List ℕ) → OnOk r (newest g ≡ Synced ∷ newest f) → OnErr r (g.changes.items ≡ f.changes.items) →
    Stays memory_model f g name
stays_synced (Ok done) f g name is same =
    kept_stays f g name (subst (λ (cs : List FolderChange). Kept (newest f) cs name) (sym is)
    (kept_more Synced (newest f) name refl (leaves_synced (newest f) name)))
stays_synced (Err e) f g name is same = stays_as f g name same

-- the rename of a file that was written
pub replaces_renamed : {E : Type 0} (r : Result (Unit {0}) E) (f g : MemoryFolder) (c : FolderChange) (from to text : List ℕ) → OnOk r (newest g ≡ c ∷ newest f) → OnErr r ((other : List ℕ) → Stays memory_model f g other) →
    is_synced c ≡ false → touches to c ≡ true → text_at to c ≡ file (newest f) from → IsWritten memory_model f from text → Replaces memory_model f g to text
replaces_renamed (Ok done) f g c from to text is same unsynced renamed moved written = record {
  now = λ o h. inr (h ∙ has);
  left = λ o h. now_left o (subst (λ (cs : List FolderChange). leaves cs to o) is h);
  later = subst (λ (cs : List FolderChange). length (newest f) ≤ length cs) (sym is) (omega arith);
  each = λ o h. ⊎_elim (λ past. inl (since_only (newest f) to o past)) (λ t. inr t) (earlier (length (newest f)) o (subst (λ (cs : List FolderChange). since (length (newest f)) cs to o) is h));
  before = λ t o le h. earlier t o (subst (λ (cs : List FolderChange). since t cs to o) is h);
}
  where
    has : file (newest g) to ≡ Some text
    has = ap (λ (cs : List FolderChange). file cs to) is ∙ file_same c (newest f) to renamed ∙ moved ∙ written.now (file (newest f) from) refl

    now_left : (o : Option (List ℕ)) → leaves (c ∷ newest f) to o → leaves (newest f) to o ⊎ (o ≡ Some text)
    now_left o (inl left) = inl (inl (left ∙ ap (λ (ds : List FolderChange). file ds to) (disk_other c (newest f) unsynced)))
    now_left o (inr left) = inr (left ∙ sym (ap (λ (cs : List FolderChange). file cs to) is) ∙ has)

    earlier : (t : ℕ) (o : Option (List ℕ)) → since t (c ∷ newest f) to o → since t (newest f) to o ⊎ (o ≡ Some text)
    earlier t o (inl new) = ⊎_elim (λ was. inl (since_now t (newest f) to o was)) (λ is-text. inr is-text) (now_left o new)
    earlier t o (inr old) = inl old.1
replaces_renamed (Err e) f g c from to text is same unsynced renamed moved written = replaces_by (same to)

-- a change that was not added
pub stays_failed : {E : Type 0} (r : Result (Unit {0}) E) (d f g : MemoryFolder) → ((other : List ℕ) → Stays memory_model d f other) → OnErr r (g.changes.items ≡ f.changes.items) →
    OnErr r ((other : List ℕ) → Stays memory_model d g other)
stays_failed (Ok done) d f g first same = tt
stays_failed (Err e) d f g first same = λ other. stays_then (first other) (stays_as f g other same)

-- the removal of a file
pub removed_now : {E : Type 0} (r : Result (Unit {0}) E) (f g : MemoryFolder) (c : FolderChange) (name : List ℕ) → OnOk r (newest g ≡ c ∷ newest f) → OnErr r ((other : List ℕ) → Stays memory_model f g other) →
    touches name c ≡ true → text_at name c ≡ None → (read : Option (List ℕ)) → read ≡ file (newest g) name → (read ≡ file (newest f) name) ⊎ (read ≡ None)
removed_now (Ok done) f g c name is same named none read h = inr (h ∙ ap (λ (cs : List FolderChange). file cs name) is ∙ file_same c (newest f) name named ∙ none)
removed_now (Err e) f g c name is same named none read h = inl ((same name).possible.now read h)

-- what holds of each name holds of each but one
pub on_error : {T E : Type 0} (r : Result T E) (P : List ℕ → Type 0) (name : List ℕ) → OnErr r ((other : List ℕ) → P other) → OnErr r ((other : List ℕ) → other ≢ name → P other)
on_error (Ok x) P name all = tt
on_error (Err e) P name all = λ other ne. all other

-- either of two tests
pub second_is : (a b : Bool) → b ≡ true → (a || b) ≡ true
second_is true b is = refl
second_is false b is = is

pub neither_is : (a b : Bool) → a ≡ false → b ≡ false → (a || b) ≡ false
neither_is true b first second = first
neither_is false b first second = second

-- what the rename of a file says of its new name
pub renamed_text : (b : Bool) (text : List ℕ) (found : Option (List ℕ)) → b ≡ true → found ≡ Some text → (if b then Some text else None) ≡ found
renamed_text true text found is has = sym has
renamed_text false text found is has = cc
