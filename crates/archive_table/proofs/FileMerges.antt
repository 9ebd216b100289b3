-- A received file that is merged chunk by chunk is merged as a whole.
use Rattle.std.specs.Prelude.{◌≡◌, ◌∷◌, MatchBool, MatchOption, is_err, is_some, nat_lt, ℕ, zero, suc, ◌+◌, ◌*◌, ◌<◌, ◌≤◌, ◌^◌, Bool, true, false, List, [], ◌++◌, length, take, Contains, Option, None, Some, unwrap_or, option_and_then, slice_get, Result, Ok, Err}
use Rattle.std.proofs.Common.{refl, sym, ap, ◌∙◌, inl, inr, subst}
use native.Mathlib.Omega.{arith}
use Rattle.std.proofs.lemmas.List.{append-nil, append_assoc, length-append, length-take, take_all}
use Rattle.tws_file.specs.declared.«ruleset».Ruleset.{Ruleset}
use Rattle.tws_file.specs.declared.«ruleset».Ruleset.TheVariants.{Lynx, Ms}
use Rattle.tws_file.specs.declared.file_fault.FileFault.{FileFault}
use Rattle.tws_file.specs.Fields.{ruleset_in, ruleset_with}
use Rattle.tws_file.specs.Text.{File, Record, IsText, IsReadable}
use Rattle.tws_file.specs.Fault.{HasFileFault}
use Rattle.tws_reader.specs.PartReader.{PartReading, HasRead, HasRoom, IsTextWith}
use Rattle.tws_file.proofs.FileText.{one_file}
use Rattle.tws_reader.proofs.Faults.{text_without_fault}
use Rattle.tws_reader.proofs.InParts.{has_room}
use Rattle.tws_file.proofs.Rules.{text_long}
use Rattle.tws_best.specs.Best.{KeyedBody, Collected, IsBestOf, IsCollected, solved_in, solved_by, collection_text}
use Rattle.tws_best.proofs.Bests.{own_best}
use Rattle.tws_best.proofs.Sets.{best_of_best}
use Rattle.tws_best.proofs.Solved.{solved_in-append}
use Rattle.tftp_ends.specs.declared.chunks.TheConstants.{CHUNK_SIZE}
use Rattle.tftp_ends.specs.Chunks.{chunk_count, chunk_of}
use Rattle.tftp_ends.proofs.Chunking.{chunks-more}
use Rattle.tftp_packet.specs.declared.refusal.Refusal.{Refusal}
use Rattle.std.proofs.lemmas.Bool.{true≢false}
use Rattle.archive_table.specs.declared.keep_fault.KeepFault.{KeepFault}
use Rattle.archive_table.specs.declared.keep_fault.KeepFault.TheVariants.{Device, Memory}
use Rattle.archive_table.specs.Table.{Maps, MergesIntoOwn, IsMerged}
use Rattle.archive_table.specs.Keeper.{Keeping, KeeperGrows, FailsKeep, RefusesFile, kept_by}
use Rattle.std.proofs.lemmas.Bool.Decides.{nat_tests}
use Rattle.tws_best.specs.Merge.{Merging}
use Rattle.archive_table.specs.FileMerge.{MergesFile, RefusesOne, TakesChunk, HasMerged, MergesText, left_by}
use Rattle.archive_table.proofs.Grants.{both}

-- ---- the chunks

-- nothing was read
pub merged_none : (c : Collected) (r : PartReading) (bytes : List ℕ) → IsCollected c → HasRead r [] [] → bytes ≡ [] → HasMerged c.entries r c bytes
merged_none c r bytes fits read none = record {
  records = [];
  read = subst (λ (xs : List ℕ). HasRead r [] xs) (sym none) read;
  best = subst (λ (es : List KeyedBody). IsBestOf (Contains es) c.entries) (sym (append-nil c.entries)) (own_best c.entries fits.rising);
}

-- one more chunk
merged_chunk : (first : List KeyedBody) (was is : PartReading) (old new : Collected) (bytes chunk : List ℕ) →
    HasMerged first was old bytes → TakesChunk was old chunk is new → HasMerged first is new (bytes ++ chunk)
merged_chunk first was is old new bytes chunk h t =
    let solved = solved_in h.records in
    record {
      records = h.records ++ t.more;
      read = t.hands_out h.records bytes h.read;
      best = elim t.best [
        | inl none ↦ subst (λ (c : Collected). IsBestOf (Contains (first ++ solved_in (h.records ++ t.more))) c.entries) (sym none.1)
            (subst (λ (rs : List Record). IsBestOf (Contains (first ++ solved_in rs)) old.entries) (sym (append-nil h.records) ∙ ap (λ (more : List Record). h.records ++ more) (sym none.0)) h.best)
        | inr best ↦ subst (λ (es : List KeyedBody). IsBestOf (Contains es) new.entries)
            (append_assoc first solved (solved_in t.more) ∙ ap (λ (es : List KeyedBody). first ++ es) (sym (solved_in-append h.records t.more)))
            (best_of_best (first ++ solved) (solved_in t.more) old.entries new.entries h.best best)
      ];
    }

pub merged_more : (first : List KeyedBody) (was is : PartReading) (old new : Collected) (file chunk : List ℕ) (i : ℕ) →
    chunk ≡ chunk_of file i → HasMerged first was old (take (CHUNK_SIZE * i) file) → TakesChunk was old chunk is new →
    HasMerged first is new (take (CHUNK_SIZE * (i + 1)) file)
merged_more first was is old new file chunk i chunk-is h t =
    subst (λ (xs : List ℕ). HasMerged first is new xs) (ap (λ (xs : List ℕ). take (CHUNK_SIZE * i) file ++ xs) chunk-is ∙ chunks-more file i)
    (merged_chunk first was is old new (take (CHUNK_SIZE * i) file) chunk h t)

-- there is room for each chunk
pub chunk_room : (first : List KeyedBody) (r : PartReading) (c : Collected) (file chunk : List ℕ) (i : ℕ) → length file < 2 ^ 64 →
    chunk ≡ chunk_of file i → HasMerged first r c (take (CHUNK_SIZE * i) file) → HasRoom r chunk
chunk_room first r c file chunk i short chunk-is h =
    let before = take (CHUNK_SIZE * i) file in
    let all : before ++ chunk ≡ take (CHUNK_SIZE * (i + 1)) file = ap (λ (xs : List ℕ). before ++ xs) chunk-is ∙ chunks-more file i in
    has_room r h.records before chunk h.read (omega (arith, short, ap length all, length-append before chunk, length-take (CHUNK_SIZE * (i + 1)) file))

-- all chunks are the file
pub merged_all : (first : List KeyedBody) (r : PartReading) (c : Collected) (file : List ℕ) (i : ℕ) → chunk_count file ≤ i → HasMerged first r c (take (CHUNK_SIZE * i) file) → HasMerged first r c file
merged_all first r c file i end h = subst (λ (xs : List ℕ). HasMerged first r c xs) (take_all (CHUNK_SIZE * i) file (omega (arith, end))) h

pub merges_text : (old now : Collected) (r : PartReading) (file : List ℕ) → HasMerged old.entries r now file →
    ((records : List Record) (bytes : List ℕ) → HasRead r records bytes → IsTextWith records bytes) → MergesText file old now
merges_text old now r file h ends =
    let end = ends h.records file h.read in
    record { file = _; text = end.text; best = h.best }

-- the fault with which the reading ends is that of the file
pub faults_of : (first : List KeyedBody) (r : PartReading) (c : Collected) (file : List ℕ) (e : FileFault) →
    HasMerged first r c file → ((records : List Record) (bytes : List ℕ) → HasRead r records bytes → HasFileFault bytes e) → HasFileFault file e
faults_of first r c file e h ends = ends h.records file h.read

-- ---- the file

own_solved : (j k : Ruleset) (rs : List Record) → k ≡ j → solved_by j k rs ++ [] ≡ solved_in rs
own_solved j k rs same = subst (λ (i : Ruleset). solved_by j i rs ++ [] ≡ solved_in rs) (sym same) (by j)
  where
    by : (i : Ruleset) → solved_by i i rs ++ [] ≡ solved_in rs
    by Lynx = append-nil (solved_in rs)
    by Ms = append-nil (solved_in rs)

pub merges_file : (bytes : List ℕ) (old new : Collected) → new.ruleset ≡ old.ruleset → MergesText bytes old new → MergesFile bytes old new
merges_file bytes old new rules m = record {
  readable = λ file text own.
      let same : m.file ≡ file = one_file bytes m.file file m.text text in
      let solved = own_solved old.ruleset file.«ruleset» file.records own in
      record {
        rules = rules;
        best = subst (λ (es : List KeyedBody). IsBestOf (Contains (old.entries ++ es)) new.entries) (ap (λ (f : File). solved_in f.records) same ∙ sym solved) m.best;
      };
  unreadable = λ never. absurd (never m.file m.text);
}

-- bytes with a fault change nothing
pub merges_nothing : (bytes : List ℕ) (c : Collected) (e : FileFault) → HasFileFault bytes e → MergesFile bytes c c
merges_nothing bytes c e fault = record { readable = λ file text own. absurd (text_without_fault bytes file e text fault); unreadable = λ none. refl }

-- all that a merge took is merged into what was there at first
pub merges_read : (bytes : List ℕ) (first old now : Collected) → old ≡ first → now.ruleset ≡ old.ruleset → MergesText bytes old now → MergesFile bytes first now
merges_read bytes first old now begun rules text = subst (λ (c : Collected). MergesFile bytes c now) begun (merges_file bytes old now rules text)

-- what the end of a reading says of the file, by whether it has a fault
pub with_fault : (P : Type 0) (Q : FileFault → Type 0) (fault : Option FileFault) (b : Bool) → b ≡ is_some fault → b ≡ true → MatchOption fault P Q → (e : FileFault) × Q e
with_fault P Q None b is true-is h = absurd (true≢false (sym true-is ∙ is))
with_fault P Q (Some e) b is true-is h = (e, h)

pub without_fault : (P : Type 0) (Q : FileFault → Type 0) (fault : Option FileFault) (b : Bool) → b ≡ is_some fault → b ≡ false → MatchOption fault P Q → P
without_fault P Q None b is false-is h = h
without_fault P Q (Some e) b is false-is h = absurd (true≢false (sym is ∙ false-is))

-- what is left of a merge, by the number of its changes
pub left_none : (n : ℕ) (m : Merging) → n ≡ 0 → left_by (nat_lt 0 n) m ≡ m.first
left_none n m none = ap (λ (k : ℕ). left_by (nat_lt 0 k) m) none

pub left_some : (n : ℕ) (m : Merging) → (n ≡ 0 → ⊥) → left_by (nat_lt 0 n) m ≡ m.now
left_some n m some = let positive : nat_lt 0 n ≡ true = grind (arith, nat_tests) in ap (λ (b : Bool). left_by b m) positive

pub when_true : (P Q : Type 0) (b : Bool) → b ≡ true → MatchBool b P Q → P
when_true P Q true is p = p
when_true P Q false is p = absurd (true≢false (sym is))

pub when_false : (P Q : Type 0) (b : Bool) → b ≡ false → MatchBool b P Q → Q
when_false P Q true is q = absurd (true≢false is)
when_false P Q false is q = q

-- a keep that failed
pub fails_keep : (r : Result (Unit {0}) KeepFault) (rules : Ruleset) (given now : Collected)
    (before after : Option (List Keeping)) → is_err r ≡ true → rules ≡ given.ruleset → given ≡ now →
    KeeperGrows before after (kept_by r rules (collection_text given)) → FailsKeep now.ruleset now before after
fails_keep r rules given now before after failed rules-is same grows =
    subst (λ (c : Collected). FailsKeep c.ruleset c before after) same (subst (λ k. FailsKeep k given before after) rules-is (by r failed grows))
  where
    by : (s : Result (Unit {0}) KeepFault) → is_err s ≡ true → KeeperGrows before after (kept_by s rules (collection_text given)) → FailsKeep rules given before after
    by (Ok done) is log = absurd (true≢false (sym is))
    by (Err Device) is log = inr log
    by (Err Memory) is log = inl log

-- ---- both collections

some_same : (r s : Ruleset) → Some r ≡ Some s → s ≡ r
some_same r s is = cc

-- the ruleset that a text was found to have, if its file has one
pub of_text : (r own : Ruleset) (found : Option Ruleset) (chosen : Ruleset) → chosen ≡ r → chosen ≡ unwrap_or found Lynx → found ≡ Some own → Some r ≡ Some own
of_text r own found chosen is by text = ap Some (sym is ∙ by ∙ ap (λ (o : Option Ruleset). unwrap_or o Lynx) text)

module _ (bytes : List ℕ) (lynx ms new : Collected) where
  pub lynx_merged : ((f : File) → IsText bytes f → Some Lynx ≡ Some f.«ruleset») → lynx.ruleset ≡ Lynx → MergesFile bytes lynx new → IsMerged bytes (both lynx ms) (both new ms)
  lynx_merged own rules m = record {
    readable = λ f t.
        let is = some_same Lynx f.«ruleset» (own f t) in
        subst (λ r. MergesIntoOwn r f (both lynx ms) (both new ms)) (sym is) (m.readable f t (is ∙ sym rules), refl);
    unreadable = λ never. ap (λ (c : Collected). both c ms) (m.unreadable never);
  }

  pub ms_merged : ((f : File) → IsText bytes f → Some Ms ≡ Some f.«ruleset») → ms.ruleset ≡ Ms → MergesFile bytes ms new → IsMerged bytes (both lynx ms) (both lynx new)
  ms_merged own rules m = record {
    readable = λ f t.
        let is = some_same Ms f.«ruleset» (own f t) in
        subst (λ r. MergesIntoOwn r f (both lynx ms) (both lynx new)) (sym is) (m.readable f t (is ∙ sym rules), refl);
    unreadable = λ never. ap (λ (c : Collected). both lynx c) (m.unreadable never);
  }

module _ (why : Refusal) (bytes : List ℕ) (lynx ms : Collected) (before after : Option (List Keeping)) where
  pub lynx_refused : ((f : File) → IsText bytes f → Some Lynx ≡ Some f.«ruleset») → lynx.ruleset ≡ Lynx → RefusesOne why bytes lynx before after → RefusesFile why bytes (both lynx ms) before after
  lynx_refused own rules (inl h) = inl h
  lynx_refused own rules (inr (not, (new, merged, other, fails))) = inr (not, (both new ms, lynx_merged bytes lynx ms new own rules merged, inl (refl, other, fails)))

  pub ms_refused : ((f : File) → IsText bytes f → Some Ms ≡ Some f.«ruleset») → ms.ruleset ≡ Ms → RefusesOne why bytes ms before after → RefusesFile why bytes (both lynx ms) before after
  ms_refused own rules (inl h) = inl h
  ms_refused own rules (inr (not, (new, merged, other, fails))) = inr (not, (both lynx new, ms_merged bytes lynx ms new own rules merged, inr (refl, other, fails)))

-- ---- the ruleset of a file

-- no file is so short
pub no_file : (bytes : List ℕ) (f : File) → chunk_count bytes ≡ 0 → IsText bytes f → ⊥
no_file bytes f none text = omega (arith, none, ap length text.text, text_long f text.fits)

pub first_chunk : (file : List ℕ) → chunk_of file 0 ≡ take CHUNK_SIZE file
unfolding chunk_of
first_chunk file = refl

slice_get-take : (n : ℕ) (xs : List ℕ) (i : ℕ) → i < n → slice_get (take n xs) i ≡ slice_get xs i
slice_get-take zero xs i h = absurd (omega (arith, h))
slice_get-take (suc n) [] i h = refl
slice_get-take (suc n) (x ∷ xs) zero h = refl
slice_get-take (suc n) (x ∷ xs) (suc i) h = slice_get-take n xs i (omega (arith, h))

-- the first chunk has the fifth byte of the file
pub first_ruleset : (file chunk : List ℕ) → chunk ≡ chunk_of file 0 → ruleset_in chunk ≡ ruleset_in file
unfolding chunk_of
first_ruleset file chunk is = ap ruleset_in is ∙ ap (option_and_then ruleset_with) (slice_get-take CHUNK_SIZE file 4 (omega arith))

-- a file without a chunk has no byte
no_chunk : (file : List ℕ) → chunk_count file ≡ 0 → length file ≡ 0
no_chunk file none = omega (arith, none)

pub no_ruleset : (file : List ℕ) → chunk_count file ≡ 0 → None ≡ ruleset_in file
no_ruleset [] none = refl
no_ruleset (x ∷ xs) none = absurd (omega (arith, no_chunk (x ∷ xs) none))
