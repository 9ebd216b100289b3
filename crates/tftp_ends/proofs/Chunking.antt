-- A file and its chunks, and how a receiver stores them.
use Rattle.std.proofs.Common.{◌≡◌, ℕ, zero, suc, ◌+◌, ◌-◌, ◌*◌, ◌/◌, ◌%◌, ◌<◌, ◌≤◌, ◌≢◌, min, Bool, true, false, cond, Result, Ok, Err, OnOk, OnErr, List, [], ◌∷◌, ◌++◌, length, take, drop, slice_index_or, Option, refl, ap, sym, ◌∙◌, subst, arith, append_assoc, append-nil, length-append, length-take, length-drop, drop-drop, take-take, take-append-drop}
use Rattle.std.proofs.Math.Seq.{take-add, drop-append_seam, drop-append-add}
use Rattle.std.proofs.lemmas.List.{take_all, take_at, take_rest, drop-take, nil_from_length}
use Rattle.std.proofs.lemmas.List.Folds.{concat-append}
use Rattle.std.specs.List.{concat}
use Rattle.std.specs.Io.KnownBytes.{Appends}
use Rattle.byte_output.specs.Output.{AppendsPrefix}
use Rattle.byte_output.proofs.Lists.{all_append}
use Rattle.byte_output.proofs.Sending.{Appends-then, prefix_in_turn, prefix_more}
use Rattle.tftp_packet.specs.declared.sizes.TheConstants.{BLOCK_SIZE}
use Rattle.tftp_packet.specs.Blocks.{block_count, block_of}
use Rattle.tftp_packet.proofs.Cutting.{length-block_of, copied_prefix}
use Rattle.tftp_ends.specs.declared.limits.TheConstants.{MAX_FILE}
use Rattle.tftp_ends.specs.declared.chunks.TheConstants.{CHUNK_SIZE}
use Rattle.tftp_ends.specs.Chunks.{chunk_count, chunk_of, chunks_to, chunks_of}
use Rattle.tftp_ends.specs.Held.{IsFull, AllFull}

-- ---- chunks of any file

-- a chunk has CHUNK_SIZE bytes, or what is left of the file
pub length-chunk_of : (file : List ℕ) (i : ℕ) → length (chunk_of file i) ≡ min CHUNK_SIZE (length file - CHUNK_SIZE * i)
unfolding chunk_of
length-chunk_of file i =
    length-take CHUNK_SIZE (drop (CHUNK_SIZE * i) file) ∙ ap (min CHUNK_SIZE) (length-drop (CHUNK_SIZE * i) file)

-- the first i chunks, and the next one
pub chunks-more : (file : List ℕ) (i : ℕ) → take (CHUNK_SIZE * i) file ++ chunk_of file i ≡ take (CHUNK_SIZE * (i + 1)) file
unfolding chunk_of
chunks-more file i =
    sym (take-add (CHUNK_SIZE * i) CHUNK_SIZE file) ∙ ap (λ (n : ℕ). take n file) (omega arith)

-- the chunks reach to the end of the file
pub all_chunks : (file : List ℕ) → take (CHUNK_SIZE * chunk_count file) file ≡ file
all_chunks file = take_all (CHUNK_SIZE * chunk_count file) file (omega arith)

-- the first n chunks, one after another, are the first bytes of the file
joined_first : (file : List ℕ) (n : ℕ) → concat (chunks_to file n) ≡ take (CHUNK_SIZE * n) file
joined_first file zero = refl
joined_first file (suc n) =
    let next : n + 1 ≡ suc n = omega arith in
    concat-append (chunks_to file n) (chunk_of file n ∷ [])
    ∙ ap (λ (xs : List ℕ). xs ++ concat (chunk_of file n ∷ [])) (joined_first file n)
    ∙ ap (λ (xs : List ℕ). take (CHUNK_SIZE * n) file ++ xs) (append-nil (chunk_of file n))
    ∙ chunks-more file n
    ∙ ap (λ (m : ℕ). take (CHUNK_SIZE * m) file) next

-- all chunks, one after another, are the file
pub joined_chunks : (file : List ℕ) → concat (chunks_of file) ≡ file
joined_chunks file = joined_first file (chunk_count file) ∙ all_chunks file

-- each chunk before the last is full
pub full_chunk : (file : List ℕ) (i : ℕ) → i + 1 < chunk_count file → length (chunk_of file i) ≡ CHUNK_SIZE
full_chunk file i inside = omega (arith, length-chunk_of file i)

-- no chunk is empty
pub some_chunk : (file : List ℕ) (i : ℕ) → i < chunk_count file → 1 ≤ length (chunk_of file i)
some_chunk file i inside = omega (arith, length-chunk_of file i)

-- no chunk has more than CHUNK_SIZE bytes
pub most_chunk : (file : List ℕ) (i : ℕ) → length (chunk_of file i) ≤ CHUNK_SIZE
most_chunk file i = omega (arith, length-chunk_of file i)

-- ---- chunks as they are stored

-- full chunks in a row have CHUNK_SIZE bytes each
pub length-full : (held : List (List ℕ)) → AllFull held → length (concat held) ≡ CHUNK_SIZE * length held
length-full [] all = refl
length-full (chunk ∷ held) all = omega (arith, length-append chunk (concat held), all.0, length-full held all.1)

-- the bytes at the place of a full chunk are that chunk
pub held_at : (held : List (List ℕ)) (last : List ℕ) (i : ℕ) (d : List ℕ) → AllFull held → i < length held → take CHUNK_SIZE (drop (CHUNK_SIZE * i) (concat held ++ last)) ≡ slice_index_or held i d
held_at [] last i d all inside = absurd (omega arith)
held_at (chunk ∷ held) last zero d all inside =
    ap (take CHUNK_SIZE) (append_assoc chunk (concat held) last) ∙ take_at chunk (concat held ++ last) CHUNK_SIZE all.0
held_at (chunk ∷ held) last (suc i) d all inside =
    let place : CHUNK_SIZE * suc i ≡ length chunk + CHUNK_SIZE * i = omega (arith, all.0) in
    ap (λ (xs : List ℕ). take CHUNK_SIZE (drop (CHUNK_SIZE * suc i) xs)) (append_assoc chunk (concat held) last)
    ∙ ap (λ (n : ℕ). take CHUNK_SIZE (drop n (chunk ++ (concat held ++ last)))) place
    ∙ ap (take CHUNK_SIZE) (drop-append-add chunk (concat held ++ last) (CHUNK_SIZE * i))
    ∙ held_at held last i d all.1 (omega arith)

-- the file has the bytes of the full chunks and those of the last one
pub held_size : (file : List ℕ) (held : List (List ℕ)) (last : List ℕ) → concat held ++ last ≡ file → AllFull held → length file ≡ CHUNK_SIZE * length held + length last
held_size file held last file-is all =
    ap length (sym file-is) ∙ length-append (concat held) last ∙ ap (λ (n : ℕ). n + length last) (length-full held all)

-- a full chunk is that chunk of the file
pub chunk_in : (file : List ℕ) (held : List (List ℕ)) (last : List ℕ) (i : ℕ) (d : List ℕ) → file ≡ concat held ++ last → AllFull held → i < length held → slice_index_or held i d ≡ chunk_of file i
unfolding chunk_of
chunk_in file held last i d file-is all inside =
    sym (ap (λ (xs : List ℕ). take CHUNK_SIZE (drop (CHUNK_SIZE * i) xs)) file-is ∙ held_at held last i d all inside)

-- and so is the last one
pub chunk_last : (file : List ℕ) (held : List (List ℕ)) (last : List ℕ) (i : ℕ) → file ≡ concat held ++ last → AllFull held →
    length last ≤ CHUNK_SIZE → length held ≤ i → i < chunk_count file → last ≡ chunk_of file i
unfolding chunk_of
chunk_last file held last i file-is all within past inside =
    let size : length file ≡ CHUNK_SIZE * length held + length last = held_size file held last (sym file-is) all in
    let same : CHUNK_SIZE * i ≡ length (concat held) = omega (arith, length-full held all) in
    sym (
    ap (λ (xs : List ℕ). take CHUNK_SIZE (drop (CHUNK_SIZE * i) xs)) file-is
    ∙ ap (λ (n : ℕ). take CHUNK_SIZE (drop n (concat held ++ last))) same
    ∙ ap (take CHUNK_SIZE) (drop-append_seam (concat held) last)
    ∙ take_all CHUNK_SIZE last within
    )

-- ---- a block is appended

-- the bounds after it
abbrev pub AreChunks : (held : List (List ℕ)) (last : List ℕ) → Type 0
AreChunks held last = AllFull held × (length last ≤ CHUNK_SIZE) × (length (concat held ++ last) ≤ MAX_FILE)

-- a file in chunks, and a block after it with which it stays within the limit
module _ (file : List ℕ) (held : List (List ℕ)) (last block : List ℕ) (file-is : concat held ++ last ≡ file) (all : AllFull held) (room : length file + length block ≤ MAX_FILE) where
  -- the last chunk joins the full ones, and another one begins
  module _ (is_full : length last ≡ CHUNK_SIZE) (short : length block ≤ BLOCK_SIZE) where
    -- with the last chunk among the full ones and the block after it, the bytes are the file and the block
    begun : concat (held ++ last ∷ []) ++ block ≡ file ++ block
    begun =
        ap (λ (xs : List ℕ). xs ++ block) (concat-append held (last ∷ []) ∙ ap (λ (xs : List ℕ). concat held ++ xs) (append-nil last) ∙ file-is)

    -- the bytes are the file and the block, unless the list of chunks refused to grow
    pub begun_is : {E : Type 0} (r : Result (Unit {0}) E) (held' : List (List ℕ)) (last' : List ℕ) →
        OnOk r (held' ≡ held ++ last ∷ []) → OnOk r (last' ≡ block) → OnOk r (concat held' ++ last' ≡ file ++ block)
    begun_is (Ok x) held' last' held-is last-is =
        ap (λ (xs : List (List ℕ)). concat xs ++ last') held-is ∙ ap (λ (xs : List ℕ). concat (held ++ last ∷ []) ++ xs) last-is ∙ begun
    begun_is (Err e) held' last' held-is last-is = tt

    -- the chunks stay within their bounds, whether or not the list grew
    pub begun_fits : {E : Type 0} (r : Result (Unit {0}) E) (held' : List (List ℕ)) (last' : List ℕ) →
        OnOk r (held' ≡ held ++ last ∷ []) → OnOk r (last' ≡ block) → OnErr r (held' ≡ held) → OnErr r (last' ≡ last) →
        AreChunks held' last'
    begun_fits {E} (Ok x) held' last' held-is last-is stays last_stays = (
      subst AllFull (sym held-is) (all_append IsFull held (last ∷ []) all (is_full, tt)),
      omega (arith, ap length last-is),
      omega (arith, ap length (begun_is {E = E} (Ok x) held' last' held-is last-is), length-append file block),
    )
    begun_fits {E} (Err e) held' last' held-is last-is stays last_stays = (
      subst AllFull (sym stays) all,
      omega (arith, ap length last_stays),
      omega (arith, ap length (ap (λ (xs : List (List ℕ)). concat xs ++ last') stays ∙ ap (λ (xs : List ℕ). concat held ++ xs) last_stays ∙ file-is)),
    )

  -- the last chunk grows
  pub grown_fits : (granted : Bool) (last' : List ℕ) → length last ≤ CHUNK_SIZE → length last ≢ CHUNK_SIZE →
      length file % BLOCK_SIZE ≡ 0 → length block ≤ BLOCK_SIZE → last' ≡ cond granted (last ++ block) last → AreChunks held last'
  grown_fits true last' within other whole short last-is = (
    all,
    omega (arith, ap length last-is, length-append last block, held_size file held last file-is all),
    omega (arith, ap length last-is, length-append last block, length-append (concat held) last', length-append (concat held) last, ap length file-is),
  )
  grown_fits false last' within other whole short last-is = (
    all,
    omega (arith, ap length last-is),
    omega (arith, ap length last-is, length-append (concat held) last', length-append (concat held) last, ap length file-is),
  )

-- ---- blocks

-- a block is inside one chunk
pub block_in_chunk : (file rest : List ℕ) (start i k : ℕ) → start ≡ BLOCK_SIZE * (k - 1) → i ≡ start / CHUNK_SIZE →
    rest ≡ drop (start % CHUNK_SIZE) (chunk_of file i) → take BLOCK_SIZE rest ≡ block_of file k
unfolding chunk_of block_of
block_in_chunk file rest start i k start-is i-is rest-is =
    let offset = start % CHUNK_SIZE in
    let place : CHUNK_SIZE * i + offset ≡ BLOCK_SIZE * (k - 1) = omega arith in
    let parts : CHUNK_SIZE ≡ offset + (CHUNK_SIZE - offset) = omega arith in
    ap (take BLOCK_SIZE) (
    rest-is
    ∙ ap (λ (n : ℕ). drop offset (take n (drop (CHUNK_SIZE * i) file))) parts
    ∙ drop-take offset (CHUNK_SIZE - offset) (drop (CHUNK_SIZE * i) file)
    ∙ ap (take (CHUNK_SIZE - offset)) (drop-drop offset (CHUNK_SIZE * i) file)
    )
    ∙ take-take BLOCK_SIZE (CHUNK_SIZE - offset) (drop (CHUNK_SIZE * i + offset) file) (omega arith)
    ∙ ap (λ (n : ℕ). take BLOCK_SIZE (drop n file)) place

-- after the last chunk there is nothing more
pub block_past : (file : List ℕ) (start k : ℕ) → start ≡ BLOCK_SIZE * (k - 1) → chunk_count file ≤ start / CHUNK_SIZE → block_of file k ≡ []
block_past file start k start-is past = nil_from_length (block_of file k) (omega (arith, length-block_of file k))

-- the offset of a block in its chunk
pub offset_within : (file chunk : List ℕ) (start k : ℕ) → start ≡ BLOCK_SIZE * (k - 1) → 1 ≤ k → k ≤ block_count file → chunk ≡ chunk_of file (start / CHUNK_SIZE) → start % CHUNK_SIZE ≤ length chunk
offset_within file chunk start k start-is first last chunk-is =
    omega (arith, ap length chunk-is, length-chunk_of file (start / CHUNK_SIZE))

-- `count` bytes of the chunk, from the block's offset on, were copied to the start of a buffer
pub copied_chunk : (file chunk rest out copied : List ℕ) (start k count : ℕ) → start ≡ BLOCK_SIZE * (k - 1) →
    chunk ≡ chunk_of file (start / CHUNK_SIZE) →
    rest ≡ take (length chunk - start % CHUNK_SIZE) (drop (start % CHUNK_SIZE) chunk) → count ≡ min (length rest) BLOCK_SIZE →
    copied ≡ take count rest → (count ≡ length (block_of file k)) × (take count (copied ++ out) ≡ block_of file k)
copied_chunk file chunk rest out copied start k count start-is chunk-is rest-is count-is copied-is =
    let after = rest-is ∙ take_rest chunk (start % CHUNK_SIZE) ∙ ap (drop (start % CHUNK_SIZE)) chunk-is in
    copied_prefix file rest out copied k count count-is copied-is (block_in_chunk file rest start (start / CHUNK_SIZE) k start-is refl after)

-- ---- a list that is gathered and written chunk by chunk

-- one more chunk was appended to those before it
pub gathered : (file bytes chunk more : List ℕ) (i : ℕ) → bytes ≡ take (CHUNK_SIZE * i) file → chunk ≡ chunk_of file i → more ≡ bytes ++ chunk → more ≡ take (CHUNK_SIZE * (i + 1)) file
gathered file bytes chunk more i bytes-is chunk-is more-is =
    more-is ∙ ap (λ (xs : List ℕ). xs ++ chunk) bytes-is ∙ ap (λ (xs : List ℕ). take (CHUNK_SIZE * i) file ++ xs) chunk-is ∙ chunks-more file i

-- one more chunk was written
pub written : (old mid new : Option (List ℕ)) (file chunk : List ℕ) (i : ℕ) → chunk ≡ chunk_of file i →
    Appends old mid (take (CHUNK_SIZE * i) file) → Appends mid new chunk → Appends old new (take (CHUNK_SIZE * (i + 1)) file)
written old mid new file chunk i chunk-is first second =
    subst (λ (xs : List ℕ). Appends old new xs)
    (ap (λ (xs : List ℕ). take (CHUNK_SIZE * i) file ++ xs) chunk-is ∙ chunks-more file i)
    (Appends-then old mid new (take (CHUNK_SIZE * i) file) chunk first second)

-- once all chunks are written, the whole file is
pub all_written : (old new : Option (List ℕ)) (file : List ℕ) (i : ℕ) → i ≡ chunk_count file → Appends old new (take (CHUNK_SIZE * i) file) → Appends old new file
all_written old new file i i-is appends =
    subst (λ (xs : List ℕ). Appends old new xs) (ap (λ (n : ℕ). take (CHUNK_SIZE * n) file) i-is ∙ all_chunks file) appends

-- if the writer fails in a chunk, a proper prefix of the file was written
pub prefix_written : (old mid new : Option (List ℕ)) (file chunk : List ℕ) (i : ℕ) → chunk ≡ chunk_of file i →
    Appends old mid (take (CHUNK_SIZE * i) file) → AppendsPrefix mid new chunk → AppendsPrefix old new file
prefix_written old mid new file chunk i chunk-is first second =
    let so_far = take (CHUNK_SIZE * i) file in
    let both = ap (λ (xs : List ℕ). so_far ++ xs) chunk-is ∙ chunks-more file i in
    let whole = ap (λ (xs : List ℕ). xs ++ drop (CHUNK_SIZE * (i + 1)) file) both ∙ take-append-drop (CHUNK_SIZE * (i + 1)) file in
    subst (λ (xs : List ℕ). AppendsPrefix old new xs) whole
    (prefix_more old new (so_far ++ chunk) (prefix_in_turn old mid new so_far chunk so_far refl first second)
    (drop (CHUNK_SIZE * (i + 1)) file))
