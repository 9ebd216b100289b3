-- The length of the records of a map's bodies, after one was inserted or removed.
use Rattle.std.proofs.Common.{◌≡◌, ℕ, ◌+◌, ◌^◌, ◌<◌, ◌≤◌, List, Option, length, ap, arith}
use Rattle.std.specs.Prelude.{unwrap_or, option_map}
use Rattle.std.specs.List.{All, sum_by}
use Rattle.std.specs.List.Sorted.{IsStrictlySortedBy}
use Rattle.std.specs.Map.{lookup, remove_entry, keys_of, values_of}
use Rattle.std.specs.BTreeMap.{is_at, insert_entry}
use Rattle.std.proofs.lemmas.List.{length-map}
use Rattle.std.proofs.lemmas.List.Concat.{length-flat_map}
use Rattle.std.proofs.lemmas.List.Elements.{All-weaker}
use Rattle.std.proofs.lemmas.List.Sums.{sum_by-le}
use Rattle.std.proofs.lemmas.Map.Entries.{sum_by-insert_entry, sum_by-remove_entry}
use Rattle.tws_file.specs.declared.key.Key.{Key}
use Rattle.tws_best.specs.Best.{key_cmp, body_text}
use Rattle.tws_best.specs.Bodies.{BodyPair}
use Rattle.tws_best.proofs.BodyTexts.{texts}
use Rattle.tws_best.proofs.Orders.{key_total}

-- the length of a body's record
abbrev size : List ℕ → ℕ
size b = length (body_text b)

-- that of all records of these pairs
abbrev size_of : List BodyPair → ℕ
size_of ps = length (texts (values_of ps))

summed : (ps : List BodyPair) → size_of ps ≡ sum_by size (values_of ps)
summed ps = length-flat_map body_text (values_of ps)

-- the length of the record that a key had
abbrev size_at : Option (List ℕ) → ℕ
size_at old = unwrap_or (option_map size old) 0

-- a body takes the place of what its key had
pub inserted : (ps qs : List BodyPair) (k : Key) (b : List ℕ) (old : Option (List ℕ)) → IsStrictlySortedBy key_cmp (keys_of ps) →
    qs ≡ insert_entry key_cmp ps k b → old ≡ lookup (is_at (key_cmp k)) ps → size_of qs + size_at old ≡ size_of ps + size b
inserted ps qs k b old sorted new had =
    omega (arith, ap size_of new, ap size_at had, summed ps, summed (insert_entry key_cmp ps k b), sum_by-insert_entry size key_total ps k b sorted)

-- a key is removed with what it had
pub removed : (ps qs : List BodyPair) (k : Key) (old : Option (List ℕ)) → qs ≡ remove_entry (is_at (key_cmp k)) ps →
    old ≡ lookup (is_at (key_cmp k)) ps → size_of qs + size_at old ≡ size_of ps
removed ps qs k old new had =
    omega (arith, ap size_of new, ap size_at had, summed ps, summed (remove_entry (is_at (key_cmp k)) ps), sum_by-remove_entry size (is_at (key_cmp k)) ps)

-- Each record is short, so all together are not long.
pub all_small : (ps : List BodyPair) → All (λ b. length b < 2 ^ 32) (values_of ps) → length ps < 2 ^ 63 → size_of ps < 2 ^ 100
all_small ps sized few =
    let sum = sum_by-le size (2 ^ 33) (values_of ps) (All-weaker (λ b. length b < 2 ^ 32) (λ b. size b ≤ 2 ^ 33) (λ b short. omega (arith, short)) (values_of ps) sized) in
    omega (arith, summed ps, sum, length-map ps (λ (p : BodyPair). p.1), few)
