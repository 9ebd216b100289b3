-- The bytes of a block, taken record by record.
use Rattle.std.proofs.Math.Nat.{min_comm}
use Rattle.std.proofs.lemmas.List.{take_min}
use Rattle.std.proofs.Common.{◌≡◌, ℕ, zero, suc, ◌+◌, ◌-◌, ◌*◌, ◌<◌, ◌≤◌, min, List, [], ◌∷◌, ◌++◌, length, take, drop, get_or, refl, ap, sym, ◌∙◌, arith, append_assoc, append-nil, length-append, length-take, take-append-drop}
use Rattle.std.proofs.lemmas.List.{take_all, take_more, take-append-le, drop-append-le, drop_more}
use Rattle.std.proofs.Math.Seq.{take-append-add, drop-append-add}
use Rattle.std.proofs.lemmas.List.Concat.{flat_map-append}
use Rattle.tftp_packet.specs.Blocks.{block_of}
use Rattle.tws_best.specs.Best.{body_text}
use Rattle.tws_best.proofs.BodyTexts.{texts}

-- ---- as far as there is room

-- cut to n bytes, followed by more, and cut again
take_again : (n : ℕ) (xs ys : List ℕ) → take n (take n xs ++ ys) ≡ take n (xs ++ ys)
take_again zero xs ys = refl
take_again (suc n) [] ys = refl
take_again (suc n) (x ∷ xs) ys = ap (λ (zs : List ℕ). x ∷ zs) (take_again n xs ys)

-- there is room for all of xs, and for some of ys
pub part_pushed : (xs ys : List ℕ) (room count : ℕ) → length xs ≤ 512 → room ≡ 512 - length xs → count ≡ min (length ys) room → xs ++ take count ys ≡ take 512 (xs ++ ys)
part_pushed xs ys room count fits room-is count-is =
    let whole : length xs + room ≡ 512 = omega arith in
    ap (λ k. xs ++ take k ys) count-is
    ∙ ap (λ (zs : List ℕ). xs ++ zs) (ap (λ n. take n ys) (min_comm (length ys) room) ∙ take_min room ys)
    ∙ sym (take-append-add xs ys room)
    ∙ ap (λ k. take k (xs ++ ys)) whole

-- a record is its size and its body
pub head_pushed : (block first size rest body second : List ℕ) (skip : ℕ) → skip ≤ length size → rest ≡ drop skip size →
    first ≡ take 512 (block ++ rest) → second ≡ take 512 (first ++ body) → second ≡ take 512 (block ++ drop skip (size ++ body))
head_pushed block first size rest body second skip inside rest-is first-is second-is =
    second-is
    ∙ ap (λ (xs : List ℕ). take 512 (xs ++ body)) first-is
    ∙ take_again 512 (block ++ rest) body
    ∙ ap (take 512) (append_assoc block rest body)
    ∙ ap (λ (xs : List ℕ). take 512 (block ++ (xs ++ body))) rest-is
    ∙ ap (λ (xs : List ℕ). take 512 (block ++ xs)) (sym (drop-append-le skip size body inside))

-- what is left of a record whose size field, or more, comes before the block
pub tail_pushed : (block size rest body second : List ℕ) (skip : ℕ) → length size ≡ 4 → 4 ≤ skip → rest ≡ drop (skip - 4) body →
    second ≡ take 512 (block ++ rest) → second ≡ take 512 (block ++ drop skip (size ++ body))
tail_pushed block size rest body second skip four past rest-is second-is =
    let whole : length size + (skip - 4) ≡ skip = omega arith in
    second-is
    ∙ ap (λ (xs : List ℕ). take 512 (block ++ xs)) (rest-is ∙ sym (drop-append-add size body (skip - 4)) ∙ ap (λ k. drop k (size ++ body)) whole)

-- ---- bodies one after the other

-- one more body's text
pub texts_more : (bodies : List (List ℕ)) (i : ℕ) (body : List ℕ) → i < length bodies → body ≡ get_or bodies i body → texts (take (i + 1) bodies) ≡ texts (take i bodies) ++ body_text body
texts_more bodies i body inside is =
    ap texts (take_more bodies i body inside ∙ ap (λ (b : List ℕ). take i bodies ++ b ∷ []) (sym is))
    ∙ flat_map-append body_text (take i bodies) (body ∷ [])
    ∙ ap (λ (xs : List ℕ). texts (take i bodies) ++ xs) (append-nil (body_text body))

-- nothing more comes after the last body
pub none_pushed : (block : List ℕ) → length block ≤ 512 → block ≡ take 512 (block ++ [])
none_pushed block fits = sym (take_all 512 block fits) ∙ ap (take 512) (sym (append-nil block))

-- the block so far has the bodies before the one at `i`
module _ (start block : List ℕ) (bodies : List (List ℕ)) (i : ℕ) (so_far : block ≡ take 512 (start ++ texts (take i bodies))) where
  -- one more body
  pub body_pushed : (body next : List ℕ) → i < length bodies → body ≡ get_or bodies i body → next ≡ take 512 (block ++ body_text body) → next ≡ take 512 (start ++ texts (take (i + 1) bodies))
  body_pushed body next inside is next-is =
      next-is
      ∙ ap (λ (xs : List ℕ). take 512 (xs ++ body_text body)) so_far
      ∙ take_again 512 (start ++ texts (take i bodies)) (body_text body)
      ∙ ap (take 512) (append_assoc start (texts (take i bodies)) (body_text body))
      ∙ ap (λ (xs : List ℕ). take 512 (start ++ xs)) (sym (texts_more bodies i body inside is))

  -- a full block is that of all bodies
  pub full_block : length block ≡ 512 → block ≡ take 512 (start ++ texts bodies)
  full_block full =
      let first = start ++ texts (take i bodies) in
      let long : 512 ≤ length first = omega (arith, ap length so_far, length-take 512 first) in
      so_far
      ∙ sym (take-append-le 512 first (texts (drop i bodies)) long)
      ∙ ap (take 512) (append_assoc start (texts (take i bodies)) (texts (drop i bodies)))
      ∙ ap (λ (xs : List ℕ). take 512 (start ++ xs)) (sym (flat_map-append body_text (take i bodies) (drop i bodies)) ∙ ap texts (take-append-drop i bodies))

-- ---- from an offset in a record on

-- from an offset inside a record on, the text is what is left of the record, and the records after it
window : (head : List ℕ) (bodies : List (List ℕ)) (i r : ℕ) → length head ≡ 8 → i < length bodies → r ≤ length (body_text (get_or bodies i []))
    → drop (8 + length (texts (take i bodies)) + r) (head ++ texts bodies) ≡ drop r (body_text (get_or bodies i [])) ++ texts (drop (i + 1) bodies)
window head bodies i r eight inside within =
    let body = get_or bodies i [] in
    let first = head ++ texts (take i bodies) in
    let rest = texts (drop (i + 1) bodies) in
    let size : 8 + length (texts (take i bodies)) + r ≡ length first + r = omega (arith, eight, length-append head (texts (take i bodies))) in
    let whole : head ++ texts bodies ≡ first ++ (body_text body ++ rest) =
    ap (λ (bs : List (List ℕ)). head ++ texts bs) (sym (take-append-drop i bodies))
    ∙ ap (λ (xs : List ℕ). head ++ xs) (flat_map-append body_text (take i bodies) (drop i bodies) ∙ ap (λ (bs : List (List ℕ)). texts (take i bodies) ++ texts bs) (drop_more bodies i [] inside))
    ∙ sym (append_assoc head (texts (take i bodies)) (body_text body ++ rest)) in
    ap (λ n. drop n (head ++ texts bodies)) size
    ∙ ap (drop (length first + r)) whole
    ∙ drop-append-add first (body_text body ++ rest) r
    ∙ drop-append-le r (body_text body) rest within

-- the block that begins with the header
pub first_block : (head given first second : List ℕ) (bodies : List (List ℕ)) (k : ℕ) → k ≡ 1 → given ≡ head →
    first ≡ take 512 given → second ≡ take 512 (first ++ texts bodies) → second ≡ block_of (head ++ texts bodies) k
unfolding block_of
first_block head given first second bodies k one given-is first-is second-is =
    let start : 512 * (k - 1) ≡ 0 = omega arith in
    second-is
    ∙ ap (λ (xs : List ℕ). take 512 (xs ++ texts bodies)) (first-is ∙ ap (take 512) given-is)
    ∙ take_again 512 head (texts bodies)
    ∙ sym (ap (λ n. take 512 (drop n (head ++ texts bodies))) start)

-- a block that begins in a record
pub later_block : (head body first second : List ℕ) (bodies rest : List (List ℕ)) (i r k : ℕ) → length head ≡ 8 →
    i < length bodies → r ≤ length (body_text (get_or bodies i [])) → 512 * (k - 1) ≡ 8 + length (texts (take i bodies)) + r
    → body ≡ get_or bodies i [] → rest ≡ drop (i + 1) bodies → first ≡ take 512 (drop r (body_text body)) → second ≡ take 512 (first ++ texts rest) → second ≡ block_of (head ++ texts bodies) k
unfolding block_of
later_block head body first second bodies rest i r k eight inside within offset body-is rest-is first-is second-is =
    second-is
    ∙ ap (λ (xs : List ℕ). take 512 (xs ++ texts rest)) first-is
    ∙ take_again 512 (drop r (body_text body)) (texts rest)
    ∙ ap (λ (b : List ℕ). take 512 (drop r (body_text b) ++ texts rest)) body-is
    ∙ ap (λ (bs : List (List ℕ)). take 512 (drop r (body_text (get_or bodies i [])) ++ texts bs)) rest-is
    ∙ ap (take 512) (sym (window head bodies i r eight inside within))
    ∙ ap (λ n. take 512 (drop n (head ++ texts bodies))) (sym offset)
