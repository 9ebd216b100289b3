-- The offsets at which records start, and the search among them.
use Rattle.std.proofs.Common.{◌≡◌, ℕ, zero, suc, ◌+◌, ◌-◌, ◌<◌, ◌≤◌, true, false, List, [], ◌∷◌, ◌++◌, length, take, get_or, refl, ap, sym, ◌∙◌, arith, inl, inr, append_assoc, append-nil, length-append}
use lib.Dec.{leb}
use Rattle.std.specs.List.Sorted.{IsNonDecreasingBy, IsPartitionPoint}
use Rattle.std.proofs.lemmas.Bool.{cases_lt, leb-true, leb-false}
use Rattle.std.proofs.lemmas.List.{get_or_default, take_all}
use Rattle.std.proofs.lemmas.List.Concat.{flat_map-append}
use Rattle.tws_best.specs.Best.{body_text}
use Rattle.tws_best.specs.Frozen.{Frozen, frozen_text, record_start, starts_from}
use Rattle.tws_best.proofs.BodyTexts.{texts}
use Rattle.tws_best.proofs.Windows.{texts_more}

pub starts_length : (at : ℕ) (bodies : List (List ℕ)) → length (starts_from at bodies) ≡ length bodies
starts_length at [] = refl
starts_length at (b ∷ bs) = ap suc (starts_length (at + length (body_text b)) bs)

-- the offset of record i is where the texts of the bodies before it end
pub start_at : (at : ℕ) (bodies : List (List ℕ)) (i : ℕ) → i < length bodies → get_or (starts_from at bodies) i 0 ≡ at + length (texts (take i bodies))
start_at at [] i inside = absurd (omega arith)
start_at at (b ∷ bs) zero inside = omega arith
start_at at (b ∷ bs) (suc i) inside =
    omega (arith, start_at (at + length (body_text b)) bs i (omega (arith, inside)), length-append (body_text b) (texts (take i bs)))

-- one more record
pub starts_push : (at : ℕ) (bodies : List (List ℕ)) (body : List ℕ) → starts_from at (bodies ++ body ∷ []) ≡ starts_from at bodies ++ (at + length (texts bodies)) ∷ []
starts_push at [] body = let zero-is : at ≡ at + 0 = omega arith in ap (λ n. n ∷ []) zero-is
starts_push at (b ∷ bs) body =
    let rest = starts_push (at + length (body_text b)) bs body in
    let size : (at + length (body_text b)) + length (texts bs) ≡ at + length (texts (b ∷ bs)) = omega (arith, length-append (body_text b) (texts bs)) in
    ap (λ (ns : List ℕ). at ∷ ns) (rest ∙ ap (λ n. starts_from (at + length (body_text b)) bs ++ n ∷ []) size)

-- one more body adds its size field and its own length
pub texts_push : (bodies : List (List ℕ)) (body : List ℕ) → length (texts (bodies ++ body ∷ [])) ≡ length (texts bodies) + length (body_text body)
texts_push bodies body =
    ap length (flat_map-append body_text bodies (body ∷ []) ∙ ap (λ (xs : List ℕ). texts bodies ++ xs) (append-nil (body_text body)))
    ∙ length-append (texts bodies) (body_text body)

-- more bodies have a longer text
rises : (bodies : List (List ℕ)) (i j : ℕ) → i ≤ j → length (texts (take i bodies)) ≤ length (texts (take j bodies))
rises bodies zero j le = omega arith
rises bodies (suc i) zero le = absurd (omega arith)
rises [] (suc i) (suc j) le = omega arith
rises (b ∷ bs) (suc i) (suc j) le =
    omega (arith, rises bs i j (omega (arith, le)), length-append (body_text b) (texts (take i bs)), length-append (body_text b) (texts (take j bs)))

-- the offsets rise
pub starts_rise : (at : ℕ) (bodies : List (List ℕ)) → IsNonDecreasingBy (λ n. n) (starts_from at bodies)
starts_rise at bodies i j d le inside =
    let count = starts_length at bodies in
    let low = get_or_default (starts_from at bodies) i d 0 (omega (arith, le, inside)) ∙ start_at at bodies i (omega (arith, le, inside, count)) in
    let high = get_or_default (starts_from at bodies) j d 0 inside ∙ start_at at bodies j (omega (arith, inside, count)) in
    omega (arith, low, high, rises bodies i j le)

-- ---- the record with the byte at an offset

-- the record at `index` starts at `start`, and the offset is in it or at its end
record IsFound (bodies : List (List ℕ)) (offset index start : ℕ) : Type 0 where
  inside : index < length bodies
  low : start ≤ offset
  within : offset ≤ start + length (body_text (get_or bodies index []))
  is : start ≡ 8 + length (texts (take index bodies))

-- if an offset after the header is within the text, there is a body
some_body : (bodies : List (List ℕ)) (offset : ℕ) → 8 < offset → offset ≤ 8 + length (texts bodies) → 0 < length bodies
some_body [] offset past last = absurd (omega arith)
some_body (b ∷ bs) offset past last = omega arith

-- the place after the offsets that are not above this one
module _ (bodies : List (List ℕ)) (starts : List ℕ) (offset place : ℕ) (starts-is : starts ≡ starts_from 8 bodies)
    (past : 8 < offset) (last : offset ≤ 8 + length (texts bodies)) (bound : place ≤ length starts)
    (point : IsPartitionPoint (λ y. leb y offset ≡ true) (λ y. leb y offset ≡ false) starts place) where
  -- as many offsets as bodies
  count : length starts ≡ length bodies
  count = ap length starts-is ∙ starts_length 8 bodies

  -- each offset is where its record starts
  start-is : (i : ℕ) → i < length bodies → get_or starts i 0 ≡ 8 + length (texts (take i bodies))
  start-is i inside = ap (λ (ns : List ℕ). get_or ns i 0) starts-is ∙ start_at 8 bodies i inside

  -- the place is not the first one, as the first record starts before the offset
  place_past : 0 < place
  place_past = elim (cases_lt 0 place) [
    | inl lt ↦ lt
    | inr le ↦ (let some = some_body bodies offset past last in
        let above = leb-false (get_or starts 0 0) offset (point.1 0 0 le (omega (arith, some, count))) in
        absurd (omega (arith, above, start-is 0 some)))
  ]

  -- the record before the place is the one that the offset is in
  found_there : (index : ℕ) → index + 1 ≡ place → IsFound bodies offset index (get_or starts index 0)
  found_there index next =
      let inside : index < length bodies = omega (arith, bound, count) in
      let is = start-is index inside in
      let low = leb-true (get_or starts index 0) offset (point.0 index 0 (omega arith) (omega arith)) in
      let size : length (texts (take (index + 1) bodies)) ≡ length (texts (take index bodies)) + length (body_text (get_or bodies index [])) =
      ap length (texts_more bodies index (get_or bodies index []) inside
      (get_or_default bodies index [] (get_or bodies index []) inside)) ∙
      length-append (texts (take index bodies)) (body_text (get_or bodies index [])) in
      record {
        inside = inside;
        low = low;
        is = is;
        within = elim (cases_lt place (length bodies)) [
          | inl more ↦ (let above = leb-false (get_or starts place 0) offset (point.1 place 0 (omega arith) (omega (arith, more, count))) in
              let later = start-is place more in
              let same = ap (λ n. length (texts (take n bodies))) next in
              omega (arith, above, later, same, size, is))
          | inr end ↦ (let whole = ap (λ n. length (texts (take n bodies))) next ∙ ap (λ (bs : List (List ℕ)). length (texts bs)) (take_all place bodies end) in
              omega (arith, whole, size, is, last))
        ];
      }

-- what a search among the starts of a snapshot's records finds: the record before the place
pub record IsFoundIn (s : Frozen) (starts : List ℕ) (offset place : ℕ) : Type 0 where
  pub past : 0 < place
  pub inside : place - 1 < length s.bodies
  pub counted : place - 1 < length starts
  pub low : get_or starts (place - 1) 0 ≤ offset
  pub within : offset ≤ get_or starts (place - 1) 0 + length (body_text (get_or s.bodies (place - 1) []))
  pub is : get_or starts (place - 1) 0 ≡ record_start s (place - 1)

-- the place where a search among the offsets ends gives that record
pub found_in : (own s : Frozen) (starts : List ℕ) (offset place : ℕ) → own ≡ s → starts ≡ starts_from 8 own.bodies → 8 < offset →
    offset ≤ length (frozen_text s) → place ≤ length starts →
    IsPartitionPoint (λ y. leb y offset ≡ true) (λ y. leb y offset ≡ false) starts place → IsFoundIn s starts offset place
found_in own s starts offset place own-is starts-are past last bound point =
    let are = starts-are ∙ ap (λ v. starts_from 8 v.bodies) own-is in
    let reach : offset ≤ 8 + length (texts s.bodies) = omega (arith, last) in
    let some = place_past s.bodies starts offset place are past reach bound point in
    let next : (place - 1) + 1 ≡ place = omega (arith, some) in
    let found = found_there s.bodies starts offset place are past reach bound point (place - 1) next in
    let many : length starts ≡ length s.bodies = ap length are ∙ starts_length 8 s.bodies in
    record { past = some; inside = found.inside; counted = omega (arith, found.inside, many); low = found.low; within = found.within; is = found.is }

-- the start that was read, from any list that equals the starts
pub start_read : (starts held : List ℕ) (i start : ℕ) → starts ≡ held → i < length starts → start ≡ get_or held i start → start ≡ get_or starts i 0
start_read starts held i start same inside is =
    is ∙ ap (λ (ns : List ℕ). get_or ns i start) (sym same) ∙ get_or_default starts i start 0 inside

-- one more body is noted
pub all_noted : (old new left next all : List (List ℕ)) (given body : List ℕ) → new ≡ old ++ given ∷ [] → given ≡ body → left ≡ body ∷ next → old ++ left ≡ all → new ++ next ≡ all
all_noted old new left next all given body new-is given-is left-is all-is =
    ap (λ (bs : List (List ℕ)). bs ++ next) new-is
    ∙ append_assoc old (given ∷ []) next
    ∙ ap (λ (b : List ℕ). old ++ (b ∷ next)) given-is
    ∙ ap (λ (bs : List (List ℕ)). old ++ bs) (sym left-is)
    ∙ all-is

-- one more start
pub start_noted : (bodies more : List (List ℕ)) (starts next : List ℕ) (len : ℕ) (body : List ℕ) → more ≡ bodies ++ body ∷ [] →
    starts ≡ starts_from 8 bodies → len ≡ 8 + length (texts bodies) → next ≡ starts ++ len ∷ [] → next ≡ starts_from 8 more
start_noted bodies more starts next len body more-is starts-is len-is next-is =
    next-is
    ∙ ap (λ (ns : List ℕ). ns ++ len ∷ []) starts-is
    ∙ ap (λ n. starts_from 8 bodies ++ n ∷ []) len-is
    ∙ sym (starts_push 8 bodies body)
    ∙ ap (starts_from 8) (sym more-is)

-- with one more body the length is still that of the text
pub len_noted : (bodies more : List (List ℕ)) (len size : ℕ) (body : List ℕ) → more ≡ bodies ++ body ∷ [] →
    len ≡ 8 + length (texts bodies) → size ≡ length (body_text body) → len + size ≡ 8 + length (texts more)
len_noted bodies more len size body more-is len-is size-is =
    let longer : length (texts more) ≡ length (texts bodies) + length (body_text body) = ap (λ (bs : List (List ℕ)). length (texts bs)) more-is ∙ texts_push bodies body in
    omega arith
