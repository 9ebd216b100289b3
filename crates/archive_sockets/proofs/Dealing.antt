-- A port that was drawn is drawn again only after half of all the ports.
use Rattle.std.proofs.Common.{◌≡◌, ◌≢◌, ℕ, zero, suc, ◌+◌, ◌-◌, ◌<◌, ◌≤◌, ◌/◌, Bool, true, false, ◌==◌, nat_lt, List, [], ◌∷◌, ◌++◌, length, length-append, get_or, slice_get, slice_index, slice_index_or, Some, refl, ap, sym, ◌∙◌, subst, arith}
use Rattle.std.proofs.lemmas.Bool.{eqb-true, eqb-false, ltb-true, ltb-false}
use Rattle.std.proofs.Math.Seq.{get_or-append_seam}
use Rattle.std.proofs.lemmas.List.{get_or_append_left, get_or_default}
use Rattle.std.specs.List.{remove}
use Rattle.std.proofs.lemmas.List.Edits.{length-remove, get_or-remove_below, get_or-remove_above}
use Rattle.std.proofs.lemmas.List.Quantifiers.{all_pairs_remove, all_pairs_push}
use Rattle.archive_sockets.specs.Drawing.{Draws}
use Rattle.archive_sockets.specs.Dealing.{AreFrom, AreDistinct, Deals}

-- ---- the first deck

pub AreFrom-none : (first : ℕ) → AreFrom first [] 0
AreFrom-none first = record { size = refl; each = λ k d below. absurd (omega (arith, below)) }

each_push : (first : ℕ) (cards : List ℕ) (count k d : ℕ) → AreFrom first cards count → k < count + 1 → (last : Bool) → (k == count) ≡ last →
    slice_index_or (cards ++ (first + count) ∷ []) k d ≡ first + k
each_push first cards count k d are below true at =
    let one : k ≡ count = eqb-true _ _ at in
    ap (λ (n : ℕ). slice_index_or (cards ++ (first + count) ∷ []) n d) (one ∙ sym are.size) ∙ get_or-append_seam cards (first + count) [] d ∙ ap (λ (n : ℕ). first + n) (sym one)
each_push first cards count k d are below false at =
    let other : k ≢ count = eqb-false _ _ at in
    let size : length cards ≡ count = are.size in
    get_or_append_left cards ((first + count) ∷ []) d k (omega (arith, size, other, below)) ∙ are.each k d (omega (arith, other, below))

pub AreFrom-push : (first : ℕ) (cards : List ℕ) (count : ℕ) → AreFrom first cards count → AreFrom first (cards ++ (first + count) ∷ []) (count + 1)
AreFrom-push first cards count are =
    record {
      size = let size : length cards ≡ count = are.size in omega (arith, length-append cards ((first + count) ∷ []), size);
      each = λ k d below. each_push first cards count k d are below (k == count) refl;
    }

pub AreFrom-distinct : (first : ℕ) (cards : List ℕ) (count : ℕ) → AreFrom first cards count → AreDistinct cards
AreFrom-distinct first cards count are i j d before below same =
    let size : length cards ≡ count = are.size in
    let at_i : slice_index_or cards i d ≡ first + i = are.each i d (omega (arith, size, before, below)) in
    let at_j : slice_index_or cards j d ≡ first + j = are.each j d (omega (arith, size, below)) in
    omega (arith, at_i, at_j, same, before)

-- ---- one draw

-- two places of one port are one place
one_place : (cards : List ℕ) (i j : ℕ) → AreDistinct cards → i < length cards → j < length cards → slice_index cards i ≡ slice_index cards j →
    (before after : Bool) → nat_lt i j ≡ before → nat_lt j i ≡ after → i ≡ j
one_place cards i j distinct below_i below_j same true after is_before is_after =
    absurd (distinct i j 0 (ltb-true i j is_before) below_j same)
one_place cards i j distinct below_i below_j same false true is_before is_after =
    absurd (distinct j i 0 (ltb-true j i is_after) below_i (sym same))
one_place cards i j distinct below_i below_j same false false is_before is_after =
    let le : j ≤ i = ltb-false i j is_before in
    let ge : i ≤ j = ltb-false j i is_after in
    omega (arith, le, ge)

module _ (old new : List ℕ) (port : ℕ) (distinct : AreDistinct old) (d : Draws old new port) where
  place_below : d.place < length old
  place_below = let near : d.place < length old / 2 = d.near in omega (arith, near)

  left_size : length (remove old d.place) + 1 ≡ length old
  left_size = length-remove old d.place place_below

  pub drawn-size : length new ≡ length old
  drawn-size = ap length d.goes_last ∙ length-append (remove old d.place) (port ∷ []) ∙ left_size

  -- the port is the last one then
  pub drawn-last : (k : ℕ) → k + 1 ≡ length old → slice_index new k ≡ port
  drawn-last k last =
      let left : length (remove old d.place) + 1 ≡ length old = left_size in
      let at : k ≡ length (remove old d.place) = omega (arith, left, last) in
      ap (λ (cards : List ℕ). slice_index cards k) d.goes_last ∙ ap (slice_index (remove old d.place ++ port ∷ [])) at ∙ get_or-append_seam (remove old d.place) port [] 0

  -- a place before the port keeps what it has
  pub drawn-before : (k : ℕ) → k < d.place → slice_index new k ≡ slice_index old k
  drawn-before k before =
      let below : d.place < length old = place_below in
      let left : length (remove old d.place) + 1 ≡ length old = left_size in
      ap (λ (cards : List ℕ). slice_index cards k) d.goes_last ∙ get_or_append_left (remove old d.place) (port ∷ []) 0 k (omega (arith, below, left, before)) ∙
      get_or-remove_below old d.place 0 k before below

  -- what stands after it moves up
  pub drawn-after : (k : ℕ) → d.place ≤ k → k + 1 < length old → slice_index new k ≡ slice_index old (k + 1)
  drawn-after k behind within =
      let below : d.place < length old = place_below in
      let left : length (remove old d.place) + 1 ≡ length old = left_size in
      ap (λ (cards : List ℕ). slice_index cards k) d.goes_last ∙ get_or_append_left (remove old d.place) (port ∷ []) 0 k (omega (arith, left, within)) ∙
      get_or-remove_above old d.place 0 k behind below

  -- the port stood nowhere else
  other_left : (k e : ℕ) → k < length (remove old d.place) → (before : Bool) → nat_lt k d.place ≡ before → get_or (remove old d.place) k e ≢ port
  other_left k e below true is same =
      let before : k < d.place = ltb-true k d.place is in
      let within : d.place < length old = place_below in
      absurd (distinct k d.place e before within (sym (get_or-remove_below old d.place e k before within) ∙ same ∙ d.taken ∙ get_or_default old d.place 0 e within))
  other_left k e below false is same =
      let behind : d.place ≤ k = ltb-false k d.place is in
      let within : d.place < length old = place_below in
      let left : length (remove old d.place) + 1 ≡ length old = left_size in
      absurd (distinct d.place (k + 1) e (omega (arith, behind)) (omega (arith, left, below))
      (sym (get_or_default old d.place 0 e within) ∙ sym d.taken ∙ sym same ∙ get_or-remove_above old d.place e k behind within))

  pub drawn-distinct : AreDistinct new
  drawn-distinct =
      subst AreDistinct (sym d.goes_last)
      (all_pairs_push (λ one other. one ≢ other) (remove old d.place) port (all_pairs_remove (λ one other. one ≢ other) old d.place place_below distinct)
      (λ k e below. other_left k e below (nat_lt k d.place) refl))

-- ---- a port at a place that lies so far ahead

head_same : (q port : ℕ) → Some q ≡ Some port → q ≡ port
head_same q port same = cc

-- after the first draw, by whether it was of this place, or of one behind it; `go` is for one before it
far_later : (cards after : List ℕ) (q place j : ℕ) (d : Draws cards after q) (same before : Bool) → (place == d.place) ≡ same → nat_lt place d.place ≡ before →
    (d.place + 1 ≤ place → place < length cards / 2 + suc j) → place < length cards / 2 + suc j
far_later cards after q place j d true before is_same is_before go =
    let one : place ≡ d.place = eqb-true _ _ is_same in
    let near : d.place < length cards / 2 = d.near in
    omega (arith, one, near)
far_later cards after q place j d false true is_same is_before go =
    let ahead : place < d.place = ltb-true place d.place is_before in
    let near : d.place < length cards / 2 = d.near in
    omega (arith, ahead, near)
far_later cards after q place j d false false is_same is_before go =
    let apart : place ≢ d.place = eqb-false _ _ is_same in
    let behind : d.place ≤ place = ltb-false place d.place is_before in
    go (omega (arith, apart, behind))

-- The port at a place is drawn after so many others only if the place is no farther than these allow.
far_deal : (ports cards : List ℕ) (place port j : ℕ) → AreDistinct cards → Deals ports cards → place < length cards → port ≡ slice_index cards place →
    slice_get ports j ≡ Some port → place < length cards / 2 + j
far_deal [] cards place port j distinct deals below at found = absurd cc
far_deal (q ∷ ports) cards place port zero distinct deals below at found =
    let d = deals.1 in
    let near : d.place < length cards / 2 = d.near in
    let one : place ≡ d.place =
    one_place cards place d.place distinct below (place_below cards deals.0 q distinct d) (sym at ∙ sym (head_same q port found) ∙ d.taken)
    (nat_lt place d.place) (nat_lt d.place place) refl refl in
    omega (arith, one, near)
far_deal (q ∷ ports) cards place port (suc j) distinct deals below at found =
    let d = deals.1 in
    let go : d.place + 1 ≤ place → place < length cards / 2 + suc j =
    λ behind.
    let size : length deals.0 ≡ length cards = drawn-size cards deals.0 q distinct d in
    let back : (place - 1) + 1 ≡ place = omega (arith, behind) in
    let moved : slice_index deals.0 (place - 1) ≡ slice_index cards place =
    drawn-after cards deals.0 q distinct d (place - 1) (omega (arith, behind)) (omega (arith, behind, below)) ∙ ap (slice_index cards) back in
    let later : place - 1 < length deals.0 / 2 + j =
    far_deal ports deals.0 (place - 1) port j (drawn-distinct cards deals.0 q distinct d) deals.2 (omega (arith, size, below, behind)) (at ∙ sym moved) found in
    omega (arith, later, size, back) in
    far_later cards deals.0 q place j d (place == d.place) (nat_lt place d.place) refl refl go

-- ---- two draws of one port

pub deal-apart : (ports cards : List ℕ) → AreDistinct cards → Deals ports cards → (i j port : ℕ) → i < j → slice_get ports i ≡ Some port →
    slice_get ports j ≡ Some port → i + length cards < j + length cards / 2
deal-apart [] cards distinct deals i j port before first second = absurd cc
deal-apart (q ∷ ports) cards distinct deals zero zero port before first second = absurd (omega (arith, before))
deal-apart (q ∷ ports) cards distinct deals zero (suc j) port before first second =
    let d = deals.1 in
    let size : length deals.0 ≡ length cards = drawn-size cards deals.0 q distinct d in
    let near : d.place < length cards / 2 = d.near in
    let last : (length cards - 1) + 1 ≡ length cards = omega (arith, near) in
    let far : length cards - 1 < length deals.0 / 2 + j =
    far_deal ports deals.0 (length cards - 1) port j (drawn-distinct cards deals.0 q distinct d) deals.2 (omega (arith, size, last))
    (sym (head_same q port first) ∙ sym (drawn-last cards deals.0 q distinct d (length cards - 1) last)) second in
    omega (arith, far, size, last)
deal-apart (q ∷ ports) cards distinct deals (suc i) zero port before first second = absurd (omega (arith, before))
deal-apart (q ∷ ports) cards distinct deals (suc i) (suc j) port before first second =
    let d = deals.1 in
    let size : length deals.0 ≡ length cards = drawn-size cards deals.0 q distinct d in
    let later : i + length deals.0 < j + length deals.0 / 2 =
    deal-apart ports deals.0 (drawn-distinct cards deals.0 q distinct d) deals.2 i j port (omega (arith, before)) first second in
    omega (arith, later, size)
