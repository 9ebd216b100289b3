-- The tests for an endpoint whose ports are its own pass exactly if they are.
use Rattle.std.proofs.Common.{◌≡◌, ℕ, zero, suc, Bool, true, false, ◌==◌, ◌&&◌, not, cond, List, [], ◌∷◌, slice_get, Contains, Some, refl, ap, sym, ◌∙◌}
use Rattle.std.proofs.lemmas.Bool.{and_parts, eqb-true}
use Rattle.tftp_packet.specs.declared.endpoint.Endpoint.{Endpoint}
use Rattle.archive_table.specs.Table.{is_same}
use Rattle.archive_model.specs.World.{Datagram, Begun, Opening, World, Origin, first_world, has_begun}
use Rattle.archive_theorem.specs.Headline.{IsOwn}
use Rattle.archive_theorem.specs.Reuse.{has_strayed, was_opened, is_opening_at, begins_once, opens_apart, OwnTests, own_tests, IsOwnByTests}
use Rattle.archive_model.proofs.Places.{Has-contains, Has-from_contains}
use Rattle.archive_model.proofs.Endpoints.{exact_endpoint}
use Rattle.archive_theorem.proofs.Port_Tests.{all_fail, begun_any, strayed_any, opened_any, same_by, begun_none, strayed_none, opened_none, none_there}

head_is : {A : Type 0} (a x : A) (xs : List A) → slice_get (a ∷ xs) 0 ≡ Some x → a ≡ x
head_is a x xs is = cc

not_first : {P : Type 0} (i : ℕ) → zero ≡ suc i → P
not_first i e = absurd cc

fails : (b : Bool) → not b ≡ true → b ≡ false
fails true e = absurd cc
fails false e = refl

passes : (b : Bool) → b ≡ false → not b ≡ true
passes b e = ap not e

module _ (e : Endpoint) where
  -- ---- operations

  -- no other is at the endpoint of the first
  alone : (a : Begun) (bs : List Begun) → begins_once e (a ∷ bs) ≡ true → is_same e a.client ≡ true → has_begun e bs ≡ false
  alone a bs test here =
      fails (has_begun e bs) (ap (λ (b : Bool). cond b (not (has_begun e bs)) (begins_once e bs)) (sym here) ∙ test)

  -- if at most one operation has begun there, so among the rest
  rest_once : (a : Begun) (bs : List Begun) (here : Bool) → is_same e a.client ≡ here → begins_once e (a ∷ bs) ≡ true →
      (has_begun e bs ≡ false → begins_once e bs ≡ true) → begins_once e bs ≡ true
  rest_once a bs true is test none = none (alone a bs test is)
  rest_once a bs false is test none =
      ap (λ (b : Bool). cond b (not (has_begun e bs)) (begins_once e bs)) (sym is) ∙ test

  none_else : (first : Bool) (rest : Bool) → cond first true rest ≡ false → (first ≡ false) × (rest ≡ false)
  none_else true rest is = absurd cc
  none_else false rest is = (refl, is)

  -- if none has begun, at most one has
  once_if_none : (bs : List Begun) → has_begun e bs ≡ false → begins_once e bs ≡ true
  once_if_none [] none = refl
  once_if_none (b ∷ bs) none =
      let parts = none_else (is_same e b.client) (has_begun e bs) none in
      ap (λ (x : Bool). cond x (not (has_begun e bs)) (begins_once e bs)) parts.0 ∙ once_if_none bs parts.1

  -- if the test passes, at most one operation has begun there
  one_operation : (bs : List Begun) → begins_once e bs ≡ true → (i j : ℕ) (b c : Begun) → slice_get bs i ≡ Some b →
      slice_get bs j ≡ Some c → b.client ≡ e → c.client ≡ e → i ≡ j
  one_operation [] test i j b c at_i at_j first second = absurd cc
  one_operation (a ∷ bs) test zero zero b c at_i at_j first second = refl
  one_operation (a ∷ bs) test zero (suc j) b c at_i at_j first second =
      let here = same_by e a.client (sym (ap (λ (x : Begun). x.client) (head_is a b bs at_i) ∙ first)) in
      absurd (begun_none e bs j c (alone a bs test here) at_j (sym second))
  one_operation (a ∷ bs) test (suc i) zero b c at_i at_j first second =
      let here = same_by e a.client (sym (ap (λ (x : Begun). x.client) (head_is a c bs at_j) ∙ second)) in
      absurd (begun_none e bs i b (alone a bs test here) at_i (sym first))
  one_operation (a ∷ bs) test (suc i) (suc j) b c at_i at_j first second =
      let rest = rest_once a bs (is_same e a.client) refl test (once_if_none bs) in
      ap suc (one_operation bs rest i j b c at_i at_j first second)

  -- at most one operation has begun there
  abbrev AreOne : List Begun → Type 0
  AreOne bs = (i j : ℕ) (b c : Begun) → slice_get bs i ≡ Some b → slice_get bs j ≡ Some c → b.client ≡ e → c.client ≡ e → i ≡ j

  -- with one more at the front
  begins_by : (a : Begun) (bs : List Begun) (here : Bool) → is_same e a.client ≡ here → AreOne (a ∷ bs) → begins_once e bs ≡ true →
      begins_once e (a ∷ bs) ≡ true
  begins_by a bs true is one rest =
      let none : has_begun e bs ≡ false =
      begun_any e bs ∙ all_fail (λ (x : Begun). is_same e x.client) bs
      (λ i b at_i found. not_first i (one zero (suc i) a b refl at_i (sym (exact_endpoint e a.client is)) (sym (exact_endpoint e b.client found)))) in
      ap (λ (b : Bool). cond b (not (has_begun e bs)) (begins_once e bs)) is ∙ passes (has_begun e bs) none
  begins_by a bs false is one rest = ap (λ (b : Bool). cond b (not (has_begun e bs)) (begins_once e bs)) is ∙ rest

  less : (i j : ℕ) → suc i ≡ suc j → i ≡ j
  less i j is = cc

  -- the first test passes if at most one operation has begun there
  begins_if_one : (bs : List Begun) → AreOne bs → begins_once e bs ≡ true
  begins_if_one [] one = refl
  begins_if_one (a ∷ bs) one =
      begins_by a bs (is_same e a.client) refl one
      (begins_if_one bs (λ i j b c at_i at_j first second. less i j (one (suc i) (suc j) b c at_i at_j first second)))

  -- ---- openings

  -- a test that passes on all passes on the first and on the rest
  both_of : (used rest : Bool) → cond used false rest ≡ true → (used ≡ false) × (rest ≡ true)
  both_of true rest is = absurd cc
  both_of false rest is = (refl, is)

  -- a transfer at this port was opened for it again
  abbrev is_again : Opening → List Opening → Bool
  is_again o os = is_same e o.peer && was_opened e o.port os

  -- if not, no later one was opened for it at that port
  unused_after : (o : Opening) (os : List Opening) → is_again o os ≡ false → o.peer ≡ e → was_opened e o.port os ≡ false
  unused_after o os none peer =
      ap (λ (b : Bool). b && was_opened e o.port os) (sym (same_by e o.peer (sym peer))) ∙ none

  -- if the test passes, no port was opened for it twice
  one_opening : (os : List Opening) → opens_apart e os ≡ true → (i j : ℕ) (o p : Opening) → slice_get os i ≡ Some o →
      slice_get os j ≡ Some p → o.peer ≡ e → p.peer ≡ e → o.port ≡ p.port → i ≡ j
  one_opening [] test i j o p at_i at_j first second port = absurd cc
  one_opening (a ∷ os) test zero zero o p at_i at_j first second port = refl
  one_opening (a ∷ os) test zero (suc j) o p at_i at_j first second port =
      let is : a ≡ o = head_is a o os at_i in
      let none = unused_after a os (both_of (is_again a os) (opens_apart e os) test).0 (ap (λ (x : Opening). x.peer) is ∙ first) in
      absurd (opened_none e a.port os j p none at_j (sym second) (ap (λ (x : Opening). x.port) is ∙ port))
  one_opening (a ∷ os) test (suc i) zero o p at_i at_j first second port =
      let is : a ≡ p = head_is a p os at_j in
      let none = unused_after a os (both_of (is_again a os) (opens_apart e os) test).0 (ap (λ (x : Opening). x.peer) is ∙ second) in
      absurd (opened_none e a.port os i o none at_i (sym first) (ap (λ (x : Opening). x.port) is ∙ sym port))
  one_opening (a ∷ os) test (suc i) (suc j) o p at_i at_j first second port =
      ap suc (one_opening os (both_of (is_again a os) (opens_apart e os) test).1 i j o p at_i at_j first second port)

  -- no port was opened for it twice
  abbrev AreApart : List Opening → Type 0
  AreApart os = (i j : ℕ) (o p : Opening) → slice_get os i ≡ Some o → slice_get os j ≡ Some p → o.peer ≡ e → p.peer ≡ e → o.port ≡ p.port → i ≡ j

  -- with one more at the front
  again_by : (a : Opening) (os : List Opening) (here : Bool) → is_same e a.peer ≡ here → AreApart (a ∷ os) → is_again a os ≡ false
  again_by a os true is one =
      let mine = sym (exact_endpoint e a.peer is) in
      let fails : (i : ℕ) (p : Opening) → slice_get os i ≡ Some p → is_opening_at e a.port p ≡ true → ⊥ =
      λ i p at_i found.
      let both = and_parts (is_same e p.peer) (a.port == p.port) found in
      not_first i (one zero (suc i) a p refl at_i mine (sym (exact_endpoint e p.peer both.0)) (eqb-true a.port p.port both.1)) in
      ap (λ (b : Bool). b && was_opened e a.port os) is ∙ (opened_any e a.port os ∙ all_fail (is_opening_at e a.port) os fails)
  again_by a os false is one = ap (λ (b : Bool). b && was_opened e a.port os) is

  -- the second test passes if no port was opened for it twice
  opens_if_apart : (os : List Opening) → AreApart os → opens_apart e os ≡ true
  opens_if_apart [] one = refl
  opens_if_apart (a ∷ os) one =
      ap (λ (b : Bool). cond b false (opens_apart e os)) (again_by a os (is_same e a.peer) refl one)
      ∙ opens_if_apart os (λ i j o p at_i at_j first second port. less i j (one (suc i) (suc j) o p at_i at_j first second port))

  -- ---- strangers

  -- if no stranger has sent from there, the third test passes
  strays_if_none : (ds : List Datagram) → ((d : Datagram) → Contains ds d → d.source ≡ e → ⊥) → has_strayed e ds ≡ false
  strays_if_none ds none =
      strayed_any e ds ∙ all_fail (λ (x : Datagram). is_same e x.source) ds
      (λ i d at_i found. none d (Has-contains ds d (record { position = i; is = at_i })) (sym (exact_endpoint e d.source found)))

-- ---- a world

-- the results of the three tests
abbrev tests_of : (once apart unstrayed : Bool) → OwnTests
tests_of once apart unstrayed = record { once = once; apart = apart; unstrayed = unstrayed }

-- all three pass
tests_are : (a b c : Bool) → a ≡ true → b ≡ true → c ≡ true → tests_of a b c ≡ tests_of true true true
tests_are a b c first second third = cc

-- if the ports are its own, all tests pass
own_passes : (w : World) (e : Endpoint) → IsOwn w e → own_tests e w ≡ record { once = true; apart = true; unstrayed = true }
own_passes w e own =
    tests_are (begins_once e w.begun) (opens_apart e w.opened) (not (has_strayed e w.strays)) (begins_if_one e w.begun own.operations)
    (opens_if_apart e w.opened own.openings)
    (passes (has_strayed e w.strays) (strays_if_none e w.strays own.stranger))

-- if all tests pass, the ports are its own
pub own-if : (w : World) (e : Endpoint) → own_tests e w ≡ record { once = true; apart = true; unstrayed = true } → IsOwn w e
own-if w e test =
    record {
      operations = one_operation e w.begun (ap (λ (t : OwnTests). t.once) test);
      openings = one_opening e w.opened (ap (λ (t : OwnTests). t.apart) test);
      stranger = λ d among is.
          let has = Has-from_contains w.strays d among in
          strayed_none e w.strays has.position d (fails (has_strayed e w.strays) (ap (λ (t : OwnTests). t.unstrayed) test)) has.is (sym is);
    }

-- so the tests decide it
pub own-by_tests : (w : World) (e : Endpoint) → IsOwnByTests w e
own-by_tests w e = (own_passes w e, own-if w e)

-- at the start each endpoint's ports are its own
pub start-own_each : (o : Origin) (e : Endpoint) → IsOwn (first_world o) e
start-own_each o e =
    record {
      operations = λ i j b c at_i. absurd cc;
      openings = λ i j o p at_i. absurd cc;
      stranger = λ d among. none_there d among;
    }
