-- A test that no port is reused, on the world that a sample run computes.
use Rattle.std.proofs.Common.{◌≡◌, ℕ, zero, suc, Bool, true, false, cond, List, [], ◌∷◌, slice_get, Some, refl, ap, sym, ◌∙◌}
use Rattle.archive_model.specs.World.{Datagram, Begun, Opening, World, has_begun}
use Rattle.archive_theorem.specs.Headline.{HasOperation, HasOwnPorts}
use Rattle.archive_theorem.specs.Reuse.{was_opened}
use Rattle.archive_model.proofs.Places.{Has-from_contains}
use Rattle.archive_theorem.proofs.Port_Tests.{begun_none, opened_none}

-- a test that passes on all passes on the first and on the rest
both_of : (other rest : Bool) → cond other false rest ≡ true → (other ≡ false) × (rest ≡ true)
both_of true rest e = absurd cc
both_of false rest e = (refl, e)

head_is : {A : Type 0} (a x : A) (xs : List A) → slice_get (a ∷ xs) 0 ≡ Some x → a ≡ x
head_is a x xs is = cc

-- ---- operations

-- no two operations begin at one endpoint
abbrev apart_begun : List Begun → Bool
apart_begun [] = true
apart_begun (b ∷ bs) = cond (has_begun b.client bs) false (apart_begun bs)

-- if the test passes
one_begun : (bs : List Begun) → apart_begun bs ≡ true → (i j : ℕ) (b c : Begun) → slice_get bs i ≡ Some b → slice_get bs j ≡ Some c →
    b.client ≡ c.client → i ≡ j
one_begun [] test i j b c at_i at_j same = absurd cc
one_begun (a ∷ bs) test zero zero b c at_i at_j same = refl
one_begun (a ∷ bs) test zero (suc j) b c at_i at_j same =
    let parts = both_of (has_begun a.client bs) (apart_begun bs) test in
    absurd (begun_none a.client bs j c parts.0 at_j (ap (λ (x : Begun). x.client) (head_is a b bs at_i) ∙ same))
one_begun (a ∷ bs) test (suc i) zero b c at_i at_j same =
    let parts = both_of (has_begun a.client bs) (apart_begun bs) test in
    absurd (begun_none a.client bs i b parts.0 at_i (ap (λ (x : Begun). x.client) (head_is a c bs at_j) ∙ sym same))
one_begun (a ∷ bs) test (suc i) (suc j) b c at_i at_j same =
    ap suc (one_begun bs (both_of (has_begun a.client bs) (apart_begun bs) test).1 i j b c at_i at_j same)

-- ---- openings

-- no two openings have the same peer and port
abbrev apart_opened : List Opening → Bool
apart_opened [] = true
apart_opened (o ∷ os) = cond (was_opened o.peer o.port os) false (apart_opened os)

-- if the test passes
one_opening : (os : List Opening) → apart_opened os ≡ true → (i j : ℕ) (o p : Opening) → slice_get os i ≡ Some o → slice_get os j ≡ Some p →
    o.peer ≡ p.peer → o.port ≡ p.port → i ≡ j
one_opening [] test i j o p at_i at_j peer port = absurd cc
one_opening (a ∷ os) test zero zero o p at_i at_j peer port = refl
one_opening (a ∷ os) test zero (suc j) o p at_i at_j peer port =
    let parts = both_of (was_opened a.peer a.port os) (apart_opened os) test in
    let is : a ≡ o = head_is a o os at_i in
    absurd (opened_none a.peer a.port os j p parts.0 at_j (ap (λ (x : Opening). x.peer) is ∙ peer) (ap (λ (x : Opening). x.port) is ∙ port))
one_opening (a ∷ os) test (suc i) zero o p at_i at_j peer port =
    let parts = both_of (was_opened a.peer a.port os) (apart_opened os) test in
    let is : a ≡ p = head_is a p os at_j in
    absurd (opened_none a.peer a.port os i o parts.0 at_i (ap (λ (x : Opening). x.peer) is ∙ sym peer) (ap (λ (x : Opening). x.port) is ∙ sym port))
one_opening (a ∷ os) test (suc i) (suc j) o p at_i at_j peer port =
    ap suc (one_opening os (both_of (was_opened a.peer a.port os) (apart_opened os) test).1 i j o p at_i at_j peer port)

-- ---- strangers

-- no stranger sends from an operation's endpoint
abbrev apart_strays : List Datagram → List Begun → Bool
apart_strays [] begun = true
apart_strays (d ∷ ds) begun = cond (has_begun d.source begun) false (apart_strays ds begun)

-- if the test passes
unbegun_at : (ds : List Datagram) (begun : List Begun) → apart_strays ds begun ≡ true → (i : ℕ) (d : Datagram) → slice_get ds i ≡ Some d →
    has_begun d.source begun ≡ false
unbegun_at [] begun test i d is = absurd cc
unbegun_at (a ∷ ds) begun test zero d is =
    ap (λ (x : Datagram). has_begun x.source begun) (sym (head_is a d ds is))
    ∙ (both_of (has_begun a.source begun) (apart_strays ds begun) test).0
unbegun_at (a ∷ ds) begun test (suc i) d is =
    unbegun_at ds begun (both_of (has_begun a.source begun) (apart_strays ds begun) test).1 i d is

-- no operation has begun at an endpoint that is not found
no_operation : (begun : List Begun) (d : Datagram) → has_begun d.source begun ≡ false → HasOperation begun d.source → ⊥
no_operation begun d none c =
    let has = Has-from_contains begun c.0 c.1 in
    begun_none d.source begun has.position c.0 none has.is (sym c.2)

-- ---- a world

-- if all three pass, no port is reused
pub own-by : (w : World) → apart_begun w.begun ≡ true → apart_opened w.opened ≡ true → apart_strays w.strays w.begun ≡ true → HasOwnPorts w
own-by w begun opened strays =
    record {
      operations = one_begun w.begun begun;
      openings = one_opening w.opened opened;
      strangers = λ d among c.
          let has = Has-from_contains w.strays d among in
          no_operation w.begun d (unbegun_at w.strays w.begun strays has.position d has.is) c;
    }
