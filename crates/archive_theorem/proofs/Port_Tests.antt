-- The tests for the reuse of a port: an event keeps all ports own exactly if its test passes.
use Rattle.std.proofs.lemmas.Bool.{and_parts}
use Rattle.std.proofs.Common.{◌≡◌, ℕ, zero, suc, ◌<◌, Bool, true, false, ◌==◌, ◌&&◌, cond, List, [], ◌∷◌, ◌++◌, length, slice_get, Contains, Some, refl, ap, sym, ◌∙◌, inl, inr, ⊎_elim, arith}
use Rattle.std.proofs.lemmas.Bool.{eqb-true, eq-eqb}
use Rattle.tftp_packet.specs.declared.endpoint.Endpoint.{Endpoint}
use Rattle.archive_table.specs.Table.{is_same}
use Rattle.archive_client.specs.Client.{Operation}
use Rattle.archive_model.specs.World.{Datagram, Begun, Opening, World, Origin, first_world, has_begun, begins, strays_in}
use Rattle.archive_theorem.specs.Headline.{OwnPorts, HasOwnPorts, HasOperation}
use Rattle.archive_theorem.specs.Reuse.{has_strayed, is_opening_at, was_opened, IsUnused, BeginKeepsOwn, OpeningKeepsOwn, StrayKeepsOwn}
use Rattle.archive_model.proofs.Places.{Has, Has-last, Has-push, Has-contains, Has-from_contains, OldOrLast, at-push, at-append, at-last, before_last}
use Rattle.archive_model.proofs.Endpoints.{exact_endpoint, same_endpoint}

-- ---- a test of any member

-- some member passes
abbrev pub any_of : {A : Type 0} → (A → Bool) → List A → Bool
any_of test [] = false
any_of test (x ∷ xs) = cond (test x) true (any_of test xs)

module _ {A : Type 0} (test : A → Bool) where
  rest_passes : (here : Bool) (rest : Bool) → cond here true rest ≡ false → rest ≡ false
  rest_passes true rest e = absurd cc
  rest_passes false rest e = e

  here_fails : (here : Bool) (rest : Bool) → cond here true rest ≡ false → here ≡ false
  here_fails true rest e = absurd cc
  here_fails false rest e = refl

  -- no member passes
  none_at : (xs : List A) (i : ℕ) (x : A) → any_of test xs ≡ false → slice_get xs i ≡ Some x → test x ≡ false
  none_at [] i x e is = absurd cc
  none_at (a ∷ xs) zero x e is =
      let same : a ≡ x = cc in
      ap test (sym same) ∙ here_fails (test a) (any_of test xs) e
  none_at (a ∷ xs) (suc i) x e is = none_at xs i x (rest_passes (test a) (any_of test xs) e) is

  -- none passes if the first and the rest do not
  fails_by : (a : A) (xs : List A) (here : Bool) → test a ≡ here → (test a ≡ true → ⊥) → any_of test xs ≡ false → cond here true (any_of test xs) ≡ false
  fails_by a xs true is none rest = absurd (none is)
  fails_by a xs false is none rest = rest

  -- none passes if the member at each place does not
  pub all_fail : (xs : List A) → ((i : ℕ) (x : A) → slice_get xs i ≡ Some x → test x ≡ true → ⊥) → any_of test xs ≡ false
  all_fail [] none = refl
  all_fail (a ∷ xs) none = fails_by a xs (test a) refl (none zero a refl) (all_fail xs (λ i x is. none (suc i) x is))

-- the search for an operation at an endpoint
pub begun_any : (e : Endpoint) (bs : List Begun) → has_begun e bs ≡ any_of (λ (b : Begun). is_same e b.client) bs
begun_any e [] = refl
begun_any e (b ∷ bs) = ap (cond (is_same e b.client) true) (begun_any e bs)

-- the search for a stranger at an endpoint
pub strayed_any : (e : Endpoint) (ds : List Datagram) → has_strayed e ds ≡ any_of (λ (d : Datagram). is_same e d.source) ds
strayed_any e [] = refl
strayed_any e (d ∷ ds) = ap (cond (is_same e d.source) true) (strayed_any e ds)

-- the search for an opening for a peer at a port
pub opened_any : (e : Endpoint) (port : ℕ) (os : List Opening) → was_opened e port os ≡ any_of (is_opening_at e port) os
opened_any e port [] = refl
opened_any e port (o ∷ os) = ap (cond (is_opening_at e port o) true) (opened_any e port os)

true_false : {P : Type 0} (b : Bool) → b ≡ true → b ≡ false → P
true_false b yes_it never = let both : true ≡ false = sym yes_it ∙ never in absurd cc

-- equal endpoints pass the test
pub same_by : (a b : Endpoint) → a ≡ b → is_same a b ≡ true
same_by a b e = ap (λ (x : Endpoint). is_same a x) (sym e) ∙ same_endpoint a

-- ---- what the tests say

-- if none is found, no operation has begun there
pub begun_none : (e : Endpoint) (bs : List Begun) (i : ℕ) (b : Begun) → has_begun e bs ≡ false → slice_get bs i ≡ Some b → e ≡ b.client → ⊥
begun_none e bs i b none is same =
    true_false (is_same e b.client) (same_by e b.client same)
    (none_at (λ (x : Begun). is_same e x.client) bs i b (sym (begun_any e bs) ∙ none) is)

-- if none is found, no stranger has sent from there
pub strayed_none : (e : Endpoint) (ds : List Datagram) (i : ℕ) (d : Datagram) → has_strayed e ds ≡ false → slice_get ds i ≡ Some d → e ≡ d.source → ⊥
strayed_none e ds i d none is same =
    true_false (is_same e d.source) (same_by e d.source same)
    (none_at (λ (x : Datagram). is_same e x.source) ds i d (sym (strayed_any e ds) ∙ none) is)

-- an opening with this peer and port passes the test
opening_at : (e : Endpoint) (port : ℕ) (o : Opening) → e ≡ o.peer → port ≡ o.port → is_opening_at e port o ≡ true
opening_at e port o peer same =
    ap (λ (b : Bool). b && (port == o.port)) (same_by e o.peer peer) ∙ eq-eqb port o.port same

-- if none is found, none was opened for this peer at this port
pub opened_none : (e : Endpoint) (port : ℕ) (os : List Opening) (i : ℕ) (o : Opening) → was_opened e port os ≡ false →
    slice_get os i ≡ Some o → e ≡ o.peer → port ≡ o.port → ⊥
opened_none e port os i o none is peer same =
    true_false (is_opening_at e port o) (opening_at e port o peer same)
    (none_at (is_opening_at e port) os i o (sym (opened_any e port os) ∙ none) is)

-- ---- a begin

module _ (w : World) (own : HasOwnPorts w) where
  module _ (e : Endpoint) (operation : Operation) where
    -- what is recorded of it
    abbrev began : Begun
    began = record { client = e; operation = operation; taken = length w.taken }

    -- if nothing was at its endpoint, operations are still apart
    one_begun : has_begun e w.begun ≡ false → (i j : ℕ) (b c : Begun) → OldOrLast w.begun began i b → OldOrLast w.begun began j c → b.client ≡ c.client → i ≡ j
    one_begun none i j b c (inl at_i) (inl at_j) same = own.operations i j b c at_i at_j same
    one_begun none i j b c (inl at_i) (inr last) same =
        absurd (begun_none e w.begun i b none at_i (sym (same ∙ ap (λ (x : Begun). x.client) last.1)))
    one_begun none i j b c (inr last) (inl at_j) same =
        absurd (begun_none e w.begun j c none at_j (sym (ap (λ (x : Begun). x.client) last.1) ∙ same))
    one_begun none i j b c (inr last) (inr also) same = last.0 ∙ sym also.0

    -- no stranger has sent from it
    no_client : IsUnused e w → (d : Datagram) → Contains w.strays d → HasOperation (w.begun ++ began ∷ []) d.source → ⊥
    no_client unused d among c =
        ⊎_elim
        (λ (old : Has w.begun c.0). own.strangers d among (c.0, Has-contains w.begun c.0 old, c.2))
        (λ (new : c.0 ≡ began).
        let has = Has-from_contains w.strays d among in
        strayed_none e w.strays has.position d unused.unstrayed has.is (sym (ap (λ (b : Begun). b.client) new) ∙ c.2))
        (Has-push w.begun began c.0 (Has-from_contains (w.begun ++ began ∷ []) c.0 c.1))

    -- so no port is reused
    begin_own : IsUnused e w → HasOwnPorts (begins e operation w)
    begin_own unused =
        record {
          operations = λ i j b c at_i at_j. one_begun unused.unbegun i j b c (at-push w.begun began i b at_i) (at-push w.begun began j c at_j);
          openings = own.openings;
          strangers = no_client unused;
        }

    -- and if none is reused, nothing was there
    begin_unused : HasOwnPorts (begins e operation w) → IsUnused e w
    begin_unused later =
        record {
          unbegun = begun_any e w.begun ∙ all_fail (λ (x : Begun). is_same e x.client) w.begun (λ i b is passes.
              let position : i < length w.begun = before_last w.begun i b is in
              let same : i ≡ length w.begun =
              later.operations i (length w.begun) b began (at-append w.begun (began ∷ []) i b is) (at-last w.begun began)
              (sym (exact_endpoint e b.client passes)) in
              omega arith);
          unstrayed = strayed_any e w.strays ∙ all_fail (λ (x : Datagram). is_same e x.source) w.strays (λ i d is passes.
              later.strangers d (Has-contains w.strays d (record { position = i; is = is }))
              (began, Has-contains (w.begun ++ began ∷ []) began (Has-last w.begun began), exact_endpoint e d.source passes));
        }

    -- after a begin no port is reused exactly if nothing was at its endpoint
    pub begin-keeps_own : BeginKeepsOwn w e operation
    begin-keeps_own = (begin_unused, begin_own)

  -- ---- an opening

  module _ (o : Opening) where
    -- if none was opened for its peer at its port, openings are still apart
    one_opened : was_opened o.peer o.port w.opened ≡ false → (i j : ℕ) (p q : Opening) → OldOrLast w.opened o i p →
        OldOrLast w.opened o j q → p.peer ≡ q.peer → p.port ≡ q.port → i ≡ j
    one_opened none i j p q (inl at_i) (inl at_j) peer port = own.openings i j p q at_i at_j peer port
    one_opened none i j p q (inl at_i) (inr last) peer port =
        absurd (opened_none o.peer o.port w.opened i p none at_i (sym (peer ∙ ap (λ (x : Opening). x.peer) last.1))
        (sym (port ∙ ap (λ (x : Opening). x.port) last.1)))
    one_opened none i j p q (inr last) (inl at_j) peer port =
        absurd (opened_none o.peer o.port w.opened j q none at_j (sym (ap (λ (x : Opening). x.peer) last.1) ∙ peer)
        (sym (ap (λ (x : Opening). x.port) last.1) ∙ port))
    one_opened none i j p q (inr last) (inr also) peer port = last.0 ∙ sym also.0

    -- so no port is reused
    opening_own : was_opened o.peer o.port w.opened ≡ false → OwnPorts w.begun (w.opened ++ o ∷ []) w.strays
    opening_own none =
        record {
          operations = own.operations;
          openings = λ i j p q at_i at_j. one_opened none i j p q (at-push w.opened o i p at_i) (at-push w.opened o j q at_j);
          strangers = own.strangers;
        }

    -- and if none is reused, none was opened
    opening_unused : OwnPorts w.begun (w.opened ++ o ∷ []) w.strays → was_opened o.peer o.port w.opened ≡ false
    opening_unused later =
        opened_any o.peer o.port w.opened ∙ all_fail (is_opening_at o.peer o.port) w.opened (λ i p is passes.
        let both = and_parts (is_same o.peer p.peer) (o.port == p.port) passes in
        let position : i < length w.opened = before_last w.opened i p is in
        let same : i ≡ length w.opened =
        later.openings i (length w.opened) p o (at-append w.opened (o ∷ []) i p is) (at-last w.opened o)
        (sym (exact_endpoint o.peer p.peer both.0)) (sym (eqb-true o.port p.port both.1)) in
        omega arith)

    -- after an opening, exactly if none was opened for its peer at its port
    pub opening-keeps_own : OpeningKeepsOwn w o
    opening-keeps_own = (opening_unused, opening_own)

  -- ---- a stray

  module _ (d : Datagram) where
    -- if no operation has begun at its endpoint, no port is reused
    stray_own : has_begun d.source w.begun ≡ false → HasOwnPorts (strays_in d w)
    stray_own none =
        record {
          operations = own.operations;
          openings = own.openings;
          strangers = λ x among c.
              ⊎_elim
              (λ (old : Has w.strays x). own.strangers x (Has-contains w.strays x old) c)
              (λ (new : x ≡ d).
              let has = Has-from_contains w.begun c.0 c.1 in
              begun_none d.source w.begun has.position c.0 none has.is (sym (c.2 ∙ ap (λ (y : Datagram). y.source) new)))
              (Has-push w.strays d x (Has-from_contains (w.strays ++ d ∷ []) x among));
        }

    -- and if none is reused, none has begun
    stray_unbegun : HasOwnPorts (strays_in d w) → has_begun d.source w.begun ≡ false
    stray_unbegun later =
        begun_any d.source w.begun ∙ all_fail (λ (x : Begun). is_same d.source x.client) w.begun (λ i b is passes.
        later.strangers d (Has-contains (w.strays ++ d ∷ []) d (Has-last w.strays d))
        (b, Has-contains w.begun b (record { position = i; is = is }), sym (exact_endpoint d.source b.client passes)))

    -- after a stray, exactly if no operation has begun at its endpoint
    pub stray-keeps_own : StrayKeepsOwn w d
    stray-keeps_own = (stray_unbegun, stray_own)

-- ---- the start

pub none_there : {A P : Type 0} (x : A) → Contains [] x → P
none_there x c = absurd (omega (arith, c.1))

-- at the start no port is reused
pub start-own : (o : Origin) → HasOwnPorts (first_world o)
start-own o =
    record {
      operations = λ i j b c at_i. absurd cc;
      openings = λ i j o p at_i. absurd cc;
      strangers = λ d among. none_there d among;
    }
