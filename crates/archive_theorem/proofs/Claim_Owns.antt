-- What follows if the ports of an endpoint are its own: one operation there, one opening at one port, and no stranger.
use Rattle.std.proofs.Common.{◌≡◌, ℕ, List, take, refl, ap, sym, ◌∙◌, subst}
use Rattle.tftp_packet.specs.declared.endpoint.Endpoint.{Endpoint}
use Rattle.tws_file.specs.declared.«ruleset».Ruleset.{Ruleset}
use Rattle.tws_best.specs.Best.{Collected, collection_text, IsBestOver}
use Rattle.tws_best.proofs.Sets.{one_collection}
use Rattle.archive_client.specs.Client.{put, get}
use Rattle.archive_model.specs.World.{Begun, to_read, Opening, Past, World, Extends}
use Rattle.archive_theorem.specs.Headline.{Owns, IsOwn, HasOwnPorts, HasOperation, files_of}
use Rattle.archive_model.proofs.Places.{Has, at-prefix, Has-contains, Has-from_contains, one_at, Has-prefix}
use Rattle.archive_theorem.proofs.Claim_Past.{HasBegun, HasPut, HasGet, IsStranger, HasOpened, Serves}

pub put_begun : {past : Past} (e : Endpoint) (file : List ℕ) → HasPut past e file → HasBegun past e
put_begun e file h =
    record { begun = record { client = e; operation = put file; taken = h.count }; among = h.among; client = refl }

pub get_begun : {past : Past} (e : Endpoint) (rules : Ruleset) (count : ℕ) → HasGet past e rules count → HasBegun past e
get_begun e rules count h =
    record { begun = record { client = e; operation = get rules; taken = count }; among = h.among; client = refl }

-- what is own was so at any moment before
pub own-before : {past later : Past} → Extends past later → (e : Endpoint) → Owns later e → Owns past e
own-before {past} {later} more e own =
    record {
      operations = λ i j b c at_i at_j. own.operations i j b c (at-prefix past.begun later.begun more.begun i b at_i)
          (at-prefix past.begun later.begun more.begun j c at_j);
      openings = λ i j o p at_i at_j. own.openings i j o p (at-prefix past.opened later.opened more.opened i o at_i)
          (at-prefix past.opened later.opened more.opened j p at_j);
      stranger = λ d among. own.stranger d
          (Has-contains later.strays d (Has-prefix past.strays later.strays d more.strays (Has-from_contains past.strays d among)));
    }

-- if no port is reused, those of an endpoint with an operation are its own
pub own-each : (w : World) → HasOwnPorts w → (e : Endpoint) → HasOperation w.begun e → IsOwn w e
own-each w own e operation =
    record {
      operations = λ i j b c at_i at_j first second. own.operations i j b c at_i at_j (first ∙ sym second);
      openings = λ i j o p at_i at_j first second. own.openings i j o p at_i at_j (first ∙ sym second);
      stranger = λ d among is. own.strangers d among (operation.0, operation.1, operation.2 ∙ sym is);
    }

-- if no port is reused by now, none was at any moment before
pub none_reused-before : (w v : World) → Extends w.past v.past → HasOwnPorts v → HasOwnPorts w
none_reused-before w v more own =
    record {
      operations = λ i j b c at_i at_j. own.operations i j b c (at-prefix w.begun v.begun more.begun i b at_i) (at-prefix w.begun v.begun more.begun j c at_j);
      openings = λ i j o p at_i at_j. own.openings i j o p (at-prefix w.opened v.opened more.opened i o at_i)
          (at-prefix w.opened v.opened more.opened j p at_j);
      strangers = λ d among client.
          own.strangers d (Has-contains v.strays d (Has-prefix w.strays v.strays d more.strays (Has-from_contains w.strays d among)))
          (client.0, Has-contains v.begun client.0 (Has-prefix w.begun v.begun client.0 more.begun (Has-from_contains w.begun client.0 client.1)), client.2);
    }

pub same_put : (file other : List ℕ) → put file ≡ put other → file ≡ other
same_put file other e = cc

pub same_get : (rules other : Ruleset) → get rules ≡ get other → rules ≡ other
same_get rules other e = cc

same_read : (rules other : Ruleset) → to_read rules ≡ to_read other → rules ≡ other
same_read rules other e = cc

-- the best over the same files has one text
pub one_text : (rules : Ruleset) (files : List (List ℕ)) (text other : List ℕ) → IsBestOver rules files text → IsBestOver rules files other → text ≡ other
one_text rules files text other h k =
    h.2 ∙ ap (λ (c : Collected). collection_text c) (one_collection rules files h.0 k.0 h.1 k.1) ∙ sym k.2

module _ (past : Past) (e : Endpoint) (own : Owns past e) where
  -- it is not a stranger's
  pub no_stranger : {P : Type 0} → IsStranger past e → P
  no_stranger s = absurd (own.stranger s.datagram (Has-contains past.strays s.datagram s.among) s.source)

  -- one operation has begun there
  pub one_operation : (b c : Begun) → Has past.begun b → Has past.begun c → b.client ≡ e → c.client ≡ e → b ≡ c
  one_operation b c h k first second =
      one_at past.begun h.position k.position b c h.is k.is (own.operations h.position k.position b c h.is k.is first second)

  -- at one port one transfer was opened for it
  one_opening : (o p : Opening) → Has past.opened o → Has past.opened p → o.peer ≡ e → p.peer ≡ e → o.port ≡ p.port → o ≡ p
  one_opening o p h k first second same =
      one_at past.opened h.position k.position o p h.is k.is (own.openings h.position k.position o p h.is k.is first second same)

  -- one put has one file
  pub one_put : (file other : List ℕ) → HasPut past e file → HasPut past e other → file ≡ other
  one_put file other h k =
      same_put file other (ap (λ (b : Begun). b.operation) (one_operation _ _ h.among k.among refl refl))

  -- one get at an endpoint: of one kind, and one count
  pub one_get : (rules other : Ruleset) (m n : ℕ) → HasGet past e rules m → HasGet past e other n → (rules ≡ other) × (m ≡ n)
  one_get rules other m n h k =
      let both = one_operation _ _ h.among k.among refl refl in
      (same_get rules other (ap (λ (b : Begun). b.operation) both), ap (λ (b : Begun). b.taken) both)

  -- at one port one collection was asked for
  one_read : (port : ℕ) (rules other : Ruleset) (m n : ℕ) → HasOpened past e port (to_read rules) m → HasOpened past e port (to_read other) n →
      (rules ≡ other) × (m ≡ n)
  one_read port rules other m n h k =
      let both = one_opening _ _ h.among k.among refl refl refl in
      (same_read rules other (ap (λ (o : Opening). o.asked) both), ap (λ (o : Opening). o.taken) both)

  -- what is served at one port is one collection
  pub one_served : (port : ℕ) (rules other : Ruleset) (text more : List ℕ) → Serves past e port rules text → Serves past e port other more → text ≡ more
  one_served port rules other text more h k =
      let same = one_read port rules other h.count k.count h.opened k.opened in
      let best = subst (λ (n : ℕ). IsBestOver other (files_of (take n past.taken)) more) (sym same.1) k.is_text.best in
      let best' = subst (λ (r : Ruleset). IsBestOver r (files_of (take h.count past.taken)) more) (sym same.0) best in
      one_text rules (files_of (take h.count past.taken)) text more h.is_text.best best'
