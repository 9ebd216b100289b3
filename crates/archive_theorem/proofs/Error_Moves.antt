-- What each ERROR says still holds after an operation has begun, after an answer of a client, and after a step that leaves the clients; and a
-- client that has failed stays so.
use Rattle.std.proofs.Common.{◌≡◌, ◌≢◌, ◌⊎◌, ℕ, ◌<◌, Bool, true, false, cond, List, [], ◌∷◌, ◌++◌, length, Option, None, Some, IfSome, refl, ap, sym, ◌∙◌, subst, inl, inr, arith}
use Rattle.std.specs.Map.{lookup, set_value}
use Rattle.tftp_packet.specs.declared.endpoint.Endpoint.{Endpoint}
use Rattle.tftp_packet.specs.declared.out.Out.{Out}
use Rattle.tftp_packet.specs.declared.cause.Cause.{Cause}
use Rattle.tftp_packet.specs.declared.cause.Cause.TheVariants as cause
use Rattle.tftp_packet.specs.Packet.{encode}
use Rattle.tftp_packet.specs.Decode.{decode_bytes}
use Rattle.archive_table.specs.Table.{Grant, memory_verdict, is_same}
use Rattle.archive_client.specs.declared.state.State.TheVariants as state
use Rattle.archive_client.specs.Client.{Operation, failed, asking, Client, ClientAnswer, client_start, client_datagram, client_timeout, operation_request, state_of}
use Rattle.archive_model.specs.World.{Datagram, Begun, Got, World, client_at, net_with, got_with, after_client, begins}
use Rattle.archive_model.proofs.Places.{Has, Has-push, Has-last, at-prefix, at-last, before_last, IsPrefix-push, either}
use Rattle.archive_model.proofs.Endpoints.{endpoint_is, exact_endpoint}
use Rattle.archive_theorem.specs.Headline.{IsOwn}
use Rattle.archive_theorem.specs.Errors.{HasFailed}
use Rattle.archive_theorem.proofs.Claim_Past.{HasBegun, Binds, IsBound}
use Rattle.archive_theorem.proofs.Keyed.{NewOrOld, lookup-set, lookup-written}
use Rattle.archive_theorem.proofs.Claim_Lasts.{begun-lasts}
use Rattle.archive_theorem.proofs.Claim_Owns.{own-before, no_stranger, get_begun}
use Rattle.archive_theorem.proofs.Claim_Invariant.{Holds}
use Rattle.archive_theorem.proofs.Server_Moves.{begun_away}
use Rattle.archive_theorem.proofs.Client_Answers.{request_binds}
use Rattle.archive_theorem.proofs.Error_Client.{Fails, datagram-fails, timeout-fails, failed-datagram, failed-timeout, datagram-got, timeout-got, newly-got, datagram-own, timeout-own}
use Rattle.archive_theorem.proofs.Error_Claims.{IsRefusal, IsRefused, Tells, Changes, refused-lasts, error-tells, ports_still}
use Rattle.archive_theorem.proofs.Error_Steps.{at_some, IsSent, net_added}

same_some : (o : Option Client) (c d : Client) → o ≡ Some c → o ≡ Some d → c ≡ d
same_some o c d is also = let both : Some c ≡ Some d = sym is ∙ also in cc

-- ---- a client by its endpoint, after another was written

module _ (e f : Endpoint) (other : is_same f e ≡ false) where
  kept_at : (es : List (Endpoint × Client)) (key : Endpoint) (old new : Client) → lookup (is_same f) (set_value (is_same e) es new) ≡ lookup (is_same f) es →
      (there : Bool) → is_same e key ≡ there →
      lookup (is_same f) (cond there ((key, new) ∷ es) ((key, old) ∷ set_value (is_same e) es new)) ≡ lookup (is_same f) ((key, old) ∷ es)
  kept_at es key old new rest true at =
      let apart : is_same f key ≡ false = ap (is_same f) (sym (exact_endpoint e key at)) ∙ other in
      ap (λ (b : Bool). cond b (Some new) (lookup (is_same f) es)) apart ∙ sym (ap (λ (b : Bool). cond b (Some old) (lookup (is_same f) es)) apart)
  kept_at es key old new rest false at = ap (λ (o : Option Client). cond (is_same f key) (Some old) o) rest

  lookup_kept : (es : List (Endpoint × Client)) (new : Client) → lookup (is_same f) (set_value (is_same e) es new) ≡ lookup (is_same f) es
  lookup_kept [] new = refl
  lookup_kept (entry ∷ es) new = kept_at es entry.0 entry.1 new (lookup_kept es new) (is_same e entry.0) refl

-- ---- an endpoint where an operation has begun

module _ (w : World) (e : Endpoint) (operation : Operation) where
  -- no second one begins there, if its ports are its own
  pub begins_twice : {P : Type 0} → IsOwn (begins e operation w) e → HasBegun w.past e → P
  begins_twice own b =
      let began : Begun = record { client = e; operation = operation; taken = length w.taken } in
      let position = b.among.position in
      let still = at-prefix w.begun (w.begun ++ began ∷ []) (IsPrefix-push w.begun began) position b.begun b.among.is in
      let earlier : position < length w.begun = before_last w.begun position b.begun b.among.is in
      let same : position ≡ length w.begun = own.operations position (length w.begun) b.begun began still (at-last w.begun began) b.client refl in
      absurd (omega arith)

  -- its client is the new one, or one of those before
  abbrev NewOr : Endpoint → Client → Type 0
  NewOr f c = ((f ≡ e) × (c ≡ client_start e.port w.home operation)) ⊎ (client_at f w ≡ Some c)

  found_in : (f : Endpoint) (c : Client) (here : Bool) → is_same f e ≡ here →
      cond here (Some (client_start e.port w.home operation)) (client_at f w) ≡ Some c → NewOr f c
  found_in f c true is found = inl (exact_endpoint f e is, cc)
  found_in f c false is found = inr found

  new_client : (f : Endpoint) (c : Client) → client_at f (begins e operation w) ≡ Some c → NewOr f c
  new_client f c is = found_in f c (is_same f e) refl is

asking_other : {P : Type 0} (c : Client) (port : ℕ) (home : Endpoint) (operation : Operation) (why : Cause) → c ≡ client_start port home operation →
    c.phase ≡ failed why → P
asking_other c port home operation why same is =
    let both : asking operation 0 ≡ failed why = ap (λ (x : Client). x.phase) (sym same) ∙ is in absurd cc

-- ---- what is fetched

got_added : (newly : Bool) (e : Endpoint) (file : Option (List ℕ)) (gs : List Got) (g : Got) → Has (got_with newly e file gs) g →
    Has gs g ⊎ ((g.client ≡ e) × (newly ≡ true))
got_added true e (Some file) gs g has = either (λ old. old) (λ (new : g ≡ record { client = e; file = file }). (ap (λ (x : Got). x.client) new, refl))
    (Has-push gs (record { client = e; file = file }) g has)
got_added true e None gs g has = inl has
got_added false e file gs g has = inl has

-- ---- one step

module _ (w v : World) (h : Holds w) (k : Holds v) (tells : Tells w) (c : Changes w v) where
  home_host : v.home.host ≡ w.home.host
  home_host = ap (λ (x : Endpoint). x.host) c.more.home

  own_then : (e : Endpoint) → IsOwn v e → IsOwn w e
  own_then e own = own-before c.more e own

  client_away : (e : Endpoint) → HasBegun w.past e → e.host ≢ v.home.host
  client_away e b ours = begun_away w h e b (ours ∙ home_host)

  -- what binds an endpoint was sent before
  abbrev pub SentBefore : Endpoint → Type 0
  SentBefore e = (d : Datagram) → Has v.net d → d.source ≡ e → Binds (decode_bytes d.bytes) → Has w.net d

  bound_then : (e : Endpoint) → SentBefore e → (port : ℕ) → IsBound v.past e port → IsBound w.past e port
  bound_then e before port b =
      record {
        datagram = b.datagram;
        among = before b.datagram b.among b.source b.binds;
        source = b.source;
        target = b.target ∙ ap (λ (host : ℕ). record { host = host; port = port }) home_host;
        binds = b.binds;
      }

  -- a client that had failed
  abbrev RefusedStill : Endpoint → Type 0
  RefusedStill e = (port : ℕ) → IsBound v.past e port → IsRefused v e port

  failed_still : (e : Endpoint) (x : Client) (code : ℕ) → client_at e w ≡ Some x → x.phase ≡ failed (cause.Refused code) → code ≢ 5 → IsOwn v e → SentBefore e →
      RefusedStill e
  failed_still e x code is fails known own before port b =
      let refused = tells.failed_by e x code is fails known (own_then e own) port (bound_then e before port b) in
      refused-lasts w v h k tells c e (client_away e (tells.begun e x is)) own port refused

  -- the claims for the world after it, if those of its clients hold
  module _ (begun_there : (e : Endpoint) (x : Client) → client_at e v ≡ Some x → HasBegun v.past e)
      (fails_there : (e : Endpoint) (x : Client) (code : ℕ) → client_at e v ≡ Some x → x.phase ≡ failed (cause.Refused code) → code ≢ 5 → IsOwn v e →
      RefusedStill e)
      (got_there : (e : Endpoint) (x : Client) → client_at e v ≡ Some x → IsOwn v e → (g : Got) → Has v.got g → g.client ≡ e → state_of x ≡ state.Got) where
    tells_by : Tells v
    tells_by =
        record {
          ports = ports_still w v h k tells c;
          begun = begun_there;
          errors = error-tells w v h k tells c;
          failed_by = fails_there;
          got = got_there;
        }

  -- ---- the clients stay

  module _ (clients : v.clients ≡ w.clients) (got : v.got ≡ w.got) (before : (e : Endpoint) → HasBegun w.past e → IsOwn v e → SentBefore e) where
    was_there : (e : Endpoint) (x : Client) → client_at e v ≡ Some x → client_at e w ≡ Some x
    was_there e x is = ap (lookup (is_same e)) (sym clients) ∙ is

    pub kept_tells : Tells v
    kept_tells =
        tells_by (λ e x is. begun-lasts c.more e (tells.begun e x (was_there e x is)))
        (λ e x code is fails known own. failed_still e x code (was_there e x is) fails known own (before e (tells.begun e x (was_there e x is)) own))
        (λ e x is own g has same. tells.got e x (was_there e x is) (own_then e own) g (subst (λ (l : List Got). Has l g) got has) same)

  -- what the server sends binds none of them
  pub server_before : (out : Option Out) → v.net ≡ net_with w.home.host w.net out → (e : Endpoint) → HasBegun w.past e → SentBefore e
  server_before out net e b d has source binds =
      elim (net_added w.home.host w.net out d (subst (λ (l : List Datagram). Has l d) net has)) [
        | inl old ↦ old
        | inr new ↦
            absurd (begun_away w h e b (ap (λ (x : Endpoint). x.host) (sym source) ∙ ap (λ (x : Datagram). x.source.host) new.same))
      ]

  -- nor does a stranger, at an endpoint whose ports are its own
  pub stray_before : (x : Datagram) → v.net ≡ w.net ++ x ∷ [] → Has v.strays x → (e : Endpoint) → IsOwn v e → SentBefore e
  stray_before x net strays e own d has source binds =
      elim (Has-push w.net x d (subst (λ (l : List Datagram). Has l d) net has)) [
        | inl old ↦ old
        | inr new ↦
            no_stranger v.past e own (record { datagram = x; among = strays; source = ap (λ (y : Datagram). y.source) (sym new) ∙ source })
      ]

-- ---- an operation begins

module _ (w : World) (h : Holds w) (e : Endpoint) (operation : Operation) (k : Holds (begins e operation w)) (tells : Tells w)
    (c : Changes w (begins e operation w)) where
  abbrev started : World
  started = begins e operation w

  request_before : (f : Endpoint) → SentBefore w started h k tells c f
  request_before f d has source binds =
      let request : Datagram = record { source = e; target = w.home; bytes = encode (operation_request operation) } in
      elim (Has-push w.net request d has) [
        | inl old ↦ old
        | inr new ↦ absurd (request_binds operation (subst (λ (x : Datagram). Binds (decode_bytes x.bytes)) new binds))
      ]

  new_begun : (f : Endpoint) (x : Client) → NewOr w e operation f x → HasBegun started.past f
  new_begun f x (inl new) =
      record { begun = record { client = e; operation = operation; taken = length w.taken }; among = Has-last w.begun _; client = sym new.0 }
  new_begun f x (inr old) = begun-lasts c.more f (tells.begun f x old)

  new_fails : (f : Endpoint) (x : Client) (code : ℕ) → NewOr w e operation f x → x.phase ≡ failed (cause.Refused code) → code ≢ 5 → IsOwn started f →
      RefusedStill w started h k tells c f
  new_fails f x code (inl new) fails known own = asking_other x e.port w.home operation (cause.Refused code) new.1 fails
  new_fails f x code (inr old) fails known own = failed_still w started h k tells c f x code old fails known own (request_before f)

  got_begun : (g : Got) → Has w.got g → HasBegun w.past g.client
  got_begun g has = let is = h.got g has in get_begun g.client is.rules is.count is.began

  new_got : (f : Endpoint) (x : Client) → NewOr w e operation f x → IsOwn started f → (g : Got) → Has w.got g → g.client ≡ f → state_of x ≡ state.Got
  new_got f x (inl new) own g has same =
      begins_twice w e operation (subst (IsOwn started) new.0 own) (subst (HasBegun w.past) (same ∙ new.0) (got_begun g has))
  new_got f x (inr old) own g has same = tells.got f x old (own-before c.more f own) g has same

  pub begins-tells : Tells started
  begins-tells =
      tells_by w started h k tells c (λ f x is. new_begun f x (new_client w e operation f x is))
      (λ f x code is. new_fails f x code (new_client w e operation f x is)) (λ f x is. new_got f x (new_client w e operation f x is))

-- ---- a client answers

-- it had failed, or fails now by an ERROR that was sent to it
abbrev pub HadFailed : World → Endpoint → Client → ClientAnswer → (code : ℕ) → Type 0
HadFailed w e was a code =
    (was.phase ≡ failed (cause.Refused code)) ⊎ ((d : Datagram) × Has w.net d × (d.target ≡ e) × Fails code d.source d.bytes was a)

-- what must be shown of its answer
pub record Answer (w : World) (e : Endpoint) (was : Client) (a : ClientAnswer) : Type 0 where
  is : client_at e w ≡ Some was
  fails : (code : ℕ) → a.client.phase ≡ failed (cause.Refused code) → HadFailed w e was a code
  -- a client that has failed sends nothing more, and stays so
  quiet : (why : Cause) → was.phase ≡ failed why → (a.client ≡ was) × (a.out ≡ None)
  got : state_of was ≡ state.Got → state_of a.client ≡ state.Got
  own : IfSome a.out (λ o. o.from_port ≡ was.port)

module _ (w : World) (h : Holds w) (e : Endpoint) (was : Client) (a : ClientAnswer) (answer : Answer w e was a) (k : Holds (after_client e was a w))
    (tells : Tells w) (c : Changes w (after_client e was a w)) where
  abbrev acted : World
  acted = after_client e was a w

  abbrev Found : Endpoint → Client → Type 0
  Found f x = NewOrOld is_same exact_endpoint w.clients e a.client f x

  acted_in : (f : Endpoint) (x : Client) → client_at f acted ≡ Some x → Found f x
  acted_in f x is = lookup-set is_same exact_endpoint w.clients e a.client f x is

  -- the client there is the new one
  found_next : (f : Endpoint) (x : Client) → client_at f acted ≡ Some x → f ≡ e → x ≡ a.client
  found_next f x is same =
      let written = lookup-written is_same exact_endpoint w.clients e was a.client answer.is in
      let here = ap (λ (y : Endpoint). client_at y acted) (sym same) ∙ is in
      same_some (client_at e acted) x a.client here written

  -- nothing is sent
  quiet_before : (f : Endpoint) → a.out ≡ None → SentBefore w acted h k tells c f
  quiet_before f quiet d has source binds = subst (λ (o : Option Out). Has (net_with e.host w.net o) d) quiet has

  -- what is sent is from this endpoint
  sent_there : (f : Endpoint) (d : Datagram) → IsSent e.host a.out d → d.source ≡ f → f ≡ e
  sent_there f d s source =
      let port : s.sent.from_port ≡ was.port = at_some (λ (o : Out). o.from_port ≡ was.port) a.out s.sent s.is answer.own in
      let there = sym (endpoint_is e e.host s.sent.from_port refl (sym (port ∙ (h.clients e was answer.is).port))) in
      sym source ∙ ap (λ (x : Datagram). x.source) s.same ∙ there

  -- so a client that had failed has sent nothing
  failed_before : (f : Endpoint) (x : Client) (why : Cause) → client_at f w ≡ Some x → x.phase ≡ failed why → SentBefore w acted h k tells c f
  failed_before f x why is fails d has source binds =
      elim (net_added e.host w.net a.out d has) [
        | inl old ↦ old
        | inr new ↦
            let same = sent_there f d new source in
            let one : x ≡ was = same_some (client_at e w) x was (ap (λ (y : Endpoint). client_at y w) (sym same) ∙ is) answer.is in
            let quiet = (answer.quiet why (ap (λ (y : Client). y.phase) (sym one) ∙ fails)).1 in
            let both : Some new.sent ≡ None = sym new.is ∙ quiet in
            absurd cc
      ]

  -- it fails by an ERROR from the port that it is bound to
  now_refused : (code : ℕ) → code ≢ 5 → IsOwn acted e → HadFailed w e was a code → RefusedStill w acted h k tells c e
  now_refused code known own (inl had) =
      λ port b. failed_still w acted h k tells c e was code answer.is had known own (failed_before e was (cause.Refused code) answer.is had) port b
  now_refused code known own (inr now) =
      λ port b.
      let d = now.0 in
      let fails = now.3 in
      let own' = own-before c.more e own in
      let begun = tells.begun e was answer.is in
      let bound = bound_then w acted h k tells c e (quiet_before e fails.quiet) port b in
      let at : port ≡ d.source.port = fails.at port (h.bound e was answer.is own' port bound) in
      let refusal : IsRefusal w d =
      record {
        ours = fails.ours ∙ ap (λ (x : Endpoint). x.host) (h.clients e was answer.is).server;
        away = λ ours. begun_away w h e begun (ap (λ (x : Endpoint). x.host) (sym now.2) ∙ ours);
        code = code;
        text = fails.text;
        reads = fails.reads;
        known = known;
      } in
      let refused = tells.errors d now.1 refusal (subst (IsOwn w) (sym now.2) own') in
      let there : IsRefused w e port = subst (IsRefused w e) (sym at) (subst (λ (x : Endpoint). IsRefused w x d.source.port) now.2 refused) in
      refused-lasts w acted h k tells c e (client_away w acted h k tells c e begun) own port there

  acted_begun : (f : Endpoint) (x : Client) → Found f x → HasBegun acted.past f
  acted_begun f x (inl new) = subst (HasBegun acted.past) (sym new.0) (begun-lasts c.more e (tells.begun e was answer.is))
  acted_begun f x (inr old) = begun-lasts c.more f (tells.begun f x old)

  acted_fails : (f : Endpoint) (x : Client) (code : ℕ) → Found f x → x.phase ≡ failed (cause.Refused code) → code ≢ 5 → IsOwn acted f →
      RefusedStill w acted h k tells c f
  acted_fails f x code (inl new) fails known own =
      let had = answer.fails code (ap (λ (y : Client). y.phase) (sym new.1) ∙ fails) in
      subst (RefusedStill w acted h k tells c) (sym new.0) (now_refused code known (subst (IsOwn acted) new.0 own) had)
  acted_fails f x code (inr old) fails known own =
      failed_still w acted h k tells c f x code old fails known own (failed_before f x (cause.Refused code) old fails)

  old_got : (f : Endpoint) (x : Client) → Found f x → IsOwn w f → (g : Got) → Has w.got g → g.client ≡ f → state_of x ≡ state.Got
  old_got f x (inl new) own g has same =
      ap state_of new.1 ∙ answer.got (tells.got e was answer.is (subst (IsOwn w) new.0 own) g has (same ∙ new.0))
  old_got f x (inr old) own g has same = tells.got f x old own g has same

  acted_got : (f : Endpoint) (x : Client) → client_at f acted ≡ Some x → IsOwn acted f → (g : Got) → Has acted.got g → g.client ≡ f → state_of x ≡ state.Got
  acted_got f x is own g has same =
      elim (got_added _ e _ w.got g has) [
        | inl old ↦ old_got f x (acted_in f x is) (own-before c.more f own) g old same
        | inr new ↦ ap state_of (found_next f x is (sym same ∙ new.0)) ∙ newly-got (state_of was) (state_of a.client) new.1
      ]

  pub acted-tells : Tells acted
  acted-tells =
      tells_by w acted h k tells c (λ f x is. acted_begun f x (acted_in f x is)) (λ f x code is. acted_fails f x code (acted_in f x is)) acted_got

  -- a client that had failed stays so
  pub stays_by : (f : Endpoint) (why : Cause) (there : HasFailed w f why) (here : Bool) → is_same f e ≡ here → HasFailed acted f why
  stays_by f why there true at =
      let same = exact_endpoint f e at in
      let one : there.client ≡ was = same_some (client_at e w) there.client was (ap (λ (y : Endpoint). client_at y w) (sym same) ∙ there.is) answer.is in
      let had = ap (λ (y : Client). y.phase) (sym one) ∙ there.failed_by in
      let written = lookup-written is_same exact_endpoint w.clients e was a.client answer.is in
      record {
        client = a.client;
        is = ap (λ (y : Endpoint). client_at y acted) same ∙ written;
        failed_by = ap (λ (y : Client). y.phase) (answer.quiet why had).0 ∙ had;
      }
  stays_by f why there false at =
      record { client = there.client; is = lookup_kept e f at w.clients a.client ∙ there.is; failed_by = there.failed_by }

-- the answers to a datagram and to a time-out
pub datagram_answer : (w : World) (grant : Grant) (d : Datagram) (c : Client) → Has w.net d → client_at d.target w ≡ Some c →
    Answer w d.target c (client_datagram (memory_verdict grant) d.source d.bytes c)
datagram_answer w grant d c among is =
    record {
      is = is;
      fails = λ code now. either (λ had. had) (λ fails. (d, among, refl, fails)) (datagram-fails code (memory_verdict grant) d.source d.bytes c now);
      quiet = λ why had.
          let same = failed-datagram why (memory_verdict grant) d.source d.bytes c had in
          (ap (λ (a : ClientAnswer). a.client) same, ap (λ (a : ClientAnswer). a.out) same);
      got = datagram-got (memory_verdict grant) d.source d.bytes c;
      own = datagram-own (memory_verdict grant) d.source d.bytes c;
    }

pub timeout_answer : (w : World) (e : Endpoint) (c : Client) → client_at e w ≡ Some c → Answer w e c (client_timeout c)
timeout_answer w e c is =
    record {
      is = is;
      fails = λ code now. inl (timeout-fails code c now);
      quiet = λ why had.
          let same = failed-timeout why c had in
          (ap (λ (a : ClientAnswer). a.client) same, ap (λ (a : ClientAnswer). a.out) same);
      got = timeout-got c;
      own = timeout-own c;
    }
