-- A request arrives at the server, which opens a transfer at a free port or refuses it: the invariant still holds.
use Rattle.std.proofs.Common.{◌≡◌, ◌≢◌, ◌⊎◌, ℕ, ◌≤◌, ◌<◌, nat_cmp, List, [], ◌∷◌, ◌++◌, length, take, None, Some, Ok, refl, ap, sym, ◌∙◌, subst, inl, inr, arith, le_refl, take_all}
use Rattle.std.specs.BTreeMap.{insert_entry}
use Rattle.tftp_packet.specs.declared.endpoint.Endpoint.{Endpoint}
use Rattle.tftp_packet.specs.declared.refusal.Refusal.{Refusal}
use Rattle.tftp_packet.specs.Packet.{read, write, encode}
use Rattle.tftp_packet.specs.Blocks.{block_of}
use Rattle.tftp_packet.specs.Refusal.{refusal_packet}
use Rattle.tftp_packet.specs.Decode.{decode_bytes}
use Rattle.tftp_ends.specs.declared.limits.TheConstants.{MAX_FILE}
use Rattle.tftp_ends.specs.Ends.{Verdict, sender_start, data_packet}
use Rattle.tftp_ends.proofs.Steps.{IsSender-start, start-reads_back}
use Rattle.tws_file.specs.declared.«ruleset».Ruleset.{Ruleset}
use Rattle.tws_file.specs.declared.«ruleset».Ruleset.TheVariants.{Lynx, Ms}
use Rattle.tws_best.specs.Best.{collection_text, IsBestOver}
use Rattle.archive_table.specs.Table.{End, Taken, Transfer, sending, at_port, with_live, transfer_at, map_of, out_from, refuses}
use Rattle.tws_file.specs.Names.{ruleset_named}
use Rattle.archive_model.specs.World.{Datagram, World, Opening, Asked, to_write, to_read, after_request, Extends}
use Rattle.archive_theorem.specs.Headline.{IsOwn, files_of}
use Rattle.archive_model.proofs.Places.{Has, Has-last, Has-push, at-prefix, at-last, before_last, IsPrefix-same, IsPrefix-push, either}
use Rattle.archive_theorem.proofs.Keyed.{NewOrOld, lookup-insert_entry, apart-insert_entry}
use Rattle.archive_theorem.proofs.Claim_Past.{HasBegun, HasGet, HasOpened, IsStranger, IsTextOf, Serves, ServesBlock, AsksToRead, AsksToWrite, IsHonest, IsBound, IsLiveEnd, IsLive, IsUntaken, IsAskedBy, IsOpening, IsTaken}
use Rattle.archive_theorem.proofs.Claim_Lasts.{stranger-lasts, get-lasts, live-lasts}
use Rattle.archive_theorem.proofs.Claim_Owns.{own-before, put_begun, get_begun}
use Rattle.archive_theorem.proofs.Claim_Invariant.{exact_port, same_port, TakesOnce, Holds}
use Rattle.archive_theorem.proofs.Server_Moves.{served, begun_away, bound_before, served-holds, served-extends}
use Rattle.archive_theorem.proofs.Server_Sends.{from_port, honest_packet, honest_refusal, replies-holds}

-- ---- a transfer is opened

module _ (w : World) (h : Holds w) (spare : ℕ) (free : transfer_at spare w.server ≡ None) (from : Endpoint) (asked : Asked) where
  -- the transfer that is opened, as it is recorded
  abbrev pub opening : Opening
  opening = record { peer = from; port = spare; asked = asked; taken = length w.taken }

  module _ (end : End) (first : List ℕ) where
    -- the transfer
    abbrev pub transfer : Transfer
    transfer = record { peer = from; end = end }

    -- the transfers with it
    abbrev more : List (ℕ × Transfer)
    more = insert_entry nat_cmp w.server.live spare transfer

    -- the datagrams with its first one
    abbrev sends : List Datagram
    sends = w.net ++ record { source = from_port w spare; target = from; bytes = first } ∷ []

    -- the world after it
    abbrev pub opened : World
    opened = served sends (with_live more w.server) w.taken w.recovered (w.opened ++ opening ∷ []) w

    pub grows : Extends w.past opened.past
    grows =
        served-extends w.past (IsPrefix-push w.net _) (IsPrefix-same w.taken) (IsPrefix-same w.recovered) (IsPrefix-push w.opened opening)

    -- what must be shown
    pub record IsFine : Type 0 where
      pub away : from.host ≢ w.home.host
      pub live : IsLiveEnd opened.past from spare end
      pub honest : IsHonest opened.past (record { source = from_port w spare; target = from; bytes = first })
      pub whose : IsStranger opened.past from ⊎ IsAskedBy opened.past opening asked

    module _ (f : IsFine) where
      -- a new datagram is honest, and from the server's host
      from_us : (d : Datagram) → Has sends d → Has w.net d ⊎ ((d.source.host ≡ w.home.host) × IsHonest opened.past d)
      from_us d has =
          either (λ old. old) (λ is. (ap (λ (x : Datagram). x.source.host) is, subst (IsHonest opened.past) (sym is) f.honest)) (Has-push w.net _ d has)

      -- no client is newly bound
      before : (e : Endpoint) (q : ℕ) → e.host ≢ w.home.host → IsBound opened.past e q → IsBound w.past e q
      before = bound_before w h sends (with_live more w.server) w.taken w.recovered (w.opened ++ opening ∷ [])
          (λ d has. either (λ old. old) (λ ours. ours.0) (from_us d has))

      -- each transfer is as the claims say
      live_in : (q : ℕ) (u : Transfer) → NewOrOld at_port exact_port w.server.live spare transfer q u → IsLive opened.past q u
      live_in q u (inr old) = live-lasts grows q u (h.live q u old)
      live_in q u (inl new) =
          let here : IsLive opened.past spare transfer = record { away = f.away; end = f.live } in
          subst (λ (x : Transfer). IsLive opened.past q x) (sym new.1) (subst (λ (p : ℕ). IsLive opened.past p transfer) (sym new.0) here)

      -- no transfer was opened there for this peer before
      never_opened : {P : Type 0} (asked_then : Asked) (count : ℕ) → HasOpened w.past from spare asked_then count → IsOwn opened from → P
      never_opened asked_then count o own =
          let position = o.among.position in
          let still = at-prefix w.opened (w.opened ++ opening ∷ []) (IsPrefix-push w.opened opening) position _ o.among.is in
          let first_then : position < length w.opened = before_last w.opened position _ o.among.is in
          let same : position ≡ length w.opened = own.openings position (length w.opened) _ opening still (at-last w.opened opening) refl refl refl in
          absurd (omega arith)

      -- no file was taken there before, if the peer's ports are its own
      taken_before : (u : Taken) → u.peer ≡ from → IsBound w.past from spare → IsTaken w.past u → IsOwn opened from → ⊥
      taken_before u same bound t own =
          let own_then = own-before grows from own in
          let by = t.whose (subst (IsOwn w) (sym same) own_then) in
          let at_port_then : IsBound w.past from t.port = subst (λ (e : Endpoint). IsBound w.past e t.port) same by.bound in
          let begun : HasBegun w.past from = subst (HasBegun w.past) same (put_begun u.peer u.file by.began) in
          let one = h.one_port from t.port spare begun own_then at_port_then bound in
          let o =
          subst (λ (p : ℕ). HasOpened w.past from p to_write t.count) one
          (subst (λ (e : Endpoint). HasOpened w.past e t.port to_write t.count) same t.opened) in
          never_opened to_write t.count o own

      -- so none was taken at the new transfer
      untaken_new : IsUntaken opened.past spare transfer
      untaken_new running own u has same bound =
          let other = λ (ours : u.peer.host ≡ w.home.host). f.away (ap (λ (x : Endpoint). x.host) (sym same) ∙ ours) in
          taken_before u same (before from spare f.away bound) (h.taken u has other) own

      -- nor at any other that still waits for blocks
      untaken_in : (q : ℕ) (u : Transfer) → NewOrOld at_port exact_port w.server.live spare transfer q u → IsUntaken opened.past q u
      untaken_in q u (inr old) =
          λ running own v has same bound.
          h.untaken q u old running (own-before grows u.peer own) v has same (before u.peer q (h.live q u old).away bound)
      untaken_in q u (inl new) =
          subst (λ (x : Transfer). IsUntaken opened.past q x) (sym new.1) (subst (λ (p : ℕ). IsUntaken opened.past p transfer) (sym new.0) untaken_new)

      -- files are still taken once
      once_in : TakesOnce opened.past
      once_in i j t u at_i at_j same other own =
          h.once i j t u at_i at_j same other (own-before grows t.peer own)

      -- the opening is that of a stranger or of an operation
      new_opening : IsOpening opened.past opening
      new_opening = record { counted = le_refl (length w.taken); whose = f.whose }

      -- opening a transfer keeps the invariant
      pub opened-holds : Holds opened
      opened-holds =
          served-holds w h sends (with_live more w.server) w.taken w.recovered (w.opened ++ opening ∷ [])
          (record {
            more = grows;
            honest = from_us;
            apart = apart-insert_entry nat_cmp exact_port same_port w.server.live spare transfer free h.apart;
            live = λ q u e. live_in q u (lookup-insert_entry nat_cmp exact_port w.server.live spare transfer q u e);
            untaken = λ q u e. untaken_in q u (lookup-insert_entry nat_cmp exact_port w.server.live spare transfer q u e);
            openings = λ o has. either (λ old. old) (λ is. subst (IsOpening opened.past) (sym is) new_opening) (Has-push w.opened opening o has);
            files = λ t has. inl has;
            once = once_in;
            best = h.best;
          })

-- ---- a request to read

module _ (w : World) (h : Holds w) (d : Datagram) (among : Has w.net d) where
  -- whoever reads is a stranger or a get
  pub reads : (name mode : List ℕ) → decode_bytes d.bytes ≡ Ok (read name mode) → IsStranger w.past d.source ⊎ AsksToRead w.past d.source name
  reads name mode is = either (λ s. s) (λ says. says (read name mode) is) (h.net d among).says

  -- whoever writes is a stranger or a put
  pub writes : (name mode : List ℕ) → decode_bytes d.bytes ≡ Ok (write name mode) → IsStranger w.past d.source ⊎ AsksToWrite w.past d.source
  writes name mode is = either (λ s. s) (λ says. says (write name mode) is) (h.net d among).says

  -- a stranger is not on the server's host
  stranger_away : (e : Endpoint) → IsStranger w.past e → e.host ≢ w.home.host
  stranger_away e s ours = h.strays s.datagram s.among (ap (λ (x : Endpoint). x.host) s.source ∙ ours)

  -- whoever reads is not on the server's host
  reader_away : (name : List ℕ) → IsStranger w.past d.source ⊎ AsksToRead w.past d.source name → d.source.host ≢ w.home.host
  reader_away name (inl stranger) = stranger_away d.source stranger
  reader_away name (inr asks) = begun_away w h d.source (get_begun d.source asks.rules asks.count asks.began)

  -- whoever writes is not on the server's host
  pub writer_away : IsStranger w.past d.source ⊎ AsksToWrite w.past d.source → d.source.host ≢ w.home.host
  writer_away (inl stranger) = stranger_away d.source stranger
  writer_away (inr asks) = begun_away w h d.source (put_begun d.source asks.file asks.began)

  -- a refusal changes nothing but the network
  pub refuses-holds : (spare : ℕ) (asked : Asked) (why : Refusal) → Holds (after_request d.source spare asked (refuses why d.source w.server) w)
  refuses-holds spare asked why =
      replies-holds w h (out_from w.server.request d.source (refusal_packet why)) (honest_refusal w (from_port w w.server.request) d.source why)

  module _ (verdict : Verdict) (spare : ℕ) (free : transfer_at spare w.server ≡ None) where
    -- ---- the text of a collection

    all_files : (taken : List Taken) → take (length taken) taken ≡ taken
    all_files taken = take_all (length taken) taken (le_refl (length taken))

    -- each collection is the best over all files taken by now
    best_of : (rules : Ruleset) → IsBestOver rules (files_of w.taken) (collection_text (map_of rules w.server.maps))
    best_of Lynx = (w.server.maps.lynx, h.best.lynx, refl)
    best_of Ms = (w.server.maps.ms, h.best.ms, refl)

    -- so its text is that over as many files
    is_text : (rules : Ruleset) → IsTextOf w.taken (length w.taken) rules (collection_text (map_of rules w.server.maps))
    is_text rules =
        record {
          within = le_refl (length w.taken);
          best = subst (λ (ts : List Taken). IsBestOver rules (files_of ts) (collection_text (map_of rules w.server.maps)))
              (sym (all_files w.taken)) (best_of rules);
        }

    -- a name is that of one collection
    same_ruleset : (name : List ℕ) (rules other : Ruleset) → ruleset_named name ≡ Some rules → ruleset_named name ≡ Some other → other ≡ rules
    same_ruleset name rules other is also = cc

    module _ (rules : Ruleset) (short : length (collection_text (map_of rules w.server.maps)) ≤ MAX_FILE) where
      -- its text
      abbrev pub text : List ℕ
      text = collection_text (map_of rules w.server.maps)

      -- the world after the transfer is opened
      abbrev pub reading : World
      reading = opened w h spare free d.source (to_read rules) (sending (sender_start text)) (encode (data_packet text 1))

      -- that transfer was opened
      has_opened : HasOpened reading.past d.source spare (to_read rules) (length w.taken)
      has_opened = record { among = Has-last w.opened _ }

      -- it serves the text
      serves : Serves reading.past d.source spare rules text
      serves = record { count = length w.taken; opened = has_opened; is_text = is_text rules }

      -- it has sent the first block
      serves_first : ServesBlock reading.past (from_port w spare) d.source 1 (block_of text 1)
      serves_first = record { ours = refl; rules = rules; file = text; serves = serves; is_block = refl }

      -- a get that asks for it has begun
      asked_by : (name : List ℕ) → ruleset_named name ≡ Some rules → AsksToRead w.past d.source name →
          IsAskedBy reading.past (opening w h spare free d.source (to_read rules)) (to_read rules)
      asked_by name is asks =
          let same = same_ruleset name rules asks.rules is asks.named in
          let get_it : HasGet w.past d.source rules asks.count = subst (λ (k : Ruleset). HasGet w.past d.source k asks.count) same asks.began in
          let counted : asks.count ≤ length w.taken = (h.begun _ asks.began.among).counted in (
            asks.count,
            get-lasts
                (grows w h spare free d.source (to_read rules) (sending (sender_start text)) (encode (data_packet text 1))) d.source rules
                asks.count get_it,
            counted,
          )

      -- so all is shown that an opening needs
      pub read_fine : (name : List ℕ) → ruleset_named name ≡ Some rules → IsStranger w.past d.source ⊎ AsksToRead w.past d.source name →
          IsFine w h spare free d.source (to_read rules) (sending (sender_start text)) (encode (data_packet text 1))
      read_fine name is whose =
          let g = grows w h spare free d.source (to_read rules) (sending (sender_start text)) (encode (data_packet text 1)) in
          record {
            away = reader_away name whose;
            live = record { rules = rules; serves = serves; bounds = IsSender-start text short };
            honest = honest_packet reading (from_port w spare) d.source (data_packet text 1) (start-reads_back text short).decoded (inr serves_first);
            whose = either (stranger-lasts g d.source) (asked_by name is) whose;
          }
