-- A transfer that only dallies ends in the time-outs after a visit that finds all places taken: its port times out
-- twice, and each time-out leaves one less of a dally.
use Rattle.std.specs.Prelude.{◌≡◌, ◌≢◌, ℕ, ◌+◌, ◌-◌, ◌<◌, ◌≤◌, ◌==◌, ◌&&◌, ◌||◌, not, nat_lt, Bool, true, false, cond, List, [], ◌∷◌, ◌++◌, length, take, Option, None, Some, IfSome, is_some, option_map, unwrap_or}
use Rattle.std.proofs.Common.{refl, sym, ap, subst, ◌∙◌, inl, inr, arith, get_or, eq-eqb}
use Rattle.std.specs.List.{All, AllByRecursion, IsDistinct, count_by, filter}
use Rattle.std.specs.Map.{lookup, remove_entry, set_value, keys_of}
use Rattle.std.proofs.lemmas.Bool.{cases_Bool, true≢false, eqb-true, ne_eqb, ltb-true, ltb-false}
use Rattle.std.proofs.lemmas.List.{length-map, take_all}
use Rattle.std.proofs.lemmas.List.Elements.{All-head, All-tail}
use Rattle.std.proofs.lemmas.List.Sums.{count_by_more_yes, count_by_more_no, sum_by-append, sum_by-cons}
use Rattle.std.proofs.lemmas.Map.{lookup-set_value, lookup-remove_entry}
use Rattle.std.proofs.lemmas.Map.Views.{IfSome-lookup_from_All}
use Rattle.std.proofs.lemmas.Cmp.{eq_by_cmp_equiv, nat_cmp_total}
use Rattle.std.specs.Cmp.{IsEquivalence}
use Rattle.tftp_packet.specs.declared.endpoint.Endpoint.{Endpoint}
use Rattle.tftp_ends.specs.declared.limits.TheConstants.{MISSES, DALLY}
use Rattle.tftp_ends.specs.declared.send_state.SendState.{SendState}
use Rattle.tftp_ends.specs.declared.send_state.SendState.TheVariants as send
use Rattle.tftp_ends.specs.declared.recv_state.RecvState.{RecvState}
use Rattle.tftp_ends.specs.declared.recv_state.RecvState.TheVariants as recv
use Rattle.tftp_ends.specs.Ends.{SendAnswer, Receiver, RecvAnswer, IsReceiver, sender_timeout, receiver_timeout, receiver_timeout_in, receiver_missed, receiver_dallied, dgram_of}
use Rattle.archive_table.specs.declared.limits.TheConstants.{LIVE}
use Rattle.archive_table.specs.Table.{Table, End, sending, receiving, Transfer, IsEnd, IsTable, AreRising, at_port, transfer_at, has_slot, is_complete, is_done, is_dallying, goes_on, closes, sending_goes_on, receiving_goes_on, waits_at, timeout_at, table_timeout}
use Rattle.archive_table.proofs.Live.{if_true, if_false, some_none}
use Rattle.archive_server.specs.declared.change.Change.{Change}
use Rattle.archive_server.specs.declared.mode.Mode.{Mode}
use Rattle.archive_server.specs.declared.mode.Mode.TheVariants.{Turn, Round}
use Rattle.archive_server.specs.declared.timer.Timer.{Timer}
use Rattle.archive_server.specs.Places.{victim, has_memory}
use Rattle.archive_server.specs.Timers.{ports_of, live_ports, is_quiet, due_by, is_due, gives_way, giving_ports, victim_ports, late_ports, HasGivenWay, Tracks}
use Rattle.archive_server.proofs.Ports.{at_is, remove_port}
use Rattle.archive_server.proofs.Transfers.{server_timeout_step}

-- ---- how long a dally goes on

-- how many time-outs are left of the dally of a receiver, which ends at the last of them
abbrev state_left : RecvState → (misses : ℕ) → ℕ
state_left recv.Running misses = 0
state_left recv.Complete misses = DALLY - misses
state_left recv.TimedOut misses = 0
state_left recv.Over misses = 0

abbrev end_left : End → ℕ
end_left (sending s) = 0
end_left (receiving r) = state_left r.state r.misses

abbrev left_of : Option Transfer → ℕ
left_of None = 0
left_of (Some t) = end_left t.end

-- the same at a port
abbrev left_of_port : (port : ℕ) → Table → ℕ
left_of_port port s = left_of (transfer_at port s)

-- ---- ports that are removed or written

-- the ports of a table differ
differ : (ports : List ℕ) → AreRising ports → IsDistinct at_port ports
unfolding IsDistinct
differ [] h = tt
differ (p ∷ ports) h = (apart ports h.0, differ ports h.1) where
  apart : (qs : List ℕ) → All (λ m. p < m) qs → AllByRecursion (λ q. at_port p q ≡ false) qs
  apart [] more = tt
  apart (q ∷ qs) more =
      let less = All-head (λ m. p < m) q qs more in
      (at_is p q ∙ ne_eqb q p (λ is. omega (arith, less, is)), apart qs (All-tail (λ m. p < m) q qs more))

same_ports : IsEquivalence at_port
same_ports = eq_by_cmp_equiv nat_cmp_total

written : {X : Type 0} (p q : ℕ) (es : List (ℕ × X)) (v w : X) → lookup (at_port p) es ≡ Some v → lookup (at_port q) (set_value (at_port p) es w) ≡ cond (at_port p q) (Some w) (lookup (at_port q) es)
written p q es v w found = lookup-set_value same_ports (at_port p) (same_ports.congr p) q w es (ap is_some found)

removed : {X : Type 0} (p q : ℕ) (es : List (ℕ × X)) → AreRising (keys_of es) → lookup (at_port q) (remove_entry (at_port p) es) ≡ cond (at_port p q) None (lookup (at_port q) es)
removed p q es rising = lookup-remove_entry same_ports (at_port p) (same_ports.congr p) q es (differ (keys_of es) rising)

itself : (p : ℕ) → at_port p p ≡ true
itself p = at_is p p ∙ eq-eqb p p refl

another : (p q : ℕ) → q ≢ p → at_port p q ≡ false
another p q other = at_is p q ∙ ne_eqb q p other

-- ---- a time-out at a port

goes_left : (p : ℕ) (peer : Endpoint) (end : End) (out : Option (List ℕ)) (s : Table) (t : Transfer) → transfer_at p s ≡ Some t → left_of_port p (goes_on p peer end out s).server ≡ end_left end
goes_left p peer end out s t found = ap left_of (written p p s.live t (record { peer = peer; end = end }) found ∙ if_true _ _ (itself p))

closes_left : (p : ℕ) (peer : Endpoint) (out : Option (List ℕ)) (s : Table) → AreRising (keys_of s.live) → left_of_port p (closes p peer out s).server ≡ 0
closes_left p peer out s rising = ap left_of (removed p p s.live rising ∙ if_true _ _ (itself p))

sender_left : (state : SendState) (p : ℕ) (peer : Endpoint) (a : SendAnswer) (s : Table) (t : Transfer) → transfer_at p s ≡ Some t → AreRising (keys_of s.live) → left_of_port p (sending_goes_on state p peer a s).server ≡ 0
sender_left send.Running p peer a s t found rising = goes_left p peer (sending a.sender) (dgram_of a.out) s t found
sender_left send.Finished p peer a s t found rising = closes_left p peer (dgram_of a.out) s rising
sender_left send.TimedOut p peer a s t found rising = closes_left p peer (dgram_of a.out) s rising

at_most : (m n k : ℕ) → m ≡ n → n ≤ k → m ≤ k
at_most m n k is small = omega (arith, is, small)

receiver_left : (state : RecvState) (p : ℕ) (peer : Endpoint) (a : RecvAnswer) (s : Table) (t : Transfer) (n : ℕ) → transfer_at p s ≡ Some t → AreRising (keys_of s.live) → end_left (receiving a.receiver) ≤ n → left_of_port p (receiving_goes_on state p peer a s).server ≤ n
receiver_left recv.Running p peer a s t n found rising small = at_most _ _ n (goes_left p peer (receiving a.receiver) (dgram_of a.out) s t found) small
receiver_left recv.Complete p peer a s t n found rising small = at_most _ _ n (goes_left p peer (receiving a.receiver) (dgram_of a.out) s t found) small
receiver_left recv.TimedOut p peer a s t n found rising small = at_most _ _ n (closes_left p peer (dgram_of a.out) s rising) (omega arith)
receiver_left recv.Over p peer a s t n found rising small = at_most _ _ n (closes_left p peer (dgram_of a.out) s rising) (omega arith)

missed_left : (last : Bool) (r : Receiver) → end_left (receiving (receiver_missed last r).receiver) ≤ 0
missed_left true r = omega arith
missed_left false r = omega arith

dallied_left : (last : Bool) (r : Receiver) → end_left (receiving (receiver_dallied last r).receiver) ≤ DALLY - r.misses - 1
dallied_left true r = omega arith
dallied_left false r = omega arith

state_falls : (state : RecvState) (r : Receiver) → r.state ≡ state → end_left (receiving (receiver_timeout_in state r).receiver) ≤ state_left state r.misses - 1
state_falls recv.Running r is = omega (arith, missed_left (r.misses + 1 == MISSES) r)
state_falls recv.Complete r is = dallied_left (r.misses + 1 == DALLY) r
state_falls recv.TimedOut r is = at_most _ 0 _ (ap (λ (x : RecvState). state_left x r.misses) is) (omega arith)
state_falls recv.Over r is = at_most _ 0 _ (ap (λ (x : RecvState). state_left x r.misses) is) (omega arith)

waits_left : (end : End) (p : ℕ) (peer : Endpoint) (s : Table) (t : Transfer) → transfer_at p s ≡ Some t → AreRising (keys_of s.live) → left_of_port p (waits_at end p peer s).server ≤ end_left end - 1
waits_left (sending e) p peer s t found rising = at_most _ 0 _ (sender_left (sender_timeout e).sender.state p peer (sender_timeout e) s t found rising) (omega arith)
waits_left (receiving r) p peer s t found rising = receiver_left (receiver_timeout r).receiver.state p peer (receiver_timeout r) s t (state_left r.state r.misses - 1) found rising (state_falls r.state r refl)

timeout_falls : (t : Option Transfer) (p : ℕ) (s : Table) → transfer_at p s ≡ t → AreRising (keys_of s.live) → left_of_port p (timeout_at t p s).server ≤ left_of t - 1
timeout_falls (Some t) p s is rising = waits_left t.end p t.peer s t is rising
timeout_falls None p s is rising = at_most _ 0 _ (ap left_of is) (omega arith)

-- ---- the other ports

goes_other : (p q : ℕ) (peer : Endpoint) (end : End) (out : Option (List ℕ)) (s : Table) (t : Transfer) → transfer_at p s ≡ Some t → q ≢ p → transfer_at q (goes_on p peer end out s).server ≡ transfer_at q s
goes_other p q peer end out s t found other = written p q s.live t (record { peer = peer; end = end }) found ∙ if_false _ _ (another p q other)

closes_other : (p q : ℕ) (peer : Endpoint) (out : Option (List ℕ)) (s : Table) → AreRising (keys_of s.live) → q ≢ p → transfer_at q (closes p peer out s).server ≡ transfer_at q s
closes_other p q peer out s rising other = removed p q s.live rising ∙ if_false _ _ (another p q other)

sender_other : (state : SendState) (p q : ℕ) (peer : Endpoint) (a : SendAnswer) (s : Table) (t : Transfer) → transfer_at p s ≡ Some t → AreRising (keys_of s.live) → q ≢ p → transfer_at q (sending_goes_on state p peer a s).server ≡ transfer_at q s
sender_other send.Running p q peer a s t found rising other = goes_other p q peer (sending a.sender) (dgram_of a.out) s t found other
sender_other send.Finished p q peer a s t found rising other = closes_other p q peer (dgram_of a.out) s rising other
sender_other send.TimedOut p q peer a s t found rising other = closes_other p q peer (dgram_of a.out) s rising other

receiver_other : (state : RecvState) (p q : ℕ) (peer : Endpoint) (a : RecvAnswer) (s : Table) (t : Transfer) → transfer_at p s ≡ Some t → AreRising (keys_of s.live) → q ≢ p → transfer_at q (receiving_goes_on state p peer a s).server ≡ transfer_at q s
receiver_other recv.Running p q peer a s t found rising other = goes_other p q peer (receiving a.receiver) (dgram_of a.out) s t found other
receiver_other recv.Complete p q peer a s t found rising other = goes_other p q peer (receiving a.receiver) (dgram_of a.out) s t found other
receiver_other recv.TimedOut p q peer a s t found rising other = closes_other p q peer (dgram_of a.out) s rising other
receiver_other recv.Over p q peer a s t found rising other = closes_other p q peer (dgram_of a.out) s rising other

waits_other : (end : End) (p q : ℕ) (peer : Endpoint) (s : Table) (t : Transfer) → transfer_at p s ≡ Some t → AreRising (keys_of s.live) → q ≢ p → transfer_at q (waits_at end p peer s).server ≡ transfer_at q s
waits_other (sending e) p q peer s t found rising other = sender_other (sender_timeout e).sender.state p q peer (sender_timeout e) s t found rising other
waits_other (receiving r) p q peer s t found rising other = receiver_other (receiver_timeout r).receiver.state p q peer (receiver_timeout r) s t found rising other

timeout_other : (t : Option Transfer) (p q : ℕ) (s : Table) → transfer_at p s ≡ t → AreRising (keys_of s.live) → q ≢ p → transfer_at q (timeout_at t p s).server ≡ transfer_at q s
timeout_other (Some t) p q s found rising other = waits_other t.end p q t.peer s t found rising other
timeout_other None p q s found rising other = refl

-- ---- how many transfers there are

remove_le : (p : ℕ) (ps : List ℕ) → length (remove_port p ps) ≤ length ps
remove_le p [] = omega arith
remove_le p (q ∷ qs) = elim (cases_Bool (q == p)) [
  | inl y ↦ at_most _ _ _ (ap length (if_true qs _ y)) (omega arith)
  | inr n ↦ at_most _ _ _ (ap length (if_false qs _ n)) (omega (arith, remove_le p qs))
]

closed_le : (closed : Bool) (p : ℕ) (ps : List ℕ) → length (cond closed (remove_port p ps) ps) ≤ length ps
closed_le true p ps = remove_le p ps
closed_le false p ps = omega arith

fewer : (a b c d : ℕ) → a ≡ b → c ≡ d → b ≤ d → a ≤ c
fewer a b c d x y small = omega (arith, x, y, small)

timeout_few : (p : ℕ) (s : Table) → length (table_timeout p s).server.live ≤ length s.live
timeout_few p s =
    let made = table_timeout p s in
    let step = server_timeout_step p s in
    fewer _ _ _ _ (sym (length-map made.server.live (λ e. e.0)) ∙ ap length step.ports) (sym (length-map s.live (λ e. e.0))) (closed_le made.step.closed p (live_ports s))

-- ---- the time-outs of some ports

-- what they have left of each dally and of the transfers
pub record Falls (ports : List ℕ) (old new : Table) : Type 0 where
  pub left : (q : ℕ) → left_of_port q new ≤ left_of_port q old - count_by (λ p. p == q) ports
  pub few : length new.live ≤ length old.live

-- no port has timed out yet
pub falls_none : (s : Table) → Falls [] s s
falls_none s = record { left = λ q. omega arith; few = omega arith }

falls_by_one : (now was first count more : ℕ) → was ≤ first - count → now ≤ was - 1 → more ≡ count + 1 → now ≤ first - more
falls_by_one now was first count more before falls is = omega (arith, before, falls, is)

as_many : (now was first count more : ℕ) → was ≤ first - count → now ≡ was → more ≡ count → now ≤ first - more
as_many now was first count more before same is = omega (arith, before, same, is)

-- one more port times out, in a loop over the ports
pub falls_at : (items : List ℕ) (i d : ℕ) (s old new : Table) → i < length items → Falls (take i items) s old →
    new ≡ (table_timeout (get_or items i d) old).server → AreRising (keys_of old.live) → Falls (take (i + 1) items) s new
falls_at items i d s old new small falls is rising =
    let p = get_or items i d in
    let after = (table_timeout p old).server in
    let now : Falls (take (i + 1) items) s after =
    record {
      left = λ q. elim (cases_Bool (p == q)) [
        | inl y ↦
            let falls_here : left_of_port q after ≤ left_of_port q old - 1 =
            subst (λ (n : ℕ). left_of_port n after ≤ left_of_port n old - 1) (eqb-true p q y) (timeout_falls (transfer_at p old) p old refl rising) in
            falls_by_one _ _ _ _ _ (falls.left q) falls_here (count_by_more_yes (λ n. n == q) items i d small y)
        | inr n ↦
            let other : q ≢ p = λ e. true≢false (sym (eq-eqb p q (sym e)) ∙ n) in
            as_many _ _ _ _ _ (falls.left q) (ap left_of (timeout_other (transfer_at p old) p q old refl rising other)) (count_by_more_no (λ n. n == q) items i d small n)
      ];
      few = omega (arith, falls.few, timeout_few p old);
    } in
    subst (λ (t : Table). Falls (take (i + 1) items) s t) (sym is) now

-- ---- each port that gives way times out twice

count_cons : (q n : ℕ) (ns : List ℕ) → count_by (λ p. p == q) (n ∷ ns) ≡ cond (n == q) 1 0 + count_by (λ p. p == q) ns
count_cons q n ns = sum_by-cons (λ p. cond (p == q) 1 0) n ns

count_after : (b : Bool) (q n : ℕ) (ns : List ℕ) → (n == q) ≡ b → count_by (λ p. p == q) (n ∷ ns) ≡ cond b 1 0 + count_by (λ p. p == q) ns
count_after b q n ns is = count_cons q n ns ∙ ap (λ c. cond c 1 0 + count_by (λ p. p == q) ns) is

-- the timers of a port that pass a test
count_filter : (test : Timer → Bool) (q : ℕ) (ts : List Timer) → ((t : Timer) → t.port ≡ q → test t ≡ true) → count_by (λ p. p == q) (ports_of ts) ≤ count_by (λ p. p == q) (ports_of (filter test ts))
count_filter test q [] passes = omega arith
count_filter test q (t ∷ ts) passes = elim (cases_Bool (test t)) [
  | inl y ↦
      let kept : ports_of (filter test (t ∷ ts)) ≡ t.port ∷ ports_of (filter test ts) = ap ports_of (if_true (t ∷ filter test ts) _ y) in
      let one = count_cons q t.port (ports_of ts) in
      let more : count_by (λ p. p == q) (ports_of (filter test (t ∷ ts))) ≡ cond (t.port == q) 1 0 + count_by (λ p. p == q) (ports_of (filter test ts)) =
      ap (count_by (λ p. p == q)) kept ∙ count_cons q t.port (ports_of (filter test ts)) in
      grows _ _ _ _ _ one more (count_filter test q ts passes)
  | inr n ↦
      let apart : (t.port == q) ≡ false = ne_eqb t.port q (λ is. true≢false (sym (passes t is) ∙ n)) in
      let dropped : ports_of (filter test (t ∷ ts)) ≡ ports_of (filter test ts) = ap ports_of (if_false (t ∷ filter test ts) _ n) in
      stays _ _ _ _ (count_after false q t.port (ports_of ts) apart) (ap (count_by (λ p. p == q)) dropped) (count_filter test q ts passes)
] where
  grows : (a b c m n : ℕ) → a ≡ c + m → b ≡ c + n → m ≤ n → a ≤ b
  grows a b c m n x y small = omega (arith, x, y, small)

  stays : (a b m n : ℕ) → a ≡ 0 + m → b ≡ n → m ≤ n → a ≤ b
  stays a b m n x y small = omega (arith, x, y, small)

-- a live port is one of those of the timers
count_found : {X : Type 0} (q : ℕ) (es : List (ℕ × X)) (v : X) → lookup (at_port q) es ≡ Some v → 1 ≤ count_by (λ p. p == q) (keys_of es)
count_found q [] v found = some_none (sym found)
count_found {X} q (e ∷ es) v found = elim (cases_Bool (at_port q e.0)) [
  | inl y ↦ omega (arith, count_after true q e.0 (keys_of es) (sym (at_is q e.0) ∙ y))
  | inr n ↦ omega (arith, count_after false q e.0 (keys_of es) (sym (at_is q e.0) ∙ n), count_found q es v (sym (if_false (Some e.1) _ n) ∙ found))
]

-- ---- what dallies has something left

state_some : (state : RecvState) (r : Receiver) → r.state ≡ state → is_complete state ≡ true → IsReceiver r → 1 ≤ state_left state r.misses
state_some recv.Running r is done fits = absurd (true≢false (sym done))
state_some recv.Complete r is done fits = omega (arith, fits.dally is)
state_some recv.TimedOut r is done fits = absurd (true≢false (sym done))
state_some recv.Over r is done fits = absurd (true≢false (sym done))

end_some : (end : End) → is_done end ≡ true → IsEnd end → 1 ≤ end_left end
end_some (sending s) done fits = absurd (true≢false (sym done))
end_some (receiving r) done fits = state_some r.state r refl done fits.fits

-- whether a transfer dallies
abbrev dallies : Option Transfer → Bool
dallies o = unwrap_or (option_map (λ t. is_done t.end) o) false

some_left : (o : Option Transfer) → dallies o ≡ true → IfSome o (λ t. IsEnd t.end) → 1 ≤ left_of o
some_left None done fits = absurd (true≢false (sym done))
some_left (Some t) done fits = end_some t.end done fits

state_done : (state : RecvState) (misses : ℕ) → 1 ≤ state_left state misses → is_complete state ≡ true
state_done recv.Running misses more = absurd (omega (arith, more))
state_done recv.Complete misses more = refl
state_done recv.TimedOut misses more = absurd (omega (arith, more))
state_done recv.Over misses more = absurd (omega (arith, more))

end_done : (end : End) → 1 ≤ end_left end → is_done end ≡ true
end_done (sending s) more = absurd (omega (arith, more))
end_done (receiving r) more = state_done r.state r.misses more

left_dallies : (o : Option Transfer) → 1 ≤ left_of o → (t : Transfer) × (o ≡ Some t) × (dallies o ≡ true)
left_dallies None more = absurd (omega (arith, more))
left_dallies (Some t) more = (t, refl, end_done t.end more)

state_most : (state : RecvState) (misses : ℕ) → state_left state misses ≤ DALLY
state_most recv.Running misses = omega arith
state_most recv.Complete misses = omega arith
state_most recv.TimedOut misses = omega arith
state_most recv.Over misses = omega arith

end_most : (end : End) → end_left end ≤ DALLY
end_most (sending s) = omega arith
end_most (receiving r) = state_most r.state r.misses

left_most : (o : Option Transfer) → left_of o ≤ DALLY
left_most None = omega arith
left_most (Some t) = end_most t.end

-- ---- the whole

still_full : (few more : ℕ) → few ≤ more → nat_lt few LIVE ≡ false → nat_lt more LIVE ≡ false
still_full few more small full = elim (cases_Bool (nat_lt more LIVE)) [
  | inl y ↦ absurd (omega (arith, ltb-true more LIVE y, ltb-false few LIVE full, small))
  | inr n ↦ n
]

or_true : (a b : Bool) → b ≡ true → (a || b) ≡ true
or_true true b is = refl
or_true false b is = is

too_many : (now first count dally : ℕ) → now ≤ first - count → 1 ≤ now → first ≤ dally → dally ≡ 2 → 2 ≤ count → ⊥
too_many now first count dally falls more most two many = omega (arith, falls, more, most, two, many)

counts_twice : (a b c m n k : ℕ) → 1 ≤ a → a ≤ m → a ≤ n → b ≡ c + k → c ≡ m + n → 2 ≤ b
counts_twice a b c m n k one left right is rest = omega (arith, one, left, right, is, rest)

none_left : (now settled policies : _) (change : Change) (timers : List Timer) (s new : Table) → Tracks s timers → IsTable new →
    Falls (late_ports (Round now settled policies) change timers s) s new → has_slot new ≡ false → (port : ℕ) → is_dallying port new ≡ true → ⊥
none_left now settled policies change timers s new tracks fits falls full port done =
    let mode = Round now settled policies in
    let more : 1 ≤ left_of_port port new = some_left (transfer_at port new) done (IfSome-lookup_from_All (λ (t : Transfer). IsEnd t.end) (at_port port) new.live fits.ends) in
    let was = left_dallies (transfer_at port s) (omega (arith, more, falls.left port)) in
    let all_taken : has_slot s ≡ false = still_full (length new.live) (length s.live) falls.few full in
    let way : gives_way mode port s ≡ true = ap (λ b. not (b && has_memory s) && is_dallying port s) all_taken ∙ was.2 in
    let way_of : (t : Timer) → t.port ≡ port → gives_way mode t.port s ≡ true = λ t is. ap (λ (p : ℕ). gives_way mode p s) is ∙ way in
    let here : 1 ≤ count_by (λ p. p == port) (ports_of timers) = subst (λ (ps : List ℕ). 1 ≤ count_by (λ p. p == port) ps) (sym tracks.tracks) (count_found port s.live was.0 was.1) in
    let late = λ (t : Timer). is_due (due_by mode (is_quiet change)) t || gives_way mode t.port s in
    let first = count_filter late port timers (λ t is. or_true (is_due (due_by mode (is_quiet change)) t) (gives_way mode t.port s) (way_of t is)) in
    let second = count_filter (λ t. gives_way mode t.port s) port timers way_of in
    let counts = λ (p : ℕ). cond (p == port) 1 0 in
    let one_more = victim_ports (victim mode change timers s) in
    let giving = giving_ports mode timers s in
    let both = sum_by-append counts (ports_of (filter late timers) ++ giving) one_more in
    let rest = sum_by-append counts (ports_of (filter late timers)) giving in
    too_many _ _ _ DALLY (falls.left port) more (left_most (transfer_at port s)) refl (counts_twice _ _ _ _ _ _ here first second both rest)

-- after these time-outs, by a loop over their ports, no transfer dallies if all places are still taken
pub has_given_way : (mode : Mode) (change : Change) (timers : List Timer) (s new : Table) (items : List ℕ) (i : ℕ) → Tracks s timers → IsTable new →
    length items ≤ i → items ≡ late_ports mode change timers s → Falls (take i items) s new → HasGivenWay mode new
has_given_way Turn change timers s new items i tracks fits whole is falls = tt
has_given_way (Round now settled policies) change timers s new items i tracks fits whole is falls =
    let all : Falls items s new = subst (λ (ps : List ℕ). Falls ps s new) (take_all i items whole) falls in
    let late : Falls (late_ports (Round now settled policies) change timers s) s new = subst (λ (ps : List ℕ). Falls ps s new) is all in
    λ full port. elim (cases_Bool (is_dallying port new)) [
      | inl y ↦ absurd (none_left now settled policies change timers s new tracks fits late full port y)
      | inr n ↦ n
    ]
