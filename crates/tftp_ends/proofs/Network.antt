-- The packets between a sender and a receiver: each is a block of the file or an ACK of one, and each DATA is counted.
use Rattle.std.proofs.Common.{◌≡◌, ℕ, zero, suc, ◌+◌, ◌≤◌, List, [], ◌∷◌, ◌++◌, slice_get, Option, None, Some, IfSome, count_by, refl, ap, sym, subst, ◌∙◌, arith, inl, inr}
use Rattle.std.proofs.lemmas.List.Sums.{sum_by-append}
use Rattle.tftp_packet.specs.Packet.{Packet, read, write, data_block, ack, error}
use Rattle.tftp_packet.specs.Blocks.{block_of}
use Rattle.tftp_ends.specs.Ends.{Sender, SendAnswer, data_packet}
use Rattle.tftp_ends.specs.Pair.{is_data, sent_after, resent_after}
use Rattle.tftp_ends.proofs.Steps.{GoesOn, SendsAgain}

-- ---- what is sent while the sender is at block c and the receiver at block r

-- a block of the file that the sender has reached, or the ACK of one that the receiver has
abbrev pub IsHonest : (file : List ℕ) (c r : ℕ) → Packet → Type 0
IsHonest file c r (read name mode) = ⊥
IsHonest file c r (write name mode) = ⊥
IsHonest file c r (data_block n body) = (n ≤ c) × (body ≡ block_of file n)
IsHonest file c r (ack n) = n ≤ r
IsHonest file c r (error code text) = ⊥

-- each packet that was sent is such a packet
abbrev pub AllHonest : (file : List ℕ) (c r : ℕ) → List Packet → Type 0
AllHonest file c r [] = Unit {0}
AllHonest file c r (packet ∷ sent) = IsHonest file c r packet × AllHonest file c r sent

-- this stays so as both ends go on
IsHonest-later : (file : List ℕ) (c c' r r' : ℕ) (packet : Packet) → c ≤ c' → r ≤ r' → IsHonest file c r packet → IsHonest file c' r' packet
IsHonest-later file c c' r r' (read name mode) further more honest = honest
IsHonest-later file c c' r r' (write name mode) further more honest = honest
IsHonest-later file c c' r r' (data_block n body) further more honest = (omega (arith, honest.0), honest.1)
IsHonest-later file c c' r r' (ack n) further more honest = omega arith
IsHonest-later file c c' r r' (error code text) further more honest = honest

-- the same for all of them
AllHonest-later : (file : List ℕ) (c c' r r' : ℕ) (sent : List Packet) → c ≤ c' → r ≤ r' → AllHonest file c r sent → AllHonest file c' r' sent
AllHonest-later file c c' r r' [] further more honest = tt
AllHonest-later file c c' r r' (packet ∷ sent) further more honest =
    (IsHonest-later file c c' r r' packet further more honest.0, AllHonest-later file c c' r r' sent further more honest.1)

-- one more such packet is sent
AllHonest-push : (file : List ℕ) (c r : ℕ) (sent : List Packet) (packet : Packet) → AllHonest file c r sent → IsHonest file c r packet → AllHonest file c r (sent ++ packet ∷ [])
AllHonest-push file c r [] packet honest new = (new, tt)
AllHonest-push file c r (first ∷ sent) packet honest new = (honest.0, AllHonest-push file c r sent packet honest.1 new)

-- a sender goes on, and may send its block
pub AllHonest-data : (file : List ℕ) (c c' r : ℕ) (sent : List Packet) (out : Option Packet) → c ≤ c' → AllHonest file c r sent →
    IfSome out (λ p. p ≡ data_packet file c') → AllHonest file c' r (sent_after sent out)
AllHonest-data file c c' r sent None further honest sends = AllHonest-later file c c' r r sent further (omega arith) honest
AllHonest-data file c c' r sent (Some p) further honest sends =
    AllHonest-push file c' r sent p (AllHonest-later file c c' r r sent further (omega arith) honest) (subst (IsHonest file c' r) (sym sends) (omega arith, refl))

-- a receiver goes on, and may acknowledge its block
pub AllHonest-ack : (file : List ℕ) (c r r' : ℕ) (sent : List Packet) (out : Option Packet) → r ≤ r' → AllHonest file c r sent →
    IfSome out (λ p. p ≡ ack r') → AllHonest file c r' (sent_after sent out)
AllHonest-ack file c r r' sent None more honest sends = AllHonest-later file c c r r' sent (omega arith) more honest
AllHonest-ack file c r r' sent (Some p) more honest sends =
    let new : r' ≤ r' = omega arith in
    AllHonest-push file c r' sent p (AllHonest-later file c c r r' sent (omega arith) more honest) (subst (IsHonest file c r') (sym sends) new)

-- what is delivered
pub IsHonest-at : (file : List ℕ) (c r : ℕ) (sent : List Packet) (index : ℕ) → AllHonest file c r sent → IfSome (slice_get sent index) (IsHonest file c r)
IsHonest-at file c r [] index honest = tt
IsHonest-at file c r (packet ∷ sent) zero honest = honest.0
IsHonest-at file c r (packet ∷ sent) (suc index) honest = IsHonest-at file c r sent index honest.1

-- ---- how many DATA there are

count-data : (sent : List Packet) (n : ℕ) (body : List ℕ) → count_by is_data (sent ++ data_block n body ∷ []) ≡ count_by is_data sent + 1
count-data sent n body = sum_by-append _ sent (data_block n body ∷ [])

count-ack : (sent : List Packet) (n : ℕ) → count_by is_data (sent ++ ack n ∷ []) ≡ count_by is_data sent
count-ack sent n =
    let more : count_by is_data (sent ++ ack n ∷ []) ≡ count_by is_data sent + 0 = sum_by-append _ sent (ack n ∷ []) in
    omega arith

-- no ACK is a DATA
pub count-acks : (sent : List Packet) (n : ℕ) (out : Option Packet) → IfSome out (λ p. p ≡ ack n) → count_by is_data (sent_after sent out) ≡ count_by is_data sent
count-acks sent n None sends = refl
count-acks sent n (Some p) sends = ap (λ (q : Packet). count_by is_data (sent ++ q ∷ [])) sends ∙ count-ack sent n

-- one DATA for each block
pub once_acked : (sent : List Packet) (resent : ℕ) (s : Sender) (a : SendAnswer) → count_by is_data sent ≡ s.current + resent →
    GoesOn s a → count_by is_data (sent_after sent a.out) ≡ a.sender.current + resent
once_acked sent resent s a once (inl stays) =
    ap (λ o. count_by is_data (sent_after sent o)) stays.0 ∙ once ∙ ap (λ n. n + resent) (sym stays.1)
once_acked sent resent s a once (inr next) =
    let more = count-data sent (s.current + 1) (block_of s.file (s.current + 1)) in
    ap (λ o. count_by is_data (sent_after sent o)) next.0 ∙ omega (arith, more, once, next.1)

-- and one for each time-out that made it send
pub once_again : (sent : List Packet) (resent : ℕ) (s : Sender) (a : SendAnswer) → count_by is_data sent ≡ s.current + resent →
    SendsAgain s a → count_by is_data (sent_after sent a.out) ≡ a.sender.current + resent_after resent a.out
once_again sent resent s a once (same, inl none) =
    ap (λ o. count_by is_data (sent_after sent o)) none ∙ omega (arith, once, same, ap (resent_after resent) none)
once_again sent resent s a once (same, inr again) =
    let more = count-data sent s.current (block_of s.file s.current) in
    ap (λ o. count_by is_data (sent_after sent o)) again ∙ omega (arith, more, once, same, ap (resent_after resent) again)
